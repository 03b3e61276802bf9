-- Lines of a book, by what its questions answer.
use Rattle.std.proofs.Common.{◌≡◌, ℕ, Bool, List, [], ◌++◌, length, Some, None, decimal, Option, refl, ap, ◌∙◌, arith}
use Rattle.std.specs.List.{slice_get}
use Rattle.std.specs.Option.{option_map, option_and_then, unwrap_or}
use Rattle.books.specs.Meaning.{Rule, Atom, of_sign}
use Rattle.books.specs.declared.book.Sign.{Sign}
use Rattle.books.specs.declared.book.Sign.TheVariants.{Positive, Negative}
use Rattle.text.specs.Forms.{closing}
use Rattle.text.specs.Kinds.{atom_opening, rule_opening}
use Rattle.text.specs.Spelt.{space, list_text, kind_text, atom_text, rule_text, body_in}

-- what a book answers of a rule's list, by the list
pub atom_in_body : (sign : Sign) (o : Option Rule) (i : ℕ) → option_and_then (λ (r : Rule). slice_get (of_sign sign r) i) o ≡ slice_get (body_in sign o) i
atom_in_body sign None i = refl
atom_in_body sign (Some r) i = refl

pub count_in_body : (sign : Sign) (o : Option Rule) → unwrap_or (option_map (λ (r : Rule). length (of_sign sign r)) o) 0 ≡ length (body_in sign o)
count_in_body sign None = refl
count_in_body sign (Some r) = refl

pub atom_text_lem : {S : Type 0} (spelt : S → List ℕ) (i : ℕ) (o : Option (Atom S)) (s : S) (b : Bool) → Some s ≡ option_map (λ (x : Atom S). x.stamp) o → Some b ≡ option_map (λ (x : Atom S). x.reading) o → atom_text spelt i o ≡ atom_opening ++ decimal i ++ kind_text b ++ spelt s ++ closing
atom_text_lem spelt i None s b hs hb = let z : ◌≡◌ {A = ℕ} 0 1 = cc in absurd (omega arith)
atom_text_lem spelt i (Some a) s b hs hb =
    let stamp : a.stamp ≡ s = cc in
    let reading : a.reading ≡ b = cc in
    ap (λ x. atom_opening ++ decimal i ++ kind_text x ++ spelt a.stamp ++ closing) reading
    ∙ ap (λ x. atom_opening ++ decimal i ++ kind_text b ++ spelt x ++ closing) stamp

pub no_atom_lem : {S Y : Type 0} (spelt : S → List ℕ) (i : ℕ) (o : Option (Atom S)) (f : Atom S → Y) → None ≡ option_map f o → atom_text spelt i o ≡ []
no_atom_lem spelt i None f h = refl
no_atom_lem spelt i (Some a) f h = let z : ◌≡◌ {A = ℕ} 0 1 = cc in absurd (omega arith)

pub rule_text_lem : (k : ℕ) (o : Option Rule) (h : ℕ) → Some h ≡ option_map (λ (r : Rule). r.head) o → rule_text k o ≡ rule_opening ++ decimal k ++ space ++ decimal h ++ space ++ list_text (body_in Positive o) ++ space ++ list_text (body_in Negative o) ++ closing
rule_text_lem k None h e = let z : ◌≡◌ {A = ℕ} 0 1 = cc in absurd (omega arith)
rule_text_lem k (Some r) h e =
    let head : r.head ≡ h = cc in
    ap (λ x. rule_opening ++ decimal k ++ space ++ decimal x ++ space ++ list_text r.positives ++ space ++ list_text r.negatives ++ closing) head
