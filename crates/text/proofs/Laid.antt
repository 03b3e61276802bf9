-- Bytes on a sheet, one after another.
use Rattle.std.proofs.Common.{◌≡◌, ℕ, ◌+◌, ◌*◌, ◌^◌, ◌<◌, ◌≤◌, List, [], ◌∷◌, ◌++◌, length, get_or, drop, set, decimal, sym, refl, ap, subst, ◌∙◌, add-one, arith, length-append}
use Rattle.std.proofs.lemmas.List.{at_drop_more, at_drop_all, set_at, length_push, append-nil, append_assoc}
use Rattle.std.proofs.lemmas.Fmt.{length-decimal-le}
use Rattle.text.specs.Spelt.{up_to}
use Rattle.text.specs.Written.{laid, Writes}
use Rattle.text.specs.declared.sheet.Sheet.{Sheet}

pub laid_more : (sheet bytes : List ℕ) (at i : ℕ) → i < length bytes → laid sheet at (drop i bytes) ≡ laid (set sheet at (get_or bytes i 0)) (at + 1) (drop (i + 1) bytes)
unfolding laid
laid_more sheet bytes at i h = at_drop_more (laid sheet at) bytes i 0 h

pub laid_all : (sheet bytes : List ℕ) (at i : ℕ) → length bytes ≤ i → laid sheet at (drop i bytes) ≡ sheet
unfolding laid
laid_all sheet bytes at i h = at_drop_all (laid sheet at) bytes i h

laid-append : (sheet xs ys : List ℕ) (at : ℕ) → laid sheet at (xs ++ ys) ≡ laid (laid sheet at xs) (at + length xs) ys
unfolding laid
laid-append sheet [] ys at = ap (λ n. laid sheet n ys) (omega arith)
laid-append sheet (x ∷ xs) ys at = laid-append (set sheet at x) xs ys (at + 1) ∙ ap (λ n. laid (laid (set sheet at x) (at + 1) xs) n ys) (omega arith)

pub decimal_short : (n : ℕ) → n < 2 ^ 64 → length (decimal n) ≤ 20
decimal_short n h = length-decimal-le 20 n (omega arith) (omega arith) h

laid_after : (pre s bytes : List ℕ) → length bytes ≤ length s → laid (pre ++ s) (length pre) bytes ≡ (pre ++ bytes) ++ drop (length bytes) s
unfolding laid
laid_after pre s [] h = ap (λ p. p ++ s) (sym (append-nil pre))
laid_after pre [] (b ∷ bytes) h = absurd (omega arith)
laid_after pre (x ∷ s) (b ∷ bytes) h =
    ap (λ t. laid t (length pre + 1) bytes) (set_at pre x s b (length pre) refl ∙ sym (append_assoc pre (b ∷ []) s))
    ∙ ap (λ n. laid ((pre ++ (b ∷ [])) ++ s) n bytes) (sym (length_push pre b))
    ∙ laid_after (pre ++ (b ∷ [])) s bytes (omega arith)
    ∙ ap (λ p. p ++ drop (length bytes) s) (append_assoc pre (b ∷ []) bytes)

-- a text that the sheet has room for, from its first byte on
pub laid_front : (s bytes : List ℕ) → length bytes ≤ length s → laid s 0 bytes ≡ bytes ++ drop (length bytes) s
laid_front s bytes h = laid_after [] s bytes h

-- one writing after another
infixl 50 ◌then◌
pub ◌then◌ : {was mid is : Sheet} {xs ys : List ℕ} → Writes was xs mid → Writes mid ys is → Writes was (xs ++ ys) is
◌then◌ {was} {mid} {is} {xs} {ys} h k =
    let w = was.bytes.now in
    let held : is.bytes.now ≡ laid w was.at (xs ++ ys) =
    k.wrote.held ∙ ap (λ s. laid s mid.at ys) h.wrote.held ∙ ap (λ n. laid (laid w was.at xs) n ys) h.wrote.place ∙ sym (laid-append w xs ys was.at) in
    let n = length-append xs ys in
    let p = h.wrote.place in
    let q = k.wrote.place in
    record { wrote = record { held = held; place = omega arith }; same = k.same ∙ h.same }

pub writes_none : (was : Sheet) → Writes was [] was
unfolding laid
writes_none was = record { wrote = record { held = refl; place = omega arith }; same = refl }

-- the pieces below a number are written, none of them longer than so much
pub record WritesBelow (was : Sheet) (f : ℕ → List ℕ) (most n : ℕ) (is : Sheet) : Type 0 where
  pub written : Writes was (up_to f n) is
  pub short : is.at ≤ was.at + most * n

pub writes_start : (was : Sheet) (f : ℕ → List ℕ) (most : ℕ) → WritesBelow was f most 0 was
unfolding up_to
writes_start was f most = record { written = writes_none was; short = omega arith }

-- one more piece
pub writes_more : (was mid is : Sheet) (f : ℕ → List ℕ) (most i : ℕ) → WritesBelow was f most i mid → Writes mid (f i) is → is.at ≤ mid.at + most → WritesBelow was f most (i + 1) is
unfolding up_to
writes_more was mid is f most i h k short = record { written = rw (add-one i) (h.written then k); short = let s = h.short in omega arith }

-- the same writing, of what is the same
pub writes_as : {was is : Sheet} {bytes : List ℕ} (bytes' : List ℕ) → bytes' ≡ bytes → Writes was bytes is → Writes was bytes' is
writes_as {was} {is} bytes' e h = subst (λ b. Writes was b is) (sym e) h
