-- The lists of a rule agree with their grammar.
use Rattle.std.proofs.Common.{◌≡◌, ℕ, ◌+◌, ◌<◌, ◌≤◌, Bool, true, leb, List, [], ◌∷◌, ◌++◌, length, Ok, sym, refl, ◌∙◌, subst, inl, arith}
use Rattle.std.proofs.lemmas.List.{append_assoc, append-nil, length_push}
use Rattle.std.proofs.lemmas.Bool.{leb-false, le-leb, lt-leb}
use Rattle.std.specs.List.{AllByRecursion}
use Rattle.books.specs.declared.fault.ReadFault.TheVariants.{TooMany, AtomMissing}
use Rattle.books.specs.declared.fault.Fault.TheVariants.{Reading}
use Rattle.text.specs.Bytes.{and_then}
use Rattle.text.specs.Lists.{onward_at}
use Rattle.text.specs.Numbers.{number_at}
use Rattle.text.specs.Rules.{Listed, extended, one_literal, body_at}
use Rattle.text.specs.declared.site.Site.{Site}
use Rattle.grammar.specs.Pieces.{Care, largest}
use Rattle.grammar.specs.Grammar.{Body}
use Rattle.grammar.specs.Agreement.{Agrees}
use Rattle.grammar.proofs.AgreeCombined.{Any, then_then, agrees_same, agrees_as, then_same}
use Rattle.grammar.proofs.Degrees.{kept_map, kept_both}
use Rattle.grammar.proofs.ListAgrees.{Walk, Ends, adds, Passes, Bracketed, listed, list_same, list_agrees, turned}

module _ (site : Site) (before : ℕ) where
  -- the atoms so far; a seventh is refused, and one that is not declared
  abbrev walk : Walk (List ℕ)
  walk =
      record {
        limit = largest;
        add = λ s v. s ++ (v ∷ []);
        first = λ s v. leb 6 (length s);
        second = λ s v. leb site.atoms v;
        first_fault = λ at s v. Reading (TooMany site.form);
        second_fault = λ at s v. Reading (AtomMissing site.rule (before + length s + 1));
      }

  abbrev Few : ℕ → List ℕ → Type 0
  Few n s = length s + n ≡ 7

  -- seven turns are enough
  abbrev ends : Ends walk
  ends =
      record {
        first_named = λ at s v. tt;
        second_named = λ at s v. tt;
        Enough = Few;
        next = λ n s v e h. omega (arith, h, length_push s v);
        last = λ s v h. let six : 6 ≤ length s = omega (arith, h) in inl (le-leb 6 (length s) six);
      }

  module _ (text : List ℕ) where
    abbrev state : List ℕ → Bool → ℕ → Listed
    state s more at = record { atoms = s; more = more; next = at }

    -- a turn is a number, the two tests, and what follows it
    one_step : (s : List ℕ) (at : ℕ) → one_literal text site before (state s true at) ≡ and_then (number_at text at largest) (turned walk state text s at)
    one_step s at =
        then_then (number_at text at largest) _ (λ p. Ok (extended (state s true at) p))
        ∙ then_same (number_at text at largest) _ _ (λ p. grind (arith, then_then (onward_at text p.1) (λ q. Ok (p.0, q.0, q.1)) (λ p. Ok (extended (state s true at) p))))

  body_same : (text : List ℕ) (at : ℕ) → listed walk 6 [] text at ≡ body_at text site before at
  unfolding body_at
  body_same text at = list_same walk text (one_literal text site before) (state text) (λ l. (l.atoms, l.next)) (λ s more at. refl) (λ s at. refl) (one_step text) 6 [] at

  -- the numbers are added one by one
  adds_all : (s vs : List ℕ) → adds walk s vs ≡ s ++ vs
  adds_all s [] = sym (append-nil s)
  adds_all s (v ∷ vs) = adds_all (walk.add s v) vs ∙ append_assoc s (v ∷ []) vs

  abbrev Pass : List ℕ → List ℕ → Type 0
  Pass = Passes walk

  pass_few : (s vs : List ℕ) → length s ≤ 6 → Pass s vs → length s + length vs ≤ 6
  pass_few s [] l h = omega (arith, l)
  pass_few s (v ∷ vs) l h =
      let below : length s < 6 = leb-false 6 (length s) h.0 in
      let more : length (walk.add s v) ≤ 6 = omega (arith, length_push s v) in
      omega (arith, length_push s v, pass_few (walk.add s v) vs more h.2)

  few : (vs : List ℕ) → Pass [] vs → length vs ≤ 6
  few vs h = omega (arith, pass_few [] vs (omega arith) h)

  pass_known : (s vs : List ℕ) → Pass s vs → AllByRecursion (λ n. n < site.atoms) vs
  pass_known s [] h = tt
  pass_known s (v ∷ vs) h = (leb-false site.atoms v h.1, pass_known (walk.add s v) vs h.2)

  passes : (s vs : List ℕ) → length s + length vs ≤ 6 → AllByRecursion (λ n. n < site.atoms) vs → Pass s vs
  passes s [] l h = tt
  passes s (v ∷ vs) l h =
      let room : length s < 6 = omega arith in
      let left : length (walk.add s v) + length vs ≤ 6 = omega (arith, length_push s v) in
      (lt-leb 6 (length s) room, lt-leb site.atoms v h.0, passes (walk.add s v) vs left h.1)

  -- reading a rule's list is reading six declared atoms at most
  pub body_agrees : Agrees (λ text at. body_at text site before at) (λ c ns text. Body c site.atoms ns text) Any
  body_agrees =
      agrees_same body_same
      (agrees_as to from
      (list_agrees walk ends 6 [] (omega arith)))
    where
      to : (c : Care) (ns text : List ℕ) → Bracketed walk c [] ns text → Body c site.atoms ns text
      to c ns text b =
          let same : ns ≡ b.numbers = b.means ∙ adds_all [] b.numbers in
          subst (λ xs. Body c site.atoms xs text) (sym same)
          (record { listed = b.spelt; few = kept_map c (few b.numbers) b.passes; declared = kept_map c (λ h. pass_known [] b.numbers h) b.passes })

      from : (c : Care) (ns text : List ℕ) → Body c site.atoms ns text → Bracketed walk c [] ns text
      from c ns text b =
          record { numbers = ns; spelt = b.listed; passes = kept_map c (λ h. passes [] ns (omega (arith, h.0)) h.1) (kept_both (length ns ≤ 6) (AllByRecursion (λ n. n < site.atoms) ns) c b.few b.declared); means = sym (adds_all [] ns) }
