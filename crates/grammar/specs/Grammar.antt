-- The grammar of the text: which texts spell which book.
use Rattle.std.specs.Prelude.{◌≡◌, ℕ, ◌+◌, ◌<◌, ◌≤◌, cond, List, [], ◌∷◌, length, Some, None, codes, Option}
use Rattle.std.specs.List.{AllByRecursion}
use Rattle.books.specs.Meaning.{Rule, Atom, Meaning}
use Rattle.grammar.specs.Pieces.{Care, Kept, Exactly, Followed, largest, Numeral, Listed}

-- the number of a line, which is the next one
pub record Numbered (c : Care) (expected : ℕ) (text : List ℕ) : Type 0 where
  pub number : ℕ
  pub spelt : Numeral c largest number text
  pub next : Kept c (number ≡ expected)

-- an atom of a rule, which is declared
pub record Declared (c : Care) (atoms n : ℕ) (text : List ℕ) : Type 0 where
  pub spelt : Numeral c largest n text
  pub declared : Kept c (n < atoms)

-- the atoms of a list, which are six at most and declared
pub record Body (c : Care) (atoms : ℕ) (ns text : List ℕ) : Type 0 where
  pub listed : Listed c largest ns text
  pub few : Kept c (length ns ≤ 6)
  pub declared : Kept c (AllByRecursion (λ n. n < atoms) ns)

-- (atom N K S)
abbrev pub AtomForm : {S : Type 0} → (Care → S → List ℕ → Type 0) → Care → ℕ → Atom S → List ℕ → Type 0
AtomForm spells c i a =
    Followed (Exactly (codes "(atom ")) (Followed (Numbered c i) (Followed (Exactly (cond a.reading (codes " in ") (codes " out "))) (Followed (spells c a.stamp) (Exactly (codes ")\n")))))

-- (rule N H (P..) (Q..)), or (void N) for a vacant number
abbrev pub RuleForm : Care → ℕ → ℕ → Option Rule → List ℕ → Type 0
RuleForm c atoms k None = Followed (Exactly (codes "(void ")) (Followed (Numbered c k) (Exactly (codes ")\n")))
RuleForm c atoms k (Some r) =
    Followed (Exactly (codes "(rule "))
    (Followed (Numbered c k)
    (Followed (Exactly (codes " "))
    (Followed (Declared c atoms r.head)
    (Followed (Exactly (codes " "))
    (Followed (Body c atoms r.positives)
    (Followed (Exactly (codes " "))
    (Followed (Body c atoms r.negatives) (Exactly (codes ")\n")))))))))

-- the lines of the atoms, numbered from i on
abbrev pub AtomForms : {S : Type 0} → (Care → S → List ℕ → Type 0) → Care → ℕ → List (Atom S) → List ℕ → Type 0
AtomForms spells c i [] = Exactly []
AtomForms spells c i (a ∷ rest) = Followed (AtomForm spells c i a) (AtomForms spells c (i + 1) rest)

-- the lines of the rules, numbered from k on
abbrev pub RuleForms : Care → ℕ → ℕ → List (Option Rule) → List ℕ → Type 0
RuleForms c atoms k [] = Exactly []
RuleForms c atoms k (r ∷ rs) = Followed (RuleForm c atoms k r) (RuleForms c atoms (k + 1) rs)

-- (order W)
abbrev pub OrderForm : List ℕ → List ℕ → Type 0
OrderForm word = Followed (Exactly (codes "(order ")) (Followed (Exactly word) (Exactly (codes ")\n")))

-- the text spells the book: the order, the atoms, the rules and the end, each on a line of its own
abbrev pub Spells : {S : Type 0} → List ℕ → (Care → S → List ℕ → Type 0) → Care → Meaning S → List ℕ → Type 0
Spells word spells c m =
    Followed (OrderForm word)
    (Followed (AtomForms spells c 0 m.atoms)
    (Followed (RuleForms c (length m.atoms) 0 m.rules) (Exactly (codes "(end)\n"))))
