-- Reading on from a stage to the end form, and its agreement with what remains of the text.
use Rattle.std.proofs.Common.{◌≡◌, ℕ, zero, suc, ◌+◌, ◌<◌, List, [], ◌∷◌, length, Ok, Err, Option, Result, sym, refl, subst, arith}
use Rattle.books.specs.Meaning.{Rule, Atom, Meaning}
use Rattle.books.specs.declared.fault.ReadFault.TheVariants.{Number}
use Rattle.books.specs.declared.fault.Fault.{Fault}
use Rattle.books.specs.declared.fault.Fault.TheVariants.{Reading}
use Rattle.text.specs.Bytes.{and_then}
use Rattle.text.specs.Forms.{Line, order_line, atom_line, rule_line, end_line}
use Rattle.text.specs.declared.counts.Counts.{Counts}
use Rattle.text.specs.declared.reader.Stage.{Stage}
use Rattle.text.specs.declared.reader.Stage.TheVariants.{Start, Atoms, Rules, End}
use Rattle.grammar.specs.Pieces.{Care, shape, kept, plain, Kept, Followed}
use Rattle.grammar.specs.Agreement.{Agrees}
use Rattle.grammar.proofs.AgreeCombined.{Any, Via, agrees_as, agrees_then, agrees_done}
use Rattle.grammar.proofs.AgreeChosen.{agrees_never}
use Rattle.grammar.proofs.FormsAllowed.{FormAt, Going, reads_form, FormsAgree}
use Rattle.grammar.proofs.FormsLeft.{bare, Rest, rest_sample}
use Rattle.grammar.proofs.PieceByPiece.{onto, ended, unended}
use Rattle.grammar.specs.Notations.{Notation}

-- what is read, changed
agrees_map : {X Y : Type 0} (f : X → Y) {P : List ℕ → ℕ → Result (X × ℕ) Fault} {G : Care → X → List ℕ → Type 0} → Agrees P G Any → Agrees (λ text at. and_then (P text at) (λ p. Ok (f p.0, p.1))) (λ c y piece. (x : X) × (y ≡ f x) × G c x piece) Any
agrees_map f {P} {G} a =
    agrees_as
    (λ c y piece v. (v.value, v.parts.second.0, ended v.parts))
    (λ c y piece h. record { value = h.0; parts = unended h.1 h.2 })
    (agrees_then a (λ at x. agrees_done (f x)) (λ c x y piece rest h s. tt))

module _ {S : Type 0} where
  -- a book with one more atom in front
  abbrev pub with_atom : Atom S → Meaning S → Meaning S
  with_atom x m = record { atoms = x ∷ m.atoms; rules = m.rules }

  -- a book with one more rule number in front
  abbrev pub with_rule : Option Rule → Meaning S → Meaning S
  with_rule o m = record { atoms = m.atoms; rules = o ∷ m.rules }

  -- what follows a form, by what the form says
  abbrev pub onward : (Stage → ℕ → ℕ → List ℕ → ℕ → Result (Meaning S × ℕ) Fault) → ℕ → ℕ → Line S → List ℕ → ℕ → Result (Meaning S × ℕ) Fault
  onward next a r order_line text at = next Atoms a r text at
  onward next a r (atom_line x) text at = and_then (next Atoms (a + 1) r text at) (λ p. Ok (with_atom x p.0, p.1))
  onward next a r (rule_line o) text at = and_then (next Rules a (r + 1) text at) (λ p. Ok (with_rule o p.0, p.1))
  onward next a r end_line text at = Ok (bare, at)

  abbrev Onward : (Stage → ℕ → ℕ → Care → Meaning S → List ℕ → Type 0) → ℕ → ℕ → Line S → Care → Meaning S → List ℕ → Type 0
  Onward next a r order_line c m piece = next Atoms a r c m piece
  Onward next a r (atom_line x) c m piece = (k : Meaning S) × (m ≡ with_atom x k) × next Atoms (a + 1) r c k piece
  Onward next a r (rule_line o) c m piece = (k : Meaning S) × (m ≡ with_rule o k) × next Rules a (r + 1) c k piece
  Onward next a r end_line c m piece = (m ≡ bare) × (piece ≡ [])

module _ {S : Type 0} (kind : Notation S) (room : Counts) where
  -- the forms from a stage to the end form, n at most; the fault past them is no byte's
  abbrev pub lines : ℕ → Stage → ℕ → ℕ → List ℕ → ℕ → Result (Meaning S × ℕ) Fault
  lines zero stage a r text at = Err (Reading (Number 0))
  lines (suc n) stage a r text at =
      and_then (reads_form kind room stage a r text at) (λ p. onward (lines n) a r p.0 text p.1)

module _ {S : Type 0} (kind : Notation S) (room : Counts) where
  -- what those forms spell; more forms than n have the shape alone
  abbrev pub Lines : ℕ → Stage → ℕ → ℕ → Care → Meaning S → List ℕ → Type 0
  Lines zero stage a r c m piece = Kept c ⊥ × Rest kind room stage a r shape m piece
  Lines (suc n) stage a r c m piece = Via (FormAt kind room stage a r) (Onward (Lines n) a r) c m piece

  abbrev rest : Stage → ℕ → ℕ → Care → Meaning S → List ℕ → Type 0
  rest = Rest kind room

  rule_rest : (o : Option Rule) (a r : ℕ) (c : Care) (xs : List (Atom S)) (os : List (Option Rule)) (piece : List ℕ) → Followed (FormAt kind room Rules a r c (rule_line o)) (rest Rules a (r + 1) c (record { atoms = xs; rules = os })) piece → rest Rules a r c (record { atoms = xs; rules = o ∷ os }) piece
  rule_rest o a r c [] os piece f = f
  rule_rest o a r c (x ∷ xs) os piece f = absurd f.second

  late_atoms : (a r : ℕ) (c : Care) (xs : List (Atom S)) (os : List (Option Rule)) (piece : List ℕ) → rest Rules a r c (record { atoms = xs; rules = os }) piece → rest Atoms a r c (record { atoms = xs; rules = os }) piece
  late_atoms a r c [] os piece h = h
  late_atoms a r c (x ∷ xs) os piece h = absurd h

  module _ (next : Stage → ℕ → ℕ → Care → Meaning S → List ℕ → Type 0) (known : (stage : Stage) (a r : ℕ) (c : Care) (m : Meaning S) (piece : List ℕ) → next stage a r c m piece → rest stage a r c m piece) where
    -- a form, and what remains after it
    one_rest : (stage : Stage) (line : Line S) (a r : ℕ) (c : Care) (m : Meaning S) (piece : List ℕ) → Followed (FormAt kind room stage a r c line) (Onward next a r line c m) piece → rest stage a r c m piece
    one_rest Start order_line a r c m piece f = onto f (known Atoms a r c m f.back f.second)
    one_rest Start (atom_line x) a r c m piece f = absurd f.first
    one_rest Start (rule_line o) a r c m piece f = absurd f.first
    one_rest Start end_line a r c m piece f = absurd f.first
    one_rest Atoms order_line a r c m piece f = absurd f.first
    one_rest Atoms (atom_line x) a r c m piece f =
        let (k, e, h) = f.second in
        subst (λ b. rest Atoms a r c b piece) (sym e) (onto f (known Atoms (a + 1) r c k f.back h))
    one_rest Atoms (rule_line o) a r c m piece f =
        let (k, e, h) = f.second in
        subst (λ b. rest Atoms a r c b piece) (sym e)
        (late_atoms a r c k.atoms (o ∷ k.rules) piece
        (rule_rest o a r c k.atoms k.rules piece (onto f (known Rules a (r + 1) c k f.back h))))
    one_rest Atoms end_line a r c m piece f = subst (λ b. rest Atoms a r c b piece) (sym f.second.0) (ended f)
    one_rest Rules order_line a r c m piece f = absurd f.first
    one_rest Rules (atom_line x) a r c m piece f = absurd f.first
    one_rest Rules (rule_line o) a r c m piece f =
        let (k, e, h) = f.second in
        subst (λ b. rest Rules a r c b piece) (sym e) (rule_rest o a r c k.atoms k.rules piece (onto f (known Rules a (r + 1) c k f.back h)))
    one_rest Rules end_line a r c m piece f = subst (λ b. rest Rules a r c b piece) (sym f.second.0) (ended f)
    one_rest End line a r c m piece f = absurd f.first

  -- n forms, or fewer, are what remains of a text
  pub lines_rest : (n : ℕ) (stage : Stage) (a r : ℕ) (c : Care) (m : Meaning S) (piece : List ℕ) → Lines n stage a r c m piece → rest stage a r c m piece
  lines_rest zero stage a r shape m piece h = h.1
  lines_rest zero stage a r kept m piece h = absurd h.0
  lines_rest zero stage a r plain m piece h = absurd h.0
  lines_rest (suc n) stage a r c m piece h =
      one_rest (Lines n) (lines_rest n) stage h.value a r c m piece h.parts

  via : (n : ℕ) (stage : Stage) (a r : ℕ) (c : Care) (m : Meaning S) (line : Line S) (piece : List ℕ) → Followed (FormAt kind room stage a r c line) (Onward (Lines n) a r line c m) piece → Lines (suc n) stage a r c m piece
  via n stage a r c m line piece f = record { value = line; parts = f }

  late_lines : (n : ℕ) (os : List (Option Rule)) (a r : ℕ) (c : Care) (piece : List ℕ) → length os < n → rest Rules a r c (record { atoms = []; rules = os }) piece → Lines n Rules a r c (record { atoms = []; rules = os }) piece
  late_lines zero os a r c piece l h = absurd (omega arith)
  late_lines (suc n) [] a r c piece l h = via n Rules a r c bare end_line piece (unended refl h)
  late_lines (suc n) (o ∷ os) a r c piece l h =
      via n Rules a r c (record { atoms = []; rules = o ∷ os }) (rule_line o) piece
      (onto h (record { atoms = []; rules = os }, refl, late_lines n os a (r + 1) c h.back (omega arith) h.second))

  atoms_lines : (n : ℕ) (xs : List (Atom S)) (os : List (Option Rule)) (a r : ℕ) (c : Care) (piece : List ℕ) → length xs + length os < n → rest Atoms a r c (record { atoms = xs; rules = os }) piece → Lines n Atoms a r c (record { atoms = xs; rules = os }) piece
  atoms_lines zero xs os a r c piece l h = absurd (omega arith)
  atoms_lines (suc n) [] [] a r c piece l h = via n Atoms a r c bare end_line piece (unended refl h)
  atoms_lines (suc n) [] (o ∷ os) a r c piece l h =
      via n Atoms a r c (record { atoms = []; rules = o ∷ os }) (rule_line o) piece
      (onto h (record { atoms = []; rules = os }, refl, late_lines n os a (r + 1) c h.back (omega arith) h.second))
  atoms_lines (suc n) (x ∷ xs) os a r c piece l h =
      via n Atoms a r c (record { atoms = x ∷ xs; rules = os }) (atom_line x) piece
      (onto h (record { atoms = xs; rules = os }, refl, atoms_lines n xs os (a + 1) r c h.back (omega arith) h.second))

  -- as many forms as the book has are enough
  pub start_lines : (n : ℕ) (a r : ℕ) (c : Care) (m : Meaning S) (piece : List ℕ) → length m.atoms + length m.rules < n → rest Start a r c m piece → Lines (suc n) Start a r c m piece
  start_lines n a r c m piece l h =
      via n Start a r c m order_line piece
      (onto h (atoms_lines n m.atoms m.rules a r c h.back l h.second))

module _ {S : Type 0} (kind : Notation S) (room : Counts) (forms : FormsAgree kind room) where
  onward_agrees : (next : Stage → ℕ → ℕ → List ℕ → ℕ → Result (Meaning S × ℕ) Fault) (G : Stage → ℕ → ℕ → Care → Meaning S → List ℕ → Type 0) → ((stage : Stage) → Going stage → (a r : ℕ) → Agrees (next stage a r) (G stage a r) Any) → (a r : ℕ) (line : Line S) → Agrees (onward next a r line) (Onward G a r line) Any
  onward_agrees next G h a r order_line = h Atoms tt a r
  onward_agrees next G h a r (atom_line x) = agrees_map (with_atom x) (h Atoms tt (a + 1) r)
  onward_agrees next G h a r (rule_line o) = agrees_map (with_rule o) (h Rules tt a (r + 1))
  onward_agrees next G h a r end_line = agrees_done bare

  -- reading on agrees with what remains
  pub lines_agree : (n : ℕ) (stage : Stage) → Going stage → (a r : ℕ) → Agrees (lines kind room n stage a r) (Lines kind room n stage a r) Any
  lines_agree zero stage g a r =
      agrees_never (Reading (Number 0)) tt (λ c m piece h. (tt, h.1))
      (let s = rest_sample kind room stage g a r in (s.0, s.1, (tt, s.2)))
      (λ c m piece h. h.0)
  lines_agree (suc n) stage g a r =
      agrees_then (forms stage g a r)
      (λ at line. onward_agrees (lines kind room n) (Lines kind room n) (lines_agree n) a r line)
      (λ c line m piece rest h s. tt)
