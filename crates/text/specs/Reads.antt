-- A whole text: its forms one after another, and the book that they make.
use Rattle.std.specs.Prelude.{◌≡◌, ℕ, ◌+◌, ◌<◌, ◌≤◌, min, Bool, true, false, cond, ◌&&◌, List, [], ◌∷◌, ◌++◌, map, length, take, drop, Ok, Err, Option, Result, ◌==◌, slice_set}
use Rattle.std.specs.Option.{option_map}
use Rattle.books.specs.Meaning.{Rule, Atom, Meaning}
use Rattle.books.specs.declared.fault.Fault.{Fault}
use Rattle.makes.specs.Flats.{atom_of, rule_of}
use Rattle.makes.specs.declared.rows.AtomRow.{AtomRow}
use Rattle.makes.specs.declared.rows.RuleRow.{RuleRow}
use Rattle.text.specs.Bytes.{and_then, wrong_at}
use Rattle.text.specs.Turns.{tries}
use Rattle.text.specs.Forms.{Line, order_line, atom_line, rule_line, end_line, line_of, form_at}
use Rattle.text.specs.declared.reader.Stage.{Stage}
use Rattle.text.specs.declared.reader.Stage.TheVariants.{Start, Atoms, Rules, End}
use Rattle.text.specs.declared.reader.Reader.{Reader}
use Rattle.text.specs.declared.counts.Counts.{Counts}
use Rattle.text.specs.declared.form.Form.{Form}
use Rattle.text.specs.declared.form.Form.TheVariants as form

-- before the first byte
abbrev pub start_reader : Reader
start_reader = record { stage = Start; next = 0; atoms = 0; rules = 0 }

-- each form moves the reader
abbrev pub moved_by : {S : Type 0} → Reader → Line S → ℕ → Reader
moved_by r order_line next = record { stage = Atoms; next = next; atoms = r.atoms; rules = r.rules }
moved_by r (atom_line a) next = record { stage = Atoms; next = next; atoms = r.atoms + 1; rules = r.rules }
moved_by r (rule_line o) next = record { stage = Rules; next = next; atoms = r.atoms; rules = r.rules + 1 }
moved_by r end_line next = record { stage = End; next = next; atoms = r.atoms; rules = r.rules }

-- whether the stage is past the end
abbrev pub is_end : Stage → Bool
is_end Start = false
is_end Atoms = false
is_end Rules = false
is_end End = true

-- past the end form, with no byte left
abbrev pub finished : List ℕ → Reader → Bool
finished text r = is_end r.stage && r.next == length text

-- where the reader stands, and the atoms and rules that it has read
pub record Progress (S : Type 0) : Type 0 where
  pub reader : Reader
  pub atoms : List (Atom S)
  pub rules : List (Option Rule)

-- a form adds its atom
abbrev pub atoms_by : {S : Type 0} → List (Atom S) → Line S → List (Atom S)
atoms_by atoms order_line = atoms
atoms_by atoms (atom_line a) = atoms ++ (a ∷ [])
atoms_by atoms (rule_line o) = atoms
atoms_by atoms end_line = atoms

-- a form adds its rule number
abbrev pub rules_by : {S : Type 0} → List (Option Rule) → Line S → List (Option Rule)
rules_by rules order_line = rules
rules_by rules (atom_line a) = rules
rules_by rules (rule_line o) = rules ++ (o ∷ [])
rules_by rules end_line = rules

-- what is read and where the reader stands, after a form
abbrev pub after : {S : Type 0} → Progress S → Line S × ℕ → Progress S
after s p = record { reader = moved_by s.reader p.0 p.1; atoms = atoms_by s.atoms p.0; rules = rules_by s.rules p.0 }

-- nothing is read
abbrev pub start_progress : {S : Type 0} → Progress S
start_progress = record { reader = start_reader; atoms = []; rules = [] }

module _ {S : Type 0} (stamp_at : List ℕ → ℕ → Result (S × ℕ) Fault) (spelling : List ℕ) (text : List ℕ) (room : Counts) where
  -- one more form, until the text is finished
  abbrev pub one_form : Progress S → Result (Progress S) Fault
  one_form s = cond (finished text s.reader) (Ok s) (and_then (form_at stamp_at spelling text room s.reader) (λ p. Ok (after s p)))

  -- the same, of the reader alone
  abbrev pub one_move : Reader → Result Reader Fault
  one_move r = cond (finished text r) (Ok r) (and_then (form_at stamp_at spelling text room r) (λ p. Ok (moved_by r p.0 p.1)))

  -- all forms: each has a byte at least, so as many turns as bytes are enough
  unfoldable pub progress_at : Result (Progress S) Fault
  progress_at = tries one_form start_progress (length text)

  -- where a reader of the text ends, which is past the end form
  unfoldable pub survey_at : Result Reader Fault
  survey_at = and_then (tries one_move start_reader (length text)) (λ r. cond (is_end r.stage) (Ok r) (wrong_at (length text)))

  -- the book of a text
  unfoldable pub book_at : Result (Meaning S) Fault
  book_at = and_then progress_at (λ s. cond (is_end s.reader.stage) (Ok (record { atoms = s.atoms; rules = s.rules })) (wrong_at (length text)))

-- whether there is room for what a form says
abbrev pub Roomy : {S : Type 0} → Counts → Reader → Form S → Type 0
Roomy room r form.Order = Unit {0}
Roomy room r (form.Atom row) = r.atoms < room.atoms
Roomy room r (form.Rule row) = r.rules < room.rules
Roomy room r form.End = Unit {0}

-- the reader is past the form that is found, or it stands where it stood
abbrev pub Stepped : {S : Type 0} → Result (Form S) Fault → Reader → Reader → Result (Line S × ℕ) Fault → Type 0
Stepped (Ok f) was is found = (Ok (line_of f, is.next) ≡ found) × (is ≡ moved_by was (line_of f) is.next)
Stepped (Err e) was is found = (Err e ≡ found) × (is ≡ was)

-- the table of atoms with what a form says
abbrev pub put_atom : {S : Type 0} → ℕ → List (AtomRow S) → Form S → List (AtomRow S)
put_atom i rows form.Order = rows
put_atom i rows (form.Atom row) = slice_set rows i row
put_atom i rows (form.Rule row) = rows
put_atom i rows form.End = rows

-- the table of rules with what a form says
abbrev pub put_rule : {S : Type 0} → ℕ → List (Option RuleRow) → Form S → List (Option RuleRow)
put_rule i rows form.Order = rows
put_rule i rows (form.Atom row) = rows
put_rule i rows (form.Rule row) = slice_set rows i row
put_rule i rows form.End = rows

-- the first n rows of a table mean these, and the rest are as they were
pub record Rows {R M : Type 0} (meant : R → M) (n : ℕ) (ms : List M) (was rows : List R) : Type 0 where
  pub within : n ≤ length rows
  pub written : map meant (take n rows) ≡ ms
  pub rest : drop n rows ≡ drop n was

-- the tables hold what was read, and are as they were beyond it
pub record Held {S : Type 0} (s : Progress S) (old_atoms new_atoms : List (AtomRow S)) (old_rules new_rules : List (Option RuleRow)) : Type 0 where
  pub atoms : Rows atom_of s.reader.atoms s.atoms old_atoms new_atoms
  pub rules : Rows (option_map rule_of) s.reader.rules s.rules old_rules new_rules

-- what a reader that fills the tables has found
abbrev pub FilledBy : {S : Type 0} → Result (Progress S) Fault → Result (Unit {0}) Fault → List (AtomRow S) → List (AtomRow S) → List (Option RuleRow) → List (Option RuleRow) → Type 0
FilledBy {S} found (Ok u) old_atoms new_atoms old_rules new_rules = (s : Progress S) × (Ok s ≡ found) × Held s old_atoms new_atoms old_rules new_rules
FilledBy {S} found (Err e) old_atoms new_atoms old_rules new_rules = Err e ≡ found

-- the limits on the atoms and rules of a book, and the tables' own
abbrev pub room_of : ℕ → ℕ → Counts
room_of atoms rules = record { atoms = min atoms 1024; rules = min rules 1024 }

-- an accepted text: the counts, and what the tables hold
pub record Accepted {S : Type 0} (m : Meaning S) (answer : Result Counts Fault) (old_atoms new_atoms : List (AtomRow S)) (old_rules new_rules : List (Option RuleRow)) : Type 0 where
  pub counts : answer ≡ Ok (record { atoms = length m.atoms; rules = length m.rules })
  pub atoms : Rows atom_of (length m.atoms) m.atoms old_atoms new_atoms
  pub rules : Rows (option_map rule_of) (length m.rules) m.rules old_rules new_rules

-- a refused text: the fault, and tables as they were
pub record Refused {S : Type 0} (e : Fault) (answer : Result Counts Fault) (old_atoms new_atoms : List (AtomRow S)) (old_rules new_rules : List (Option RuleRow)) : Type 0 where
  pub fault : answer ≡ Err e
  pub atoms : new_atoms ≡ old_atoms
  pub rules : new_rules ≡ old_rules

-- the answer and the tables, by the book of the text
abbrev pub ReadInto : {S : Type 0} → Result (Meaning S) Fault → Result Counts Fault → List (AtomRow S) → List (AtomRow S) → List (Option RuleRow) → List (Option RuleRow) → Type 0
ReadInto (Ok m) answer old_atoms new_atoms old_rules new_rules = Accepted m answer old_atoms new_atoms old_rules new_rules
ReadInto (Err e) answer old_atoms new_atoms old_rules new_rules = Refused e answer old_atoms new_atoms old_rules new_rules
