-- The forms that are allowed at each stage of a text, by what they say.
use Rattle.std.proofs.Common.{ℕ, ◌<◌, List, Result}
use Rattle.books.specs.Meaning.{Atom}
use Rattle.text.specs.Forms.{Line, order_line, atom_line, rule_line, end_line, form_at}
use Rattle.text.specs.Spelt.{end_text}
use Rattle.text.specs.declared.counts.Counts.{Counts}
use Rattle.text.specs.declared.reader.Stage.{Stage}
use Rattle.text.specs.declared.reader.Stage.TheVariants.{Start, Atoms, Rules, End}
use Rattle.grammar.specs.Pieces.{Care, Kept, Exactly}
use Rattle.grammar.specs.Grammar.{OrderForm, AtomForm, RuleForm}
use Rattle.grammar.specs.Notations.{Notation}
use Rattle.grammar.specs.Agreement.{Agrees}
use Rattle.grammar.proofs.AgreeCombined.{Any}
use Rattle.books.specs.declared.fault.Fault.{Fault}

-- the stages at which a form may follow
abbrev pub Going : Stage → Type 0
Going Start = Unit {0}
Going Atoms = Unit {0}
Going Rules = Unit {0}
Going End = ⊥

module _ {S : Type 0} (kind : Notation S) (room : Counts) where
  -- the atom of the next number, where there is room for it
  abbrev pub AtomNext : ℕ → Care → Atom S → List ℕ → Type 0
  AtomNext atoms c a text = Kept c (atoms < room.atoms) × AtomForm kind.spells c atoms a text

  -- a form of a rule or the end
  abbrev pub LateForm : ℕ → ℕ → Care → Line S → List ℕ → Type 0
  LateForm atoms rules c order_line text = ⊥
  LateForm atoms rules c (atom_line a) text = ⊥
  LateForm atoms rules c (rule_line r) text = Kept c (rules < room.rules) × RuleForm c atoms rules r text
  LateForm atoms rules c end_line text = Exactly end_text text

  -- a form as it is allowed at a stage, after so many atoms and rules
  abbrev pub FormAt : Stage → ℕ → ℕ → Care → Line S → List ℕ → Type 0
  FormAt Start atoms rules c order_line text = OrderForm kind.word text
  FormAt Start atoms rules c (atom_line a) text = ⊥
  FormAt Start atoms rules c (rule_line r) text = ⊥
  FormAt Start atoms rules c end_line text = ⊥
  FormAt Atoms atoms rules c order_line text = ⊥
  FormAt Atoms atoms rules c (atom_line a) text = AtomNext atoms c a text
  FormAt Atoms atoms rules c (rule_line r) text = LateForm atoms rules c (rule_line r) text
  FormAt Atoms atoms rules c end_line text = LateForm atoms rules c end_line text
  FormAt Rules atoms rules c line text = LateForm atoms rules c line text
  FormAt End atoms rules c line text = ⊥

  -- the reader of the form at a place, at a stage and after so many atoms and rules
  abbrev pub reads_form : Stage → ℕ → ℕ → List ℕ → ℕ → Result (Line S × ℕ) Fault
  reads_form stage atoms rules text at = form_at kind.stamp_at kind.word text room (record { stage = stage; next = at; atoms = atoms; rules = rules })

  -- it agrees with the forms that are allowed there, at every stage but the end
  abbrev pub FormsAgree : Type 0
  FormsAgree = (stage : Stage) → Going stage → (atoms rules : ℕ) → Agrees (reads_form stage atoms rules) (FormAt stage atoms rules) Any
