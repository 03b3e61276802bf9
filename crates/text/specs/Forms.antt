-- The forms of a text, one to a line.
use Rattle.std.specs.Prelude.{ℕ, max, Bool, true, false, cond, List, drop, Some, None, Ok, Err, codes, Option, Result, ◌==◌, nat_le}
use Rattle.std.specs.List.{slice_get}
use Rattle.std.specs.Option.{option_map}
use Rattle.books.specs.Meaning.{Rule, Atom}
use Rattle.books.specs.declared.fault.ReadFault.TheVariants.{Number, TooMany}
use Rattle.books.specs.declared.fault.Fault.{Fault}
use Rattle.books.specs.declared.fault.Fault.TheVariants.{Reading}
use Rattle.makes.specs.Flats.{atom_of, rule_of}
use Rattle.text.specs.Bytes.{and_then, wrong_at, pass_at}
use Rattle.text.specs.Numbers.{number_at}
use Rattle.text.specs.Words.{pass_word, agrees_to, is_byte}
use Rattle.text.specs.Kinds.{order_opening, atom_opening, rule_opening, void_opening, end_opening, kind_of}
use Rattle.text.specs.Rules.{rule_at}
use Rattle.text.specs.declared.kind.Kind.{Kind}
use Rattle.text.specs.declared.kind.Kind.TheVariants as kind
use Rattle.text.specs.declared.reader.Stage.{Stage}
use Rattle.text.specs.declared.reader.Stage.TheVariants as stage
use Rattle.text.specs.declared.reader.Reader.{Reader}
use Rattle.text.specs.declared.counts.Counts.{Counts}
use Rattle.text.specs.declared.form.Form.{Form}
use Rattle.text.specs.declared.form.Form.TheVariants as form

-- what one form says
pub data Line (S : Type 0) : Type 0 where
  order_line : Line S
  atom_line : Atom S → Line S
  rule_line : Option Rule → Line S
  end_line : Line S

-- a form that was read, by what it says
abbrev pub line_of : {S : Type 0} → Form S → Line S
line_of form.Order = order_line
line_of (form.Atom row) = atom_line (atom_of row)
line_of (form.Rule row) = rule_line (option_map rule_of row)
line_of form.End = end_line

-- how a form ends, and its line
abbrev pub closing : List ℕ
closing = codes ")\n"

-- the word of a reading
abbrev pub in_word : List ℕ
in_word = codes "in "

-- the word of any other atom
abbrev pub out_word : List ℕ
out_word = codes "out "

-- the number that must come next
abbrev pub next_number : List ℕ → ℕ → ℕ → Result ℕ Fault
next_number text expected at =
    and_then (number_at text at 4294967295)
    (λ p. cond (p.0 == expected) (Ok p.1) (Err (Reading (Number at))))

-- goes on with a form, if there is room for one more
abbrev pub if_room : {X : Type 0} → ℕ → ℕ → ℕ → Result X Fault → Result X Fault
if_room form count room go = cond (nat_le room count) (Err (Reading (TooMany form))) go

-- whether an atom is a reading
abbrev pub reading_at : List ℕ → ℕ → Result (Bool × ℕ) Fault
reading_at text at =
    cond (is_byte 111 (slice_get text at))
    (and_then (pass_word out_word text at) (λ next. Ok (false, next)))
    (and_then (pass_word in_word text at) (λ next. Ok (true, next)))

-- (order W)
unfoldable pub order_at : {S : Type 0} → List ℕ → List ℕ → ℕ → Result (Line S × ℕ) Fault
order_at spelling text at =
    and_then (pass_word order_opening text at)
    (λ a. and_then (pass_word spelling text a)
    (λ b. and_then (pass_word closing text b)
    (λ next. Ok (order_line, next))))

-- (atom N K S)
unfoldable pub atom_at : {S : Type 0} → (List ℕ → ℕ → Result (S × ℕ) Fault) → List ℕ → Counts → Reader → Result (Line S × ℕ) Fault
atom_at stamp_at text room r =
    and_then (pass_word atom_opening text r.next)
    (λ a. if_room r.next r.atoms room.atoms
    (and_then (next_number text r.atoms a)
    (λ b. and_then (pass_at 32 text b)
    (λ c. and_then (reading_at text c)
    (λ k. and_then (stamp_at text k.1)
    (λ s. and_then (pass_word closing text s.1)
    (λ next. Ok (atom_line (record { stamp = s.0; reading = k.0 }), next))))))))

-- (rule N H (P..) (Q..))
unfoldable pub rule_form_at : {S : Type 0} → List ℕ → Counts → Reader → Result (Line S × ℕ) Fault
rule_form_at text room r =
    and_then (pass_word rule_opening text r.next)
    (λ a. if_room r.next r.rules room.rules
    (and_then (next_number text r.rules a)
    (λ b. and_then (rule_at text (record { form = r.next; rule = r.rules; atoms = r.atoms }) b)
    (λ p. and_then (pass_word closing text p.1)
    (λ next. Ok (rule_line (Some p.0), next))))))

-- (void N)
unfoldable pub void_at : {S : Type 0} → List ℕ → Counts → Reader → Result (Line S × ℕ) Fault
void_at text room r =
    and_then (pass_word void_opening text r.next)
    (λ a. if_room r.next r.rules room.rules
    (and_then (next_number text r.rules a)
    (λ b. and_then (pass_word closing text b)
    (λ next. Ok (rule_line None, next)))))

-- (end)
unfoldable pub end_at : {S : Type 0} → List ℕ → ℕ → Result (Line S × ℕ) Fault
end_at text at = and_then (pass_word end_opening text at) (λ a. and_then (pass_at 10 text a) (λ next. Ok (end_line, next)))

-- the place of the first byte that no form of a rule has there
abbrev pub refused_rule : List ℕ → ℕ → ℕ
refused_rule text at = max (agrees_to rule_opening text at) (max (agrees_to void_opening text at) (agrees_to end_opening text at))

-- the place of the first byte that no form allowed at the stage has there
unfoldable pub refused_at : List ℕ → Stage → ℕ → ℕ
refused_at text stage.Start at = agrees_to order_opening text at
refused_at text stage.Atoms at = max (agrees_to atom_opening text at) (refused_rule text at)
refused_at text stage.Rules at = refused_rule text at
refused_at text stage.End at = at

-- the choice that a kind of form has in a table
abbrev pub by_kind : {X : Type 0} → Option Kind → X → X → X → X → X → X → X
by_kind (Some kind.Order) o a r v e n = o
by_kind (Some kind.Atom) o a r v e n = a
by_kind (Some kind.Rule) o a r v e n = r
by_kind (Some kind.Void) o a r v e n = v
by_kind (Some kind.End) o a r v e n = e
by_kind None o a r v e n = n

-- stage and kind together tell what is read, or that the form is not allowed there
abbrev pub form_in : {S : Type 0} → (List ℕ → ℕ → Result (S × ℕ) Fault) → List ℕ → List ℕ → Counts → Reader → Result (Line S × ℕ) Fault → Stage → Option Kind → Result (Line S × ℕ) Fault
form_in stamp_at spelling text room r refusal stage.Start k = by_kind k (order_at spelling text r.next) refusal refusal refusal refusal refusal
form_in stamp_at spelling text room r refusal stage.Atoms k = by_kind k refusal (atom_at stamp_at text room r) (rule_form_at text room r) (void_at text room r) (end_at text r.next) refusal
form_in stamp_at spelling text room r refusal stage.Rules k = by_kind k refusal refusal (rule_form_at text room r) (void_at text room r) (end_at text r.next) refusal
form_in stamp_at spelling text room r refusal stage.End k = refusal

-- the form at which the reader stands
unfoldable pub form_at : {S : Type 0} → (List ℕ → ℕ → Result (S × ℕ) Fault) → List ℕ → List ℕ → Counts → Reader → Result (Line S × ℕ) Fault
form_at stamp_at spelling text room r =
    form_in stamp_at spelling text room r (wrong_at (refused_at text r.stage r.next)) r.stage (kind_of (drop r.next text))
