-- The tables after each form.
use Rattle.std.proofs.Common.{◌≡◌, ℕ, ◌+◌, ◌<◌, ◌≤◌, true, false, List, [], ◌∷◌, ◌++◌, map, length, take, drop, set, Ok, Err, Option, Result, sym, refl, ap, ◌∙◌, arith, length-set}
use Rattle.std.proofs.lemmas.List.{take_more_set, map_push, drop-set-lt, drop-drop}
use Rattle.std.specs.Option.{option_map}
use Rattle.books.specs.Meaning.{Rule, Atom}
use Rattle.books.specs.declared.fault.Fault.{Fault}
use Rattle.makes.specs.Flats.{atom_of, rule_of}
use Rattle.makes.specs.declared.rows.AtomRow.{AtomRow}
use Rattle.makes.specs.declared.rows.RuleRow.{RuleRow}
use Rattle.text.specs.Bytes.{and_then}
use Rattle.text.specs.Forms.{line_of, form_at}
use Rattle.text.specs.Reads.{Progress, start_progress, start_reader, moved_by, after, finished, one_form, progress_at, Roomy, put_atom, put_rule, Rows, Held, FilledBy}
use Rattle.text.specs.Turns.{tries}
use Rattle.text.specs.declared.reader.Reader.{Reader}
use Rattle.text.specs.declared.counts.Counts.{Counts}
use Rattle.text.specs.declared.form.Form.{Form}
use Rattle.text.specs.declared.form.Form.TheVariants as form
use Rattle.text.proofs.Turned.{turns_none, tries_more, tries_end, tries_refused}

-- one more row
pub rows_more : {R M : Type 0} (meant : R → M) (n : ℕ) (ms : List M) (was rows : List R) (x : R) → Rows meant n ms was rows → n < length rows → Rows meant (n + 1) (ms ++ (meant x ∷ [])) was (set rows n x)
rows_more meant n ms was rows x h l =
    record {
      within = rw length-set (omega arith);
      written =
          ap (map meant) (take_more_set rows n x l)
          ∙ map_push meant (take n rows) x
          ∙ ap (λ ys. ys ++ (meant x ∷ [])) h.written;
      rest =
          drop-set-lt (n + 1) rows n x (omega arith)
          ∙ sym (drop-drop 1 n rows)
          ∙ ap (drop 1) h.rest
          ∙ drop-drop 1 n was;
    }

rows_none : {R M : Type 0} (meant : R → M) (was : List R) → Rows meant 0 [] was was
rows_none meant was = record { within = omega arith; written = refl; rest = refl }

pub held_start : {S : Type 0} (a : List (AtomRow S)) (b : List (Option RuleRow)) → Held start_progress a a b b
held_start a b = record { atoms = rows_none atom_of a; rules = rows_none (option_map rule_of) b }

module _ {S : Type 0} (s : Progress S) (a₀ a : List (AtomRow S)) (b₀ b : List (Option RuleRow)) (h : Held s a₀ a b₀ b) (next : ℕ) where
  -- the tables after a form's row is written
  pub held_after : (f : Form S) → Roomy (record { atoms = length a; rules = length b }) s.reader f → Held (after s (line_of f, next)) a₀ (put_atom s.reader.atoms a f) b₀ (put_rule s.reader.rules b f)
  held_after form.Order l = record { atoms = h.atoms; rules = h.rules }
  held_after (form.Atom row) l = record { atoms = rows_more atom_of s.reader.atoms s.atoms a₀ a row h.atoms l; rules = h.rules }
  held_after (form.Rule row) l = record { atoms = h.atoms; rules = rows_more (option_map rule_of) s.reader.rules s.rules b₀ b row h.rules l }
  held_after form.End l = record { atoms = h.atoms; rules = h.rules }

-- room below a table's length is room in the table
pub roomier : {S : Type 0} (room big : Counts) (r : Reader) (f : Form S) → room.atoms ≤ big.atoms → room.rules ≤ big.rules → Roomy room r f → Roomy big r f
roomier room big r form.Order ha hb l = tt
roomier room big r (form.Atom row) ha hb l = omega arith
roomier room big r (form.Rule row) ha hb l = omega arith
roomier room big r form.End ha hb l = tt

-- after n turns the reader stands there, and the tables hold what was read
pub record Fills {S : Type 0} (stamp_at : List ℕ → ℕ → Result (S × ℕ) Fault) (spelling : List ℕ) (text : List ℕ) (room : Counts) (n : ℕ) (r : Reader) (old_atoms atoms : List (AtomRow S)) (old_rules rules : List (Option RuleRow)) : Type 0 where
  pub read_atoms : List (Atom S)
  pub read_rules : List (Option Rule)
  pub reached : Ok (record { reader = r; atoms = read_atoms; rules = read_rules }) ≡ tries (one_form stamp_at spelling text room) start_progress n
  pub held : Held (record { reader = r; atoms = read_atoms; rules = read_rules }) old_atoms atoms old_rules rules

pub fills_none : {S : Type 0} (stamp_at : List ℕ → ℕ → Result (S × ℕ) Fault) (spelling : List ℕ) (text : List ℕ) (room : Counts) (a : List (AtomRow S)) (b : List (Option RuleRow)) → Fills stamp_at spelling text room 0 start_reader a a b b
fills_none stamp_at spelling text room a b =
    record {
      read_atoms = [];
      read_rules = [];
      reached = sym (turns_none (λ r. and_then r (one_form stamp_at spelling text room)) (Ok start_progress));
      held = held_start a b;
    }

module _
    {S : Type 0} {stamp_at : List ℕ → ℕ → Result (S × ℕ) Fault} {spelling : List ℕ} {text : List ℕ} {room : Counts} {n : ℕ} {r : Reader}
    {a₀ a : List (AtomRow S)} {b₀ b : List (Option RuleRow)} (h : Fills stamp_at spelling text room n r a₀ a b₀ b) where
  abbrev step : Progress S → Result (Progress S) Fault
  step = one_form stamp_at spelling text room

  abbrev state : Progress S
  state = record { reader = r; atoms = h.read_atoms; rules = h.read_rules }

  module _ (going : false ≡ finished text r) where
    pub fills_more : (f : Form S) (next : ℕ) → Ok (line_of f, next) ≡ form_at stamp_at spelling text room r → Roomy (record { atoms = length a; rules = length b }) r f → (r' : Reader) → r' ≡ moved_by r (line_of f) next → (a' : List (AtomRow S)) → a' ≡ put_atom r.atoms a f → (b' : List (Option RuleRow)) → b' ≡ put_rule r.rules b f → Fills stamp_at spelling text room (n + 1) r' a₀ a' b₀ b'
    fills_more f next e fits r' er a' ea b' eb =
        let s = after state (line_of f, next) in
        let steps : Ok s ≡ step state = rw (← going, ← e) refl in
        rw (er, ea, eb)
        (record {
          read_atoms = s.atoms;
          read_rules = s.rules;
          reached = steps ∙ tries_more step start_progress n state h.reached;
          held = held_after state a₀ a b₀ b h.held next f fits;
        })

    pub fill_refused : (e : Fault) → Err e ≡ form_at stamp_at spelling text room r → n < length text → Err e ≡ progress_at stamp_at spelling text room
    unfolding progress_at
    fill_refused e k l =
        let refuses : Err e ≡ step state = rw (← going, ← k) refl in
        tries_refused step start_progress n (length text) state e h.reached refuses l

  abbrev Filled : Type 0
  Filled = FilledBy (progress_at stamp_at spelling text room) (Ok tt) a₀ a b₀ b

  -- a finished text stays as it is
  pub filled_all : true ≡ finished text r → n ≤ length text → Filled
  unfolding progress_at
  filled_all done l =
      let stays : step state ≡ Ok state = rw (← done) refl in
      (state, tries_end step start_progress state n (length text) stays h.reached l, h.held)

  pub filled_last : length text ≤ n → n ≤ length text → Filled
  unfolding progress_at
  filled_last l m =
      let last : n ≡ length text = omega arith in
      (state, h.reached ∙ ap (tries step start_progress) last, h.held)
