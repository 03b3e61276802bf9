-- The atoms of a list, one after another.
use Rattle.std.proofs.Common.{◌≡◌, ℕ, ◌+◌, ◌≤◌, Bool, true, false, List, [], length, Ok, Err, Result, sym, refl, ◌∙◌, arith}
use Rattle.books.specs.declared.fault.Fault.{Fault}
use Rattle.text.specs.Bytes.{and_then}
use Rattle.text.specs.Lists.{open_at}
use Rattle.text.specs.Rules.{Listed, no_atom, one_literal, body_at}
use Rattle.text.specs.Turns.{tries}
use Rattle.text.specs.declared.site.Site.{Site}
use Rattle.text.proofs.Turned.{turns_none, tries_more, tries_end, tries_refused}

-- in as many turns as there are atoms, this is read
pub record Reads (text : List ℕ) (site : Site) (before : ℕ) (start : Bool × ℕ) (l : Listed) : Type 0 where
  pub read : Ok l ≡ tries (one_literal text site before) (no_atom start) (length l.atoms)

module _ (text : List ℕ) (site : Site) (before : ℕ) (start : Bool × ℕ) where
  abbrev step : Listed → Result Listed Fault
  step = one_literal text site before

  pub reads_none : (atoms : List ℕ) → atoms ≡ [] → Reads text site before start (record { atoms = atoms; more = start.0; next = start.1 })
  reads_none atoms e = rw e (record { read = sym (turns_none (λ r. and_then r step) (Ok (no_atom start))) })

  module _ (l : Listed) (h : Reads text site before start l) where
    module _ (more : l.more ≡ true) where
      goes_on : step (record { atoms = l.atoms; more = true; next = l.next }) ≡ step l
      goes_on = rw more refl

      pub reads_more : (m : Listed) → Ok m ≡ step (record { atoms = l.atoms; more = true; next = l.next }) → length m.atoms ≡ length l.atoms + 1 → Reads text site before start m
      reads_more m e k = record { read = rw k (e ∙ goes_on ∙ tries_more step (no_atom start) (length l.atoms) l h.read) }

      pub body_refused : (at : ℕ) → Ok start ≡ open_at text at → length l.atoms ≤ 6 → (e : Fault) → Err e ≡ step (record { atoms = l.atoms; more = true; next = l.next }) → Err e ≡ body_at text site before at
      unfolding body_at
      body_refused at opened few e k =
          rw (← opened, ← tries_refused step (no_atom start) (length l.atoms) 7 l e h.read (k ∙ goes_on) (omega arith)) refl

    -- where no atom follows, the list is read
    pub body_read : l.more ≡ false → (at : ℕ) → Ok start ≡ open_at text at → length l.atoms ≤ 6 → Ok (l.atoms, l.next) ≡ body_at text site before at
    unfolding body_at
    body_read m at opened few =
        let stays : step l ≡ Ok l = rw m refl in
        rw (← opened, ← tries_end step (no_atom start) l (length l.atoms) 7 stays h.read (omega arith)) refl
