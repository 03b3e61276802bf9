-- A rule as a text has it: its head, its positive and its negative atoms.
use Rattle.std.specs.Prelude.{ℕ, ◌+◌, Bool, cond, List, [], ◌∷◌, ◌++◌, length, Ok, Err, Result, nat_le}
use Rattle.books.specs.Meaning.{Rule}
use Rattle.books.specs.declared.fault.ReadFault.TheVariants.{TooMany, AtomMissing}
use Rattle.books.specs.declared.fault.Fault.{Fault}
use Rattle.books.specs.declared.fault.Fault.TheVariants.{Reading}
use Rattle.text.specs.Bytes.{and_then, pass_at}
use Rattle.text.specs.Turns.{tries}
use Rattle.text.specs.Numbers.{number_at}
use Rattle.text.specs.Lists.{open_at, onward_at}
use Rattle.text.specs.declared.site.Site.{Site}

-- the atom of a list that has so many already, whether another follows it, and where; the rule has `before` literals before the list
abbrev pub literal_at : List ℕ → Site → ℕ → ℕ → ℕ → Result (ℕ × Bool × ℕ) Fault
literal_at text site before count at =
    and_then (number_at text at 4294967295)
    (λ p. cond (nat_le 6 count) (Err (Reading (TooMany site.form)))
    (cond (nat_le site.atoms p.0) (Err (Reading (AtomMissing site.rule (before + count + 1))))
    (and_then (onward_at text p.1) (λ q. Ok (p.0, q.0, q.1)))))

-- the atoms of a list so far, and whether another follows, and where
pub record Listed : Type 0 where
  pub atoms : List ℕ
  pub more : Bool
  pub next : ℕ

-- no atom is read
abbrev pub no_atom : Bool × ℕ → Listed
no_atom q = record { atoms = []; more = q.0; next = q.1 }

-- one more atom
abbrev pub extended : Listed → ℕ × Bool × ℕ → Listed
extended l p = record { atoms = l.atoms ++ (p.0 ∷ []); more = p.1; next = p.2 }

-- one more atom of a list, if one follows
abbrev pub one_literal : List ℕ → Site → ℕ → Listed → Result Listed Fault
one_literal text site before l =
    cond l.more
    (and_then (literal_at text site before (length l.atoms) l.next) (λ p. Ok (extended l p)))
    (Ok l)

-- the atoms of a list, which are six at most; a seventh is refused
unfoldable pub body_at : List ℕ → Site → ℕ → ℕ → Result (List ℕ × ℕ) Fault
body_at text site before at =
    and_then (open_at text at)
    (λ q. and_then (tries (one_literal text site before) (no_atom q) 7)
    (λ l. Ok (l.atoms, l.next)))

-- the head of a rule
abbrev pub head_at : List ℕ → Site → ℕ → Result (ℕ × ℕ) Fault
head_at text site at =
    and_then (number_at text at 4294967295)
    (λ p. cond (nat_le site.atoms p.0) (Err (Reading (AtomMissing site.rule 0))) (Ok p))

-- head, positives and negatives, each after a space
unfoldable pub rule_at : List ℕ → Site → ℕ → Result (Rule × ℕ) Fault
rule_at text site at =
    and_then (pass_at 32 text at)
    (λ a. and_then (head_at text site a)
    (λ h. and_then (pass_at 32 text h.1)
    (λ b. and_then (body_at text site 0 b)
    (λ p. and_then (pass_at 32 text p.1)
    (λ c. and_then (body_at text site (length p.0) c)
    (λ n. Ok (record { head = h.0; positives = p.0; negatives = n.0 }, n.1)))))))
