-- Rules that a text keeps, by its care; a text of one degree of care is one of another.
use Rattle.std.proofs.Common.{ℕ, ◌+◌, ◌≤◌, List, [], ◌∷◌, length, Some, None, Option}
use Rattle.std.specs.List.{AllByRecursion}
use Rattle.books.specs.Meaning.{Rule, Atom, Meaning}
use Rattle.stamps.specs.declared.route.Route.{Route}
use Rattle.stamps.specs.declared.then.Then.{Then}
use Rattle.stamps.specs.declared.tick.Tick.{Tick}
use Rattle.grammar.specs.Grammar.{Numbered, Declared, Body, RuleForm, AtomForms, RuleForms}
use Rattle.grammar.specs.Pieces.{Care, shape, kept, plain, Kept, Plainly, largest, Numeral, Spaced, Listed}
use Rattle.grammar.specs.Stamps.{TickSpelt, PairSpelt, RouteSpelt}
use Rattle.grammar.proofs.PieceByPiece.{under, followed_map}
use Rattle.grammar.specs.Notations.{Notation}
use Rattle.grammar.specs.Theorems.{SpeltBy}

-- a rule that follows from one that is kept
pub kept_map : {P Q : Type 0} (c : Care) → (P → Q) → Kept c P → Kept c Q
kept_map shape f h = tt
kept_map kept f h = f h
kept_map plain f h = f h

-- a rule that holds is kept
pub kept_fact : (P : Type 0) (c : Care) → P → Kept c P
kept_fact P shape p = tt
kept_fact P kept p = p
kept_fact P plain p = p

-- two rules that are kept
pub kept_both : (P Q : Type 0) (c : Care) → Kept c P → Kept c Q → Kept c (P × Q)
kept_both P Q shape p q = tt
kept_both P Q kept p q = (p, q)
kept_both P Q plain p q = (p, q)

-- three rules that are kept
pub kept_three : (P Q R : Type 0) (c : Care) → Kept c P → Kept c Q → Kept c R → Kept c (P × Q × R)
kept_three P Q R shape p q r = tt
kept_three P Q R kept p q r = (p, q, r)
kept_three P Q R plain p q r = (p, q, r)

spaced_within : (c : Care) (limit : ℕ) (ns text : List ℕ) → Spaced c limit ns text → Kept c (AllByRecursion (λ n. n ≤ limit) ns)
spaced_within c limit [] text h = kept_fact (Unit {0}) c tt
spaced_within c limit (n ∷ []) text h = kept_both (n ≤ limit) (Unit {0}) c h.within (kept_fact (Unit {0}) c tt)
spaced_within c limit (n ∷ m ∷ ns) text h =
    kept_both (n ≤ limit) (AllByRecursion (λ n. n ≤ limit) (m ∷ ns)) c h.first.within (spaced_within c limit (m ∷ ns) h.second.back h.second.second)

-- the numbers of a list are within its limit
pub list_within : (c : Care) (limit : ℕ) (ns text : List ℕ) → Listed c limit ns text → Kept c (AllByRecursion (λ n. n ≤ limit) ns)
list_within c limit ns text h = spaced_within c limit ns h.second.front h.second.first

-- what one degree keeps of a rule, the other keeps
pub record Eases (c d : Care) : Type 1 where
  pub kept : (P : Type 0) → Kept c P → Kept d P
  pub plainly : (P : Type 0) → Plainly c P → Plainly d P

-- a text with no leading zero keeps every rule
pub plain_to_kept : Eases plain kept
plain_to_kept = record { kept = λ P h. h; plainly = λ P h. tt }

-- whatever a text keeps, it has the shape
pub to_shape : (c : Care) → Eases c shape
to_shape c = record { kept = λ P h. tt; plainly = λ P h. tt }

-- each degree keeps what it keeps
pub as_it_is : (c : Care) → Eases c c
as_it_is c = record { kept = λ P h. h; plainly = λ P h. h }

-- a piece of the one degree is a piece of the other
module _ {c d : Care} (e : Eases c d) where
  -- a number, at any limit that it is within
  numeral_under : (limit other n : ℕ) (text : List ℕ) → Kept d (n ≤ other) → Numeral c limit n text → Numeral d other n text
  numeral_under limit other n text k h = record { digits = h.digits; some = h.some; few = h.few; means = h.means; within = k; plainly = e.plainly _ h.plainly }

  -- a number, at its own limit
  pub numeral_eased : (limit n : ℕ) (text : List ℕ) → Numeral c limit n text → Numeral d limit n text
  numeral_eased limit n text h = numeral_under limit limit n text (e.kept _ h.within) h

  spaced_under : (limit other : ℕ) (ns text : List ℕ) → Kept d (AllByRecursion (λ n. n ≤ other) ns) → Spaced c limit ns text → Spaced d other ns text
  spaced_under limit other [] text k h = h
  spaced_under limit other (n ∷ []) text k h = numeral_under limit other n text (kept_map d (λ a. a.0) k) h
  spaced_under limit other (n ∷ m ∷ ns) text k h =
      followed_map (λ t. numeral_under limit other n t (kept_map d (λ a. a.0) k))
      (λ t. under (λ u. spaced_under limit other (m ∷ ns) u (kept_map d (λ a. a.1) k))) h

  -- the numbers of a list
  pub spaced_eased : (limit : ℕ) (ns text : List ℕ) → Spaced c limit ns text → Spaced d limit ns text
  spaced_eased limit ns text h = spaced_under limit limit ns text (e.kept _ (spaced_within c limit ns text h)) h

  -- a list, at any limit that its numbers are within
  pub list_under : (limit other : ℕ) (ns text : List ℕ) → Kept d (AllByRecursion (λ n. n ≤ other) ns) → Listed c limit ns text → Listed d other ns text
  list_under limit other ns text k h = under (λ t. followed_map (λ u. spaced_under limit other ns u k) (λ u w. w)) h

  list_eased : (limit : ℕ) (ns text : List ℕ) → Listed c limit ns text → Listed d limit ns text
  list_eased limit ns text h = list_under limit limit ns text (e.kept _ (list_within c limit ns text h)) h

  -- a tick
  pub tick_eased : (t : Tick) (text : List ℕ) → TickSpelt c t text → TickSpelt d t text
  tick_eased t text h = numeral_eased largest t.0 text h

  -- a pair of ticks
  pub pair_eased : (p : Then Tick Tick) (text : List ℕ) → PairSpelt c p text → PairSpelt d p text
  pair_eased p text h =
      under
      (λ t. followed_map (tick_eased p.first)
      (λ t. under (λ t. followed_map (tick_eased p.second) (λ u w. w)))) h

  -- a route
  pub route_eased : (r : Route) (text : List ℕ) → RouteSpelt c r text → RouteSpelt d r text
  route_eased r text h = record { aisles = h.aisles; listed = list_eased 63 h.aisles text h.listed; rising = e.kept _ h.rising; means = h.means }

  numbered_eased : (k : ℕ) (text : List ℕ) → Numbered c k text → Numbered d k text
  numbered_eased k text h = record { number = h.number; spelt = numeral_eased largest h.number text h.spelt; next = e.kept _ h.next }

  declared_eased : (atoms n : ℕ) (text : List ℕ) → Declared c atoms n text → Declared d atoms n text
  declared_eased atoms n text h = record { spelt = numeral_eased largest n text h.spelt; declared = e.kept _ h.declared }

  body_eased : (atoms : ℕ) (ns text : List ℕ) → Body c atoms ns text → Body d atoms ns text
  body_eased atoms ns text h = record { listed = list_eased largest ns text h.listed; few = e.kept _ h.few; declared = e.kept _ h.declared }

  rule_eased : (atoms k : ℕ) (o : Option Rule) (text : List ℕ) → RuleForm c atoms k o text → RuleForm d atoms k o text
  rule_eased atoms k None text h = under (λ t. followed_map (numbered_eased k) (λ u w. w)) h
  rule_eased atoms k (Some r) text h =
      under
      (λ t. followed_map (numbered_eased k)
      (λ t. under
      (λ t. followed_map (declared_eased atoms r.head)
      (λ t. under
      (λ t. followed_map (body_eased atoms r.positives)
      (λ t. under
      (λ t. followed_map (body_eased atoms r.negatives) (λ u w. w)))))))) h

  rules_eased : (atoms k : ℕ) (os : List (Option Rule)) (text : List ℕ) → RuleForms c atoms k os text → RuleForms d atoms k os text
  rules_eased atoms k [] text h = h
  rules_eased atoms k (o ∷ os) text h = followed_map (rule_eased atoms k o) (rules_eased atoms (k + 1) os) h

  module _ {S : Type 0} (n : Notation S) (stamp_eased : (s : S) (text : List ℕ) → n.spells c s text → n.spells d s text) where
    atoms_eased : (i : ℕ) (xs : List (Atom S)) (text : List ℕ) → AtomForms n.spells c i xs text → AtomForms n.spells d i xs text
    atoms_eased i [] text h = h
    atoms_eased i (a ∷ xs) text h =
        followed_map
        (λ t. under
        (λ t. followed_map (numbered_eased i)
        (λ t. under (λ t. followed_map (stamp_eased a.stamp) (λ u w. w)))))
        (atoms_eased (i + 1) xs) h

    -- the text of a book, where it is so of the stamps
    pub book_eased : (m : Meaning S) (text : List ℕ) → SpeltBy n c m text → SpeltBy n d m text
    book_eased m text h =
        under
        (λ t. followed_map (atoms_eased 0 m.atoms)
        (λ t. followed_map (rules_eased (length m.atoms) 0 m.rules) (λ u w. w))) h
