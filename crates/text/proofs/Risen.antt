-- The aisles of a route, one after another.
use Rattle.std.proofs.Common.{◌≡◌, ℕ, ◌+◌, ◌^◌, ◌<◌, ◌≤◌, Bool, true, false, List, Ok, Err, bit_or, sym, refl, ◌∙◌, arith}
use Rattle.std.proofs.lemmas.Bool.{lt-ltb, le-ltb}
use Rattle.books.specs.declared.fault.ReadFault.TheVariants.{NotRising}
use Rattle.books.specs.declared.fault.Fault.{Fault}
use Rattle.books.specs.declared.fault.Fault.TheVariants.{Reading}
use Rattle.text.specs.Bytes.{and_then}
use Rattle.text.specs.Lists.{open_at, onward_at}
use Rattle.text.specs.Numbers.{number_at}
use Rattle.text.specs.Stamps.{Aisles, one_aisle, no_aisle, aisles_at, route_at}
use Rattle.text.specs.Turns.{tries}
use Rattle.text.proofs.Turned.{turns_none, tries_more, tries_end, tries_refused}

-- so many aisles are read, each above those before it
pub record Risen (text : List ℕ) (start : Bool × ℕ) (s : Aisles) : Type 0 where
  pub turns : ℕ
  pub below : turns ≤ s.least
  pub few : s.least ≤ 64
  pub read : Ok s ≡ tries (one_aisle text) (no_aisle start) turns

pub risen_none : (text : List ℕ) (start : Bool × ℕ) → Risen text start (no_aisle start)
risen_none text start =
    record { turns = 0; below = omega arith; few = omega arith; read = sym (turns_none (λ r. and_then r (one_aisle text)) (Ok (no_aisle start))) }

-- one turn
module _ (text : List ℕ) (s : Aisles) (more : s.more ≡ true) where
  pub number_refused : (e : Fault) → Err e ≡ number_at text s.next 63 → Err e ≡ one_aisle text s
  number_refused e h = rw (more, ← h) refl

  module _ (aisle after : ℕ) (h : Ok (aisle, after) ≡ number_at text s.next 63) where
    pub not_rising : aisle < s.least → Err (Reading (NotRising s.next)) ≡ one_aisle text s
    not_rising l = rw (more, ← h, lt-ltb aisle s.least l) refl

    pub onward_refused : s.least ≤ aisle → (e : Fault) → Err e ≡ onward_at text after → Err e ≡ one_aisle text s
    onward_refused l e k = rw (more, ← h, le-ltb aisle s.least l, ← k) refl

    risen : s.least ≤ aisle → (p : Bool × ℕ) → Ok p ≡ onward_at text after → one_aisle text s ≡ Ok (record { aisles = bit_or s.aisles (2 ^ aisle); least = aisle + 1; more = p.0; next = p.1 })
    risen l p k = rw (more, ← h, le-ltb aisle s.least l, ← k) refl

    pub risen_more : {start : Bool × ℕ} → Risen text start s → s.least ≤ aisle → aisle ≤ 63 → (p : Bool × ℕ) → Ok p ≡ onward_at text after → (bit : ℕ) → bit ≡ 2 ^ aisle → Risen text start (record { aisles = bit_or s.aisles bit; least = aisle + 1; more = p.0; next = p.1 })
    risen_more {start} r l few p k bit e =
        rw e
        (record {
          turns = r.turns + 1;
          below = let b = r.below in omega arith;
          few = omega arith;
          read = sym (risen l p k) ∙ tries_more (one_aisle text) (no_aisle start) r.turns s r.read;
        })

module _ (text : List ℕ) (at : ℕ) (start : Bool × ℕ) (opened : Ok start ≡ open_at text at) (s : Aisles) (r : Risen text start s) where
  pub route_refused : (e : Fault) → Err e ≡ one_aisle text s → Err e ≡ route_at text at
  unfolding aisles_at
  route_refused e h =
      let few = r.few in
      let below = r.below in
      rw (← opened, ← tries_refused (one_aisle text) (no_aisle start) r.turns 65 s e r.read h (omega arith)) refl

  -- where no aisle follows, the route is read
  pub route_read : s.more ≡ false → Ok (record { aisles = s.aisles }, s.next) ≡ route_at text at
  unfolding aisles_at
  route_read m =
      let few = r.few in
      let below = r.below in
      let stays : one_aisle text s ≡ Ok s = rw m refl in
      rw (← opened, ← tries_end (one_aisle text) (no_aisle start) s r.turns 65 stays r.read (omega arith)) refl
