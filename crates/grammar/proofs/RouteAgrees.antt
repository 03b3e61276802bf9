-- Routes agree with their grammar.
use Rattle.std.proofs.Common.{◌≡◌, ℕ, ◌+◌, ◌^◌, ◌<◌, ◌≤◌, Bool, true, cond, ltb, List, [], ◌∷◌, Ok, Err, Result, sym, refl, ap, ◌∙◌, inl, inr, arith}
use lib.Bits.{bit_or}
use Rattle.std.proofs.lemmas.Bool.{cases_lt, lt-ltb, le-ltb, ltb-false}
use Rattle.std.specs.List.{AllByRecursion}
use Rattle.books.specs.declared.fault.ReadFault.TheVariants.{Number, NotRising}
use Rattle.books.specs.declared.fault.Fault.{Fault}
use Rattle.books.specs.declared.fault.Fault.TheVariants.{Reading}
use Rattle.stamps.specs.declared.route.Route.{Route}
use Rattle.text.specs.Bytes.{and_then}
use Rattle.text.specs.Lists.{open_at, onward_at}
use Rattle.text.specs.Numbers.{number_at}
use Rattle.text.specs.Stamps.{Aisles, one_aisle, aisles_at, route_at}
use Rattle.grammar.specs.Pieces.{Care}
use Rattle.grammar.specs.Stamps.{RouteSpelt, RisingFrom, with_aisles}
use Rattle.grammar.specs.Agreement.{Agrees}
use Rattle.grammar.proofs.AgreeCombined.{Any, Via, then_then, agrees_same, agrees_as, agrees_then, agrees_done, then_same}
use Rattle.grammar.proofs.PieceByPiece.{ended, unended}
use Rattle.grammar.proofs.Degrees.{kept_map, kept_both, list_under, as_it_is, list_within}
use Rattle.grammar.proofs.ListAgrees.{Walk, Ends, adds, Passes, Bracketed, listed, list_same, list_agrees, turned}
use Rattle.grammar.proofs.NumberAgrees.{number_limited, unlimited}
use Rattle.std.proofs.ByRecursion.{All-weaker}

-- the mask so far, and the least aisle that may follow
abbrev State : Type 0
State = ℕ × ℕ

-- an aisle over the last is refused, and one that does not rise
abbrev walk : Walk State
walk =
    record {
      limit = unlimited;
      add = λ s v. (bit_or s.0 (2 ^ v), v + 1);
      first = λ s v. ltb 63 v;
      second = λ s v. ltb v s.1;
      first_fault = λ at s v. Reading (Number at);
      second_fault = λ at s v. Reading (NotRising at);
    }

-- of rising aisles up to 63, so many turns are enough
abbrev Enough : ℕ → State → Type 0
Enough n s = 65 ≤ s.1 + n

abbrev ends : Ends walk
ends =
    record {
      first_named = λ at s v. tt;
      second_named = λ at s v. tt;
      Enough = Enough;
      next = λ n s v e h. omega (arith, h, ltb-false v s.1 e);
      last = λ s v h.
          elim (cases_lt 63 v) [
            | inl high ↦ inl (lt-ltb 63 v high)
            | inr low ↦ let below : v < s.1 = omega (arith, h, low) in inr (lt-ltb v s.1 below)
          ];
    }

module _ (text : List ℕ) where
  abbrev state : State → Bool → ℕ → Aisles
  state s more at = record { aisles = s.0; least = s.1; more = more; next = at }

  abbrev shown : Aisles → State × ℕ
  shown a = ((a.aisles, a.least), a.next)

  -- the second test, and what follows
  abbrev risen : State → ℕ → ℕ × ℕ → Result Aisles Fault
  risen s at p = cond (ltb p.0 s.1) (Err (walk.second_fault at s p.0)) (and_then (onward_at text p.1) (λ q. Ok (state (walk.add s p.0) q.0 q.1)))

  -- a turn is a number, the two tests, and what follows it
  one_step : (s : State) (at : ℕ) → one_aisle text (state s true at) ≡ and_then (number_at text at unlimited) (turned walk state text s at)
  one_step s at =
      ap (λ r. and_then r (risen s at)) (number_limited text at 63)
      ∙ then_then (number_at text at unlimited) (λ q. cond (ltb 63 q.0) (Err (Reading (Number at))) (Ok q)) (risen s at)
      ∙ then_same (number_at text at unlimited) _ _ (λ p. grind arith)

abbrev route : State → Route
route s = record { aisles = s.0 }

route_same : (text : List ℕ) (at : ℕ) → and_then (listed walk 64 (0, 0) text at) (λ p. Ok (route p.0, p.1)) ≡ route_at text at
unfolding aisles_at
route_same text at =
    ap (λ r. and_then r (λ p. Ok (route p.0, p.1))) (list_same walk text (one_aisle text) (state text) (shown text) (λ s more at. refl) (λ s at. refl) (one_step text) 64 (0, 0) at)
    ∙ then_then (open_at text at) (λ q. and_then (aisles_at text q) (λ a. Ok (shown text a))) (λ p. Ok (route p.0, p.1))
    ∙ then_same (open_at text at) _ _ (λ q. then_then (aisles_at text q) (λ a. Ok (shown text a)) (λ p. Ok (route p.0, p.1)))

abbrev Pass : State → List ℕ → Type 0
Pass = Passes walk

pass_high : (s : State) (ks : List ℕ) → Pass s ks → AllByRecursion (λ k. k ≤ 63) ks
pass_high s [] h = tt
pass_high s (k ∷ ks) h = (ltb-false 63 k h.0, pass_high (walk.add s k) ks h.2)

pass_rising : (s : State) (ks : List ℕ) → Pass s ks → RisingFrom s.1 ks
pass_rising s [] h = tt
pass_rising s (k ∷ ks) h = (ltb-false k s.1 h.1, pass_rising (walk.add s k) ks h.2)

passes : (s : State) (ks : List ℕ) → AllByRecursion (λ k. k ≤ 63) ks → RisingFrom s.1 ks → Pass s ks
passes s [] a r = tt
passes s (k ∷ ks) a r = (le-ltb 63 k a.0, le-ltb k s.1 r.0, passes (walk.add s k) ks a.1 r.1)

-- the mask of the aisles added one by one
adds_mask : (s : State) (ks : List ℕ) → (adds walk s ks).0 ≡ with_aisles s.0 ks
adds_mask s [] = refl
adds_mask s (k ∷ ks) = adds_mask (walk.add s k) ks

abbrev Aisling : Care → State → List ℕ → Type 0
Aisling c t text = Bracketed walk c (0, 0) t text

abbrev Routed : State → Care → Route → List ℕ → Type 0
Routed t c r piece = (r ≡ route t) × (piece ≡ [])

-- reading a route is reading the rising list of its aisles
pub route_agrees : Agrees route_at RouteSpelt Any
route_agrees =
    agrees_same route_same
    (agrees_as to from
    (agrees_then
    (list_agrees walk ends 64 (0, 0) (omega arith))
    (λ at t. agrees_done (route t)) (λ c t r piece rest g s. tt)))
  where
    to : (c : Care) (r : Route) (text : List ℕ) → Via Aisling Routed c r text → RouteSpelt c r text
    to c r text v =
        let b = ended v.parts in
        let ks = b.numbers in
        let mask : r.aisles ≡ with_aisles 0 ks = ap (λ (x : Route). x.aisles) v.parts.second.0 ∙ ap (λ (x : State). x.0) b.means ∙ adds_mask (0, 0) ks in
        record {
          aisles = ks;
          listed = list_under (as_it_is c) unlimited 63 ks text (kept_map c (pass_high (0, 0) ks) b.passes) b.spelt;
          rising = kept_map c (pass_rising (0, 0) ks) b.passes;
          means = mask;
        }

    from : (c : Care) (r : Route) (text : List ℕ) → RouteSpelt c r text → Via Aisling Routed c r text
    from c r text s =
        let ks = s.aisles in
        let t = adds walk (0, 0) ks in
        let mask : r.aisles ≡ t.0 = s.means ∙ sym (adds_mask (0, 0) ks) in
        let same : r ≡ route t = ap (λ (x : ℕ). record { aisles = x }) mask in
        let low = list_within c 63 ks text s.listed in
        let b : Aisling c t text = record {
          numbers = ks;
          spelt = list_under (as_it_is c) 63 unlimited ks text (kept_map c (All-weaker (λ k. k ≤ 63) (λ k. k ≤ unlimited) (λ k l. omega arith) ks) low) s.listed;
          passes = kept_map c (λ h. passes (0, 0) ks h.0 h.1) (kept_both (AllByRecursion (λ k. k ≤ 63) ks) (RisingFrom 0 ks) c low s.rising);
          means = refl;
        } in
        record { value = t; parts = unended same b }
