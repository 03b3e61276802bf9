-- A list once for each tick, by place.
use Rattle.std.proofs.Common.{◌≡◌, ℕ, zero, suc, ◌+◌, ◌-◌, ◌*◌, ◌/◌, ◌%◌, ◌<◌, ◌≤◌, List, map, length, None, sym, ap, ◌∙◌, inl, inr, not-suc-le-zero, mul-le-mul_right, add-mul, mul-zero, zero-mul, arith, length-append}
use Rattle.std.specs.List.{slice_get}
use Rattle.std.specs.Option.{option_map}
use Rattle.std.proofs.lemmas.Nat.{div-add-mod', mod_below, div_below, mul-add-lt}
use Rattle.std.proofs.lemmas.List.{length-map}
use Rattle.std.proofs.lemmas.Option.{slice_get-map, slice_get_past, gets}
use Rattle.std.proofs.lemmas.Bool.{cases_lt}
use Rattle.std.proofs.lemmas.Bool.Decides.{nat_tests}
use Rattle.makes.specs.Repeats.{every_tick}
use Rattle.makes.proofs.Appended.{slice_get-append}

-- where a place lies below a product, there are items
some_items : (n w k : ℕ) → k < n * w → 0 < w
some_items n zero k l = absurd (omega (arith, l, mul-zero n))
some_items n (suc w) k l = omega arith

module _ {X Y : Type 0} (f : ℕ → X → Y) (xs : List X) where
  pub length-every_tick : (n : ℕ) → length (every_tick f xs n) ≡ n * length xs
  length-every_tick zero = sym (zero-mul (length xs))
  length-every_tick (suc n) = simp (length-append, length-map) (omega (arith, length-every_tick n, add-mul n 1 (length xs)))

  -- item s of tick t stands at t × W + s
  pub ticks_at : (n t s : ℕ) → t < n → s < length xs → slice_get (every_tick f xs n) (t * length xs + s) ≡ option_map (f t) (slice_get xs s)
  ticks_at zero t s l h = absurd (not-suc-le-zero l)
  ticks_at (suc n) t s l h =
      let whole = length-every_tick n in
      elim (cases_lt t n) [
        | inl below ↦
            (let inside = mul-add-lt t (length xs) s n below h in
            let earlier = ticks_at n t s below h in
            let seam = slice_get-append (every_tick f xs n) (map (f n) xs) (t * length xs + s) in
            grind (arith, nat_tests))
        | inr last ↦
            (let same : t ≡ n = omega arith in
            let rest : n * length xs + s - length (every_tick f xs n) ≡ s = omega arith in
            let seam = slice_get-append (every_tick f xs n) (map (f n) xs) (n * length xs + s) in
            rw same (grind (arith, nat_tests, slice_get-map)))
      ]

  -- place k is item k mod W of tick k div W
  pub ticks_place : (n k : ℕ) → k < n * length xs → slice_get (every_tick f xs n) k ≡ option_map (f (k / length xs)) (slice_get xs (k % length xs))
  ticks_place n k l =
      let some : 0 < length xs = some_items n (length xs) k l in
      let split : k ≡ k / length xs * length xs + k % length xs = sym (div-add-mod' k (length xs)) in
      ap (slice_get (every_tick f xs n)) split ∙ ticks_at n (k / length xs) (k % length xs) (div_below k (length xs) n some l) (mod_below k (length xs) some)

  -- there is an item for a place below the end
  pub ticks_inside : (n k : ℕ) → k < n * length xs → k % length xs < length xs
  ticks_inside n k l = mod_below k (length xs) (some_items n (length xs) k l)

  -- the tick of such a place ends by the last tick's end
  pub tick_within : (n k w : ℕ) → k < n * length xs → (k / length xs + 1) * w ≤ n * w
  tick_within n k w l =
      let below = div_below k (length xs) n (some_items n (length xs) k l) l in
      mul-le-mul_right w (omega arith)

  pub ticks_past : (n k : ℕ) → n * length xs ≤ k → slice_get (every_tick f xs n) k ≡ None
  ticks_past n k l = slice_get_past (every_tick f xs n) k (rw length-every_tick l)

pub ruleset places = (ticks_place, ticks_past, ticks_inside, tick_within, gets)

pub ruleset lengths = (length-every_tick)
