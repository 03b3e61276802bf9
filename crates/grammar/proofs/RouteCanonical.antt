-- A route's mask is the rising list of its aisles, and its one canonical text is that of the list.
use Rattle.std.proofs.Common.{◌≡◌, ℕ, zero, suc, ◌+◌, ◌-◌, ◌*◌, ◌/◌, ◌%◌, ◌^◌, ◌<◌, ◌≤◌, cond, eqb, ◌⊎◌, List, [], ◌∷◌, ◌++◌, decimal, sym, refl, ap, ◌∙◌, subst, inl, inr, mod-eq_of_lt, one-mul, pow-suc, add-one, arith}
use native.Mathlib.Nat.{mod-one}
use lib.Bits.{bit_or, or_shifted_r}
use Rattle.std.proofs.lemmas.Nat.{pow_pos, mod-pow-add, mod_below}
use Rattle.std.proofs.ByRecursion.{All-push, All-weaker}
use Rattle.std.proofs.lemmas.List.{append_assoc, append-nil}
use Rattle.std.proofs.lemmas.Bool.{cases_eq, ne_eqb, cond-false}
use Rattle.std.specs.List.{AllByRecursion}
use Rattle.stamps.specs.declared.route.Route.{Route}
use Rattle.text.specs.Spelt.{up_to, space, opening, shutting, list_text, aisle_text, route_text}
use Rattle.grammar.specs.Pieces.{kept, plain, Listed}
use Rattle.grammar.specs.Stamps.{RisingFrom, with_aisles, RouteSpelt}
use Rattle.grammar.proofs.PiecesCanonical.{after_first, spaced_text, list_text_lem, list_canonical, list_unique}
use Rattle.grammar.proofs.Degrees.{list_within}
use Rattle.std.proofs.lemmas.Bool.Decides.{nat_tests}

-- a rising list of numbers below n, and the mask of its aisles
data Marked : ℕ → List ℕ → ℕ → Type 0 where
  none : Marked 0 [] 0
  without : {n : ℕ} {ks : List ℕ} {m : ℕ} → Marked n ks m → Marked (suc n) ks m
  having : {n : ℕ} {ks : List ℕ} {m : ℕ} → Marked n ks m → Marked (suc n) (ks ++ (n ∷ [])) (m + 2 ^ n)

marked_below : {n : ℕ} {ks : List ℕ} {m : ℕ} → Marked n ks m → m < 2 ^ n
marked_below none = omega arith
marked_below (without {n} h) = omega (arith, marked_below h, pow-suc 2 n)
marked_below (having {n} h) = omega (arith, marked_below h, pow-suc 2 n)

-- an aisle above the others adds its power
or_above : (m n : ℕ) → m < 2 ^ n → bit_or m (2 ^ n) ≡ m + 2 ^ n
or_above m n h = ap (bit_or m) (sym (one-mul (2 ^ n))) ∙ or_shifted_r 1 n m h ∙ omega arith

with_last : (mask : ℕ) (ks : List ℕ) (k : ℕ) → with_aisles mask (ks ++ (k ∷ [])) ≡ bit_or (with_aisles mask ks) (2 ^ k)
with_last mask [] k = refl
with_last mask (x ∷ ks) k = with_last (bit_or mask (2 ^ x)) ks k

marked_mask : {n : ℕ} {ks : List ℕ} {m : ℕ} → Marked n ks m → m ≡ with_aisles 0 ks
marked_mask none = refl
marked_mask (without h) = marked_mask h
marked_mask (having {n} {ks} {m} h) =
    sym (or_above m n (marked_below h)) ∙ ap (λ a. bit_or a (2 ^ n)) (marked_mask h) ∙ sym (with_last 0 ks n)

rising_last : (least : ℕ) (ks : List ℕ) (n : ℕ) → RisingFrom least ks → AllByRecursion (λ k. k < n) ks → least ≤ n → RisingFrom least (ks ++ (n ∷ []))
rising_last least [] n r b l = (l, tt)
rising_last least (k ∷ ks) n r b l = (r.0, rising_last (k + 1) ks n r.1 b.1 (omega (arith, b.0)))

marked_all : {n : ℕ} {ks : List ℕ} {m : ℕ} → Marked n ks m → AllByRecursion (λ k. k < n) ks
marked_all none = tt
marked_all (without {n} {ks} h) = All-weaker (λ k. k < n) (λ k. k < suc n) (λ k l. omega arith) ks (marked_all h)
marked_all (having {n} {ks} h) =
    All-push (λ k. k < suc n) ks n (All-weaker (λ k. k < n) (λ k. k < suc n) (λ k l. omega arith) ks (marked_all h)) (omega arith)

marked_rising : {n : ℕ} {ks : List ℕ} {m : ℕ} → Marked n ks m → RisingFrom 0 ks
marked_rising none = tt
marked_rising (without h) = marked_rising h
marked_rising (having {n} {ks} h) = rising_last 0 ks n (marked_rising h) (marked_all h) (omega arith)

-- no aisle is added between the last one and a bound
marked_wider : (more : ℕ) {n : ℕ} {ks : List ℕ} {m : ℕ} → Marked n ks m → Marked (more + n) ks m
marked_wider zero {n} {ks} {m} h = subst (λ a. Marked a ks m) (omega arith) h
marked_wider (suc more) {n} {ks} {m} h = subst (λ a. Marked a ks m) (omega arith) (without (marked_wider more h))

marked_up_to : {n : ℕ} {ks : List ℕ} {m : ℕ} (bound : ℕ) → n ≤ bound → Marked n ks m → Marked bound ks m
marked_up_to {n} {ks} {m} bound l h = subst (λ a. Marked a ks m) (omega arith) (marked_wider (bound - n) h)

-- a rising list is marked by the mask of its aisles
marked_on : (bound : ℕ) (more : List ℕ) (n : ℕ) (ks : List ℕ) (m : ℕ) → n ≤ bound → Marked n ks m → RisingFrom n more → AllByRecursion (λ k. k < bound) more → Marked bound (ks ++ more) (with_aisles m more)
marked_on bound [] n ks m l h r b = subst (λ t. Marked bound t m) (sym (append-nil ks)) (marked_up_to bound l h)
marked_on bound (k ∷ more) n ks m l h r b =
    let at = marked_up_to k r.0 h in
    let next : Marked (k + 1) (ks ++ (k ∷ [])) (bit_or m (2 ^ k)) = rw (add-one k, or_above m k (marked_below at)) (having at) in
    subst (λ t. Marked bound t (with_aisles (bit_or m (2 ^ k)) more)) (append_assoc ks (k ∷ []) more)
    (marked_on bound more (k + 1) (ks ++ (k ∷ [])) (bit_or m (2 ^ k)) (omega (arith, b.0)) next r.1 b.1)

-- what stands before an aisle after these
abbrev lead : List ℕ → List ℕ
lead [] = []
lead (k ∷ ks) = space

after_last : (ks : List ℕ) (n : ℕ) → after_first (ks ++ (n ∷ [])) ≡ after_first ks ++ (space ++ decimal n)
after_last [] n = ap (λ t. space ++ t) (append-nil (decimal n))
after_last (k ∷ ks) n =
    ap (λ t. space ++ (decimal k ++ t)) (after_last ks n) ∙ ap (λ t. space ++ t) (sym (append_assoc (decimal k) (after_first ks) (space ++ decimal n)))

spaced_last : (ks : List ℕ) (n : ℕ) → spaced_text (ks ++ (n ∷ [])) ≡ spaced_text ks ++ (lead ks ++ decimal n)
spaced_last [] n = append-nil (decimal n)
spaced_last (k ∷ ks) n = ap (λ t. decimal k ++ t) (after_last ks n) ∙ sym (append_assoc (decimal k) (after_first ks) (space ++ decimal n))

lead_last : (ks : List ℕ) (n : ℕ) → lead (ks ++ (n ∷ [])) ≡ space
lead_last [] n = refl
lead_last (k ∷ ks) n = refl

marked_lead : {n : ℕ} {ks : List ℕ} {m : ℕ} → Marked n ks m → cond (eqb m 0) [] space ≡ lead ks
marked_lead none = refl
marked_lead (without h) = marked_lead h
marked_lead (having {n} {ks} {m} h) = cond-false _ _ _ (ne_eqb (m + 2 ^ n) 0 (λ e. omega (arith, pow_pos n))) ∙ sym (lead_last ks n)

-- a mask's bit n, and the bits below it
module _ (mask n : ℕ) where
  abbrev bit : ℕ
  bit = mask / 2 ^ n % 2

  below : mask % 2 ^ n < 2 ^ n
  below = mod_below mask (2 ^ n) (pow_pos n)

  split : mask % 2 ^ suc n ≡ bit * 2 ^ n + mask % 2 ^ n
  split = ap (λ a. mask % 2 ^ a) (omega arith) ∙ mod-pow-add mask 1 n

  off : bit ≡ 0 → mask % 2 ^ suc n ≡ mask % 2 ^ n
  off e = split ∙ ap (λ b. b * 2 ^ n + mask % 2 ^ n) e ∙ omega arith

  on : bit ≡ 1 → mask % 2 ^ suc n ≡ mask % 2 ^ n + 2 ^ n
  on e = split ∙ ap (λ b. b * 2 ^ n + mask % 2 ^ n) e ∙ omega arith

  bit_cases : (bit ≡ 0) ⊎ (bit ≡ 1)
  bit_cases = elim (cases_eq bit 1) [ inl e ↦ inr e | inr other ↦ inl (omega arith) ]

  was_off : (m : ℕ) → m < 2 ^ n → mask % 2 ^ suc n ≡ m → (bit ≡ 0) × (mask % 2 ^ n ≡ m)
  was_off m l e = elim bit_cases [ inl z ↦ (z, sym (off z) ∙ e) | inr o ↦ absurd (omega (arith, on o)) ]

  was_on : (m : ℕ) → mask % 2 ^ suc n ≡ m + 2 ^ n → (bit ≡ 1) × (mask % 2 ^ n ≡ m)
  was_on m e = elim bit_cases [ inl z ↦ absurd (omega (arith, off z, below)) | inr o ↦ (o, omega (arith, on o)) ]

  not_there : bit ≡ 0 → aisle_text mask n ≡ []
  not_there z = grind (arith, nat_tests)

  there : bit ≡ 1 → aisle_text mask n ≡ cond (eqb (mask % 2 ^ n) 0) [] space ++ decimal n
  there o = grind (arith, nat_tests)

marked_text : {n : ℕ} {ks : List ℕ} {m : ℕ} → Marked n ks m → (mask : ℕ) → mask % 2 ^ n ≡ m → up_to (aisle_text mask) n ≡ spaced_text ks
unfolding up_to
marked_text none mask e = refl
marked_text (without {n} {ks} {m} h) mask e =
    let was = was_off mask n m (marked_below h) e in
    ap (λ t. t ++ aisle_text mask n) (marked_text h mask was.1) ∙ ap (λ t. spaced_text ks ++ t) (not_there mask n was.0) ∙ append-nil (spaced_text ks)
marked_text (having {n} {ks} {m} h) mask e =
    let was = was_on mask n m e in
    ap (λ t. t ++ aisle_text mask n) (marked_text h mask was.1)
    ∙ ap (λ t. spaced_text ks ++ t) (there mask n was.0 ∙ ap (λ a. cond (eqb a 0) [] space ++ decimal n) was.1 ∙ ap (λ t. t ++ decimal n) (marked_lead h))
    ∙ sym (spaced_last ks n)

-- the aisles below n of a mask
marks : (mask n : ℕ) → (ks : List ℕ) × Marked n ks (mask % 2 ^ n)
marks mask zero = ([], subst (Marked 0 []) (sym (mod-one mask)) none)
marks mask (suc n) =
    let (ks, h) = marks mask n in
    elim (bit_cases mask n) [
      | inl z ↦ (ks, subst (Marked (suc n) ks) (sym (off mask n z)) (without h))
      | inr o ↦ (ks ++ (n ∷ []), subst (Marked (suc n) (ks ++ (n ∷ []))) (sym (on mask n o)) (having h))
    ]

within_64 : (ks : List ℕ) → AllByRecursion (λ k. k ≤ 63) ks → AllByRecursion (λ k. k < 64) ks
within_64 ks b = All-weaker (λ k. k ≤ 63) (λ k. k < 64) (λ k l. omega arith) ks b

rising_marked : (ks : List ℕ) → RisingFrom 0 ks → AllByRecursion (λ k. k ≤ 63) ks → Marked 64 ks (with_aisles 0 ks)
rising_marked ks r b = marked_on 64 ks 0 [] 0 (omega arith) none r (within_64 ks b)

-- a mask is that of its aisles
route_aisles : (mask : ℕ) → mask < 2 ^ 64 → (ks : List ℕ) × RisingFrom 0 ks × AllByRecursion (λ k. k ≤ 63) ks × (mask ≡ with_aisles 0 ks)
route_aisles mask l =
    let (ks, h) = marks mask 64 in
    (ks, marked_rising h, All-weaker (λ k. k < 64) (λ k. k ≤ 63) (λ k b. omega arith) ks (marked_all h), sym (mod-eq_of_lt l) ∙ marked_mask h)

-- the mask of aisles fits
aisles_fit : (ks : List ℕ) → RisingFrom 0 ks → AllByRecursion (λ k. k ≤ 63) ks → with_aisles 0 ks < 2 ^ 64
aisles_fit ks r b = marked_below (rising_marked ks r b)

-- the text that is written of the mask of rising aisles is that of their list
route_text_lem : (ks : List ℕ) → RisingFrom 0 ks → AllByRecursion (λ k. k ≤ 63) ks → route_text (record { aisles = with_aisles 0 ks }) ≡ list_text ks
route_text_lem ks r b =
    let h = rising_marked ks r b in
    ap (λ t. opening ++ (t ++ shutting)) (marked_text h (with_aisles 0 ks) (mod-eq_of_lt (marked_below h))) ∙ sym (list_text_lem ks)

-- the same of any route with that mask
route_text_of : (r : Route) (ks : List ℕ) → r.aisles ≡ with_aisles 0 ks → RisingFrom 0 ks → AllByRecursion (λ k. k ≤ 63) ks → route_text r ≡ list_text ks
route_text_of r ks e rising b = ap (λ a. opening ++ up_to (aisle_text a) 64 ++ shutting) e ∙ route_text_lem ks rising b

-- the text that is written of a route spells it, with no leading zeros
pub route_canonical : (r : Route) → r.aisles < 2 ^ 64 → RouteSpelt plain r (route_text r)
route_canonical r l =
    let (ks, rising, b, means) = route_aisles r.aisles l in
    record {
      aisles = ks;
      listed = subst (Listed plain 63 ks) (sym (route_text_of r ks means rising b)) (list_canonical 63 ks (omega arith) b);
      rising = rising;
      means = means;
    }

-- and no other text does
pub route_unique : (r : Route) (text : List ℕ) → RouteSpelt plain r text → text ≡ route_text r
route_unique r text h =
    list_unique 63 h.aisles text h.listed
    ∙ sym (route_text_of r h.aisles h.means h.rising (list_within plain 63 h.aisles text h.listed))

-- a route that is read fits
pub route_fits : (r : Route) (text : List ℕ) → RouteSpelt kept r text → r.aisles < 2 ^ 64
route_fits r text h = subst (λ a. a < 2 ^ 64) (sym h.means) (aisles_fit h.aisles h.rising (list_within kept 63 h.aisles text h.listed))
