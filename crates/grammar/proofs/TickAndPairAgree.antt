-- Stamps agree with their grammar.
use Rattle.std.proofs.Common.{◌≡◌, ℕ, List, [], ◌∷◌, ◌++◌, Ok, sym, refl, ap, subst}
use Rattle.stamps.specs.declared.tick.Tick.{Tick}
use Rattle.stamps.specs.declared.then.Then.{Then}
use Rattle.text.specs.Bytes.{and_then, pass_at}
use Rattle.text.specs.Numbers.{digit_of}
use Rattle.text.specs.Stamps.{tick_at, pair_at}
use Rattle.grammar.specs.Pieces.{Care, Exactly, Followed, Numeral, largest}
use Rattle.grammar.specs.Stamps.{TickSpelt, PairSpelt}
use Rattle.grammar.specs.Agreement.{Agrees, NoDigit}
use Rattle.grammar.proofs.AgreeCombined.{Any, Via, agrees_as, agrees_then, agrees_done, byte_then}
use Rattle.grammar.proofs.PieceByPiece.{ended, unended, first_of, onto}
use Rattle.grammar.proofs.NumberAgrees.{number_agrees}

abbrev Ticked : Care → ℕ → List ℕ → Type 0
Ticked c v piece = Numeral c largest v piece

abbrev IsTick : ℕ → Care → Tick → List ℕ → Type 0
IsTick v c t piece = (t ≡ record { 0 = v }) × (piece ≡ [])

-- reading a tick is reading a number
pub tick_agrees : Agrees tick_at TickSpelt NoDigit
tick_agrees =
    agrees_as to from
    (agrees_then (number_agrees largest) (λ at v. agrees_done (record { 0 = v }))
    (λ c v t piece rest h s. subst (λ p. NoDigit (p ++ rest)) (sym h.1) s))
  where
    to : (c : Care) (t : Tick) (text : List ℕ) → Via Ticked IsTick c t text → TickSpelt c t text
    to c t text v = subst (λ x. TickSpelt c x text) (sym v.parts.second.0) (ended v.parts)

    from : (c : Care) (t : Tick) (text : List ℕ) → TickSpelt c t text → Via Ticked IsTick c t text
    from c t text n = record { value = t.0; parts = unended refl n }

-- a pair, from its second tick on
abbrev Second : Tick → Care → Then Tick Tick → List ℕ → Type 0
Second a = Via TickSpelt (λ b c p. Followed (Exactly (41 ∷ [])) (λ q. (p ≡ record { first = a; second = b }) × (q ≡ [])))

second_agrees : (a : Tick) → Agrees (λ text m. and_then (tick_at text m) (λ b. and_then (pass_at 41 text b.1) (λ next. Ok (record { first = a; second = b.0 }, next)))) (Second a) Any
second_agrees a =
    agrees_then tick_agrees
    (λ at b. byte_then 41 (agrees_done (record { first = a; second = b })))
    (λ c b p piece rest f s. ap digit_of (first_of rest f))

abbrev First : Care → Then Tick Tick → List ℕ → Type 0
First = Via TickSpelt (λ a c p. Followed (Exactly (32 ∷ [])) (Second a c p))

-- reading a pair is reading two ticks in brackets
pub pair_agrees : Agrees pair_at PairSpelt Any
pair_agrees =
    agrees_as to from
    (byte_then 40
    (agrees_then tick_agrees
    (λ at a. byte_then 32 (second_agrees a))
    (λ c a p piece rest f s. ap digit_of (first_of rest f))))
  where
    to : (c : Care) (p : Then Tick Tick) (text : List ℕ) → Followed (Exactly (40 ∷ [])) (First c p) text → PairSpelt c p text
    to c p text f =
        let a = f.second in
        let g = a.parts.second in
        let b = g.second in
        let close = ended b.parts.second in
        subst (λ x. PairSpelt c x text) (sym b.parts.second.second.0)
        (onto f (onto a.parts (onto g (onto b.parts close))))

    from : (c : Care) (p : Then Tick Tick) (text : List ℕ) → PairSpelt c p text → Followed (Exactly (40 ∷ [])) (First c p) text
    from c p text f =
        let g = f.second in
        let h = g.second in
        let i = h.second in
        let second : Second p.first c p h.back = record { value = p.second; parts = onto i (unended refl i.second) } in
        onto f (record { value = p.first; parts = onto g (onto h second) })
