-- The canonical spelling of a book: no leading zeros.
use Rattle.std.specs.Prelude.{ℕ, zero, suc, ◌/◌, ◌%◌, ◌^◌, ◌≤◌, Bool, cond, List, [], ◌++◌, length, Some, None, codes, decimal, Option, ◌==◌}
use Rattle.std.specs.List.{slice_get}
use Rattle.books.specs.Meaning.{Rule, Atom, Meaning, rule_at, of_sign}
use Rattle.books.specs.declared.book.Sign.{Sign}
use Rattle.stamps.specs.declared.tick.Tick.{Tick}
use Rattle.stamps.specs.declared.route.Route.{Route}
use Rattle.stamps.specs.declared.then.Then.{Then}
use Rattle.text.specs.Forms.{closing}
use Rattle.text.specs.Kinds.{order_opening, atom_opening, rule_opening, void_opening}

-- what f gives at the numbers below n, one after another
unfoldable pub up_to : (ℕ → List ℕ) → ℕ → List ℕ
up_to f zero = []
up_to f (suc n) = up_to f n ++ f n

-- between parts
abbrev pub space : List ℕ
space = codes " "

-- how a list or a pair begins
abbrev pub opening : List ℕ
opening = codes "("

-- how a list or a pair ends
abbrev pub shutting : List ℕ
shutting = codes ")"

-- a number of a list, after a space unless it is the first
abbrev pub item : ℕ → Option ℕ → List ℕ
item i None = []
item i (Some a) = cond (i == 0) [] space ++ decimal a

-- numbers in brackets
abbrev pub list_text : List ℕ → List ℕ
list_text xs = opening ++ up_to (λ i. item i (slice_get xs i)) (length xs) ++ shutting

-- a tick is its number
abbrev pub tick_text : Tick → List ℕ
tick_text t = decimal t.0

-- two ticks in brackets
abbrev pub pair_text : Then Tick Tick → List ℕ
pair_text p = opening ++ decimal p.first.0 ++ space ++ decimal p.second.0 ++ shutting

-- an aisle that a route has, after a space unless it is the first
abbrev pub aisle_text : ℕ → ℕ → List ℕ
aisle_text aisles k = cond (aisles / 2 ^ k % 2 == 1) (cond (aisles % 2 ^ k == 0) [] space ++ decimal k) []

-- the aisles of a route, rising
abbrev pub route_text : Route → List ℕ
route_text r = opening ++ up_to (aisle_text r.aisles) 64 ++ shutting

-- a reading, or any other atom, between its number and its stamp
abbrev pub kind_text : Bool → List ℕ
kind_text reading = cond reading (codes " in ") (codes " out ")

-- (atom N K S)
abbrev pub atom_text : {S : Type 0} → (S → List ℕ) → ℕ → Option (Atom S) → List ℕ
atom_text spelt i None = []
atom_text spelt i (Some a) = atom_opening ++ decimal i ++ kind_text a.reading ++ spelt a.stamp ++ closing

-- (rule N H (P..) (Q..)), or (void N) for a vacant number
abbrev pub rule_text : ℕ → Option Rule → List ℕ
rule_text k None = void_opening ++ decimal k ++ closing
rule_text k (Some r) =
    rule_opening ++ decimal k ++ space ++ decimal r.head ++ space ++ list_text r.positives ++ space ++ list_text r.negatives ++ closing

-- the end form
abbrev pub end_text : List ℕ
end_text = codes "(end)\n"

-- the line of an atom number
abbrev pub atom_line_of : {S : Type 0} → (S → List ℕ) → Meaning S → ℕ → List ℕ
atom_line_of spelt m i = atom_text spelt i (slice_get m.atoms i)

-- the line of a rule number
abbrev pub rule_line_of : {S : Type 0} → Meaning S → ℕ → List ℕ
rule_line_of m k = rule_text k (rule_at m k)

-- the order, the atoms, the rules and the end, each on a line of its own
unfoldable pub book_text : {S : Type 0} → List ℕ → (S → List ℕ) → Meaning S → List ℕ
book_text spelling spelt m =
    order_opening ++ spelling ++ closing ++ up_to (atom_line_of spelt m) (length m.atoms) ++ up_to (rule_line_of m) (length m.rules) ++ end_text

-- a rule's list of that sign; a vacant number has none
abbrev pub body_in : Sign → Option Rule → List ℕ
body_in sign None = []
body_in sign (Some r) = of_sign sign r

-- each rule has six positives and six negatives at most
abbrev pub Few : {S : Type 0} → Meaning S → Type 0
Few m = (k : ℕ) (sign : Sign) → length (body_in sign (rule_at m k)) ≤ 6
