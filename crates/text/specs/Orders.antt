-- The word of the order form, among the three.
use Rattle.std.specs.Prelude.{ℕ, max, cond, List, Some, None, codes, Option}
use Rattle.text.specs.Kinds.{begins}
use Rattle.text.specs.Words.{agrees_to}
use Rattle.text.specs.declared.order.Word.{Word}
use Rattle.text.specs.declared.order.Word.TheVariants as word

-- as far as no other order form goes
abbrev pub tick_order : List ℕ
tick_order = codes "(order ti"

-- the same of routes
abbrev pub route_order : List ℕ
route_order = codes "(order r"

-- the same of pairs of ticks
abbrev pub then_order : List ℕ
then_order = codes "(order th"

-- the word, told by as many bytes as keep it from the others
abbrev pub word_of : List ℕ → Option Word
word_of text =
    cond (begins tick_order text) (Some word.Tick)
    (cond (begins route_order text) (Some word.Route)
    (cond (begins then_order text) (Some word.Then) None))

-- the place of the first byte that no order form has there
unfoldable pub order_refused : List ℕ → ℕ
order_refused text = max (agrees_to tick_order text 0) (max (agrees_to route_order text 0) (agrees_to then_order text 0))
