-- The items that a row's body stands for.
use Rattle.std.specs.Prelude.{List, take}
use Rattle.makes.specs.declared.body.Body.{Body}

-- the first len of its six places
abbrev pub body_items : {X : Type 0} → Body X → List X
body_items b = take b.len b.items
