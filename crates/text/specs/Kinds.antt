-- The form that a line begins, told by its word and the byte after it.
use Rattle.std.specs.Prelude.{ℕ, Bool, true, false, cond, ◌&&◌, List, [], ◌∷◌, Some, None, codes, Option, ◌==◌}
use Rattle.text.specs.declared.kind.Kind.{Kind}
use Rattle.text.specs.declared.kind.Kind.TheVariants.{Order, Atom, Rule, Void, End}

-- how an order form begins
abbrev pub order_opening : List ℕ
order_opening = codes "(order "

-- how an atom form begins
abbrev pub atom_opening : List ℕ
atom_opening = codes "(atom "

-- how a rule form begins
abbrev pub rule_opening : List ℕ
rule_opening = codes "(rule "

-- how the form of a vacant number begins
abbrev pub void_opening : List ℕ
void_opening = codes "(void "

-- how the end form begins
abbrev pub end_opening : List ℕ
end_opening = codes "(end)"

-- how a form of the kind begins
abbrev pub opening_of : Kind → List ℕ
opening_of Order = order_opening
opening_of Atom = atom_opening
opening_of Rule = rule_opening
opening_of Void = void_opening
opening_of End = end_opening

-- whether the bytes begin with a word
abbrev pub begins : List ℕ → List ℕ → Bool
begins [] bytes = true
begins (b ∷ word) [] = false
begins (b ∷ word) (c ∷ bytes) = c == b && begins word bytes

-- the kind of form that the bytes begin
abbrev pub kind_of : List ℕ → Option Kind
kind_of bytes =
    cond (begins order_opening bytes) (Some Order)
    (cond (begins atom_opening bytes) (Some Atom)
    (cond (begins rule_opening bytes) (Some Rule)
    (cond (begins void_opening bytes) (Some Void)
    (cond (begins end_opening bytes) (Some End) None))))
