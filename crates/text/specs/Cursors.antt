-- What a cursor reads, by the definitions over a text and a place.
use Rattle.std.specs.Prelude.{◌≡◌, ℕ, Ok, Err, Result}
use Rattle.books.specs.declared.fault.ReadFault.{ReadFault}
use Rattle.books.specs.declared.fault.Fault.{Fault}
use Rattle.books.specs.declared.fault.Fault.TheVariants.{Reading}
use Rattle.text.specs.declared.cursor.Cursor.{Cursor}

-- what is found is what was taken, with the place after it, or it is the fault among all faults; and the text is the same
abbrev pub TakesBy : {E X Y : Type 0} → (E → Fault) → (X → ℕ → Y) → Result X E → Cursor → Cursor → Result Y Fault → Type 0
TakesBy as_fault with_place (Ok x) was is found = (Ok (with_place x is.at) ≡ found) × (is.text.now ≡ was.text.now)
TakesBy as_fault with_place (Err e) was is found = (Err (as_fault e) ≡ found) × (is.text.now ≡ was.text.now)

-- the same of what has faults of reading only
abbrev pub Takes : {X Y : Type 0} → (X → ℕ → Y) → Result X ReadFault → Cursor → Cursor → Result Y Fault → Type 0
Takes = TakesBy Reading

-- a place is found
abbrev pub Passed : Result (Unit {0}) ReadFault → Cursor → Cursor → Result ℕ Fault → Type 0
Passed = Takes (λ _ at. at)

-- a value is found, and the place after it
abbrev pub Took : {X : Type 0} → Result X ReadFault → Cursor → Cursor → Result (X × ℕ) Fault → Type 0
Took = Takes (λ x at. (x, at))

-- the same, of what the value is seen as
abbrev pub TookAs : {X Y : Type 0} → (X → Y) → Result X ReadFault → Cursor → Cursor → Result (Y × ℕ) Fault → Type 0
TookAs view = Takes (λ x at. (view x, at))

-- the same, with any fault
abbrev pub TookAny : {X Y : Type 0} → (X → Y) → Result X Fault → Cursor → Cursor → Result (Y × ℕ) Fault → Type 0
TookAny view = TakesBy (λ e. e) (λ x at. (view x, at))
