-- Results of calls that may fail with a fault that no definition gives, such as out of memory.
use Rattle.std.specs.Prelude.{◌≡◌, Bool, Result, Ok, Err}
use Rattle.std.specs.Bool.{OnFalse}

-- the two steps one after the other, up to the first fault
infixl 10 ◌>>=◌
abbrev pub ◌>>=◌ : {X Y F : Type 0} → Result X F → (X → Result Y F) → Result Y F
(Ok x) >>= step = step x
(Err fault) >>= step = Err fault

-- the fault is excused, or the wanted result is this fault
abbrev pub RefusesUnless : {Y F : Type 0} → (F → Bool) → F → Result Y F → Type 0
RefusesUnless excused fault wanted = OnFalse (excused fault) (wanted ≡ Err fault)

-- the result, mapped by `view`, is the wanted one, or an excused fault
abbrev pub GivesUnless : {X Y F : Type 0} → (F → Bool) → (X → Y) → Result X F → Result Y F → Type 0
GivesUnless excused view (Ok x) wanted = wanted ≡ Ok (view x)
GivesUnless excused view (Err fault) wanted = RefusesUnless excused fault wanted
