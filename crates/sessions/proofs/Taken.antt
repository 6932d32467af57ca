-- a REQUEST under a stamp that a row gives to a session is taken
use Rattle.std.proofs.Common.{◌≡◌, ℕ, ◌<◌, ◌≤◌, Bool, true, false, Option, Some, refl, ap, ◌∙◌, arith}
use Rattle.std.specs.Prelude.{◌&&◌, max, nat_le, nat_lt, if◌then◌else◌}
use Rattle.std.proofs.Math.Nat.{le-max_left}
use Rattle.std.proofs.lemmas.Bool.{and_parts, eq-eqb}
use Rattle.std.proofs.lemmas.Bool.Decides.{nat_tests}
use Rattle.sessions.specs.Rows.{Row, has_number, is_name, is_taken, reserved}

pub takes_own : (row : Row) (session epoch stamp : ℕ) → row.session ≡ Some session → row.epoch ≡ epoch → row.base < stamp → stamp ≤ row.reserved → is_taken row session epoch stamp ≡ true
takes_own row session epoch stamp is same above few =
    let name : is_name row.session session ≡ true = ap (λ (o : Option ℕ). is_name o session) is ∙ eq-eqb session session refl in
    grind (arith, nat_tests)

wider : (b : Bool) (row : Row) (session epoch stamp upto : ℕ) → is_taken row session epoch stamp ≡ true
    → is_taken (if b then record { epoch = row.epoch; session = row.session; base = row.base; reserved = max row.reserved upto; again = row.again } else row) session epoch stamp ≡ true
wider false row session epoch stamp upto taken = taken
wider true row session epoch stamp upto taken =
    let parts = and_parts (has_number row session epoch) (nat_lt row.base stamp && nat_le stamp row.reserved) taken in
    let ends = and_parts (nat_lt row.base stamp) (nat_le stamp row.reserved) parts.1 in
    let few : stamp ≤ row.reserved = (let h = ends.1 in grind (arith, nat_tests)) in
    let more = le-max_left row.reserved upto in
    let here : nat_le stamp (max row.reserved upto) ≡ true = (let below : stamp ≤ max row.reserved upto = omega arith in grind (arith, nat_tests)) in
    let number = parts.0 in
    let above = ends.0 in
    grind (arith, nat_tests)

pub takes_still : (row : Row) (session epoch stamp other at upto : ℕ) → is_taken row session epoch stamp ≡ true → is_taken (reserved row other at upto) session epoch stamp ≡ true
takes_still row session epoch stamp other at upto taken = wider (has_number row other at) row session epoch stamp upto taken
