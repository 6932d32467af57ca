use Rattle.std.proofs.Common.{ℕ, ◌<◌, sym, subst}
use Rattle.fraction.specs.Tables.{Table, IsPlace}
use Rattle.test_planning.proofs.fractions.pivoted.Goals as goal

pub entries_of-den-requires-in-Err : goal.entries_of-den-requires-in-Err
entries_of-den-requires-in-Err c = subst (λ (t : Table). (i j : ℕ) → i < 2 → j < 2 → IsPlace t i j) (sym c.in-Err.ensures.same) c.requires.places
