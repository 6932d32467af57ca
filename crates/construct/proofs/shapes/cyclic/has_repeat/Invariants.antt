use Rattle.std.proofs.Common.{◌≡◌, ℕ, false, eqb, take}
use Rattle.std.specs.HashSet.{contains}
use Rattle.numbers.specs.Sets.{has}
use Rattle.construct.specs.Cyclic.{has_repeat}
use Rattle.construct.proofs.shapes.cyclic.has_repeat.Given as goal

abbrev pub invariant-loop-x : goal.invariant-loop-x
invariant-loop-x l = record {
  seen : (q : ℕ) → contains eqb l.seen q ≡ has (take l.x-index l.base) q;
  once : has_repeat (take l.x-index l.base) ≡ false;
}
