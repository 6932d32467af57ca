use Rattle.std.proofs.Common.{◌≡◌, take, string_bytes}
use Rattle.qlock_plan_c.specs.Calls.{names_text}
use Rattle.qlock_plan_c.proofs.planning_calls.names_of.Given as goal

abbrev pub invariant-loop-voter : goal.invariant-loop-voter
invariant-loop-voter l = string_bytes l.text ≡ names_text (take l.voter l.named.names)
