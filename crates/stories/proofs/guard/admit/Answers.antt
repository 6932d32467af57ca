use Rattle.std.proofs.Common.{sym, ap, ◌∙◌}
use Rattle.stories.specs.Plays.{guard_of}
use Rattle.stories.proofs.GuardLemmas.{Did, admitted, said, same_guard}
use Rattle.stories.proofs.guard.admit.Goals.{After-sees_all_voters}
use Rattle.stories.proofs.guard.admit.Goals as goal

-- what the guard did
did : (c : After-sees_all_voters) → Did (guard_of c.args.fence.now) (guard_of c.admit-admitted.new.self) c.args.pass.now c.admit-admitted.result
did c = admitted (guard_of c.args.fence.now) (guard_of c.admit-admitted.new.self) c.args.pass.now c.admit-admitted.result (record {
  many = c.sees_all_voters.ensures;
  again = c.admit-admitted.ensures.again c.requires;
  next = c.admit-admitted.ensures.next c.requires;
  spent = c.admit-admitted.ensures.spent c.requires;
  sees = c.admit-admitted.ensures.seen;
  same = same_guard c.admit-admitted.result c.admit-admitted.new.self c.args.fence.now c.admit-admitted.ensures.unchanged;
})

pub returns-in-Ok-clause-did : goal.returns-in-Ok-clause-did
returns-in-Ok-clause-did c = ap said (sym c.in-Ok.is) ∙ (did (goal.at.returns-in-Ok-clause-did c).After-sees_all_voters).said_is

pub returns-in-Ok-clause-after : goal.returns-in-Ok-clause-after
returns-in-Ok-clause-after c = (did (goal.at.returns-in-Ok-clause-after c).After-sees_all_voters).after

pub returns-in-Err-clause-did : goal.returns-in-Err-clause-did
returns-in-Err-clause-did c = ap said (sym c.in-Err.is) ∙ (did (goal.at.returns-in-Err-clause-did c).After-sees_all_voters).said_is

pub returns-in-Err-clause-after : goal.returns-in-Err-clause-after
returns-in-Err-clause-after c = (did (goal.at.returns-in-Err-clause-after c).After-sees_all_voters).after
