use Rattle.std.proofs.Common.{subst, sym}
use Rattle.voter.specs.declared.state.VoterState.{VoterState}
use Rattle.quiet_time.specs.Quiet.{end_of}
use Rattle.lock_blocks.specs.LockSteps.{GoesOnAt}
use Rattle.blocks.specs.Numbers.{returned}
use Rattle.lock_blocks.proofs.LockLemmas.{end_keeps, goes_on}
use Rattle.lock_blocks.proofs.locks.end_quiet.Goals as goal

pub returns-clause-ends : goal.returns-clause-ends
returns-clause-ends c = λ few. record {
  no_voter = λ none. absurd (none c.in_ok-voter.voter c.in_ok-voter.ensures.loaded);
  ends = λ voter rows is are.
      let loaded : VoterState = c.in_ok-voter.voter in
      let after : VoterState = c.end.new.voter in
      let gives = c.in_ok-replies.ensures.ended in
      let keeps = end_keeps c.args.since.now loaded (record { replies = c.in_ok-replies.replies.items; state = after }) gives in
      subst (λ (v : VoterState). GoesOnAt (end_of c.args.since.now v v.held) v rows c.args.client (λ w. Unit {0}) c.finish.new.vote c.args.out.now c.finish.new.out c.finish.new.written c.finish.new.shown (returned c.finish.result))
      (sym (c.in_ok-voter.ensures.only voter is))
      (goes_on (end_of c.args.since.now loaded loaded.held) c.in_ok-replies.replies.items c.as_slice.result.now after loaded rows c.args.client (λ w. Unit {0}) c.finish.new.vote c.args.out.now c.finish.new.out
      c.finish.new.written c.finish.new.shown (returned c.finish.result) gives c.as_slice.ensures.value (λ done. tt)
      (c.finish.ensures.tells loaded rows keeps.0 keeps.1 (sym c.held-held.ensures) (sym c.granted-granted.ensures.value) are));
}
