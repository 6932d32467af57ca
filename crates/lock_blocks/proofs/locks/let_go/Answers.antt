use Rattle.std.proofs.Common.{subst, sym}
use Rattle.voter.specs.declared.state.VoterState.{VoterState}
use Rattle.voter.specs.Leases.{evict}
use Rattle.lock_blocks.specs.LockSteps.{GoesOnAt}
use Rattle.blocks.specs.Numbers.{returned}
use Rattle.lock_blocks.proofs.LockLemmas.{evict_keeps, goes_on}
use Rattle.lock_blocks.proofs.locks.let_go.Goals as goal

pub returns-clause-lets_go : goal.returns-clause-lets_go
returns-clause-lets_go c = λ few. record {
  no_voter = λ none. absurd (none c.in_ok-voter.voter c.in_ok-voter.ensures.loaded);
  lets_go = λ voter rows is are.
      let loaded : VoterState = c.in_ok-voter.voter in
      let after : VoterState = c.evict.new.self in
      let gives = c.in_ok-replies.ensures.evicted in
      let keeps = evict_keeps loaded c.args.grant (record { replies = c.in_ok-replies.replies.items; state = after }) gives in
      subst (λ (v : VoterState). GoesOnAt (evict v c.args.grant) v rows c.args.client (λ w. Unit {0}) c.finish.new.vote c.args.out.now c.finish.new.out c.finish.new.written c.finish.new.shown (returned c.finish.result))
      (sym (c.in_ok-voter.ensures.only voter is))
      (goes_on (evict loaded c.args.grant) c.in_ok-replies.replies.items c.as_slice.result.now after loaded rows c.args.client (λ w. Unit {0}) c.finish.new.vote c.args.out.now c.finish.new.out
      c.finish.new.written c.finish.new.shown (returned c.finish.result) gives c.as_slice.ensures.value (λ done. tt)
      (c.finish.ensures.tells loaded rows keeps.0 keeps.1 (sym c.held-held.ensures) (sym c.granted-granted.ensures.value) are));
}
