use Rattle.std.proofs.Common.{ℕ, List, Ok, Err, sym, subst}
use Rattle.fence.specs.Passes.{SeesAlso}
use Rattle.lock_blocks.specs.Bytes.{IsGuard}
use Rattle.lock_blocks.specs.FenceSteps.{FenceAdmits}
use Rattle.blocks.specs.Numbers.{refused}
use Rattle.blocks.specs.declared.refusal.Refusal.{Refusal}
use Rattle.lock_blocks.proofs.GuardLemmas.{admitted-as, admits, admits-pass, refuses}
use Rattle.lock_blocks.proofs.guards.admit.Goals as goal

pub returns-in-Err-clause-admits : goal.returns-in-Err-clause-admits
returns-in-Err-clause-admits c =
    let was = c.in_ok-fence in
    let shown = c.in_ok-shown in
    subst (λ (r : Refusal). FenceAdmits c.args.state.now c.args.pass.now c.args.state.now c.args.turn.now (refused r)) (sym c.of_fence.ensures)
    (admits-pass c.args.state.now c.args.pass.now c.args.state.now c.args.turn.now was.fence.seen shown.shown was.fence.turn _ was.ensures.loaded was.ensures.only shown.ensures.loaded shown.ensures.only
    c.in-Some.ensures.0 (refuses was.fence.seen shown.shown c.args.state.now was.fence.turn c.args.turn.now c.in-Err.fault (admitted-as was.fence.seen shown.shown c.in-Some.pass was.fence.turn c.admit.result (Err c.in-Err.fault) c.in-Some.ensures.1 c.in-Err.is
    (record { older = c.admit.ensures.older; again = c.admit.ensures.again; next = c.admit.ensures.next; spent = c.admit.ensures.spent }))))

pub returns-clause-admits : goal.returns-clause-admits
returns-clause-admits c =
    let was = c.in_ok-fence in
    let shown = c.in_ok-shown in
    let seen = c.in-Ok.ensures.seen in
    let sees : SeesAlso was.fence.seen shown.shown c.admit.new.self.seen = subst (λ (p : List ℕ). SeesAlso was.fence.seen p c.admit.new.self.seen) c.in-Some.ensures.1 seen.0 in
    let guard : IsGuard c.store_fence.new.state c.admit.new.self.seen c.in-Ok.given = subst (λ (n : ℕ). IsGuard c.store_fence.new.state c.admit.new.self.seen n) seen.1 c.store_fence.ensures in
    admits-pass c.args.state.now c.args.pass.now c.store_fence.new.state c.in-Ok.given was.fence.seen shown.shown was.fence.turn _ was.ensures.loaded was.ensures.only shown.ensures.loaded
    shown.ensures.only c.in-Some.ensures.0 (admits was.fence.seen shown.shown c.store_fence.new.state c.admit.new.self.seen was.fence.turn c.in-Ok.given (admitted-as was.fence.seen shown.shown c.in-Some.pass was.fence.turn c.admit.result (Ok c.in-Ok.given)
    c.in-Some.ensures.1 c.in-Ok.is (record { older = c.admit.ensures.older; again = c.admit.ensures.again; next = c.admit.ensures.next; spent = c.admit.ensures.spent })) sees guard)
