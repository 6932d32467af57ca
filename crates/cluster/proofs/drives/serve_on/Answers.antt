use Rattle.std.proofs.Common.{◌≡◌, ℕ, true, sym, subst, arith}
use Rattle.members.specs.Members.{MemberState}
use Rattle.cluster.specs.Drives.{TookTurns, WasLet}
use Rattle.cluster.proofs.DriveLemmas.{HasServedOn-next, HasEndedOn-stopped, Worked-stopped, TookTurns-Worked, WasLet-Worked}
use Rattle.cluster.proofs.drives.serve_on.Goals as goal

pub loop-preserved : goal.loop-preserved
loop-preserved g c =
    let h = c.loop.invariant in
    let one = c.in-Ok.ensures in
    let lets = g.G.Gate.lets c.args.gate.now in (
      HasServedOn-next c.loop.counter c.args.member.now c.loop.member c.pass_once.new.member h.0 one.passed one.fault,
      omega (arith, h.1, one.in_turns),
      λ some. subst (λ (k : ℕ). lets k ≡ true) h.0.worked.client one.let_pass,
    )

pub returns-in-Err-clause-ended : goal.returns-in-Err-clause-ended
returns-in-Err-clause-ended g c =
    HasEndedOn-stopped c.args.passes c.loop.counter c.args.member.now c.loop.member c.pass_once.new.member c.end.new.member c.ends_by-in-Err.new.self c.in-Err.fault
    c.loop.invariant.0 c.loop-test.true c.in-Err.ensures.stopped c.end.ensures.kept c.end.ensures.idle c.ends_by-in-Err.ensures

pub returns-in-Err-clause-let_pass : goal.returns-in-Err-clause-let_pass
returns-in-Err-clause-let_pass g c =
    let fault = c.in-Err.fault in
    let worked = Worked-stopped c.loop.counter c.args.member.now c.loop.member c.pass_once.new.member c.end.new.member fault c.loop.invariant.0 c.in-Err.ensures.stopped c.end.ensures.kept in
    let lets = g.G.Gate.lets c.args.gate.now in
    subst (λ (m : MemberState). WasLet lets c.args.member.now m) (sym c.ends_by-in-Err.ensures) (WasLet-Worked lets _ c.loop.counter c.args.member.now _ worked c.loop.invariant.2)

pub returns-in-Err-clause-in_turns : goal.returns-in-Err-clause-in_turns
returns-in-Err-clause-in_turns g c =
    let fault = c.in-Err.fault in
    let worked = Worked-stopped c.loop.counter c.args.member.now c.loop.member c.pass_once.new.member c.end.new.member fault c.loop.invariant.0 c.in-Err.ensures.stopped c.end.ensures.kept in
    subst (λ (m : MemberState). TookTurns c.args.turns.now c.args.member.now m) (sym c.ends_by-in-Err.ensures)
    (TookTurns-Worked c.args.turns.now _ c.loop.counter c.args.member.now _ worked (omega (arith, c.loop.invariant.1)))
