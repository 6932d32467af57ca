use Rattle.std.proofs.Common.{◌≡◌, Err, IfErr, ap, sym, subst, ◌∙◌, arith, rules}
use Rattle.requester.specs.declared.state.ClientState.{ClientState}
use Rattle.run_outcome.specs.declared.fault.ClusterFault.TheVariants as ends
use Rattle.members.specs.Members.{MemberState}
use Rattle.cluster.specs.Drives.{KeepsWork, Stops}
use Rattle.cluster.proofs.DriveLemmas.{Stops-refused_pass, Stops-wait, Worked-draw, Worked-pass}
use Rattle.cluster.proofs.drives.pass_once.Goals as goal

pub returns-in-Err-clause-stopped : goal.returns-in-Err-clause-stopped
returns-in-Err-clause-stopped g c =
    let asked = c.in_ok-ask.ensures in
    let one = Worked-draw c.args.member.now c.ask.new.self c.enter.new.member c.in_ok-ask.field-0 asked.may.2 asked.client asked.receipt asked.seat asked.lost c.enter.ensures.kept in
    Stops-wait c.args.member.now c.ask.new.self c.enter.new.member c.enter.new.turns c.enter.new.patience.starved c.in-Err.ended asked.may.2 one asked.client asked.lost
    c.in-Err.ensures.ended c.enter.ensures.lost

pub returns-in_err-wait_at-clause-stopped : goal.returns-in_err-wait_at-clause-stopped
returns-in_err-wait_at-clause-stopped g c =
    let asked = c.in_ok-ask.ensures in
    let one = Worked-draw c.args.member.now c.ask.new.self c.enter.new.member c.in_ok-ask.field-0 asked.may.2 asked.client asked.receipt asked.seat asked.lost c.enter.ensures.kept in
    let is : c.from_residual-in_err-wait_at.result ≡ Err (ends.TurnsSpent c.client-client.result) = search rules in
    subst (λ r. IfErr r (Stops c.args.member.now c.enter.new.member)) (sym is) (one.0, one.1, (c.client-client.ensures.value, asked.may.2), one.0.lost)

pub returns-in-Err-pass-clause-stopped : goal.returns-in-Err-pass-clause-stopped
returns-in-Err-pass-clause-stopped g c =
    let asked = c.in_ok-ask.ensures in
    let kept = c.enter.ensures.kept in
    let stays = c.in-Err-pass.ensures in
    let after : KeepsWork c.ask.new.self c.pass.new.self = record {
      client = ap (λ (x : ClientState). x.id) stays.requester ∙ kept.client;
      clerks = stays.clerks ∙ kept.clerks;
      passes = ap (λ (m : MemberState). m.seat.passes) stays.kept ∙ kept.passes;
      fault = stays.fault ∙ kept.fault;
      lost = omega (arith, kept.lost, ap (λ (m : MemberState). m.lost) stays.kept);
    } in
    let one = Worked-draw c.args.member.now c.ask.new.self c.pass.new.self c.in_ok-ask.field-0 asked.may.2 asked.client asked.receipt asked.seat asked.lost after in
    Stops-refused_pass c.args.member.now c.enter.new.member c.pass.new.self c.in-Err-pass.fault asked.may.2 one c.in-Ok.ensures.entered stays.refused

pub returns-clause-passed : goal.returns-clause-passed
returns-clause-passed g c =
    let asked = c.in_ok-ask.ensures in
    let passed = c.in-Ok-pass.ensures in
    let ended = c.end.ensures in
    let one = Worked-draw c.args.member.now c.ask.new.self c.enter.new.member c.in_ok-ask.field-0 asked.may.2 asked.client asked.receipt asked.seat asked.lost c.enter.ensures.kept in
    let all = Worked-pass c.args.member.now c.enter.new.member c.end.new.member c.in-Ok-pass.field-0 one
    (ended.kept.client ∙ ap (λ (x : ClientState). x.id) passed.requester) (ended.kept.clerks ∙ passed.clerks)
    (ended.kept.passes ∙ ap (λ (m : MemberState). m.seat.passes) passed.passed) (omega (arith, ended.kept.lost, ap (λ (m : MemberState). m.lost) passed.passed)) in
    (all.0, all.1, ended.idle)
