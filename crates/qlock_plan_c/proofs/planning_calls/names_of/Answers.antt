use Rattle.std.proofs.Common.{◌<◌, length, [], string_bytes, ap, arith}
use Rattle.std.proofs.lemmas.Option.{get_or_from_slice_get}
use Rattle.quorum_set.specs.Coteries.{QuorumSystem}
use Rattle.qlock_plan_c.proofs.CallLemmas.{names_text-more}
use Rattle.qlock_plan_c.proofs.planning_calls.names_of.Goals as goal

pub loop-voter-preserved : goal.loop-voter-preserved
loop-voter-preserved c =
    let names = c.args.named.now.names in
    let i = c.loop-voter.voter in
    let lt : i < length names = omega (arith, c.name.ensures.named.one_each, ap (λ (s : QuorumSystem). s.voters) c.coterie.ensures.value) in
    names_text-more names i c.name.result.now (string_bytes c.loop-voter.text) (string_bytes c.push_name.new.text) lt
    (get_or_from_slice_get names i c.name.result.now [] c.name.ensures.value) c.loop-voter.invariant c.in_ok-push_name.ensures
