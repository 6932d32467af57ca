use Rattle.world.specs.Restarts.{begin}
use Rattle.world.proofs.Claims.{Bounds}
use Rattle.world.proofs.Exclusion.{one_inside}
use Rattle.world.proofs.Reached.{RunPremises}
use Rattle.world.proofs.Restarts.{all_ok, begin_ok, live_ok}
use Rattle.leases.proofs.in_order.clients_inside_are_one.Goals as goal

pub returns : goal.returns
returns c = λ voters clients limit quorums deal happenings first second limits meets deals in_first in_second.
    let b : Bounds = record { voters = voters; clients = clients; limit = limit; quorums = quorums } in
    let laws = c.parts_keep_their_rules.ensures in
    let given : RunPremises b = record { client = laws.clients; voter = laws.voters; limits = limits; meet = meets } in
    let ok = all_ok b given deal deals happenings (begin voters clients limit) (begin_ok b given) in
    one_inside b meets _ _ _ (live_ok b _ ok) first second in_first in_second
