use Rattle.passes.proofs.Requests.{anew_later}
use Rattle.passes.specs.Grants.{Gave}
use Rattle.passes.proofs.laws.clients_anew_use_new_stamps.Goals as goal

pub returns : goal.returns
returns c quorums voters x deeds clock more idle first may second inside =
    anew_later c.parts_keep_their_rules.ensures.clients quorums (Gave voters) x deeds clock more idle first may second inside
