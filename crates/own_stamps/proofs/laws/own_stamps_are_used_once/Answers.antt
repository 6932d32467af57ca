use Rattle.own_stamps.proofs.OwnerLemmas.{come_from_start}
use Rattle.own_stamps.proofs.laws.own_stamps_are_used_once.Goals as goal

pub returns-clause-come : goal.returns-clause-come
returns-clause-come c = come_from_start

pub returns-clause-once : goal.returns-clause-once
returns-clause-once c rows quorums recoveries events sound by =
    c.stamps_are_used_once.ensures rows quorums recoveries events sound (come_from_start rows quorums recoveries events by)
