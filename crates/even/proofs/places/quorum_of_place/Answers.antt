use Rattle.even.proofs.PlaceLemmas.{place_of-search}
use Rattle.even.proofs.places.quorum_of_place.Goals as goal

pub returns : goal.returns
returns c = λ weights is lt.
    let found = c.ended_at.ensures in
    (place_of-search c.args.ends.now c.args.place c.ended_at.result weights is lt found.bound found.ended found.later).1
