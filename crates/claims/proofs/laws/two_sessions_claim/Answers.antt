use Rattle.std.proofs.Common.{refl}
use Rattle.claims.proofs.Example.{are_pairs, eight_has, may_ask, seven_has}
use Rattle.claims.proofs.laws.two_sessions_claim.Goals as goal

pub returns-clause-meet : goal.returns-clause-meet
returns-clause-meet c = may_ask

pub returns-clause-first : goal.returns-clause-first
returns-clause-first c = seven_has

pub returns-clause-second : goal.returns-clause-second
returns-clause-second c = eight_has

pub returns-clause-quorums : goal.returns-clause-quorums
returns-clause-quorums c = are_pairs

pub returns-clause-above : goal.returns-clause-above
returns-clause-above c = refl
