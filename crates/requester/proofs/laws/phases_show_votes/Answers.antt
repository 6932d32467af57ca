use Rattle.requester.proofs.Dropping.{HoldsOfMembers-sound}
use Rattle.requester.proofs.VoteLemmas.{HoldsNothing-ask, HoldsNothing-give_up, HoldsNothing-idle, holds-inside, HoldsNothing-leave}
use Rattle.requester.proofs.laws.phases_show_votes.Goals as goal

pub returns-clause-of_members : goal.returns-clause-of_members
returns-clause-of_members c = HoldsOfMembers-sound

pub returns-clause-idle : goal.returns-clause-idle
returns-clause-idle c = HoldsNothing-idle

pub returns-clause-inside : goal.returns-clause-inside
returns-clause-inside c = holds-inside

pub returns-clause-asked : goal.returns-clause-asked
returns-clause-asked c = HoldsNothing-ask

pub returns-clause-left : goal.returns-clause-left
returns-clause-left c = HoldsNothing-leave

pub returns-clause-given_up : goal.returns-clause-given_up
returns-clause-given_up c = HoldsNothing-give_up
