-- What befalls the vote of a lock in its quiet time, as the life of a node of `voter_node` that is saved after each step.
use Rattle.std.specs.Prelude.{Bool, true, false, List, [], ◌∷◌, ◌++◌, if◌then◌else◌}
use Rattle.message.specs.declared.message.ToVoter.{ToVoter}
use Rattle.message.specs.declared.message.VoterBody.{VoterBody}
use Rattle.message.specs.declared.message.VoterBody.TheVariants as asks
use Rattle.quiet_time.specs.Quiet.{is_old, puts_off}
use Rattle.quiet_time.specs.Runs.{Event, Extends, Hears, IsOver, LetsGo, Lock, happens}
use Rattle.voter.specs.declared.state.VoterState.{VoterState}
use Rattle.voter.specs.Steps.{is_grant}
use Rattle.voter_node.specs.Lives.{Fate, HasLimit, Meets}
use Rattle.voter_node.specs.Nodes as nodes

-- this befalls the node, and then it is saved
abbrev pub and_save : Fate → List Fate
and_save fate = fate ∷ Meets nodes.IsSaved ∷ []

-- a message that is not put off, while the vote has a grant from before the start: one that gives it back lets it go
abbrev pub fate_of_old : VoterState → ToVoter → VoterBody → List Fate
fate_of_old v m (asks.Request stamp) = and_save (Meets (nodes.Takes m))
fate_of_old v m (asks.Relinquish grant) = if is_grant v.held m.client grant then and_save (Meets (nodes.Evicts grant)) else []
fate_of_old v m (asks.Release stamp) = and_save (Meets (nodes.Takes m))

-- by whether the vote has a grant from before the start
abbrev pub fate_by : Bool → VoterState → ToVoter → List Fate
fate_by false v m = and_save (Meets (nodes.Takes m))
fate_by true v m = fate_of_old v m m.body

-- what an event is to the node: nothing, if it is put off or says something of a session alone
abbrev pub fate_at : Lock → Event → List Fate
fate_at l (Hears m inside) = if puts_off true inside m.body then [] else fate_by (is_old l.since l.vote.held) l.vote m
fate_at l (LetsGo grant) = and_save (Meets (nodes.Evicts grant))
fate_at l (IsOver client) = []
fate_at l (Extends limit) = and_save (HasLimit limit)

-- the life of the node
abbrev pub life_of : Lock → List Event → List Fate
life_of l [] = []
life_of l (e ∷ es) = fate_at l e ++ life_of (happens l e) es
