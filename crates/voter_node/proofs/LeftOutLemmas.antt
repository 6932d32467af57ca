-- saves that are left out
use Rattle.std.proofs.Common.{◌≡◌, Bool, true, false, List, [], ◌∷◌, Option, Some, None, refl, sym, ap, ◌∙◌}
use Rattle.voter.specs.declared.state.VoterState.{VoterState}
use Rattle.voter.specs.Leases.{evict}
use Rattle.voter.specs.Saved.{least_voter}
use Rattle.voter.specs.Steps.{Outcome, remind, step}
use Rattle.voter_node.specs.LeftOut.{HaveSameLeast, Host, HostTurn, LeaveOut, MayLeaveOut, disk_after, host_after}
use Rattle.voter_node.specs.Nodes.{Node, Event, Takes, Evicts, Reminds, IsSaved, Restarts, Forgets, after, after_voter, has_room, if_room, node_step}

-- a step of the voter leaves what is saved
keeps_saved : (b : Bool) (n : Node) (o : Option Outcome) → (after n (if_room b (after_voter n o))).saved ≡ n.saved
keeps_saved true n (Some o) = refl
keeps_saved true n None = refl
keeps_saved false n o = refl

same_after : (disk v w : VoterState) → HaveSameLeast disk v → w ≡ v → HaveSameLeast disk w
same_after disk v w same is = same ∙ ap least_voter (sym is)

one_turn : (n : Node) (disk : VoterState) (e : Event) (saves : Bool) → HaveSameLeast disk n.saved → MayLeaveOut n e saves
    → HaveSameLeast (disk_after n disk e saves) (after n (node_step n e)).saved
unfolding node_step
one_turn n disk (Takes m) saves same may = same_after disk n.saved _ same (keeps_saved (has_room n) n (step n.live m))
one_turn n disk (Evicts grant) saves same may = same_after disk n.saved _ same (keeps_saved (has_room n) n (evict n.live grant))
one_turn n disk Reminds saves same may = same_after disk n.saved _ same (keeps_saved (has_room n) n (Some (record { replies = remind n.live; state = n.live })))
one_turn n disk IsSaved true same may = refl
one_turn n disk IsSaved false same may = same ∙ may
one_turn n disk Restarts saves same may = absurd may
one_turn n disk Forgets saves same may = same

pub all_turns : (h : Host) (turns : List HostTurn) → HaveSameLeast h.disk h.node.saved → LeaveOut h.node turns
    → HaveSameLeast (host_after h turns).disk (host_after h turns).node.saved
all_turns h [] same leave = same
all_turns h (t ∷ ts) same leave = all_turns (record {
  node = after h.node (node_step h.node t.event);
  disk = disk_after h.node h.disk t.event t.saves;
}) ts (one_turn h.node h.disk t.event t.saves same leave.0) leave.1
