-- the vote of a lock in its quiet time is a node
use Rattle.std.proofs.Common.{◌≡◌, ℕ, Bool, true, false, List, [], ◌∷◌, ◌++◌, refl, sym, ap, ◌∙◌, Option, Some, None}
use Rattle.std.specs.Prelude.{◌&&◌, nat_le, if◌then◌else◌}
use Rattle.message.specs.declared.message.ToVoter.{ToVoter}
use Rattle.message.specs.declared.message.VoterBody.{VoterBody}
use Rattle.message.specs.declared.message.VoterBody.TheVariants as asks
use Rattle.numbers.specs.Bounds.{max_limit}
use Rattle.quiet_time.specs.declared.since_start.SinceStart.{SinceStart}
use Rattle.quiet_time.specs.Lives.{and_save, fate_at, fate_by, fate_of_old, life_of}
use Rattle.quiet_time.specs.Quiet.{is_old, noted, puts_off, quiet_step, step_of_old}
use Rattle.quiet_time.specs.Runs.{Event, Extends, Hears, IsOver, LetsGo, Lock, after, all_happen, happens, hears, with_limit}
use Rattle.voter.specs.declared.state.VoterState.{VoterState}
use Rattle.voter.specs.Leases.{evict}
use Rattle.voter.specs.Steps.{Outcome, is_grant, no_reply, step}
use Rattle.voter_node.specs.Lives.{Fate, Meets, becomes, have_limit, node_after}
use Rattle.voter_node.specs.Nodes as nodes

-- the vote after what a step gives
abbrev vote_by : VoterState → Option Outcome → VoterState
vote_by v None = v
vote_by v (Some o) = o.state

saved_after : (v : VoterState) (x : Option Outcome) → nodes.node_of (nodes.after (nodes.node_of v) (nodes.after_voter (nodes.node_of v) x)).live ≡ nodes.node_of (vote_by v x)
saved_after v None = refl
saved_after v (Some o) = refl

takes : (v : VoterState) (m : ToVoter) → node_after (nodes.node_of v) (and_save (Meets (nodes.Takes m))) ≡ nodes.node_of (vote_by v (step v m))
unfolding nodes.node_step
takes v m = saved_after v (step v m)

lets_go : (v : VoterState) (grant : ℕ) → node_after (nodes.node_of v) (and_save (Meets (nodes.Evicts grant))) ≡ nodes.node_of (vote_by v (evict v grant))
unfolding nodes.node_step
lets_go v grant = saved_after v (evict v grant)

old_takes : (v : VoterState) (m : ToVoter) (b : VoterBody) → node_after (nodes.node_of v) (fate_of_old v m b) ≡ nodes.node_of (vote_by v (step_of_old v m b))
old_takes v m (asks.Request stamp) = takes v m
old_takes v m (asks.Relinquish grant) = elim (is_grant v.held m.client grant) as (λ b.
    node_after (nodes.node_of v) (if b then and_save (Meets (nodes.Evicts grant)) else []) ≡ nodes.node_of (vote_by v (if b then evict v grant else Some (no_reply v)))) [
      | true ↦ lets_go v grant
      | false ↦ refl
    ]
old_takes v m (asks.Release stamp) = takes v m

quietly : (old : Bool) (v : VoterState) (m : ToVoter) → node_after (nodes.node_of v) (fate_by old v m) ≡ nodes.node_of (vote_by v (quiet_step old v m))
quietly false v m = takes v m
quietly true v m = old_takes v m m.body

vote_after : (l : Lock) (known : VoterState → SinceStart) (x : Option Outcome) → (after l known x).vote ≡ vote_by l.vote x
vote_after l known None = refl
vote_after l known (Some o) = refl

extends : (l : Lock) (limit : ℕ) (b : Bool) → nodes.node_of (have_limit b (nodes.node_of l.vote) limit).live ≡ nodes.node_of (with_limit b l limit).vote
extends l limit true = refl
extends l limit false = refl

one : (l : Lock) (e : Event) → node_after (nodes.node_of l.vote) (fate_at l e) ≡ nodes.node_of (happens l e).vote
unfolding nodes.node_step
one l (Hears m inside) = elim (puts_off true inside m.body) as (λ b.
    node_after (nodes.node_of l.vote) (if b then [] else fate_by (is_old l.since l.vote.held) l.vote m) ≡ nodes.node_of (if b then l else hears l m inside).vote) [
      | true ↦ refl
      | false ↦
          quietly (is_old l.since l.vote.held) l.vote m
          ∙ ap nodes.node_of (sym (vote_after l (λ v. noted true inside l.since v m.client m.body) (quiet_step (is_old l.since l.vote.held) l.vote m)))
    ]
one l (LetsGo grant) = lets_go l.vote grant ∙ ap nodes.node_of (sym (vote_after l (λ v. l.since) (evict l.vote grant)))
one l (IsOver client) = refl
one l (Extends limit) = extends l limit (nat_le l.vote.granted limit && nat_le limit max_limit)

more : (n : nodes.Node) (fs gs : List Fate) → node_after n (fs ++ gs) ≡ node_after (node_after n fs) gs
more n [] gs = refl
more n (f ∷ fs) gs = more (becomes n f) fs gs

pub lives : (l : Lock) (es : List Event) → node_after (nodes.node_of l.vote) (life_of l es) ≡ nodes.node_of (all_happen l es).vote
lives l [] = refl
lives l (e ∷ es) =
    more (nodes.node_of l.vote) (fate_at l e) (life_of (happens l e) es)
    ∙ ap (λ (n : nodes.Node). node_after n (life_of (happens l e) es)) (one l e)
    ∙ lives (happens l e) es
