-- votes stay sound
use Rattle.std.proofs.Common.{◌≡◌, ℕ, ◌≤◌, Bool, true, false, List, [], ◌∷◌, refl, subst, sym, Option, Some, None, Result, arith}
use Rattle.std.specs.Prelude.{◌==◌, ◌&&◌, nat_le, if◌then◌else◌}
use Rattle.std.proofs.lemmas.Bool.Decides.{nat_tests}
use Rattle.std.proofs.lemmas.Option.{same_Some}
use Rattle.numbers.specs.Bounds.{max_limit}
use Rattle.message.specs.declared.message.ToVoter.{ToVoter}
use Rattle.voter.specs.declared.state.Grant.{Grant}
use Rattle.voter.specs.declared.state.VoterState.{VoterState}
use Rattle.voter.specs.Leases.{evict_held, reborn, release_of}
use Rattle.voter.specs.Steps.{IsSound, Outcome, no_reply, remind, start, step}
use Rattle.voter.proofs.Effects.{IsSound-step}
use Rattle.voter.proofs.KeptLemmas.{least_is_sound}
use Rattle.voter.proofs.Soundness.{IsSound-counted, IsSound-start}
use Rattle.voter_node.specs.Lives.{HasLimit, IsReborn, IsSkipped, be_reborn, be_skipped, becomes, have_limit}
use Rattle.voter_node.specs.Nodes as nodes
use Rattle.lock_node.specs.Example.{new_voter}
use Rattle.lock_node.specs.Leaving.{AreSound}
use Rattle.lock_node.specs.Letters.{may_say}
use Rattle.lock_node.specs.Locks.{Calls, Crashes, Event, Extends, IsForgotten, LetsGo, LockNode, Reminds, Saves, Skips, Speaks, happens, moves, outcome_at, set}
use Rattle.lock_node.specs.Thrift.{Befalls, HandsOut, HostTurn, host_after, host_does}
use Rattle.lock_node.proofs.LockLemmas.{StepsVoter, evicts, reminds, set_by, takes}

-- of one node
abbrev BothSound : nodes.Node → Type 0
BothSound n = IsSound n.live × IsSound n.saved

after_step : (n : nodes.Node) (b : Bool) (o : Option Outcome) → BothSound n → ((x : Outcome) → o ≡ Some x → IsSound x.state)
    → BothSound (nodes.after n (nodes.if_room b (nodes.after_voter n o)))
after_step n false o sound then_sound = sound
after_step n true None sound then_sound = sound
after_step n true (Some x) sound then_sound = (then_sound x refl, sound.1)

same_state : (v : VoterState) (x o : Outcome) → IsSound v → x.state ≡ v → Some x ≡ Some o → IsSound o.state
same_state v x o sound same is = subst (λ (y : Outcome). IsSound y.state) (same_Some x o is) (subst IsSound (sym same) sound)

letting_by : (b : Bool) (v : VoterState) (g : Grant) (o : Outcome) → IsSound v → (if b then step v (release_of v g) else Some (no_reply v)) ≡ Some o → IsSound o.state
letting_by true v g o sound is = IsSound-step v (release_of v g) o sound is
letting_by false v g o sound is = same_state v (no_reply v) o sound refl is

letting_go : (held : Option Grant) (v : VoterState) (grant : ℕ) (o : Outcome) → IsSound v → evict_held held v grant ≡ Some o → IsSound o.state
letting_go None v grant o sound is = same_state v (no_reply v) o sound refl is
letting_go (Some g) v grant o sound is = letting_by (g.grant == grant) v g o sound is

within : (a b c d : ℕ) → (nat_le a b && (nat_le b c && nat_le c d)) ≡ true → (b ≤ c) × (c ≤ d)
within a b c d e = (grind (arith, nat_tests), grind (arith, nat_tests))

two_tests : (a b c d : ℕ) → (nat_le a b && nat_le c d) ≡ true → (a ≤ b) × (c ≤ d)
two_tests a b c d e = (grind (arith, nat_tests), grind (arith, nat_tests))

same_number : (n : ℕ) → n ≤ n
same_number n = omega arith

zero_first : (n : ℕ) → 0 ≤ n
zero_first n = omega arith

reborn_sound : (id above limit : ℕ) → above ≤ limit → limit ≤ max_limit → IsSound (reborn id above limit)
reborn_sound id above limit more most = IsSound-counted (start id limit) above limit (IsSound-start id limit most) (zero_first above) more most

sound_reborn : (n : nodes.Node) (above limit : ℕ) (b : Bool) → (nat_le n.saved.granted above && (nat_le above limit && nat_le limit max_limit)) ≡ b → BothSound n
    → BothSound (be_reborn b n above limit)
sound_reborn n above limit false e sound = sound
sound_reborn n above limit true e sound = (
    let most = within n.saved.granted above limit max_limit e in
    let one = reborn_sound n.saved.id above limit most.0 most.1 in
    (one, one))

sound_limit : (n : nodes.Node) (limit : ℕ) (b : Bool) → (nat_le n.live.granted limit && nat_le limit max_limit) ≡ b → BothSound n → BothSound (have_limit b n limit)
sound_limit n limit false e sound = sound
sound_limit n limit true e sound = (
    let most = two_tests n.live.granted limit limit max_limit e in
    (IsSound-counted n.live n.live.granted limit sound.0 (same_number n.live.granted) most.0 most.1, sound.1))

sound_skipped : (n : nodes.Node) (above : ℕ) (b : Bool) → (nat_le n.live.granted above && nat_le above n.live.limit) ≡ b → BothSound n → BothSound (be_skipped b n above)
sound_skipped n above false e sound = sound
sound_skipped n above true e sound = (
    let most = two_tests n.live.granted above above n.live.limit e in
    (IsSound-counted n.live above n.live.limit sound.0 most.0 most.1 sound.0.limit, sound.1))

-- of all locks
set_sound : (n : LockNode) (lock : ℕ) (next : nodes.Node) → AreSound n → BothSound next → (k : ℕ) → BothSound (set n.locks lock next k)
set_sound n lock next sound here k = set_by (λ (place : ℕ) (x : nodes.Node). BothSound x) n.locks lock next k here (sound k)

moves_sound : (n : LockNode) (lock : ℕ) (e : nodes.Event) → StepsVoter e → AreSound n → ((x : Outcome) → outcome_at (n.locks lock) e ≡ Some x → IsSound x.state) → AreSound (moves n lock e)
moves_sound n lock e of sound then_sound =
    let node = n.locks lock in
    set_sound n lock (nodes.after node (nodes.node_step node e)) sound
    (subst (λ (t : Result nodes.Turn _). BothSound (nodes.after node t)) (sym (of.is node)) (after_step node (nodes.has_room node) (outcome_at node e) (sound lock) then_sound))

speaks_sound : (n : LockNode) (lock : ℕ) (m : ToVoter) (b : Bool) → AreSound n → AreSound (if b then moves n lock (nodes.Takes m) else n)
speaks_sound n lock m true sound = moves_sound n lock (nodes.Takes m) (takes m) sound (λ x is. IsSound-step (n.locks lock).live m x (sound lock).0 is)
speaks_sound n lock m false sound = sound

sound_event : (n : LockNode) (e : Event) → AreSound n → AreSound (happens n e)
unfolding nodes.node_step
sound_event n (Calls number call) sound = sound
sound_event n (Speaks lock session epoch m) sound = speaks_sound n lock m (may_say (n.rows m.client) session epoch m.body) sound
sound_event n (LetsGo lock grant) sound =
    moves_sound n lock (nodes.Evicts grant) (evicts grant) sound (λ x is. letting_go (n.locks lock).live.held (n.locks lock).live grant x (sound lock).0 is)
sound_event n (Reminds lock) sound =
    moves_sound n lock nodes.Reminds reminds sound
    (λ x is. same_state (n.locks lock).live (record { replies = remind (n.locks lock).live; state = (n.locks lock).live }) x (sound lock).0 refl is)
sound_event n (Extends lock limit) sound = set_sound n lock (becomes (n.locks lock) (HasLimit limit)) sound (sound_limit (n.locks lock) limit _ refl (sound lock))
sound_event n (Skips lock above) sound = set_sound n lock (becomes (n.locks lock) (IsSkipped above)) sound (sound_skipped (n.locks lock) above _ refl (sound lock))
sound_event n (IsForgotten lock above limit) sound = set_sound n lock (becomes (n.locks lock) (IsReborn above limit)) sound (sound_reborn (n.locks lock) above limit _ refl (sound lock))
sound_event n Saves sound = λ lock. ((sound lock).0, (sound lock).0)
sound_event n Crashes sound = λ lock. (least_is_sound (n.locks lock).saved (sound lock).1, least_is_sound (n.locks lock).saved (sound lock).1)

sound_turn : (n : LockNode) (t : HostTurn) → AreSound n → AreSound (host_does n t)
sound_turn n (Befalls e) sound = sound_event n e sound
sound_turn n (HandsOut lock) sound = set_sound n lock (record { live = (n.locks lock).live; saved = (n.locks lock).saved; outbox = [] }) sound (sound lock)

pub sound_turns : (n : LockNode) (ts : List HostTurn) → AreSound n → AreSound (host_after n ts)
sound_turns n [] sound = sound
sound_turns n (t ∷ ts) sound = sound_turns (host_does n t) ts (sound_turn n t sound)

pub sound_first : (id limit : ℕ) → limit ≤ max_limit → AreSound (new_voter id limit)
sound_first id limit most = λ lock. (IsSound-start id limit most, IsSound-start id limit most)
