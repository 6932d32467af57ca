-- The rules that clients, voters and worlds keep: what the laws of `requester`, `voter` and `world` say.
use Rattle.std.specs.Prelude.{slice_index, ℕ, ◌≡◌, ◌<◌, ◌≤◌, ◌⊎◌, List, [], ◌∷◌, Ok, Err, Some, true, false}
use Rattle.std.specs.FinMap.{get}
use Rattle.std.specs.List.{Contains}
use Rattle.message.specs.declared.message.ClientBody.TheVariants as to_client
use Rattle.message.specs.declared.message.ToClient.{ToClient}
use Rattle.message.specs.declared.message.ToVoter.{ToVoter}
use Rattle.message.specs.declared.message.VoterBody.TheVariants as asks
use Rattle.voter.specs.declared.state.Grant.{Grant}
use Rattle.voter.specs.declared.state.VoterState.{VoterState}
use Rattle.numbers.specs.Bounds.{max_voters}
use Rattle.voter.specs.Entries.{AsksBack, Finishes, FinishesBy, KnowsUpTo, request_of}
use Rattle.voter.specs.Replies.{AllCarry, CarrySeen}
use Rattle.voter.specs.Steps as voter
use Rattle.voter.specs.VoteMoves.{GrantIsNew, VoteMoves}
use Rattle.voter.specs.VoterContract as votes
use Rattle.message.specs.Requests.{precedes}
use Rattle.requester.specs.declared.fault.ClientFault.TheVariants.{Busy}
use Rattle.requester.specs.declared.state.ClientState.{ClientState}
use Rattle.requester.specs.declared.state.Seen.TheVariants.{Left, Nothing}
use Rattle.requester.specs.Clocks.{KeepsTime}
use Rattle.requester.specs.Held.{IsGivenBack}
use Rattle.requester.specs.RequesterContract.{Accepts, AllRepeat, MeetsContract, RemindersInRange}
use Rattle.requester.specs.Soundness.{IsSound}
use Rattle.requester.specs.Steps as requester
use Rattle.requester.specs.Votes.{VoteFate}
use Rattle.requester.specs.Words.{held_of, is_hindered, holds, is_asking, is_current, is_idle, is_inside, is_member, is_relinquished, last_of}
use Rattle.world.specs.Coherence.{IsCoherent}
use Rattle.world.specs.Runs.{IsReached}
use Rattle.world_state.specs.Steps.{Planned}

-- what the laws of `requester` say of every client
pub record ClientLaws : Type 0 where
  pub meets : (x : ClientState) (cause : requester.Cause) (o : requester.Outcome) → IsSound x → Accepts x cause → requester.step x cause ≡ Ok o → MeetsContract x cause o
  pub clock : (x : ClientState) (cause : requester.Cause) (o : requester.Outcome) → IsSound x → requester.step x cause ≡ Ok o → KeepsTime x cause o.state
  pub inside : (x : ClientState) (v : ℕ) → IsSound x → is_inside x.phase ≡ true → is_member x v ≡ true → holds x v ≡ true
  pub busy : (x : ClientState) (quorum : List ℕ) → is_idle x.phase ≡ false → requester.ask x quorum ≡ Err Busy
  pub released : (x : ClientState) (m : ToClient) (stamp grant : ℕ) → m.body ≡ to_client.Locked stamp grant → is_current x stamp ≡ false
      → requester.take x m ≡ record { out = requester.tell x m.voter (asks.Release stamp) ∷ []; seen = Nothing; state = requester.see x m.seen }
  pub votes : (x : ClientState) (m : ToClient) (v : ℕ) → IsSound x → VoteFate m x (requester.take x m) v
  pub requests : (x : ClientState) (v : ℕ) → is_asking x.phase ≡ true → is_member x v ≡ true → holds x v ≡ false → Contains (requester.remind x) (requester.tell x v (asks.Request x.stamp))
  pub returns : (x : ClientState) (v : ℕ) → is_asking x.phase ≡ true → is_member x v ≡ true → holds x v ≡ false → is_relinquished x v ≡ true
      → Contains (requester.remind x) (requester.tell x v (asks.Relinquish (last_of x v)))
  pub repeats : (x : ClientState) → AllRepeat x (requester.remind x)
  pub in_range : (x : ClientState) → IsSound x → RemindersInRange x (requester.remind x)
  pub hinders : (x : ClientState) (m : ToClient) → IsSound x → is_asking x.phase ≡ true → is_member x m.voter ≡ true → holds x m.voter ≡ false → m.body ≡ to_client.Fail x.stamp
      → is_hindered (requester.take x m).state ≡ true
  pub gives : (x : ClientState) (m : ToClient) → IsSound x → is_asking x.phase ≡ true → holds x m.voter ≡ true → is_hindered x ≡ true → m.voter < max_voters
      → m.body ≡ to_client.Inquire (held_of x m.voter)
      → IsGivenBack x (requester.take x m) m.voter × (is_relinquished (requester.take x m).state m.voter ≡ true)
  pub left : (x : ClientState) → is_inside x.phase ≡ true → requester.leave x ≡ Ok (requester.end_request x Left)

-- what the laws of `voter` say of every voter
pub record VoterLaws : Type 0 where
  pub meets : (v : VoterState) (m : ToVoter) (o : voter.Outcome) → voter.step v m ≡ Some o → votes.MeetsContract v m o
  pub repeats : (v : VoterState) → votes.AllReport v.held (voter.remind v)
  pub numbers : (v : VoterState) (m : ToVoter) (o : voter.Outcome) → voter.IsSound v → voter.step v m ≡ Some o → VoteMoves (voter.effect_of v m).frees v o.state
  pub carries : (v : VoterState) (m : ToVoter) (o : voter.Outcome) → voter.step v m ≡ Some o → CarrySeen v m o
  pub remembers : (v : VoterState) → AllCarry v.id v.seen (voter.remind v)
  pub stays : (v : VoterState) (m : ToVoter) (o : voter.Outcome) (client stamp : ℕ) → voter.IsSound v → voter.step v m ≡ Some o
      → votes.IsEntry v client stamp → votes.IsEntry o.state client stamp ⊎ Finishes m.client m.body client stamp
  pub first : (v : VoterState) (m : ToVoter) (o : voter.Outcome) (g : Grant) (client stamp : ℕ) → voter.IsSound v → voter.step v m ≡ Some o → o.state.held ≡ Some g → v.granted < g.grant
      → votes.IsEntry v client stamp → get o.state.waiting client ≡ Some stamp → precedes (record { stamp = stamp; client = client }) (request_of g) ≡ false
  pub reminds : (v : VoterState) (g : Grant) → v.held ≡ Some g → voter.remind v ≡ voter.reply v g.client (to_client.Locked g.stamp g.grant) ∷ voter.inquiry_again v.inquiring v g
  pub takes : (v : VoterState) (m : ToVoter) → voter.IsSound v → v.granted < v.limit → (o : voter.Outcome) × (voter.step v m ≡ Some o)
  pub ends : (v : VoterState) (m : ToVoter) (o : voter.Outcome) (g : Grant) (stamp : ℕ) → voter.IsSound v → v.held ≡ Some g → m.client ≡ g.client → m.body ≡ asks.Release stamp → g.stamp ≤ stamp
      → voter.step v m ≡ Some o → (s : ℕ) → votes.IsEntry o.state g.client s → ⊥
  pub finishes : (v : VoterState) (m : ToVoter) (o : voter.Outcome) → voter.step v m ≡ Some o → FinishesBy v m.client m.body o.state
  pub goes_on : (v : VoterState) (m : ToVoter) (o : voter.Outcome) (g : Grant) → voter.IsSound v → v.held ≡ Some g → m.client ≡ g.client → m.body ≡ asks.Relinquish g.grant
      → voter.step v m ≡ Some o → GrantIsNew v o.state
  pub taken_up : (v : VoterState) (m : ToVoter) (o : voter.Outcome) (stamp : ℕ) → voter.IsSound v → m.body ≡ asks.Request stamp → slice_index v.finished m.client < stamp → KnowsUpTo v m.client stamp
      → voter.step v m ≡ Some o → votes.IsEntry o.state m.client stamp
  pub asks_first : (id limit : ℕ) → AsksBack (voter.start id limit)
  pub asks_back : (v : VoterState) (m : ToVoter) (o : voter.Outcome) → AsksBack v → voter.step v m ≡ Some o → AsksBack o.state

pub record Laws : Type 0 where
  pub client : ClientLaws
  pub voter : VoterLaws
  pub coherent : (w : Planned) → IsReached w → IsCoherent w.state
