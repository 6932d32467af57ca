-- What is proved of every client, as its members rely on it.
use Rattle.std.specs.Prelude.{◌≡◌, ℕ, List, Ok, true}
use Rattle.requester.specs.declared.state.ClientState.{ClientState}
use Rattle.requester.specs.Held.{HoldsNothing}
use Rattle.requester.specs.RequesterContract.{Accepts, MeetsContract}
use Rattle.requester.specs.Soundness.{HoldsOfMembers, IsSound}
use Rattle.requester.specs.Steps.{Cause, Outcome, ask, give_up, leave, step}
use Rattle.requester.specs.Words.{is_idle}

-- a step of a sound client leaves it sound and meets the contract; a client holds only votes of
-- members of its quorum, and none while it is idle, or has just asked, left or given up
pub record AreClientLaws : Type 0 where
  pub sound : (x : ClientState) (cause : Cause) (o : Outcome)
      → IsSound x → Accepts x cause → step x cause ≡ Ok o → IsSound o.state
  pub meets : (x : ClientState) (cause : Cause) (o : Outcome)
      → IsSound x → Accepts x cause → step x cause ≡ Ok o → MeetsContract x cause o
  pub of_members : (x : ClientState) → IsSound x → HoldsOfMembers x
  pub idle : (x : ClientState) → IsSound x → is_idle x.phase ≡ true → HoldsNothing x
  pub asked : (x : ClientState) (quorum : List ℕ) (o : Outcome) → ask x quorum ≡ Ok o → HoldsNothing o.state
  pub left : (x : ClientState) (o : Outcome) → leave x ≡ Ok o → HoldsNothing o.state
  pub given_up : (x : ClientState) (o : Outcome) → give_up x ≡ Ok o → HoldsNothing o.state
