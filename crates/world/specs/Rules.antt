-- What is proved of every client and every voter, as a world relies on it.
use Rattle.std.specs.Prelude.{ℕ, ◌≡◌, ◌<◌, ◌≤◌, ◌^◌, Ok, Some}
use Rattle.message.specs.declared.message.ToVoter.{ToVoter}
use Rattle.voter.specs.declared.state.VoterState.{VoterState}
use Rattle.voter.specs.Replies.{AllCarry, AllReportPlace, AreAnswers, CarrySeen}
use Rattle.voter.specs.Steps as voter
use Rattle.voter.specs.VoteMoves.{VoteMoves}
use Rattle.voter.specs.VoterContract as votes
use Rattle.requester.specs.declared.state.ClientState.{ClientState}
use Rattle.requester.specs.RequesterContract.{Accepts, AllInRange, AllRepeat, ComesInRange, MeetsContract, RemindersInRange}
use Rattle.requester.specs.Soundness as sound
use Rattle.requester.specs.Steps as client

-- A step of a sound client leaves it sound and meets the contract, and its messages are in range. So
-- are its reminders, which say what it said before.
pub record ClientLaws : Type 0 where
  pub meets : (x : ClientState) (cause : client.Cause) (o : client.Outcome)
      → sound.IsSound x → Accepts x cause → client.step x cause ≡ Ok o → MeetsContract x cause o
  pub repeats : (x : ClientState) → AllRepeat x (client.remind x)
  pub first : (id limit : ℕ) → id < 64 → 1 ≤ limit → limit ≤ 2 ^ 62 → sound.IsSound (client.start id limit)
  pub stays : (x : ClientState) (cause : client.Cause) (o : client.Outcome)
      → sound.IsSound x → Accepts x cause → client.step x cause ≡ Ok o → sound.IsSound o.state
  pub ranges : (x : ClientState) (cause : client.Cause) (o : client.Outcome)
      → sound.IsSound x → Accepts x cause → ComesInRange x.limit cause → client.step x cause ≡ Ok o
      → AllInRange cause o.state o.out
  pub reminders : (x : ClientState) → sound.IsSound x → RemindersInRange x (client.remind x)

-- A step of a sound voter leaves it sound and meets the contract, and numbers its grants. Its replies
-- and reminders report its place, and carry the highest stamp that it saw.
pub record VoterLaws : Type 0 where
  pub meets : (v : VoterState) (m : ToVoter) (o : voter.Outcome)
      → voter.step v m ≡ Some o → votes.MeetsContract v m o
  pub reminds : (v : VoterState) → votes.AllReport v.held (voter.remind v)
  pub numbers : (v : VoterState) (m : ToVoter) (o : voter.Outcome)
      → voter.IsSound v → voter.step v m ≡ Some o → VoteMoves (voter.effect_of v m).frees v o.state
  pub first : (id limit : ℕ) → limit ≤ 2 ^ 62 → voter.IsSound (voter.start id limit)
  pub stays : (v : VoterState) (m : ToVoter) (o : voter.Outcome)
      → voter.IsSound v → voter.step v m ≡ Some o → voter.IsSound o.state
  pub answers : (v : VoterState) (m : ToVoter) (o : voter.Outcome)
      → voter.IsSound v → voter.step v m ≡ Some o → AreAnswers o
  pub places : (v : VoterState) → AllReportPlace v (voter.remind v)
  pub carries : (v : VoterState) (m : ToVoter) (o : voter.Outcome) → voter.step v m ≡ Some o → CarrySeen v m o
  pub remembers : (v : VoterState) → AllCarry v.id v.seen (voter.remind v)
