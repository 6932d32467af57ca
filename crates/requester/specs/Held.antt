-- Which votes a step takes and gives back, for callers that keep the votes on a board too.
use Rattle.std.specs.Prelude.{ℕ, ◌≡◌, ◌⊎◌, true, slice_set}
use Rattle.std.specs.List.{Contains}
use Rattle.message.specs.declared.message.ClientBody.{ClientBody}
use Rattle.message.specs.declared.message.ClientBody.TheVariants as to_client
use Rattle.message.specs.declared.message.VoterBody.TheVariants as asks
use Rattle.requester.specs.declared.state.ClientState.{ClientState}
use Rattle.requester.specs.Words.{held_of, holds, is_relinquished, last_of}
use Rattle.requester.specs.Steps.{Outcome, tell}

-- the vote of the LOCKED is added to the held ones, and no other is
abbrev pub HoldsBesides : ClientState → ℕ → ClientBody → ClientState → Type 0
HoldsBesides x voter (to_client.Locked stamp grant) y = y.held ≡ slice_set x.held voter grant
HoldsBesides x voter (to_client.Fail stamp) y = ⊥
HoldsBesides x voter (to_client.Inquire grant) y = ⊥

-- the vote was held, no longer is, and its RELINQUISH is sent
abbrev pub IsGivenBack : ClientState → Outcome → ℕ → Type 0
IsGivenBack x o voter =
    (holds x voter ≡ true) × (held_of o.state voter ≡ 0)
    × Contains o.out (tell x voter (asks.Relinquish (held_of x voter)))

-- the vote is held as before, or it is given back
abbrev pub IsKeptOrGiven : ClientState → Outcome → ℕ → Type 0
IsKeptOrGiven x o voter = (held_of o.state voter ≡ held_of x voter) ⊎ IsGivenBack x o voter

-- no vote is held
abbrev pub HoldsNothing : ClientState → Type 0
HoldsNothing x = (v : ℕ) → held_of x v ≡ 0

-- What becomes of the mark of a vote that was given back. Its last grant is as before, and a mark
-- stays unless the vote is held afterwards. Or the vote was held: its grant is now the last one given
-- back, and the vote is marked.
abbrev pub KeepsMark : ClientState → ClientState → ℕ → Type 0
KeepsMark x y voter =
    ((last_of y voter ≡ last_of x voter)
    × (is_relinquished x voter ≡ true → (is_relinquished y voter ≡ true) ⊎ (holds y voter ≡ true)))
    ⊎ ((holds x voter ≡ true) × (last_of y voter ≡ held_of x voter) × (is_relinquished y voter ≡ true))
