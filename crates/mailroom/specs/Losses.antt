-- How many messages of a step are lost.
use Rattle.std.specs.Prelude.{◌≡◌, ◌⊎◌, ℕ, ◌+◌, ◌-◌, ◌*◌, ◌^◌, Bool, ◌||◌, [], length, min, nat_le}
use Rattle.message.specs.declared.message.ToClient.{ToClient}
use Rattle.message.specs.declared.message.ToVoter.{ToVoter}
use Rattle.board.specs.Seats.{BoardState}
use Rattle.node.specs.Outboxes.{OutboxState}
use Rattle.mailroom.specs.declared.losses.Losses.{Losses}

-- the message is to a voter, or from a client, that the board doesn't have
abbrev pub is_stray : BoardState → ToVoter → Bool
is_stray board m = nat_le board.voters m.voter || nat_le board.clients m.client

-- the reply is from a voter, or to a client, that the board doesn't have
abbrev pub is_stray_reply : BoardState → ToClient → Bool
is_stray_reply board m = nat_le board.voters m.voter || nat_le board.clients m.client

-- How many messages are lost at most when `sent` messages are sent to voters: for each, either the
-- message itself, or some of the replies to it. There are at most three replies.
abbrev pub most_lost : ℕ → ℕ
most_lost sent = 3 * sent

-- What became of a message to this voter, with the outbox afterwards. Either it is lost, and the outbox
-- is empty. Or the outbox has the voter's replies, and each of them is posted or lost.
abbrev pub IsDelivered : ℕ → OutboxState → ℕ → ℕ → Type 0
IsDelivered voter after posted lost =
    ((posted ≡ 0) × (lost ≡ 1) × (after.messages ≡ []))
    ⊎ ((posted + lost ≡ length after.messages) × (after.voter ≡ voter))

-- the losses of two steps; each count stays at its greatest value, 2^64 - 1
abbrev pub and_losses : Losses → Losses → Losses
and_losses a b = record { lost = min (a.lost + b.lost) (2 ^ 64 - 1); starved = min (a.starved + b.starved) (2 ^ 64 - 1) }
