-- Messages to a client, and the mailbox where they wait.
use Rattle.std.specs.Prelude.{◌≡◌, ℕ, ◌<◌, ◌++◌, ◌∷◌, [], Bool, true, ◌&&◌, List, nat_le}
use Rattle.numbers.specs.Bounds.{max_stamp}
use Rattle.message.specs.declared.message.ToClient.{ToClient}
use Rattle.message.specs.declared.message.ClientBody.{ClientBody}
use Rattle.message.specs.declared.message.ClientBody.TheVariants as to_client
use Rattle.board.specs.Seats.{BoardState}

-- whether the grant of a LOCKED is from 1 to 2^40; true for other messages
abbrev pub has_grant : ClientBody → Bool
has_grant (to_client.Locked stamp grant) = nat_le 1 grant && nat_le grant max_stamp
has_grant (to_client.Fail stamp) = true
has_grant (to_client.Inquire grant) = true

-- the message names this client and a voter of the board, and a LOCKED has a grant from 1 to 2^40
pub record IsMail (board : BoardState) (client : ℕ) (m : ToClient) : Type 0 where
  pub client_is : m.client ≡ client
  pub voter : m.voter < board.voters
  pub grant : has_grant m.body ≡ true

-- a mailbox: its client, and the messages that wait, first in, first out
pub record MailboxState : Type 0 where
  pub client : ℕ
  pub messages : List ToClient

-- the mailbox with this message behind the others
abbrev pub with_message : MailboxState → ToClient → MailboxState
with_message b m = record b { messages = b.messages ++ m ∷ [] }
