-- What a node has to send.
use Rattle.std.specs.Prelude.{◌≡◌, ℕ, List}
use Rattle.std.specs.List.{All}
use Rattle.message.specs.declared.message.ToClient.{ToClient}

-- an outbox: the voter, and its messages, in the order in which it made them
pub record OutboxState : Type 0 where
  pub voter : ℕ
  pub messages : List ToClient

-- each of these messages is of this voter
abbrev pub AreOf : ℕ → List ToClient → Type 0
AreOf voter messages = All (λ m. m.voter ≡ voter) messages
