-- whom a message of a world names
use Rattle.std.proofs.Common.{◌≡◌, ℕ, ◌<◌, length, Some, arith}
use Rattle.std.specs.Prelude.{slice_get}
use Rattle.numbers.proofs.Lists.{AllByRecursion-get}
use Rattle.message.specs.declared.message.ToVoter.{ToVoter}
use Rattle.message.specs.declared.message.ToClient.{ToClient}
use Rattle.message.specs.declared.message.Message.TheVariants as kinds
use Rattle.world_state.specs.Numbered.{IsAddressed, IsNumbered}
use Rattle.world_state.specs.Steps.{WorldState, client_at, voter_at}

pub record ForVoter (w : WorldState) (m : ToVoter) : Type 0 where
  pub voter : m.voter < length w.voters
  pub id : (voter_at w.voters m.voter).id ≡ m.voter
  pub client : m.client < 64

pub record ForClient (w : WorldState) (m : ToClient) : Type 0 where
  pub client : m.client < length w.clients
  pub id : (client_at w.clients m.client).id ≡ m.client
  pub voter : m.voter < 64

pub ForVoter-sent : (w : WorldState) → IsNumbered w → (k : ℕ) (m : ToVoter) → slice_get w.sent k ≡ Some (kinds.ToVoter m) → ForVoter w m
ForVoter-sent w ok k m is =
    let a = AllByRecursion-get (IsAddressed w) w.sent k (kinds.ToVoter m) ok.messages is in
    let few = ok.few_clients in
    let below = a.0 in
    record { voter = a.1; id = ok.voters m.voter a.1; client = omega arith }

pub ForClient-sent : (w : WorldState) → IsNumbered w → (k : ℕ) (m : ToClient) → slice_get w.sent k ≡ Some (kinds.ToClient m) → ForClient w m
ForClient-sent w ok k m is =
    let a = AllByRecursion-get (IsAddressed w) w.sent k (kinds.ToClient m) ok.messages is in
    let few = ok.few_voters in
    let below = a.1 in
    record { client = a.0; id = ok.clients m.client a.0; voter = omega arith }
