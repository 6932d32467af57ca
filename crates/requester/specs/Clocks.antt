-- How a client's clock goes on, and what it means for the stamps of its requests.
use Rattle.std.specs.Prelude.{◌≡◌, ◌<◌, ◌≤◌, ◌⊎◌, true}
use Rattle.requester.specs.declared.state.ClientState.{ClientState}
use Rattle.requester.specs.Steps.{Cause, Asks, Takes, Leaves, GivesUp}
use Rattle.requester.specs.Words.{is_asking}

-- the clock is not behind the highest stamp that a message's voter saw
abbrev pub Hears : Cause → ClientState → Type 0
Hears (Asks quorum) y = Unit {0}
Hears (Takes m) y = m.seen ≤ y.clock
Hears Leaves y = Unit {0}
Hears GivesUp y = Unit {0}

-- How the clock goes on in a step from x to y: it never falls. A request that runs after the step ran
-- before it under the same stamp, or its stamp is greater than the clock was.
pub record KeepsTime (x : ClientState) (cause : Cause) (y : ClientState) : Type 0 where
  pub clock : x.clock ≤ y.clock
  pub heard : Hears cause y
  pub asking : is_asking y.phase ≡ true → ((is_asking x.phase ≡ true) × (y.stamp ≡ x.stamp)) ⊎ (x.clock < y.stamp)
