-- What the calls of a client return and write. Each is said for the one client that the bytes are, and
-- for the one message that the line is. That a refused call writes nothing is a clause of each call.
use Rattle.std.specs.Prelude.{ℕ, ℤ, pos, ◌≡◌, true, false, List, Result, Ok, Err}
use Rattle.message.specs.declared.message.ToClient.{ToClient}
use Rattle.message.specs.declared.message.ToVoter.{ToVoter}
use Rattle.quorum_set.specs.Words.{word_of}
use Rattle.requester.specs.declared.fault.ClientFault.{ClientFault}
use Rattle.requester.specs.declared.state.ClientState.{ClientState}
use Rattle.requester.specs.declared.state.Seen.{Seen}
use Rattle.requester.specs.declared.state.Seen.TheVariants.{Nothing, Entered, Left}
use Rattle.requester.specs.Saved.{least_client, phase_word}
use Rattle.requester.specs.Leases.{disclaim, renew}
use Rattle.requester.specs.Steps.{Outcome, remind, see, take}
use Rattle.requester.specs.Words.{held_of, is_inside, members}
use Rattle.lock_blocks.specs.Bytes.{AreGrants, IsClient, IsNoClient}
use Rattle.lock_blocks.specs.Lines.{IsToClient, Sends, lines_to_voters}
use Rattle.blocks.specs.Numbers.{client_refusal, done, refused}
use Rattle.blocks.specs.declared.refusal.Refusal.TheVariants.{BadMessage, BadState, NotInside}

-- 1 if the client got the lock in the step
abbrev pub entered_number : Seen → ℤ
entered_number Nothing = pos 0
entered_number Entered = pos 1
entered_number Left = pos 0

-- by what the client's own step gives: a fault, or messages and the client afterwards
abbrev pub GoesOn : Result Outcome ClientFault → (after out out_after : List ℕ) → ℕ → ℤ → Type 0
GoesOn (Err fault) after out out_after written result = result ≡ refused (client_refusal fault)
GoesOn (Ok o) after out out_after written result =
    Sends (lines_to_voters o.out) out out_after written result (IsClient after o.state)

-- a client asks, leaves or gives up
pub record ClientDoes (step : ClientState → Result Outcome ClientFault) (before after out out_after : List ℕ) (written : ℕ) (result : ℤ) : Type 0 where
  pub no_client : IsNoClient before → result ≡ refused BadState
  pub does : (client : ClientState) → IsClient before client → GoesOn (step client) after out out_after written result

-- a client takes a line; `entered` is 1 if it got the lock in this call, and 0 if not
pub record ClientTakes (before line after out out_after : List ℕ) (written : ℕ) (entered result : ℤ) : Type 0 where
  pub no_client : IsNoClient before → result ≡ refused BadState
  pub no_message : (client : ClientState) → IsClient before client → ((m : ToClient) → IsToClient line client.id m → ⊥)
      → result ≡ refused BadMessage
  pub takes : (client : ClientState) (m : ToClient) → IsClient before client → IsToClient line client.id m
      → Sends (lines_to_voters (take client m).out) out out_after written result
      (IsClient after (take client m).state × (entered ≡ entered_number (take client m).seen))

-- a client reminds
pub record ClientReminds (state out out_after : List ℕ) (written : ℕ) (result : ℤ) : Type 0 where
  pub no_client : IsNoClient state → result ≡ refused BadState
  pub reminds : (client : ClientState) → IsClient state client
      → Sends (lines_to_voters (remind client)) out out_after written result (Unit {0})

-- a client forgets all but the least
pub record ClientForgets (before after : List ℕ) (result : ℤ) : Type 0 where
  pub no_client : IsNoClient before → result ≡ refused BadState
  pub forgets : (client : ClientState) → IsClient before client → (result ≡ done) × IsClient after (least_client client)

-- a client shows its phase, its stamp, and its quorum as bits
pub record ClientShows (state : List ℕ) (phase : ℤ) (stamp quorum : ℕ) (result : ℤ) : Type 0 where
  pub no_client : IsNoClient state → result ≡ refused BadState
  pub shows : (client : ClientState) → IsClient state client
      → (result ≡ done) × (phase ≡ pos (phase_word client.phase)) × (stamp ≡ client.stamp) × (quorum ≡ word_of (members client))

-- a client shows the grant by which it has the vote of a voter, 0 for none
pub record ClientShowsGrant (state : List ℕ) (voter grant : ℕ) (result : ℤ) : Type 0 where
  pub no_client : IsNoClient state → result ≡ refused BadState
  pub shows : (client : ClientState) → IsClient state client → (result ≡ done) × (grant ≡ held_of client voter)

-- a client that is inside shows its pass: the grants by which it has its votes
pub record ClientShowsPass (state pass : List ℕ) (result : ℤ) : Type 0 where
  pub no_client : IsNoClient state → result ≡ refused BadState
  pub outside : (client : ClientState) → IsClient state client → is_inside client.phase ≡ false → result ≡ refused NotInside
  pub inside : (client : ClientState) → IsClient state client → is_inside client.phase ≡ true
      → (result ≡ done) × AreGrants pass client.held

-- a client raises its clock
pub record ClientRaises (before : List ℕ) (clock : ℕ) (after : List ℕ) (result : ℤ) : Type 0 where
  pub no_client : IsNoClient before → result ≡ refused BadState
  pub raises : (client : ClientState) → IsClient before client → (result ≡ done) × IsClient after (see client clock)

-- by what a client that disclaims its requests sends, or why it can't
abbrev pub SaysSo : Result (List ToVoter) ClientFault → (out out_after : List ℕ) → ℕ → ℤ → Type 0
SaysSo (Err fault) out out_after written result = result ≡ refused (client_refusal fault)
SaysSo (Ok messages) out out_after written result = Sends (lines_to_voters messages) out out_after written result (Unit {0})

-- a client disclaims its requests at these voters
pub record ClientDisclaims (state : List ℕ) (voters out out_after : List ℕ) (written : ℕ) (result : ℤ) : Type 0 where
  pub no_client : IsNoClient state → result ≡ refused BadState
  pub disclaims : (client : ClientState) → IsClient state client → SaysSo (disclaim client voters) out out_after written result

-- a client that is inside gives a sign of life
pub record ClientRenews (state out out_after : List ℕ) (written : ℕ) (result : ℤ) : Type 0 where
  pub no_client : IsNoClient state → result ≡ refused BadState
  pub renews : (client : ClientState) → IsClient state client
      → Sends (lines_to_voters (renew client)) out out_after written result (Unit {0})
