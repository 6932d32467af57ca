-- A client that comes back without its state, and what it sends beside its steps.
use Rattle.std.specs.Prelude.{ℕ, ◌==◌, Bool, true, false, List, [], map, Result, Ok, Err}
use Rattle.message.specs.declared.message.ToVoter.{ToVoter}
use Rattle.message.specs.declared.message.VoterBody.{VoterBody}
use Rattle.message.specs.declared.message.VoterBody.TheVariants as asks
use Rattle.requester.specs.declared.fault.ClientFault.{ClientFault}
use Rattle.requester.specs.declared.fault.ClientFault.TheVariants.{Busy}
use Rattle.requester.specs.declared.state.ClientState.{ClientState}
use Rattle.requester.specs.declared.state.Phase.{Phase}
use Rattle.requester.specs.declared.state.Phase.TheVariants.{Idle, Asking, Inside}
use Rattle.requester.specs.Steps.{send_to_members, start, tell}

-- a client that lost its state, and knows no more than a clock
abbrev pub anew : ℕ → ℕ → ℕ → ClientState
anew id limit clock = record (start id limit) { clock = clock; stamp = clock }

-- the same message to each of these voters
abbrev pub send_to : ClientState → List ℕ → VoterBody → List ToVoter
send_to x voters body = map (λ v. tell x v body) voters

-- by whether the client made no request yet
abbrev pub disclaim_unless : Bool → ClientState → List ℕ → List ToVoter
disclaim_unless true x voters = []
disclaim_unless false x voters = send_to x voters (asks.Release x.stamp)

-- only an idle client disclaims its requests
abbrev pub disclaim_in : Phase → ClientState → List ℕ → Result (List ToVoter) ClientFault
disclaim_in Idle x voters = Ok (disclaim_unless (x.stamp == 0) x voters)
disclaim_in Asking x voters = Err Busy
disclaim_in Inside x voters = Err Busy

-- RELEASE of the client's last stamp to each of these voters: all its requests are over
abbrev pub disclaim : ClientState → List ℕ → Result (List ToVoter) ClientFault
disclaim x voters = disclaim_in x.phase x voters

-- by the client's phase
abbrev pub renew_in : Phase → ClientState → List ToVoter
renew_in Idle x = []
renew_in Asking x = []
renew_in Inside x = send_to_members x (asks.Request x.stamp)

-- REQUEST again to each member while the client is inside, as a sign of life
abbrev pub renew : ClientState → List ToVoter
renew x = renew_in x.phase x
