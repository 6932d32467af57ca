-- What callers rest on after a call.
use Rattle.std.proofs.Common.{◌≡◌, ℕ, ◌≤◌, List, [], length, refl, sym, ap, subst, Result, Ok, Err}
use Rattle.std.specs.Prelude.{IfOk, IfErr}
use Rattle.numbers.specs.Sets.{IsSet}
use Rattle.message.specs.declared.message.ToClient.{ToClient}
use Rattle.requester.specs.declared.fault.ClientFault.{ClientFault}
use Rattle.message.specs.declared.message.ToVoter.{ToVoter}
use Rattle.requester.specs.declared.state.Seen.{Seen}
use Rattle.requester.specs.declared.state.Seen.TheVariants.{Nothing}
use Rattle.requester.specs.declared.state.ClientState.{ClientState}
use Rattle.requester.specs.Soundness.{IsSound}
use Rattle.requester.specs.RequesterContract.{Accepts}
use Rattle.requester.specs.Steps.{Outcome, Cause, Asks, Leaves, GivesUp, step, ask, leave, give_up, take, take_fail, take_inquire}
use Rattle.requester.proofs.Messages.{moves-fail_by, moves-inquire_by}
use Rattle.requester.proofs.SoundSteps.{IsSound-step, IsSound-take}
use Rattle.requester.proofs.ContractLemmas.{MeetsContract-step, MeetsContract-take}

pub record IsSameClient (x y : ClientState) : Type 0 where
  pub sound : IsSound y
  pub id : y.id ≡ x.id
  pub limit : y.limit ≡ x.limit

-- what the messages, what is seen and the client afterwards say together
abbrev pub outcome : List ToVoter → Seen → ClientState → Outcome
outcome out seen y = record { out = out; seen = seen; state = y }

-- the fault is the definition's, the client is as it was, and there are no messages
abbrev pub Refused : ClientState → ClientState → List ToVoter → Result Outcome ClientFault → ClientFault → Type 0
Refused x y out wanted f = (wanted ≡ Err f) × (y ≡ x) × (out ≡ [])

IsSameClient-step : (x y : ClientState) (out : List ToVoter) (cause : Cause) (r : Result Seen ClientFault) → IsSound x → IfOk r (λ _. Accepts x cause)
    → IfOk r (λ a. step x cause ≡ Ok (outcome out a y)) → IfErr r (Refused x y out (step x cause)) → IsSameClient x y
IsSameClient-step x y out cause (Ok a) s accepts done refused =
    let k = MeetsContract-step x cause (outcome out a y) s accepts done in
    record { sound = IsSound-step x cause (outcome out a y) s accepts done; id = k.id; limit = k.limit }
IsSameClient-step x y out cause (Err f) s accepts done refused = subst (IsSameClient x) (sym refused.1) (record { sound = s; id = refl; limit = refl })

IfOk-with_some : (q : List ℕ) (r : Result Seen ClientFault) → 1 ≤ length q → IfOk r (λ _. IsSet q) → IfOk r (λ _. IsSet q × (1 ≤ length q))
IfOk-with_some q (Ok a) some set = (set, some)
IfOk-with_some q (Err f) some set = tt

IfOk-Accepts : (x : ClientState) (cause : Cause) (r : Result Seen ClientFault) → Accepts x cause → IfOk r (λ _. Accepts x cause)
IfOk-Accepts x cause (Ok a) k = k
IfOk-Accepts x cause (Err f) k = tt

pub IsSameClient-ask : (x y : ClientState) (out : List ToVoter) (q : List ℕ) (r : Result Seen ClientFault) → IsSound x → 1 ≤ length q → IfOk r (λ _. IsSet q)
    → IfOk r (λ a. ask x q ≡ Ok (outcome out a y)) → IfErr r (Refused x y out (ask x q)) → IsSameClient x y
unfolding step
IsSameClient-ask x y out q r s some set asked refused = IsSameClient-step x y out (Asks q) r s (IfOk-with_some q r some set) asked refused

pub IsSameClient-leave : (x y : ClientState) (out : List ToVoter) (r : Result Seen ClientFault) → IsSound x
    → IfOk r (λ a. leave x ≡ Ok (outcome out a y)) → IfErr r (Refused x y out (leave x)) → IsSameClient x y
unfolding step
IsSameClient-leave x y out r s left refused = IsSameClient-step x y out Leaves r s (IfOk-Accepts x Leaves r tt) left refused

pub IsSameClient-give_up : (x y : ClientState) (out : List ToVoter) (r : Result Seen ClientFault) → IsSound x
    → IfOk r (λ a. give_up x ≡ Ok (outcome out a y)) → IfErr r (Refused x y out (give_up x)) → IsSameClient x y
unfolding step
IsSameClient-give_up x y out r s given_up refused = IsSameClient-step x y out GivesUp r s (IfOk-Accepts x GivesUp r tt) given_up refused

pub IsSameClient-take : (x y : ClientState) (m : ToClient) (out : List ToVoter) (seen : Seen) → IsSound x → take x m ≡ outcome out seen y → IsSameClient x y
IsSameClient-take x y m out seen s e =
    let k = MeetsContract-take x m s in
    let state = ap (λ (o : Outcome). o.state) e in
    subst (IsSameClient x) state (record { sound = IsSound-take x m s; id = k.id; limit = k.limit })

-- FAIL and INQUIRE let nothing be seen

pub seen-take_fail : (x : ClientState) (v t : ℕ) → (take_fail x v t).seen ≡ Nothing
unfolding take_fail
seen-take_fail x v t = (moves-fail_by _ x v).seen

pub seen-take_inquire : (x : ClientState) (v g : ℕ) → (take_inquire x v g).seen ≡ Nothing
unfolding take_inquire
seen-take_inquire x v g = (moves-inquire_by _ _ x v).seen
