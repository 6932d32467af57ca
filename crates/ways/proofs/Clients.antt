-- Who asks, who is inside and who leads, client by client.
use Rattle.std.proofs.Common.{ℕ, ◌≡◌, ◌≢◌, ◌+◌, ◌<◌, ◌≤◌, true, false, true≢false, List, length, Option, Some, None, MatchOption, sym, ap, subst, ◌∙◌, arith, inl, inr}
use Rattle.std.specs.Prelude.{slice_get, unwrap_or}
use Rattle.std.proofs.lemmas.Bool.{cases_eq, cases_lt}
use Rattle.std.proofs.lemmas.Bool.Decides.{nat_tests}
use Rattle.std.proofs.lemmas.Option.{get_or_from_slice_get, unwrap_or-slice_get}
use Rattle.std.proofs.lemmas.List.{get_or_past}
use Rattle.requester.specs.declared.state.ClientState.{ClientState}
use Rattle.requester.specs.Steps.{start}
use Rattle.requester.specs.Words.{is_asking, is_inside}
use Rattle.world.specs.WayIn.{IsFree}
use Rattle.message.specs.declared.request.Request.{Request}
use Rattle.message.specs.Requests.{precedes}
use Rattle.voter.proofs.Front.{precedes-trans}
use Rattle.world_state.specs.Steps.{WorldState, client_at}
use Rattle.ways.specs.Leaders.{IsLeader, LeadsBelow, NobodyAsks, is_earlier, request_of}

-- a client that is found
pub client_at_found : (clients : List ClientState) (c : ℕ) (x : ClientState) → Some x ≡ slice_get clients c → client_at clients c ≡ x
unfolding client_at
client_at_found clients c x found = get_or_from_slice_get clients c x (start 0 1) (sym found)

-- past the last client there is a new one
pub client_at_past : (clients : List ClientState) (c : ℕ) → length clients ≤ c → client_at clients c ≡ start 0 1
unfolding client_at
client_at_past clients c past = get_or_past clients c (start 0 1) past

-- also if none is found
pub client_at_none : (clients : List ClientState) (c : ℕ) → None ≡ slice_get clients c → client_at clients c ≡ start 0 1
unfolding client_at
client_at_none clients c none = sym (unwrap_or-slice_get clients c (start 0 1)) ∙ ap (λ o. unwrap_or o (start 0 1)) (sym none)

-- if none of the clients is inside, nobody is
pub IsFree-from_each : (w : WorldState) (n : ℕ) → n ≡ length w.clients → ((c : ℕ) → c < n → is_inside (client_at w.clients c).phase ≡ false) → IsFree w
IsFree-from_each w n all each c = elim (cases_lt c n) as (λ _. is_inside (client_at w.clients c).phase ≡ false) [
  | inl within ↦ each c within
  | inr past ↦ ap (λ (x : ClientState). is_inside x.phase) (client_at_past w.clients c (omega arith))
]

-- One client more

-- of two requests of different clients one precedes the other
other_precedes : (a b : Request) → a.client ≢ b.client → precedes a b ≡ false → precedes b a ≡ true
other_precedes a b apart later = grind (arith, nat_tests)

-- one that does not ask changes nothing
pub LeadsBelow-silent : (w : WorldState) (n : ℕ) (first : Option ℕ) → is_asking (client_at w.clients n).phase ≡ false → LeadsBelow w n first → LeadsBelow w (n + 1) first
LeadsBelow-silent w n None silent below = λ d lt.
    elim (cases_eq d n) as (λ _. is_asking (client_at w.clients d).phase ≡ false) [
      | inl same ↦ subst (λ k. is_asking (client_at w.clients k).phase ≡ false) (sym same) silent
      | inr other ↦ below d (omega arith)
    ]
LeadsBelow-silent w n (Some c) silent below = (
  omega (arith, below.0),
  below.1,
  λ d lt asks other.
      elim (cases_eq d n) as (λ _. precedes (request_of w c) (request_of w d) ≡ true) [
        | inl same ↦ absurd (true≢false (sym asks ∙ subst (λ k. is_asking (client_at w.clients k).phase ≡ false) (sym same) silent))
        | inr apart ↦ below.2 d (omega arith) asks other
      ],
)

-- one that asks and precedes the first one leads
pub LeadsBelow-earlier : (w : WorldState) (n : ℕ) (first : Option ℕ) → is_asking (client_at w.clients n).phase ≡ true → is_earlier w n first ≡ true → LeadsBelow w n first
    → LeadsBelow w (n + 1) (Some n)
LeadsBelow-earlier w n None asks earlier below = (omega arith, asks, λ d lt too other. absurd (true≢false (sym too ∙ below d (omega arith))))
LeadsBelow-earlier w n (Some c) asks earlier below = (
  omega arith,
  asks,
  λ d lt too other.
      elim (cases_eq d c) as (λ _. precedes (request_of w n) (request_of w d) ≡ true) [
        | inl same ↦ subst (λ k. precedes (request_of w n) (request_of w k) ≡ true) (sym same) earlier
        | inr apart ↦ precedes-trans (request_of w n) (request_of w c) (request_of w d) earlier (below.2 d (omega arith) too apart)
      ],
)

-- one that does not precede it does not
pub LeadsBelow-later : (w : WorldState) (n : ℕ) (first : Option ℕ) → is_earlier w n first ≡ false → LeadsBelow w n first → LeadsBelow w (n + 1) first
LeadsBelow-later w n None later below = absurd (true≢false later)
LeadsBelow-later w n (Some c) later below = (
  omega (arith, below.0),
  below.1,
  λ d lt asks other.
      elim (cases_eq d n) as (λ _. precedes (request_of w c) (request_of w d) ≡ true) [
        | inl same ↦ subst (λ k. precedes (request_of w c) (request_of w k) ≡ true) (sym same)
            (other_precedes (request_of w n) (request_of w c) (λ e. (let lt = below.0 in omega (arith, e))) later)
        | inr apart ↦ below.2 d (omega arith) asks other
      ],
)

-- of all clients
pub leads-all : (w : WorldState) (n : ℕ) (first : Option ℕ) → n ≡ length w.clients → LeadsBelow w n first → MatchOption first (NobodyAsks w) (IsLeader w)
leads-all w n None all below = λ c asks. true≢false (sym asks.asks ∙ below c (let there = asks.client in omega arith))
leads-all w n (Some c) all below = record {
  asks = record { client = omega (arith, below.0); asks = below.1 };
  first = λ d asks other. below.2 d (let there = asks.client in omega arith) asks.asks other;
}
