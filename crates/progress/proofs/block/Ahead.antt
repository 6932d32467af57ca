-- which grants are ahead of a request that waits: once a voter's grant is not behind it, it stays
-- so
use Rattle.std.proofs.Common.{◌≡◌, ℕ, ◌<◌, false, List, Some, sym, ap, subst, ◌∙◌, ◌⊎◌, inl, inr, arith}
use Rattle.std.proofs.lemmas.Bool.{cases_eq}
use Rattle.std.proofs.lemmas.Bool.Decides.{nat_tests}
use Rattle.std.proofs.lemmas.Option.{same_Some}
use Rattle.voter.specs.declared.state.Grant.{Grant}
use Rattle.voter.specs.declared.state.VoterState.{VoterState}
use Rattle.voter.specs.Entries.{request_of}
use Rattle.voter.specs.Steps as voter
use Rattle.voter.specs.VoterContract.{IsEntry}
use Rattle.message.specs.Requests.{precedes}
use Rattle.world_state.specs.declared.step.Step.{Step}
use Rattle.world_state.specs.Steps.{WorldState, client_at, voter_at}
use Rattle.progress.specs.Rules.{Laws}
use Rattle.progress.proofs.overtaking.Behind.{grant_moved, the_request}
use Rattle.progress.proofs.run.Moves.{MovedBy, VoterMoved}
use Rattle.progress.proofs.block.Steady.{Seeks, Steady, held_exists, steady_ok}
use Rattle.progress.proofs.invariants.Sure.{Course}

-- ---- grants that are not behind a request

-- the voter's grant is not behind the request of the client m
abbrev pub NotBehind : WorldState → ℕ → ℕ → WorldState → Type 0
NotBehind w m v x = (g : Grant) → (voter_at x.voters v).held ≡ Some g → precedes (the_request w m) (request_of g) ≡ false

-- a grant of the request itself is not behind it
pub own_not : (g : Grant) (m s : ℕ) → g.client ≡ m → g.stamp ≡ s → precedes (record { stamp = s; client = m }) (request_of g) ≡ false
own_not g m s client stamp = grind (arith, nat_tests)

-- the grant after a voter's step is as before, or new and not behind a request that it knew
new_not_behind : (laws : Laws) (x y : WorldState) (m s : ℕ) (k : VoterMoved x y) → voter.IsSound (voter_at x.voters k.message.voter) → IsEntry (voter_at x.voters k.message.voter) m s
    → IsEntry k.outcome.state m s → (g : Grant) → k.outcome.state.held ≡ Some g → (voter_at x.voters k.message.voter).granted < g.grant
    → precedes (record { stamp = s; client = m }) (request_of g) ≡ false
new_not_behind laws x y m s k ok before after g held new = elim after [
  | inl has ↦ (let same = same_Some has.0 g (sym has.1 ∙ held) in
      own_not g m s (ap (λ (h : Grant). h.client) (sym same) ∙ has.2) (ap (λ (h : Grant). h.stamp) (sym same) ∙ has.3))
  | inr waits ↦ laws.voter.first (voter_at x.voters k.message.voter) k.message k.outcome g m s ok k.step held new before waits
]

-- what a step does to a grant: it is as before, or it is new and not behind
pub grant_step : (laws : Laws) (p : Course) (w : WorldState) (D : ℕ → Type 0) (m v : ℕ) → Seeks p w D m v → (s : Step) (x y : WorldState) → Steady p w D x → Steady p w D y → MovedBy s x y
    → (g : Grant) → (voter_at y.voters v).held ≡ Some g
    → ((voter_at x.voters v).held ≡ Some g) ⊎ ((precedes (the_request w m) (request_of g) ≡ false) × ((voter_at x.voters v).granted < g.grant) × (y.clients ≡ x.clients))
grant_step laws p w D m v f s x y before after moved g held = elim moved [
  | inl k ↦ inl (ap (λ (vs : List VoterState). (voter_at vs v).held) (sym k.0.voters) ∙ held)
  | inr (inl moves) ↦
      let k = moves.0 in
      let ok = steady_ok laws p w D x before in
      elim (cases_eq v k.message.voter) [
        | inr other ↦ inl (ap (λ (z : VoterState). z.held) (sym (k.others v other)) ∙ held)
        | inl same ↦
            let here = ap (voter_at y.voters) same ∙ k.here in
            let now : k.outcome.state.held ≡ Some g = ap (λ (z : VoterState). z.held) (sym here) ∙ held in
            elim (grant_moved laws.voter x y ok k g now) [
              | inl was ↦ inl (ap (λ q. (voter_at x.voters q).held) same ∙ was)
              | inr next ↦
                  let stamp = (client_at w.clients m).stamp in
                  let first = subst (λ q. IsEntry (voter_at x.voters q) m stamp) same (before.known m v f.asks f.member) in
                  let then_known = subst (λ (z : VoterState). IsEntry z m stamp) here (after.known m v f.asks f.member) in
                  let count = ap (λ q. (voter_at x.voters q).granted) same in
                  inr (
                    new_not_behind laws x y m stamp k (ok.voters k.message.voter) first then_known g now (omega arith),
                    omega arith,
                    k.clients,
                  )
            ]
      ]
  | inr (inr k) ↦ inl (ap (λ (vs : List VoterState). (voter_at vs v).held) (sym k.voters) ∙ held)
]

pub not_behind_kept : (laws : Laws) (p : Course) (w : WorldState) (D : ℕ → Type 0) (m v : ℕ) → Seeks p w D m v → (s : Step) (x y : WorldState) → Steady p w D x → Steady p w D y → MovedBy s x y
    → NotBehind w m v x → NotBehind w m v y
not_behind_kept laws p w D m v f s x y before after moved h g held = elim (grant_step laws p w D m v f s x y before after moved g held) [
  | inl was ↦ h g was
  | inr new ↦ new.0
]

-- the grant has the vote on, or the next one is not behind
pub vote_or_ahead : (laws : Laws) (p : Course) (w : WorldState) (D : ℕ → Type 0) (m v : ℕ) → Seeks p w D m v → (g : Grant) → (s : Step) (x y : WorldState) → Steady p w D x → Steady p w D y → MovedBy s x y
    → (voter_at x.voters v).held ≡ Some g → ((voter_at y.voters v).held ≡ Some g) ⊎ NotBehind w m v y
vote_or_ahead laws p w D m v f g s x y before after moved has =
    let now = held_exists laws p w D y m v after f.asks f.member in
    elim (grant_step laws p w D m v f s x y before after moved now.0 now.1) [
      | inl was ↦ inl (now.1 ∙ sym was ∙ has)
      | inr new ↦ inr (λ h held. subst (λ (k : Grant). precedes (the_request w m) (request_of k) ≡ false) (same_Some now.0 h (sym now.1 ∙ held)) new.0)
    ]
