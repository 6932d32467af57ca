-- what a message does to a grant that has the vote, and to an INQUIRE that is outstanding
use Rattle.std.proofs.Common.{◌≡◌, ℕ, ◌+◌, ◌<◌, ◌≤◌, Bool, true, false, Option, Some, None, refl, sym, ap, subst, ◌∙◌, ◌⊎◌, inl, inr, arith}
use Rattle.std.proofs.lemmas.Bool.{false≢true}
use Rattle.std.proofs.lemmas.Option.{none-some, same_Some}
use Rattle.message.specs.declared.message.ToVoter.{ToVoter}
use Rattle.message.specs.declared.message.VoterBody.{VoterBody}
use Rattle.message.specs.declared.message.VoterBody.TheVariants as asks
use Rattle.message.specs.declared.request.Request.{Request}
use Rattle.message.specs.Requests.{precedes}
use Rattle.voter.specs.declared.state.Grant.{Grant}
use Rattle.voter.specs.declared.state.VoterState.{VoterState}
use Rattle.voter.specs.Entries.{request_of}
use Rattle.voter.specs.VoteMoves.{KeepsGrants}
use Rattle.voter.specs.Waiting.{front}
use Rattle.voter.specs.Steps.{Outcome, admit, current_stamp, finish, free_vote, grant_front, grant_to, join_queue, join_queue_by, outcome_of, queue, see, step, take_release, take_relinquish}
use Rattle.voter.proofs.Cases.{by_admit, by_release, by_relinquish, by_request}
use Rattle.voter.proofs.Effects.{step-Some}

-- the grant has a new number, and is not asked for
abbrev IsUnasked : VoterState → VoterState → Grant → Type 0
IsUnasked v w g = (v.granted < g.grant) × (w.inquiring ≡ false)

-- no new request: a grant is as before, or new and not asked for
record Settles (v w : VoterState) : Type 0 where
  granted : v.granted ≤ w.granted
  grants : (g : Grant) → w.held ≡ Some g → ((v.held ≡ Some g) × (w.inquiring ≡ v.inquiring)) ⊎ IsUnasked v w g

settles-grant_to : (v u : VoterState) (o : Option Request) → u.held ≡ None → u.granted ≡ v.granted → Settles v (grant_to u o).state
settles-grant_to v u None free same = record { granted = omega arith; grants = λ g held. absurd (none-some g (sym free ∙ held)) }
settles-grant_to v u (Some r) free same =
    let new : Grant = record { client = r.client; stamp = r.stamp; grant = u.granted + 1 } in
    record { granted = omega arith; grants = λ g held. inr ((let number = ap (λ (k : Grant). k.grant) (same_Some new g held) in omega arith), refl) }

settles-grant_front : (v u : VoterState) → u.held ≡ None → u.granted ≡ v.granted → Settles v (grant_front u).state
unfolding grant_front
settles-grant_front v u free same = settles-grant_to v u (front u.waiting) free same

settles-release : (v : VoterState) (c s : ℕ) → Settles v (take_release v c s).state
settles-release v c s = by_release (λ o. Settles v o.state) v c s (λ _. settles-grant_front v (free_vote (finish v c s)) refl refl)
    (λ _ _. record { granted = omega arith; grants = λ g held. inl (held, refl) }) (λ _ _. record { granted = omega arith; grants = λ g held. inl (held, refl) })

settles-relinquish : (v : VoterState) (c n : ℕ) → Settles v (take_relinquish v c n).state
settles-relinquish v c n = by_relinquish (λ o. Settles v o.state) v c n (record { granted = omega arith; grants = λ g held. inl (held, refl) })
    (λ g _. settles-grant_front v (queue (free_vote v) g.client g.stamp) refl refl)

-- a new request: a grant that is as before is asked for only if it doesn't precede the request
record Joins (v : VoterState) (c s : ℕ) (w : VoterState) : Type 0 where
  granted : v.granted ≤ w.granted
  grants : (g : Grant) → w.held ≡ Some g
      → ((v.held ≡ Some g) × (v.inquiring ≡ true → w.inquiring ≡ true) × (w.inquiring ≡ true → (v.inquiring ≡ true) ⊎ (precedes (request_of g) (record { stamp = s; client = c }) ≡ false)))
      ⊎ IsUnasked v w g

joins-join_queue_by : (waits granted : Bool) (v : VoterState) (h : Grant) (c s : ℕ) → v.held ≡ Some h → precedes (request_of h) (record { stamp = s; client = c }) ≡ granted
    → Joins v c s (join_queue_by waits granted v h c s).state
joins-join_queue_by true granted v h c s is e = record { granted = omega arith; grants = λ g held. inl (held, λ out. out, λ out. inl out) }
joins-join_queue_by false true v h c s is e = record { granted = omega arith; grants = λ g held. inl (held, λ out. out, λ out. inl out) }
joins-join_queue_by false false v h c s is e = record {
  granted = omega arith;
  grants = λ g held. inl (held, λ _. refl, λ _. inr (subst (λ (k : Grant). precedes (request_of k) (record { stamp = s; client = c }) ≡ false) (same_Some h g (sym is ∙ held)) e));
}

joins-admit : (v : VoterState) (c s : ℕ) → Joins v c s (admit v c s).state
unfolding join_queue
joins-admit v c s = by_admit (λ o. Joins v c s o.state) v c s
    (λ free. let k = settles-grant_front v (queue v c s) free refl in record {
      granted = k.granted;
      grants = λ g held. elim (k.grants g held) [ inl was ↦ absurd (none-some g (sym free ∙ was.0)) | inr new ↦ inr new ];
    })
    (λ h is. joins-join_queue_by _ _ v h c s is refl)

-- any message

settled : (v u w : VoterState) (c : ℕ) (b : VoterBody) → u.held ≡ v.held → u.inquiring ≡ v.inquiring → u.granted ≡ v.granted → Settles u w → KeepsGrants v c b w
settled v u w c b held inquiring granted k = (let rises = k.granted in record {
  granted = omega arith;
  grants = λ g has. elim (k.grants g has) [
    | inl was ↦ inl (record { held = sym held ∙ was.0; asked = λ out. was.1 ∙ inquiring ∙ out; new = λ out. inl (sym (was.1 ∙ inquiring) ∙ out) })
    | inr new ↦ inr (record { number = (let number = new.0 in omega arith); new = λ out. absurd (false≢true (sym new.1 ∙ out)) })
  ];
})

-- the client's current request, if any, is released first
joined : (v u w : VoterState) (c s : ℕ) → Settles v u → ((t : ℕ) → current_stamp v c ≡ Some t → t < s) → Joins u c s w → KeepsGrants v c (asks.Request s) w
joined v u w c s first newer k =
    let a = first.granted in
    let b = k.granted in
    record {
      granted = omega arith;
      grants = λ g has. elim (k.grants g has) [
        | inl was ↦ elim (first.grants g was.0) [
          | inl old ↦ inl (record {
            held = old.0;
            asked = λ out. was.1 (old.1 ∙ out);
            new = λ out. elim (was.2 out) [ inl before ↦ inl (sym old.1 ∙ before) | inr behind ↦ inr (record { stamp = s; request = refl; new = newer; first = behind }) ];
          })
          | inr new ↦ inr (record {
            number = new.0;
            new = λ out. elim (was.2 out) [ inl before ↦ absurd (false≢true (sym new.1 ∙ before)) | inr behind ↦ record { stamp = s; request = refl; new = newer; first = behind } ];
          })
        ]
        | inr new ↦ inr (record { number = (let number = new.0 in omega arith); new = λ out. absurd (false≢true (sym new.1 ∙ out)) })
      ];
    }

settles-self : (v : VoterState) (n : ℕ) → Settles v (see v n)
settles-self v n = record { granted = omega arith; grants = λ g held. inl (held, refl) }

grants-outcome_of : (v : VoterState) (c : ℕ) (b : VoterBody) → KeepsGrants v c b (outcome_of v c b).state
grants-outcome_of v c (asks.Request s) = by_request (λ o. KeepsGrants v c (asks.Request s) o.state) (see v s) c s (record {
  stale = λ _. settled v v (see v s) c (asks.Request s) refl refl refl (settles-self v s);
  repeated = λ _. settled v v (see v s) c (asks.Request s) refl refl refl (settles-self v s);
  only = λ _ none. joined v (see v s) (admit (see v s) c s).state c s (settles-self v s) (λ t is. absurd (none-some t (sym none ∙ is))) (joins-admit (see v s) c s);
  newer = λ _ t present less.
      let u = (take_release (see v s) c t).state in
      let k = settles-release (see v s) c t in
      joined v u (admit u c s).state c s (record { granted = k.granted; grants = k.grants }) (λ n is. let same = same_Some t n (sym present ∙ is) in omega arith) (joins-admit u c s);
})
grants-outcome_of v c (asks.Relinquish n) = settled v v (take_relinquish v c n).state c (asks.Relinquish n) refl refl refl (settles-relinquish v c n)
grants-outcome_of v c (asks.Release s) = settled v (see v s) (take_release (see v s) c s).state c (asks.Release s) refl refl refl (settles-release (see v s) c s)

pub KeepsGrants-step : (v : VoterState) (m : ToVoter) (o : Outcome) → step v m ≡ Some o → KeepsGrants v m.client m.body o.state
KeepsGrants-step v m o e = subst (λ (p : Outcome). KeepsGrants v m.client m.body p.state) (step-Some v m o e).1 (grants-outcome_of v m.client m.body)
