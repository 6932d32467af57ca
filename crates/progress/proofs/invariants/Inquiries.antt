-- when an INQUIRE is outstanding, and what voters reply to requests that they know
use Rattle.std.proofs.Common.{◌≡◌, ◌≢◌, ℕ, ◌<◌, ◌≤◌, Bool, true, false, [], ◌∷◌, Option, Some, None, refl, sym, ap, subst, ◌∙◌, ◌⊎◌, inl, inr, arith}
use Rattle.std.specs.Prelude.{◌==◌, if◌then◌else◌, slice_index}
use Rattle.std.specs.FinMap.{get}
use Rattle.std.proofs.lemmas.Bool.{false≢true, false_from_ne_true}
use Rattle.std.proofs.lemmas.Bool.Decides.{nat_tests}
use Rattle.std.proofs.lemmas.Option.{none-some, same_Some}
use Rattle.message.specs.declared.message.ToVoter.{ToVoter}
use Rattle.message.specs.declared.message.ClientBody.TheVariants as to_client
use Rattle.message.specs.declared.message.VoterBody.TheVariants as asks
use Rattle.voter.specs.declared.state.Grant.{Grant}
use Rattle.voter.specs.declared.state.VoterState.{VoterState}
use Rattle.voter.specs.Steps as voter
use Rattle.voter.specs.Entries.{request_of}
use Rattle.voter.specs.VoteMoves.{Challenges}
use Rattle.voter.specs.VoterContract.{IsEntry}
use Rattle.message.specs.Requests.{precedes}
use Rattle.voter.proofs.Cases.{by_release, by_request}
use Rattle.voter.proofs.Effects.{step-Some}
use Rattle.voter.proofs.Inquiring.{KeepsGrants-step}
use Rattle.voter.proofs.Soundness.{GrantsAreOrderly, get-removed_self}
use Rattle.voter.proofs.Staying.{current_stamp-entry}
use Rattle.progress.specs.Rules.{VoterLaws}

-- ---- an INQUIRE stays outstanding as long as the grant stays

-- A grant is as before, and an INQUIRE that was outstanding still is, or the grant is new.
pub record Outlasts (v w : VoterState) : Type 0 where
  pub granted : v.granted ≤ w.granted
  pub grants : (g : Grant) → w.held ≡ Some g → ((v.held ≡ Some g) × (v.inquiring ≡ true → w.inquiring ≡ true)) ⊎ (v.granted < g.grant)

pub Outlasts-self : (v : VoterState) → Outlasts v v
Outlasts-self v = record { granted = omega arith; grants = λ g held. inl (held, λ is. is) }

pub Outlasts-then : (v w u : VoterState) → Outlasts v w → Outlasts w u → Outlasts v u
Outlasts-then v w u a b =
    let first = a.granted in
    let second = b.granted in
    record {
      granted = omega arith;
      grants = λ g held. elim (b.grants g held) [
        | inl was ↦ elim (a.grants g was.0) [
          | inl before ↦ inl (before.0, λ is. was.1 (before.1 is))
          | inr new ↦ inr new
        ]
        | inr new ↦ inr (omega arith)
      ];
    }

pub Outlasts-step : (v : VoterState) (m : ToVoter) (o : voter.Outcome) → voter.step v m ≡ Some o → Outlasts v o.state
Outlasts-step v m o e = (let k = KeepsGrants-step v m o e in record {
  granted = k.granted;
  grants = λ g held. elim (k.grants g held) [ inl kept ↦ inl (kept.held, kept.asked) | inr new ↦ inr new.number ];
})

-- ---- a REQUEST that is known gets its reply again, and changes nothing else

pub orderly : (v : VoterState) → voter.IsSound v → GrantsAreOrderly v
orderly v ok = record { numbered = ok.numbered; apart = ok.apart; free = ok.free }

pub replies_again : (y : VoterState) (m : ToVoter) (s : ℕ) (o : voter.Outcome) → voter.IsSound y → m.body ≡ asks.Request s → slice_index y.finished m.client < s → IsEntry y m.client s
    → voter.step y m ≡ Some o → o ≡ record { replies = voter.again (voter.see y s) y.held m.client s; state = voter.see y s }
replies_again y m s o ok is unfinished entry step =
    let c = m.client in
    let v = voter.see y s in
    let present : voter.current_stamp v c ≡ Some s = current_stamp-entry y c s (orderly y ok) entry in
    let out : voter.outcome_of y c (asks.Request s) ≡ record { replies = voter.again v v.held c s; state = v } = by_request (λ (p : voter.Outcome). p ≡ record { replies = voter.again v v.held c s; state = v }) v c s (record {
      stale = λ old. absurd (elim old [ inl done ↦ omega arith | inr above ↦ (let same = same_Some above.0 s (sym above.1 ∙ present) in let less = above.2 in omega arith) ]);
      repeated = λ _. refl;
      only = λ _ none. absurd (none-some s (sym none ∙ present));
      newer = λ _ t here less. absurd (let same = same_Some t s (sym here ∙ present) in omega arith);
    }) in
    sym (step-Some y m o step).1 ∙ ap (voter.outcome_of y c) is ∙ out

pub again_locks : (v : VoterState) (o : Option Grant) (g : Grant) (c s : ℕ) → o ≡ Some g → g.client ≡ c → voter.again v o c s ≡ voter.reply v c (to_client.Locked s g.grant) ∷ []
again_locks v o g c s held own = ap (λ h. voter.again v h c s) held ∙ ap (λ b. voter.again_by b v g c s) (let e : (g.client == c) ≡ true = grind (arith, nat_tests) in e)

pub again_fails : (v : VoterState) (o : Option Grant) (g : Grant) (c s : ℕ) → o ≡ Some g → g.client ≢ c → voter.again v o c s ≡ voter.reply v c (to_client.Fail s) ∷ []
again_fails v o g c s held other = ap (λ h. voter.again v h c s) held ∙ ap (λ b. voter.again_by b v g c s) (false_from_ne_true (g.client == c) (λ is. other (grind (arith, nat_tests))))

-- ---- which messages ask for a vote

-- If each REQUEST that comes is known, or comes after the grant, no vote is asked for.
pub asks_no_vote : (y : VoterState) (m : ToVoter) (o : voter.Outcome) → voter.IsSound y → (g : Grant)
    → ((s : ℕ) → m.body ≡ asks.Request s → IsEntry y m.client s ⊎ (precedes (request_of g) (record { stamp = s; client = m.client }) ≡ true))
    → voter.step y m ≡ Some o → o.state.held ≡ Some g → o.state.inquiring ≡ true → (y.held ≡ Some g) × (y.inquiring ≡ true)
asks_no_vote y m o ok g cases step held asked = elim ((KeepsGrants-step y m o step).grants g held) [
  | inl kept ↦ (kept.held, elim (kept.new asked) [ inl was ↦ was | inr by ↦ absurd (never by) ])
  | inr new ↦ absurd (never (new.new asked))
]
  where
    never : Challenges y m.client m.body g → ⊥
    never by = elim (cases by.stamp by.request) [
      | inl known ↦ let less = by.new by.stamp (current_stamp-entry y m.client by.stamp (orderly y ok) known) in omega arith
      | inr behind ↦ false≢true (sym by.first ∙ behind)
    ]

-- ---- RELEASE ends all requests up to its stamp

above : (o : Option Grant) (g : Grant) (c s t : ℕ) → o ≡ Some g → g.client ≡ c → g.stamp ≡ t → voter.is_up_to (voter.held_stamp o c) s ≡ false → s < t
above None g c s t held own stamp e = absurd (none-some g held)
above (Some h) g c s t held own stamp e =
    let same = same_Some h g held in
    let client = ap (λ (k : Grant). k.client) same in
    let number = ap (λ (k : Grant). k.stamp) same in
    grind (arith, nat_tests)

waits_above : (o : Option ℕ) (s t : ℕ) → o ≡ Some t → voter.is_up_to o s ≡ false → s < t
waits_above None s t is e = absurd (none-some t is)
waits_above (Some u) s t is e = (let same = same_Some u t is in grind (arith, nat_tests))

abbrev EndedUpTo : ℕ → ℕ → voter.Outcome → Type 0
EndedUpTo c s o = (t : ℕ) → IsEntry o.state c t → s < t

ended-waiting : (v : VoterState) (c s : ℕ) → voter.is_up_to (voter.held_stamp v.held c) s ≡ false → EndedUpTo c s (voter.take_release v c s)
ended-waiting v c s none = by_release (EndedUpTo c s) v c s (λ up. absurd (false≢true (sym none ∙ up)))
    (λ _ _ t entry. elim entry [
      | inl held ↦ above v.held held.0 c s t held.1 held.2 held.3 none
      | inr waits ↦ absurd (none-some t (sym (get-removed_self v.waiting c) ∙ waits))
    ])
    (λ _ neither t entry. elim entry [
      | inl held ↦ above v.held held.0 c s t held.1 held.2 held.3 none
      | inr waits ↦ waits_above (get v.waiting c) s t waits neither
    ])

up_by : (b : Bool) (t s : ℕ) → voter.is_up_to (if b then Some t else None) s ≡ true → (b ≡ true) × (t ≤ s)
up_by true t s e = (refl, grind (arith, nat_tests))
up_by false t s e = absurd (false≢true e)

up_to_some : (o : Option Grant) (c s : ℕ) → voter.is_up_to (voter.held_stamp o c) s ≡ true → (g : Grant) × (o ≡ Some g) × (g.client ≡ c) × (g.stamp ≤ s)
up_to_some None c s e = absurd (false≢true e)
up_to_some (Some g) c s e = (let up = up_by (g.client == c) g.stamp s e in let here = up.0 in (g, refl, grind (arith, nat_tests), up.1))

pub ends_up_to : (laws : VoterLaws) (y : VoterState) (m : ToVoter) (s : ℕ) (o : voter.Outcome) → voter.IsSound y → m.body ≡ asks.Release s → voter.step y m ≡ Some o
    → (t : ℕ) → IsEntry o.state m.client t → s < t
ends_up_to laws y m s o ok is step = elim (voter.is_up_to (voter.held_stamp y.held m.client) s) as (λ b. voter.is_up_to (voter.held_stamp y.held m.client) s ≡ b
    → (t : ℕ) → IsEntry o.state m.client t → s < t) [
      | true ↦ λ up t entry.
          let g = up_to_some y.held m.client s up in
          absurd (laws.ends y m o g.0 s ok g.1 (sym g.2) is g.3 step t (subst (λ c. IsEntry o.state c t) (sym g.2) entry))
      | false ↦ λ none. subst (EndedUpTo m.client s) (sym (ap (voter.outcome_of y m.client) is) ∙ (step-Some y m o step).1) (ended-waiting (voter.see y s) m.client s none)
    ] refl
