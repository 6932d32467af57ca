-- a voter that can be saved still can after each step
use Rattle.std.proofs.Common.{◌≡◌, ℕ, zero, suc, ◌<◌, ◌≤◌, ◌^◌, Bool, true, false, length, Option, Some, None, refl, sym, ap, subst, ◌∙◌, ◌⊎◌, inl, inr, arith, ltb}
use Rattle.std.specs.Prelude.{nat_le, slice_index}
use Rattle.std.specs.FinMap.{get, get-empty}
use Rattle.std.specs.Ordering.{nat_cmp}
use Rattle.std.proofs.lemmas.Bool.Decides.{nat_tests}
use Rattle.std.proofs.lemmas.List.{length-replicate}
use Rattle.std.proofs.lemmas.Option.{none-some, same_Some}
use Rattle.message.specs.declared.message.ToVoter.{ToVoter}
use Rattle.message.specs.declared.message.VoterBody.{VoterBody}
use Rattle.message.specs.declared.message.VoterBody.TheVariants as asks
use Rattle.voter.specs.declared.state.Grant.{Grant}
use Rattle.voter.specs.declared.state.VoterState.{VoterState}
use Rattle.voter.specs.Leases.{reborn}
use Rattle.voter.specs.Saved.{IsHolder, IsKept, least_voter}
use Rattle.voter.specs.Steps.{Outcome, IsSound, effect_of, no_reply, outcome_of, see, start, step, take_request, take_request_by}
use Rattle.voter.specs.VoteMoves.{GrantIsNew, VoteMoves}
use Rattle.voter.specs.VoterContract.{Brings, IsEntry, MeetsContract}
use Rattle.voter.proofs.Contract.{MeetsContract-step}
use Rattle.voter.proofs.Effects.{IsSound-step, VoteMoves-step, step-Some}
use Rattle.voter.proofs.Finished.{places-outcome_of}
use Rattle.voter.proofs.ReplyLemmas.{CarrySeen-step}
use Rattle.voter.proofs.Soundness.{IsSound-counted, IsSound-start}

is_nothing : (b : VoterBody) → (b ≡ asks.Request 0) ⊎ (b ≡ asks.Request 0 → ⊥)
is_nothing (asks.Request zero) = inl refl
is_nothing (asks.Request (suc n)) = inr (λ e. cc)
is_nothing (asks.Relinquish n) = inr (λ e. cc)
is_nothing (asks.Release s) = inr (λ e. cc)

-- a client below 64, and a stamp that is not 0
abbrev IsKnownRequest : ℕ → ℕ → Type 0
IsKnownRequest c s = (c < 64) × (1 ≤ s)

below_waits : (v : VoterState) → IsKept v → (c s : ℕ) → get v.waiting c ≡ Some s → c < 64
below_waits v kept c s is = elim (ltb c 64) as (λ b. ltb c 64 ≡ b → c < 64) [
  | true ↦ λ e. grind (arith, nat_tests)
  | false ↦ λ e. let past : 64 ≤ c = grind (arith, nat_tests) in absurd (none-some s (sym (kept.few c past) ∙ is))
] refl

known : (v : VoterState) → IsKept v → (c s : ℕ) → IsEntry v c s → IsKnownRequest c s
known v kept c s is = elim is [
  | inl held ↦
      let h : IsHolder (Some held.0) = subst (λ o. IsHolder o) held.1 kept.holder in
      (subst (λ n. n < 64) held.2 h.0, subst (λ n. 1 ≤ n) held.3 h.1)
  | inr waits ↦ (below_waits v kept c s waits, kept.stamped c s waits)
]

brought : (client : ℕ) (b : VoterBody) → client < 64 → (b ≡ asks.Request 0 → ⊥) → (c s : ℕ) → Brings client b c s → IsKnownRequest c s
brought client (asks.Request zero) few some c s brings = absurd (some refl)
brought client (asks.Request (suc n)) few some c s brings = (subst (λ n. n < 64) (sym brings.0) few, let is = brings.1 in omega arith)
brought client b few some c s brings = absurd brings

-- a REQUEST of stamp 0 is finished from the start: it changes nothing
nothing : (v : VoterState) (c : ℕ) → outcome_of v c (asks.Request 0) ≡ no_reply (see v 0)
unfolding take_request
nothing v c = let done : nat_le 0 (slice_index v.finished c) ≡ true = grind (arith, nat_tests) in ap (λ b. take_request_by b (see v 0) c 0) done

known_after : (v : VoterState) (m : ToVoter) (o : Outcome) → IsKept v → m.client < 64 → (m.body ≡ asks.Request 0 → ⊥) → MeetsContract v m o → (c s : ℕ) → IsEntry o.state c s → IsKnownRequest c s
known_after v m o kept few some meets c s is = elim (meets.entries c s is) [
  | inl was ↦ known v kept c s was
  | inr brings ↦ brought m.client m.body few some c s brings
]

known_by : (v : VoterState) (m : ToVoter) (o : Outcome) → IsKept v → m.client < 64 → step v m ≡ Some o → (c s : ℕ) → IsEntry o.state c s → IsKnownRequest c s
known_by v m o kept few is = elim (is_nothing m.body) [
  | inl same ↦ λ c s entry. known v kept c s (subst (λ (p : Outcome). IsEntry p.state c s) (sym (step-Some v m o is).1 ∙ ap (outcome_of v m.client) same ∙ nothing v m.client) entry)
  | inr some ↦ known_after v m o kept few some (MeetsContract-step v m o is)
]

fresh : (v w : VoterState) → GrantIsNew v w → (g : Grant) → w.held ≡ Some g → 1 ≤ g.grant
fresh v w new g is =
    let same = ap (λ (k : Grant). k.grant) (same_Some new.grant g (sym new.held ∙ is)) in
    let number = new.number in
    omega arith

numbered_after : (frees : Bool) (v w : VoterState) → VoteMoves frees v w → ((g : Grant) → v.held ≡ Some g → 1 ≤ g.grant) → (g : Grant) → w.held ≡ Some g → 1 ≤ g.grant
numbered_after true v w moves was g is = elim moves [
  | inl ends ↦ absurd (none-some g (sym ends.held ∙ is))
  | inr new ↦ fresh v w new g is
]
numbered_after false v w moves was g is = elim moves [
  | inl stays ↦ was g (sym stays.held ∙ is)
  | inr new ↦ fresh v w new.1 g is
]

holder_from : (o : Option Grant) → ((g : Grant) → o ≡ Some g → (g.client < 64) × (1 ≤ g.stamp) × (1 ≤ g.grant)) → IsHolder o
holder_from None h = tt
holder_from (Some g) h = h g refl

none_from : (o : Option ℕ) → ((s : ℕ) → o ≡ Some s → ⊥) → o ≡ None
none_from None h = refl
none_from (Some s) h = absurd (h s refl)

pub IsKept-step : (v : VoterState) (m : ToVoter) (o : Outcome) → IsKept v → m.client < 64 → step v m ≡ Some o → IsKept o.state
IsKept-step v m o kept few is =
    let known_now = known_by v m o kept few is in
    let carry = CarrySeen-step v m o is in
    let first : (g : Grant) → v.held ≡ Some g → 1 ≤ g.grant = λ g held. (let h : IsHolder (Some g) = subst (λ o. IsHolder o) held kept.holder in h.2) in
    record {
      sound = IsSound-step v m o kept.sound is;
      id = subst (λ n. n < 64) (sym carry.id) kept.id;
      holder = holder_from o.state.held (λ g held. (
          let k = known_now g.client g.stamp (inl (g, held, refl, refl)) in
          (k.0, k.1, numbered_after (effect_of v m).frees v o.state (VoteMoves-step v m o kept.sound is) first g held)
          ));
      stamped = λ c s waits. (known_now c s (inr waits)).1;
      places = ap (λ (p : Outcome). length p.state.finished) (sym (step-Some v m o is).1) ∙ places-outcome_of v m.client m.body ∙ kept.places;
      few = λ c past. none_from (get o.state.waiting c) (λ s waits. let below = (known_now c s (inr waits)).0 in omega arith);
    }

pub IsKept-start : (id limit : ℕ) → id < 64 → limit ≤ 2 ^ 62 → IsKept (start id limit)
IsKept-start id limit few most = record {
  sound = IsSound-start id limit most;
  id = few;
  holder = tt;
  stamped = λ c s is. absurd (none-some s (sym (get-empty nat_cmp c) ∙ is));
  places = length-replicate {A = ℕ} 64 0;
  few = λ c past. get-empty nat_cmp c;
}

pub IsKept-reborn : (id above limit : ℕ) → id < 64 → above ≤ limit → limit ≤ 2 ^ 62 → IsKept (reborn id above limit)
IsKept-reborn id above limit few less most =
    let new = IsKept-start id limit few most in
    record {
      sound = record { limit = most; granted = less; numbered = λ g held. absurd (none-some g held); apart = new.sound.apart; free = new.sound.free };
      id = few;
      holder = tt;
      stamped = new.stamped;
      places = new.places;
      few = new.few;
    }

pub IsKept-counted : (v : VoterState) (granted limit : ℕ) → IsKept v → v.granted ≤ granted → granted ≤ limit → limit ≤ 2 ^ 62
    → IsKept (record v { granted = granted; limit = limit })
IsKept-counted v granted limit kept more within most = record {
  sound = IsSound-counted v granted limit kept.sound more within most;
  id = kept.id;
  holder = kept.holder;
  stamped = kept.stamped;
  places = kept.places;
  few = kept.few;
}

-- what the least of a voter keeps

pub least_is_sound : (v : VoterState) → IsSound v → IsSound (least_voter v)
least_is_sound v sound = record {
  limit = sound.limit;
  granted = sound.granted;
  numbered = sound.numbered;
  apart = λ g held. get-empty nat_cmp g.client;
  free = λ held c. get-empty nat_cmp c;
}

pub IsKept-least : (v : VoterState) → IsKept v → IsKept (least_voter v)
IsKept-least v kept = record {
  sound = least_is_sound v kept.sound;
  id = kept.id;
  holder = kept.holder;
  stamped = λ c s is. absurd (none-some s (sym (get-empty nat_cmp c) ∙ is));
  places = length-replicate {A = ℕ} 64 0;
  few = λ c past. get-empty nat_cmp c;
}
