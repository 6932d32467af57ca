-- What giving votes back does: of these voters each vote that is held goes back by its message, and
-- every other vote is as before.
use Rattle.std.proofs.Common.{◌≡◌, ◌≢◌, ℕ, ◌<◌, Bool, true, false, cond, ◌||◌, eqb, ltb, List, [], ◌∷◌, ◌++◌, filter, refl, sym, ap, subst, ◌∙◌, ◌⊎◌, inl, inr, arith}
use Rattle.std.specs.List.{AllByRecursion, Contains}
use Rattle.std.proofs.lemmas.Bool.{cases_eq, eq-eqb, false≢true, ne_eqb, or_left, or_right}
use Rattle.std.proofs.lemmas.List.{get_or-set_other, get_or-set_same, length-set}
use Rattle.std.proofs.lemmas.List.Elements.{Contains-append_right}
use Rattle.numbers.proofs.Lists.{AllByRecursion-weaker}
use Rattle.numbers.specs.Sets.{has}
use Rattle.message.specs.declared.message.ToVoter.{ToVoter}
use Rattle.message.specs.declared.message.VoterBody.TheVariants as asks
use Rattle.requester.specs.declared.state.ClientState.{ClientState}
use Rattle.requester.specs.declared.state.Seen.TheVariants.{Nothing}
use Rattle.requester.specs.Words.{held_of, holds, is_inquired, is_relinquished, last_of}
use Rattle.requester.specs.Soundness.{HasPlaces}
use Rattle.requester.specs.Steps.{Outcome, no_effect, tell, relinquish, relinquish_if, relinquish_each}
use Rattle.requester.proofs.Members.{absurd-true_false, get_or-some_below, has_with-other, has_with-self, has-without_voter-other, has_without-self, with_below, without_below}

-- the maps have a place for each voter, and marks are of voters below 64
pub record IsWide (x : ClientState) : Type 0 where
  pub places : HasPlaces x
  pub inquired : (v : ℕ) → is_inquired x v ≡ true → v < 64
  pub given : (v : ℕ) → is_relinquished x v ≡ true → v < 64

-- ---- the rest of the client

-- only votes and marks change, and nothing is seen
pub record MovesVotes (x : ClientState) (o : Outcome) : Type 0 where
  pub rest : o.state ≡ record x { held = o.state.held; last = o.state.last; failed = o.state.failed; relinquished = o.state.relinquished; inquired = o.state.inquired }
  pub seen : o.seen ≡ Nothing

pub moves-relinquish_if : (b : Bool) (x : ClientState) (v : ℕ) → MovesVotes x (relinquish_if b x v)
moves-relinquish_if false x v = record { rest = refl; seen = refl }
moves-relinquish_if true x v = record { rest = refl; seen = refl }

pub moves-relinquish : (x : ClientState) (v : ℕ) → MovesVotes x (relinquish x v)
unfolding relinquish
moves-relinquish x v = moves-relinquish_if (holds x v) x v

pub moves-relinquish_each : (x : ClientState) (vs : List ℕ) → MovesVotes x (relinquish_each x vs)
moves-relinquish_each x [] = record { rest = refl; seen = refl }
moves-relinquish_each x (v ∷ vs) =
    let z = (relinquish_each x (v ∷ vs)).state in
    let one = (moves-relinquish x v).rest in
    let others = (moves-relinquish_each (relinquish x v).state vs).rest in
    record {
      rest = others ∙ ap (λ (s : ClientState). record s { held = z.held; last = z.last; failed = z.failed; relinquished = z.relinquished; inquired = z.inquired }) one;
      seen = refl;
    }

-- the marks of those who failed are as before
failed-relinquish_if : (b : Bool) (x : ClientState) (v : ℕ) → (relinquish_if b x v).state.failed ≡ x.failed
failed-relinquish_if false x v = refl
failed-relinquish_if true x v = refl

pub failed-relinquish_each : (x : ClientState) (vs : List ℕ) → (relinquish_each x vs).state.failed ≡ x.failed
unfolding relinquish
failed-relinquish_each x [] = refl
failed-relinquish_each x (v ∷ vs) = failed-relinquish_each (relinquish x v).state vs ∙ failed-relinquish_if (holds x v) x v

-- ---- one vote

-- the vote, its last grant and its marks are as before
pub record SameVote (x y : ClientState) (v : ℕ) : Type 0 where
  pub held : held_of y v ≡ held_of x v
  pub last : last_of y v ≡ last_of x v
  pub given : is_relinquished y v ≡ is_relinquished x v
  pub inquired : is_inquired y v ≡ is_inquired x v

-- the vote was held and no longer is; its grant is the last one given back, and it is marked so
pub record GivenVote (x y : ClientState) (v : ℕ) : Type 0 where
  pub had : holds x v ≡ true
  pub gone : held_of y v ≡ 0
  pub last : last_of y v ≡ held_of x v
  pub given : is_relinquished y v ≡ true
  pub inquired : is_inquired y v ≡ false

-- the message that gives a vote back
abbrev pub giving : ClientState → ℕ → ToVoter
giving x v = tell x v (asks.Relinquish (held_of x v))

-- a vote of one of these voters goes back if it is held, and any other is as before
abbrev pub Lot : List ℕ → ClientState → Outcome → ℕ → Type 0
Lot vs x o v = (SameVote x o.state v × (has vs v ≡ true → holds x v ≡ false)) ⊎ (GivenVote x o.state v × Contains o.out (giving x v) × (has vs v ≡ true))

-- the message gives a vote back that was held and no longer is
pub record GivesOne (x y : ClientState) (m : ToVoter) : Type 0 where
  pub client : m.client ≡ x.id
  pub had : holds x m.voter ≡ true
  pub gone : held_of y m.voter ≡ 0
  pub body : m.body ≡ asks.Relinquish (held_of x m.voter)

pub record GivesBack (vs : List ℕ) (x : ClientState) (o : Outcome) : Type 0 where
  pub wide : IsWide o.state
  pub votes : (v : ℕ) → v < 64 → Lot vs x o v
  pub out : AllByRecursion (GivesOne x o.state) o.out

pub SameVote-self : (x : ClientState) (v : ℕ) → SameVote x x v
SameVote-self x v = record { held = refl; last = refl; given = refl; inquired = refl }

gives-none : (x : ClientState) → IsWide x → GivesBack [] x (no_effect x)
gives-none x wide = record { wide = wide; votes = λ v below. inl (SameVote-self x v, λ there. absurd (false≢true there)); out = tt }

head : (vs : List ℕ) (v u : ℕ) → u ≡ v → has (v ∷ vs) u ≡ true
head vs v u same = or_left (eqb v u) (has vs u) (eq-eqb v u (sym same))

tail : (vs : List ℕ) (v u : ℕ) → u ≢ v → has (v ∷ vs) u ≡ true → has vs u ≡ true
tail vs v u other there = sym (ap (λ b. b || has vs u) (ne_eqb v u (λ same. other (sym same)))) ∙ there

wide-given : (x : ClientState) (v : ℕ) → IsWide x → IsWide (relinquish_if true x v).state
wide-given x v wide =
    let p = wide.places in
    record {
      places = record { held = length-set x.held v 0 ∙ p.held; last = length-set x.last v (held_of x v) ∙ p.last };
      inquired = λ u is. without_below x.inquired v u is;
      given = λ u is. with_below x.relinquished v u is;
    }

voter_below : (x : ClientState) (v : ℕ) → IsWide x → holds x v ≡ true → v < 64
voter_below x v wide has = (let place = get_or-some_below x.held v has in let held = wide.places.held in omega arith)

given-now : (x : ClientState) (v : ℕ) → IsWide x → holds x v ≡ true → GivenVote x (relinquish_if true x v).state v
given-now x v wide has =
    let place = get_or-some_below x.held v has in
    let held = wide.places.held in
    let last = wide.places.last in
    record {
      had = has;
      gone = get_or-set_same x.held v 0 0 place;
      last = get_or-set_same x.last v (held_of x v) 0 (omega arith);
      given = has_with-self x.relinquished v (omega arith);
      inquired = has_without-self x.inquired v (omega arith);
    }

same-other : (x : ClientState) (v u : ℕ) → u < 64 → u ≢ v → SameVote x (relinquish_if true x v).state u
same-other x v u below other = record {
  held = get_or-set_other x.held v u 0 0 other;
  last = get_or-set_other x.last v u (held_of x v) 0 other;
  given = has_with-other x.relinquished v u below other;
  inquired = has-without_voter-other x.inquired v u below other;
}

-- one vote goes back if it is held, and then those of the other voters
gives-then : (b : Bool) (x : ClientState) (v : ℕ) (vs : List ℕ) (r : Outcome) → IsWide x → holds x v ≡ b → GivesBack vs (relinquish_if b x v).state r
    → GivesBack (v ∷ vs) x (record { out = (relinquish_if b x v).out ++ r.out; seen = Nothing; state = r.state })
gives-then false x v vs r wide free k = record {
  wide = k.wide;
  votes = λ u below. elim (k.votes u below) [
    | inl same ↦ inl (same.0, λ there. elim (cases_eq u v) [ inl at ↦ ap (holds x) at ∙ free | inr other ↦ same.1 (tail vs v u other there) ])
    | inr given ↦ inr (given.0, given.1, or_right (eqb v u) (has vs u) given.2)
  ];
  out = k.out;
}
gives-then true x v vs r wide has_it k = record {
  wide = k.wide;
  votes = λ u below. elim (cases_eq u v) [
    | inl at ↦ subst (Lot (v ∷ vs) x o) (sym at) (here (subst (λ n. n < 64) at below))
    | inr other ↦ there u below other (k.votes u below)
  ];
  out = (
    record { client = refl; had = has_it; gone = elim (k.votes v (voter_below x v wide has_it)) [ inl same ↦ same.0.held ∙ now.gone | inr given ↦ given.0.gone ]; body = refl },
    AllByRecursion-weaker (GivesOne y r.state) (GivesOne x r.state) later r.out k.out,
  );
}
  where
    y : ClientState
    y = (relinquish_if true x v).state

    o : Outcome
    o = record { out = giving x v ∷ r.out; seen = Nothing; state = r.state }

    now : GivenVote x y v
    now = given-now x v wide has_it

    here : v < 64 → Lot (v ∷ vs) x o v
    here below = elim (k.votes v below) [
      | inl same ↦
          let s = same.0 in
          inr (
            record { had = has_it; gone = s.held ∙ now.gone; last = s.last ∙ now.last; given = s.given ∙ now.given; inquired = s.inquired ∙ now.inquired },
            (0, omega arith, refl),
            head vs v v refl,
          )
      | inr given ↦ absurd-true_false (holds y v) given.0.had (ap (ltb 0) now.gone)
    ]

    there : (u : ℕ) → u < 64 → u ≢ v → Lot vs y r u → Lot (v ∷ vs) x o u
    there u below other (inl same) =
        let a = same-other x v u below other in
        let b = same.0 in
        inl (
          record { held = b.held ∙ a.held; last = b.last ∙ a.last; given = b.given ∙ a.given; inquired = b.inquired ∙ a.inquired },
          λ is. sym (ap (ltb 0) a.held) ∙ same.1 (tail vs v u other is),
        )
    there u below other (inr given) =
        let a = same-other x v u below other in
        let b = given.0 in
        inr (
          record { had = sym (ap (ltb 0) a.held) ∙ b.had; gone = b.gone; last = b.last ∙ a.held; given = b.given; inquired = b.inquired },
          subst (λ n. Contains (giving x v ∷ r.out) (tell x u (asks.Relinquish n))) a.held (Contains-append_right (giving x v ∷ []) r.out (giving y u) given.1),
          or_right (eqb v u) (has vs u) given.2,
        )

    later : (m : ToVoter) → GivesOne y r.state m → GivesOne x r.state m
    later m g = elim (cases_eq m.voter v) [
      | inl at ↦ absurd-true_false (holds y m.voter) g.had (ap (holds y) at ∙ ap (ltb 0) now.gone)
      | inr other ↦
          let held : held_of y m.voter ≡ held_of x m.voter = get_or-set_other x.held v m.voter 0 0 other in
          record {
            client = g.client;
            had = sym (ap (ltb 0) held) ∙ g.had;
            gone = g.gone;
            body = g.body ∙ ap (λ n. asks.Relinquish n) held;
          }
    ]

gives-if : (b : Bool) (x : ClientState) (v : ℕ) → IsWide x → holds x v ≡ b → GivesBack (v ∷ []) x (relinquish_if b x v)
gives-if false x v wide e = gives-then false x v [] (no_effect x) wide e (gives-none x wide)
gives-if true x v wide e = (let y = (relinquish_if true x v).state in gives-then true x v [] (no_effect y) wide e (gives-none y (wide-given x v wide)))

pub gives-relinquish : (x : ClientState) (v : ℕ) → IsWide x → GivesBack (v ∷ []) x (relinquish x v)
unfolding relinquish
gives-relinquish x v wide = gives-if (holds x v) x v wide refl

pub gives-relinquish_each : (x : ClientState) (vs : List ℕ) → IsWide x → GivesBack vs x (relinquish_each x vs)
unfolding relinquish
gives-relinquish_each x [] wide = gives-none x wide
gives-relinquish_each x (v ∷ vs) wide =
    let y = (relinquish x v).state in
    gives-then (holds x v) x v vs (relinquish_each y vs) wide refl (gives-relinquish_each y vs (gives-relinquish x v wide).wide)

-- ---- the voters of a list that pass a test

pub filter-passes : (p : ℕ → Bool) (vs : List ℕ) (u : ℕ) → has (filter p vs) u ≡ true → p u ≡ true
filter-passes p [] u there = absurd (false≢true there)
filter-passes p (v ∷ vs) u there = elim (p v) as (λ b. p v ≡ b → has (cond b (v ∷ filter p vs) (filter p vs)) u ≡ true → p u ≡ true) [
  | true ↦ λ is here. elim (cases_eq u v) [ inl same ↦ ap p same ∙ is | inr other ↦ filter-passes p vs u (tail (filter p vs) v u other here) ]
  | false ↦ λ is here. filter-passes p vs u here
] refl there

pub filter-keeps : (p : ℕ → Bool) (vs : List ℕ) (u : ℕ) → has vs u ≡ true → p u ≡ true → has (filter p vs) u ≡ true
filter-keeps p [] u there is = absurd (false≢true there)
filter-keeps p (v ∷ vs) u there is = elim (p v) as (λ b. p v ≡ b → has (cond b (v ∷ filter p vs) (filter p vs)) u ≡ true) [
  | true ↦ λ passes. elim (cases_eq u v) [
    | inl same ↦ head (filter p vs) v u same
    | inr other ↦ or_right (eqb v u) (has (filter p vs) u) (filter-keeps p vs u (tail vs v u other there) is)
  ]
  | false ↦ λ fails. elim (cases_eq u v) [
    | inl same ↦ absurd-true_false (p v) (sym (ap p same) ∙ is) fails
    | inr other ↦ filter-keeps p vs u (tail vs v u other there) is
  ]
] refl
