-- who has the vote of a lock in the quiet time, or waits for it, and what was said
use Rattle.std.proofs.Common.{◌≡◌, ◌<◌, ◌≤◌, ℕ, Bool, true, false, List, [], ◌∷◌, refl, sym, ap, subst, ◌∙◌, ◌⊎◌, inl, inr, Option, Some, None, arith, length}
use Rattle.std.specs.Prelude.{◌&&◌, ◌==◌, nat_lt, nat_le, slice_index, slice_set, not, if◌then◌else◌}
use Rattle.std.proofs.lemmas.Bool.{cases_eq, cases_lt, false≢true}
use Rattle.std.proofs.lemmas.Bool.Decides.{nat_tests}
use Rattle.std.proofs.lemmas.List.{get_or-set_other, get_or-set_same, set_past}
use Rattle.std.proofs.lemmas.Option.{none-some, same_Some}
use Rattle.numbers.specs.Bounds.{max_clients, max_limit}
use Rattle.numbers.proofs.Lists.{slice_index-replicate_zero}
use Rattle.numbers.proofs.Options.{and-true}
use Rattle.message.specs.declared.message.ToVoter.{ToVoter}
use Rattle.message.specs.declared.message.VoterBody.{VoterBody}
use Rattle.message.specs.declared.message.VoterBody.TheVariants as asks
use Rattle.quiet_time.specs.declared.since_start.SinceStart.{SinceStart}
use Rattle.quiet_time.specs.Quiet.{is_old, is_said, is_stamp, noted, puts_off, quiet_step, since_start, step_of_old}
use Rattle.quiet_time.specs.Runs.{Begins, Event, Extends, Hears, IsOver, IsSaid, IsSaidBy, LetsGo, Lock, after, all_happen, happens, hears, with_limit}
use Rattle.quiet_time.proofs.Split.{BringsAs, Grants, Split, split-step}
use Rattle.voter.specs.declared.state.Grant.{Grant}
use Rattle.voter.specs.declared.state.VoterState.{VoterState}
use Rattle.voter.specs.Leases.{evict, evict_held, release_of}
use Rattle.voter.specs.Steps.{IsSound, Outcome, current_stamp, is_grant, no_reply, step}
use Rattle.voter.proofs.Contract.{Says, Stamps, Stamps-outcome_of}
use Rattle.voter.proofs.Effects.{IsSound-step, step-Some}

-- ---- what is known

-- The grant is the one from before the start, with a number up to this, or that of a request that was said.
abbrev pub Held : (ℕ → ℕ → Type 0) → Option Grant → ℕ → Grant → Type 0
Held S o begun g = ((o ≡ Some g) × (g.grant ≤ begun)) ⊎ S g.client g.stamp

-- S says which requests were said, o is the grant at the start, and so many were given then
pub record KnownOfQuiet (S : ℕ → ℕ → Type 0) (o : Option Grant) (begun : ℕ) (l : Lock) : Type 0 where
  pub split : Split S (Held S o begun) l.vote
  pub said : (c s : ℕ) → is_said l.since c s ≡ true → S c s
  pub begun_at : l.since.begun ≡ begun
  pub sound : IsSound l.vote

held_more : (S T : ℕ → ℕ → Type 0) (o : Option Grant) (begun : ℕ) (g : Grant) → ((c s : ℕ) → S c s → T c s) → Held S o begun g → Held T o begun g
held_more S T o begun g up (inl first) = inl first
held_more S T o begun g up (inr said) = inr (up g.client g.stamp said)

more : (S T : ℕ → ℕ → Type 0) (o : Option Grant) (begun : ℕ) (l : Lock) → ((c s : ℕ) → S c s → T c s) → KnownOfQuiet S o begun l → KnownOfQuiet T o begun l
more S T o begun l up k = record {
  split = record {
    held = λ g is. held_more S T o begun g up (k.split.held g is);
    waiting = λ c s is. up c s (k.split.waiting c s is);
  };
  said = λ c s is. up c s (k.said c s is);
  begun_at = k.begun_at;
  sound = k.sound;
}

-- ---- grants from before the start

is_old_said : (s : SinceStart) (g : Grant) (low : Bool) → nat_le g.grant s.begun ≡ low → g.grant ≤ s.begun → (low && not (is_said s g.client g.stamp)) ≡ false
    → is_said s g.client g.stamp ≡ true
is_old_said s g false low least new = absurd (false≢true (sym low ∙ grind (arith, nat_tests)))
is_old_said s g true low least new = grind (arith, nat_tests)

pub not_old : (S : ℕ → ℕ → Type 0) (o : Option Grant) (begun : ℕ) (l : Lock) (g : Grant) → KnownOfQuiet S o begun l → is_old l.since (Some g) ≡ false
    → Held S o begun g → S g.client g.stamp
not_old S o begun l g k new (inl first) =
    k.said g.client g.stamp (is_old_said l.since g (nat_le g.grant l.since.begun) refl (subst (λ (n : ℕ). g.grant ≤ n) (sym k.begun_at) first.1) new)
not_old S o begun l g k new (inr said) = said

-- all that has the vote or waits was said, unless the grant is old
stamps_of : (S : ℕ → ℕ → Type 0) (o : Option Grant) (begun : ℕ) (l : Lock) → KnownOfQuiet S o begun l → is_old l.since l.vote.held ≡ false → Stamps S l.vote
stamps_of S o begun l k new = record {
  held = λ g is. not_old S o begun l g k (ap (is_old l.since) (sym is) ∙ new) (k.split.held g is);
  waiting = k.split.waiting;
}

split_of : (S : ℕ → ℕ → Type 0) (o : Option Grant) (begun : ℕ) (v : VoterState) → Stamps S v → Split S (Held S o begun) v
split_of S o begun v h = record { held = λ g is. inr (h.held g is); waiting = h.waiting }

-- ---- letting a grant go

-- a RELEASE leaves what is known
released : (S : ℕ → ℕ → Type 0) (Q : Grant → Type 0) → Grants S Q → (v : VoterState) (g : Grant) (o : Outcome) → step v (release_of v g) ≡ Some o → Split S Q v → Split S Q o.state
released S Q up v g o e h = split-step S Q up v (release_of v g) o e tt h

evicted_by : (S : ℕ → ℕ → Type 0) (Q : Grant → Type 0) → Grants S Q → (v : VoterState) (held : Option Grant) (n : ℕ) (o : Outcome) → evict_held held v n ≡ Some o → Split S Q v → Split S Q o.state
evicted_by S Q up v None n o e h = subst (λ (k : Outcome). Split S Q k.state) (same_Some _ o e) h
evicted_by S Q up v (Some g) n o e h = elim (g.grant == n) as (λ b. (if b then step v (release_of v g) else Some (no_reply v)) ≡ Some o → Split S Q o.state) [
  | true ↦ λ now. released S Q up v g o now h
  | false ↦ λ now. subst (λ (k : Outcome). Split S Q k.state) (same_Some _ o now) h
] e

evicted : (S : ℕ → ℕ → Type 0) (Q : Grant → Type 0) → Grants S Q → (v : VoterState) (n : ℕ) (o : Outcome) → evict v n ≡ Some o → Split S Q v → Split S Q o.state
evicted S Q up v n o e h = evicted_by S Q up v v.held n o e h

evicted_sound_by : (v : VoterState) (held : Option Grant) (n : ℕ) (o : Outcome) → evict_held held v n ≡ Some o → IsSound v → IsSound o.state
evicted_sound_by v None n o e h = subst (λ (k : Outcome). IsSound k.state) (same_Some _ o e) h
evicted_sound_by v (Some g) n o e h = elim (g.grant == n) as (λ b. (if b then step v (release_of v g) else Some (no_reply v)) ≡ Some o → IsSound o.state) [
  | true ↦ λ now. IsSound-step v (release_of v g) o h now
  | false ↦ λ now. subst (λ (k : Outcome). IsSound k.state) (same_Some _ o now) h
] e

evicted_sound : (v : VoterState) (n : ℕ) (o : Outcome) → evict v n ≡ Some o → IsSound v → IsSound o.state
evicted_sound v n o e h = evicted_sound_by v v.held n o e h

-- ---- a message that is not put off

inside_by : (inside : Bool) → not inside ≡ false → inside ≡ true
inside_by true e = refl
inside_by false e = absurd (false≢true (sym e))

-- what the message brings is said by it
ToldBy : (ℕ → ℕ → Type 0) → ToVoter → Bool → Type 0
ToldBy T m inside = (s : ℕ) → inside ≡ true → m.body ≡ asks.Request s → T m.client s

says_of : (T : ℕ → ℕ → Type 0) (m : ToVoter) (inside : Bool) (b : VoterBody) → m.body ≡ b → puts_off true inside b ≡ false → ToldBy T m inside → Says T m.client b
unfolding ToldBy
says_of T m inside (asks.Request s) is taken told = told s (inside_by inside taken) is
says_of T m inside (asks.Relinquish n) is taken told = tt
says_of T m inside (asks.Release s) is taken told = tt

heard_new : (T : ℕ → ℕ → Type 0) (v : VoterState) (m : ToVoter) (o : Outcome) → Says T m.client m.body → step v m ≡ Some o → Stamps T v → Stamps T o.state
heard_new T v m o says e h = subst (λ (k : Outcome). Stamps T k.state) (step-Some v m o e).1 (Stamps-outcome_of T v m.client m.body says h)

heard_old : (T : ℕ → ℕ → Type 0) (Q : Grant → Type 0) → Grants T Q → (v : VoterState) (m : ToVoter) (o : Outcome) (inside : Bool) (b : VoterBody) → m.body ≡ b → puts_off true inside b ≡ false → ToldBy T m inside
    → step_of_old v m b ≡ Some o → Split T Q v → Split T Q o.state
unfolding ToldBy
heard_old T Q up v m o inside (asks.Request s) is taken told e h = split-step T Q up v m o e (subst (BringsAs T m.client) (sym is) (told s (inside_by inside taken) is)) h
heard_old T Q up v m o inside (asks.Relinquish n) is taken told e h = elim (is_grant v.held m.client n) as (λ c. (if c then evict v n else Some (no_reply v)) ≡ Some o → Split T Q o.state) [
  | true ↦ λ now. evicted T Q up v n o now h
  | false ↦ λ now. subst (λ (k : Outcome). Split T Q k.state) (same_Some _ o now) h
] e
heard_old T Q up v m o inside (asks.Release s) is taken told e h = split-step T Q up v m o e (subst (BringsAs T m.client) (sym is) tt) h

old_sound : (v : VoterState) (m : ToVoter) (o : Outcome) (b : VoterBody) → step_of_old v m b ≡ Some o → IsSound v → IsSound o.state
old_sound v m o (asks.Request s) e h = IsSound-step v m o h e
old_sound v m o (asks.Relinquish n) e h = elim (is_grant v.held m.client n) as (λ c. (if c then evict v n else Some (no_reply v)) ≡ Some o → IsSound o.state) [
  | true ↦ λ now. evicted_sound v n o now h
  | false ↦ λ now. subst (λ (k : Outcome). IsSound k.state) (same_Some _ o now) h
] e
old_sound v m o (asks.Release s) e h = IsSound-step v m o h e

pub quiet_sound : (old : Bool) (v : VoterState) (m : ToVoter) (o : Outcome) → quiet_step old v m ≡ Some o → IsSound v → IsSound o.state
quiet_sound false v m o e h = IsSound-step v m o h e
quiet_sound true v m o e h = old_sound v m o m.body e h

heard_split : (T : ℕ → ℕ → Type 0) (o : Option Grant) (begun : ℕ) (l : Lock) (m : ToVoter) (inside : Bool) (out : Outcome) (old : Bool) → is_old l.since l.vote.held ≡ old → puts_off true inside m.body ≡ false
    → ToldBy T m inside → quiet_step old l.vote m ≡ Some out → KnownOfQuiet T o begun l → Split T (Held T o begun) out.state
heard_split T o begun l m inside out false is taken told e k = split_of T o begun out.state (heard_new T l.vote m out (says_of T m inside m.body refl taken told) e (stamps_of T o begun l k is))
heard_split T o begun l m inside out true is taken told e k = heard_old T (Held T o begun) (λ c s n said. inr said) l.vote m out inside m.body refl taken told e k.split

-- ---- what is noted

-- a stamp in a list where one was set
pub set_cases : (xs : List ℕ) (c t d : ℕ) → (slice_index (slice_set xs c t) d ≡ slice_index xs d) ⊎ ((d ≡ c) × (slice_index (slice_set xs c t) d ≡ t))
set_cases xs c t d = elim (cases_eq d c) [
  | inr other ↦ inl (get_or-set_other xs c d t 0 other)
  | inl same ↦ elim (cases_lt c (length xs)) [
    | inr past ↦ inl (ap (λ (l : List ℕ). slice_index l d) (set_past xs c t past))
    | inl within ↦ inr (same, ap (λ n. slice_index (slice_set xs c t) n) same ∙ get_or-set_same xs c t 0 within)
  ]
]

said_as : (s t : SinceStart) (c n : ℕ) → slice_index t.inside c ≡ slice_index s.inside c → is_said t c n ≡ true → is_said s c n ≡ true
said_as s t c n same is = ap (λ (k : ℕ). nat_lt 0 n && (k == n)) (sym same) ∙ is

said_stamp : (s : SinceStart) (c n t : ℕ) → slice_index s.inside c ≡ t → is_said s c n ≡ true → (t ≡ n) × (0 < n)
said_stamp s c n t at is = (grind (arith, nat_tests), grind (arith, nat_tests))

set_said : (T : ℕ → ℕ → Type 0) (s : SinceStart) (c t : ℕ) → (0 < t → T c t) → ((d n : ℕ) → is_said s d n ≡ true → T d n)
    → (d n : ℕ) → is_said (record s { inside = slice_set s.inside c t }) d n ≡ true → T d n
set_said T s c t told h d n is = elim (set_cases s.inside c t d) [
  | inl same ↦ h d n (said_as s (record s { inside = slice_set s.inside c t }) d n same is)
  | inr here ↦
      let by = said_stamp (record s { inside = slice_set s.inside c t }) d n t here.1 is in
      subst (λ k. T k n) (sym here.0) (subst (T c) by.0 (told (subst (λ k. 0 < k) (sym by.0) by.1)))
]

noted_said : (T : ℕ → ℕ → Type 0) (s : SinceStart) (v : VoterState) (m : ToVoter) (inside : Bool) (b : VoterBody) → m.body ≡ b → ToldBy T m inside → ((d n : ℕ) → is_said s d n ≡ true → T d n)
    → (d n : ℕ) → is_said (noted true inside s v m.client b) d n ≡ true → T d n
unfolding ToldBy
noted_said T s v m false (asks.Request t) is told h d n said = h d n said
noted_said T s v m true (asks.Request t) is told h d n said = elim (is_stamp (current_stamp v m.client) t) as (λ b. is_said (if b then record s { inside = slice_set s.inside m.client t } else s) d n ≡ true → T d n) [
  | true ↦ set_said T s m.client t (λ some. told t refl is) h d n
  | false ↦ h d n
] said
noted_said T s v m inside (asks.Relinquish g) is told h d n said = h d n said
noted_said T s v m inside (asks.Release t) is told h d n said = h d n said

noted_begun : (inside : Bool) (s : SinceStart) (v : VoterState) (c : ℕ) (b : VoterBody) → (noted true inside s v c b).begun ≡ s.begun
noted_begun false s v c (asks.Request t) = refl
noted_begun true s v c (asks.Request t) = elim (is_stamp (current_stamp v c) t) as (λ b. (if b then record s { inside = slice_set s.inside c t } else s).begun ≡ s.begun) [
  | true ↦ refl
  | false ↦ refl
]
noted_begun inside s v c (asks.Relinquish g) = refl
noted_begun inside s v c (asks.Release t) = refl

-- ---- one event, and all of them

heard : (T : ℕ → ℕ → Type 0) (o : Option Grant) (begun : ℕ) (l : Lock) (m : ToVoter) (inside : Bool) → puts_off true inside m.body ≡ false → ToldBy T m inside → KnownOfQuiet T o begun l → (out : Option Outcome)
    → quiet_step (is_old l.since l.vote.held) l.vote m ≡ out → KnownOfQuiet T o begun (after l (λ v. noted true inside l.since v m.client m.body) out)
heard T o begun l m inside taken told k None e = k
heard T o begun l m inside taken told k (Some out) e = record {
  split = heard_split T o begun l m inside out (is_old l.since l.vote.held) refl taken told e k;
  said = noted_said T l.since out.state m inside m.body refl told k.said;
  begun_at = noted_begun inside l.since out.state m.client m.body ∙ k.begun_at;
  sound = quiet_sound (is_old l.since l.vote.held) l.vote m out e k.sound;
}

let_go : (T : ℕ → ℕ → Type 0) (o : Option Grant) (begun : ℕ) (l : Lock) (n : ℕ) → KnownOfQuiet T o begun l → (out : Option Outcome) → evict l.vote n ≡ out → KnownOfQuiet T o begun (after l (λ v. l.since) out)
let_go T o begun l n k None e = k
let_go T o begun l n k (Some out) e = record {
  split = evicted T (Held T o begun) (λ c s m said. inr said) l.vote n out e k.split;
  said = k.said;
  begun_at = k.begun_at;
  sound = evicted_sound l.vote n out e k.sound;
}

limited : (T : ℕ → ℕ → Type 0) (o : Option Grant) (begun : ℕ) (l : Lock) (limit : ℕ) (b : Bool) → (nat_le l.vote.granted limit && nat_le limit max_limit) ≡ b → KnownOfQuiet T o begun l → KnownOfQuiet T o begun (with_limit b l limit)
limited T o begun l limit false e k = k
limited T o begun l limit true e k =
    let both = and-true (nat_le l.vote.granted limit) (nat_le limit max_limit) e in
    record {
      split = record { held = k.split.held; waiting = k.split.waiting };
      said = k.said;
      begun_at = k.begun_at;
      sound = record {
        limit = grind (arith, nat_tests, both.1);
        granted = grind (arith, nat_tests, both.0);
        numbered = k.sound.numbered;
        apart = k.sound.apart;
        free = k.sound.free;
      };
    }

abbrev SaidOrBy : (ℕ → ℕ → Type 0) → Event → ℕ → ℕ → Type 0
SaidOrBy S e c s = S c s ⊎ IsSaidBy e c s

happened : (S : ℕ → ℕ → Type 0) (o : Option Grant) (begun : ℕ) (l : Lock) (e : Event) → KnownOfQuiet S o begun l → KnownOfQuiet (SaidOrBy S e) o begun (happens l e)
unfolding ToldBy
happened S o begun l (Hears m inside) k =
    let T = SaidOrBy S (Hears m inside) in
    let before = more S T o begun l (λ c s said. inl said) k in
    elim (puts_off true inside m.body) as (λ b. puts_off true inside m.body ≡ b → KnownOfQuiet T o begun (if b then l else hears l m inside)) [
      | true ↦ λ e. before
      | false ↦ λ e. heard T o begun l m inside e (λ s is body. inr (is, refl, body)) before (quiet_step (is_old l.since l.vote.held) l.vote m) refl
    ] refl
happened S o begun l (LetsGo grant) k = let_go (SaidOrBy S (LetsGo grant)) o begun l grant (more S (SaidOrBy S (LetsGo grant)) o begun l (λ c s said. inl said) k) (evict l.vote grant) refl
happened S o begun l (IsOver client) k =
    let before = more S (SaidOrBy S (IsOver client)) o begun l (λ c s said. inl said) k in
    record {
      split = record { held = before.split.held; waiting = before.split.waiting };
      said = set_said (SaidOrBy S (IsOver client)) l.since client 0 (λ some. absurd (omega (arith, some))) before.said;
      begun_at = k.begun_at;
      sound = k.sound;
    }
happened S o begun l (Extends limit) k = limited (SaidOrBy S (Extends limit)) o begun l limit (nat_le l.vote.granted limit && nat_le limit max_limit) refl (more S (SaidOrBy S (Extends limit)) o begun l (λ c s said. inl said) k)

by_more : (S : ℕ → ℕ → Type 0) (e : Event) (es : List Event) (c s : ℕ) → SaidOrBy S e c s ⊎ IsSaid es c s → S c s ⊎ IsSaid (e ∷ es) c s
by_more S e es c s (inl (inl before)) = inl before
by_more S e es c s (inl (inr now)) = inr (inl now)
by_more S e es c s (inr later) = inr (inr later)

pub all_known : (S : ℕ → ℕ → Type 0) (o : Option Grant) (begun : ℕ) (l : Lock) (es : List Event) → KnownOfQuiet S o begun l → KnownOfQuiet (λ c s. S c s ⊎ IsSaid es c s) o begun (all_happen l es)
all_known S o begun l [] k = more S (λ c s. S c s ⊎ IsSaid [] c s) o begun l (λ c s said. inl said) k
all_known S o begun l (e ∷ es) k =
    more (λ c s. SaidOrBy S e c s ⊎ IsSaid es c s) (λ c s. S c s ⊎ IsSaid (e ∷ es) c s) o begun (all_happen (happens l e) es) (by_more S e es)
    (all_known (SaidOrBy S e) o begun (happens l e) es (happened S o begun l e k))

-- ---- from the start

abbrev Nothing : ℕ → ℕ → Type 0
Nothing c s = ⊥

new_says : (begun c s : ℕ) → is_said (since_start begun) c s ≡ true → ⊥
new_says begun c s is =
    let by = said_stamp (since_start begun) c s 0 (slice_index-replicate_zero max_clients c) is in
    omega (arith, by.0, by.1)

pub begun : (l : Lock) → Begins l → KnownOfQuiet Nothing l.vote.held l.vote.granted l
begun l b = record {
  split = record { held = λ g is. inl (is, b.sound.numbered g is); waiting = λ c s is. none-some s (sym (b.nobody c) ∙ is) };
  said = λ c s is. new_says l.vote.granted c s (ap (λ (k : SinceStart). is_said k c s) (sym b.nothing) ∙ is);
  begun_at = ap (λ (k : SinceStart). k.begun) b.nothing;
  sound = b.sound;
}

pub known : (l : Lock) (es : List Event) → Begins l → KnownOfQuiet (λ c s. Nothing c s ⊎ IsSaid es c s) l.vote.held l.vote.granted (all_happen l es)
known l es b = all_known Nothing l.vote.held l.vote.granted l es (begun l b)

-- nobody gets a vote who did not say that he is inside
pub go_to_those_inside : (l : Lock) (es : List Event) (g : Grant) → Begins l → (all_happen l es).vote.held ≡ Some g → (l.vote.held ≡ Some g) ⊎ IsSaid es g.client g.stamp
go_to_those_inside l es g b is = elim ((known l es b).split.held g is) [
  | inl first ↦ inl first.0
  | inr (inl none) ↦ absurd none
  | inr (inr said) ↦ inr said
]
