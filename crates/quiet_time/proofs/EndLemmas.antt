-- who has the vote of a lock after the quiet time
use Rattle.std.proofs.Common.{◌≡◌, ◌≢◌, ◌<◌, ℕ, Bool, true, false, List, [], ◌∷◌, refl, sym, ap, subst, ◌∙◌, ◌⊎◌, inl, inr, Option, Some, None, arith, length}
use Rattle.std.specs.Prelude.{◌&&◌, ◌==◌, nat_le, slice_index, slice_set, not, if◌then◌else◌}
use Rattle.std.specs.FinMap.{get}
use Rattle.std.proofs.lemmas.Bool.{eq-eqb, eqb-true}
use Rattle.std.proofs.lemmas.Bool.Decides.{nat_tests}
use Rattle.std.proofs.lemmas.List.{get_or-set_same, length-replicate, length-set}
use Rattle.std.proofs.lemmas.Option.{none-some, same_Some}
use Rattle.numbers.specs.Bounds.{max_clients, max_limit}
use Rattle.numbers.proofs.Options.{and-true}
use Rattle.message.specs.declared.message.ToVoter.{ToVoter}
use Rattle.message.specs.declared.message.VoterBody.{VoterBody}
use Rattle.message.specs.declared.message.VoterBody.TheVariants as asks
use Rattle.quiet_time.specs.declared.since_start.SinceStart.{SinceStart}
use Rattle.quiet_time.specs.Quiet.{end_of, is_old, is_said, is_stamp, noted, puts_off, quiet_step, step_of_old}
use Rattle.quiet_time.specs.Runs.{AllLeave, Begins, CanEnd, Event, Extends, Hears, IsOver, IsSaid, IsSaidBy, Leaves, LetsGo, Lock, after, all_happen, ended, happens, hears, with_limit}
use Rattle.quiet_time.proofs.QuietLemmas.{KnownOfQuiet, known, not_old, quiet_sound, set_cases}
use Rattle.quiet_time.proofs.Split.{Split, split-step}
use Rattle.voter.specs.declared.state.Grant.{Grant}
use Rattle.voter.specs.declared.state.VoterState.{VoterState}
use Rattle.voter.specs.Leases.{evict, release_of}
use Rattle.voter.specs.Steps.{IsSound, Outcome, current_stamp, first_some, held_stamp, is_grant, needs_grant, no_reply, outcome_of, step}
use Rattle.voter.specs.VoterContract.{Ends}
use Rattle.voter.proofs.Contract.{MeetsContract-step}
use Rattle.voter.proofs.Effects.{step-taken}
use Rattle.voter.proofs.EvictLemmas.{evict-current, evict-other}
use Rattle.voter.proofs.Staying.{ended-step}

-- ---- an old grant is let go

-- the grant is this one, or that of a request that was said
Is : (ℕ → ℕ → Type 0) → Grant → Grant → Type 0
Is T h g = (g ≡ h) ⊎ T g.client g.stamp

let_go_is : (T : ℕ → ℕ → Type 0) (v : VoterState) (h g : Grant) (x : Outcome) → IsSound v → v.held ≡ Some h → Split T (Is T h) v → step v (release_of v h) ≡ Some x → x.state.held ≡ Some g
    → T g.client g.stamp
unfolding Is
let_go_is T v h g x sound held split e is = elim ((split-step T (Is T h) (λ c s n said. inr said) v (release_of v h) x e tt split).held g is) [
  | inl same ↦ absurd (ended-step v (release_of v h) x h h.stamp sound held refl refl (omega arith) e g.stamp (inl (g, is, ap (λ (k : Grant). k.client) same, refl)))
  | inr said ↦ said
]

ends_by : (T : ℕ → ℕ → Type 0) (o : Option Grant) (begun : ℕ) (l : Lock) (g : Grant) (x : Outcome) (held : Option Grant) → KnownOfQuiet T o begun l → l.vote.held ≡ held → end_of l.since l.vote held ≡ Some x
    → x.state.held ≡ Some g → T g.client g.stamp
unfolding Is
ends_by T o begun l g x None k at e is = absurd (none-some g (sym at ∙ ap (λ (y : Outcome). y.state.held) (same_Some _ x e) ∙ is))
ends_by T o begun l g x (Some h) k at e is = elim (is_old l.since (Some h)) as (λ b. is_old l.since (Some h) ≡ b → (if b then evict l.vote h.grant else Some (no_reply l.vote)) ≡ Some x → T g.client g.stamp) [
  | true ↦ λ old now.
      let_go_is T l.vote h g x k.sound at (record { held = λ j is_j. inl (same_Some j h (sym is_j ∙ at)); waiting = k.split.waiting })
      (sym (evict-current l.vote h h.grant at refl) ∙ now) is
  | false ↦ λ new now.
      let same : h ≡ g = same_Some h g (sym at ∙ ap (λ (y : Outcome). y.state.held) (same_Some (no_reply l.vote) x now) ∙ is) in
      subst (λ (j : Grant). T j.client j.stamp) same (not_old T o begun l h k new (k.split.held h at))
] refl e

end_held : (T : ℕ → ℕ → Type 0) (o : Option Grant) (begun : ℕ) (l : Lock) (g : Grant) → KnownOfQuiet T o begun l → (x : Option Outcome) → end_of l.since l.vote l.vote.held ≡ x → x ≢ None
    → (after l (λ v. l.since) x).vote.held ≡ Some g → T g.client g.stamp
end_held T o begun l g k None e some is = absurd (some refl)
end_held T o begun l g k (Some x) e some is = ends_by T o begun l g x l.vote.held k refl e is

-- after the quiet time nobody has a vote who did not say that he is inside
pub old_end : (l : Lock) (es : List Event) (g : Grant) → Begins l → CanEnd (all_happen l es) → (ended (all_happen l es)).vote.held ≡ Some g → IsSaid es g.client g.stamp
old_end l es g b can is =
    let L = all_happen l es in
    elim (end_held (λ c s. ⊥ ⊎ IsSaid es c s) l.vote.held l.vote.granted L g (known l es b) (end_of L.since L.vote L.vote.held) refl can is) [
      | inl none ↦ absurd none
      | inr said ↦ said
    ]

-- ---- who has the vote, and says so, keeps it

record GrantIsKept (g : Grant) (l : Lock) : Type 0 where
  held : l.vote.held ≡ Some g
  sound : IsSound l.vote
  places : length l.since.inside ≡ max_clients

-- its client said that it is inside
abbrev pub Renewed : Grant → SinceStart → Type 0
Renewed g s = is_said s g.client g.stamp ≡ true

step_keeps : (g : Grant) (v : VoterState) (m : ToVoter) (o : Outcome) → v.held ≡ Some g → (Ends m.client m.body g → ⊥) → step v m ≡ Some o → o.state.held ≡ Some g
step_keeps g v m o held stays e = elim ((MeetsContract-step v m o e).kept g held) [
  | inl same ↦ same
  | inr ends ↦ absurd (stays ends)
]

old_keeps : (g : Grant) (v : VoterState) (m : ToVoter) (o : Outcome) (b : VoterBody) → m.body ≡ b → v.held ≡ Some g → (Ends m.client m.body g → ⊥) → step_of_old v m b ≡ Some o → o.state.held ≡ Some g
old_keeps g v m o (asks.Request s) is held stays e = step_keeps g v m o held stays e
old_keeps g v m o (asks.Relinquish n) is held stays e = elim (is_grant v.held m.client n) as (λ c. is_grant v.held m.client n ≡ c → (if c then evict v n else Some (no_reply v)) ≡ Some o → o.state.held ≡ Some g) [
  | true ↦ λ own now.
      let both = and-true (g.client == m.client) (g.grant == n) (ap (λ (h : Option Grant). is_grant h m.client n) (sym held) ∙ own) in
      absurd (stays (subst (λ (k : VoterBody). Ends m.client k g) (sym is) (eqb-true g.client m.client both.0, eqb-true g.grant n both.1)))
  | false ↦ λ other now. ap (λ (y : Outcome). y.state.held) (sym (same_Some (no_reply v) o now)) ∙ held
] refl e
old_keeps g v m o (asks.Release s) is held stays e = step_keeps g v m o held stays e

quiet_keeps : (g : Grant) (old : Bool) (v : VoterState) (m : ToVoter) (o : Outcome) → v.held ≡ Some g → (Ends m.client m.body g → ⊥) → quiet_step old v m ≡ Some o → o.state.held ≡ Some g
quiet_keeps g false v m o held stays e = step_keeps g v m o held stays e
quiet_keeps g true v m o held stays e = old_keeps g v m o m.body refl held stays e

holds_by : (o : Option Grant) (g : Grant) (w : Option ℕ) → o ≡ Some g → first_some (held_stamp o g.client) w ≡ Some g.stamp
holds_by None g w is = absurd (none-some g is)
holds_by (Some h) g w is =
    let same : h ≡ g = same_Some h g is in
    subst (λ (k : Grant). first_some (held_stamp (Some k) g.client) w ≡ Some g.stamp) (sym same)
    (subst (λ (b : Bool). first_some (if b then Some g.stamp else None) w ≡ Some g.stamp) (sym (eq-eqb g.client g.client refl)) refl)

-- the current stamp of the client that has the vote
holds : (v : VoterState) (g : Grant) → v.held ≡ Some g → current_stamp v g.client ≡ Some g.stamp
holds v g is = holds_by v.held g (get v.waiting g.client) is

-- ---- what was said stays said

said_at : (s : SinceStart) (g : Grant) → 0 < g.stamp → slice_index s.inside g.client ≡ g.stamp → Renewed g s
said_at s g some at = grind (arith, nat_tests)

said_is : (s : SinceStart) (g : Grant) → Renewed g s → (0 < g.stamp) × (slice_index s.inside g.client ≡ g.stamp)
said_is s g is = (grind (arith, nat_tests), grind (arith, nat_tests))

set_keeps : (s : SinceStart) (c t : ℕ) (g : Grant) → (g.client ≡ c → t ≡ g.stamp) → Renewed g s → Renewed g (record s { inside = slice_set s.inside c t })
set_keeps s c t g own is =
    let was = said_is s g is in
    elim (set_cases s.inside c t g.client) [
      | inl same ↦ said_at (record s { inside = slice_set s.inside c t }) g was.0 (same ∙ was.1)
      | inr here ↦ said_at (record s { inside = slice_set s.inside c t }) g was.0 (here.1 ∙ own here.0)
    ]

stamp_is : (o : Option ℕ) (s t : ℕ) → o ≡ Some s → is_stamp o t ≡ true → t ≡ s
stamp_is None s t is e = absurd (none-some s is)
stamp_is (Some r) s t is e = sym (eqb-true r t e) ∙ same_Some r s is

pub noted_keeps : (inside : Bool) (s : SinceStart) (v : VoterState) (c : ℕ) (b : VoterBody) (g : Grant) → v.held ≡ Some g → Renewed g s → Renewed g (noted true inside s v c b)
noted_keeps false s v c (asks.Request t) g held is = is
noted_keeps true s v c (asks.Request t) g held is = elim (is_stamp (current_stamp v c) t) as (λ b. is_stamp (current_stamp v c) t ≡ b → Renewed g (if b then record s { inside = slice_set s.inside c t } else s)) [
  | true ↦ λ e. set_keeps s c t g (λ own. stamp_is (current_stamp v c) g.stamp t (subst (λ k. current_stamp v k ≡ Some g.stamp) own (holds v g held)) e) is
  | false ↦ λ e. is
] refl
noted_keeps inside s v c (asks.Relinquish n) g held is = is
noted_keeps inside s v c (asks.Release t) g held is = is

pub noted_places : (inside : Bool) (s : SinceStart) (v : VoterState) (c : ℕ) (b : VoterBody) → length (noted true inside s v c b).inside ≡ length s.inside
noted_places false s v c (asks.Request t) = refl
noted_places true s v c (asks.Request t) = elim (is_stamp (current_stamp v c) t) as (λ b. length (if b then record s { inside = slice_set s.inside c t } else s).inside ≡ length s.inside) [
  | true ↦ length-set s.inside c t
  | false ↦ refl
]
noted_places inside s v c (asks.Relinquish n) = refl
noted_places inside s v c (asks.Release t) = refl

pub noted_now : (s : SinceStart) (v : VoterState) (g : Grant) → v.held ≡ Some g → 0 < g.stamp → g.client < max_clients → length s.inside ≡ max_clients → Renewed g (noted true true s v g.client (asks.Request g.stamp))
noted_now s v g held some few places =
    let now : is_stamp (current_stamp v g.client) g.stamp ≡ true = ap (λ (o : Option ℕ). is_stamp o g.stamp) (holds v g held) ∙ eq-eqb g.stamp g.stamp refl in
    let t : SinceStart = record s { inside = slice_set s.inside g.client g.stamp } in
    subst (λ (b : Bool). Renewed g (if b then t else s)) (sym now) (said_at t g some (get_or-set_same s.inside g.client g.stamp 0 (subst (λ n. g.client < n) (sym places) few)))

-- ---- a REQUEST of who has the vote is taken

again_needs_none : (v : VoterState) (g : Grant) → v.held ≡ Some g → needs_grant v g.client (asks.Request g.stamp) ≡ false
unfolding needs_grant
again_needs_none v g held = let h = holds v g held in grind (arith, nat_tests, h)

again_taken : (v : VoterState) (m : ToVoter) (g : Grant) → IsSound v → v.held ≡ Some g → m.client ≡ g.client → m.body ≡ asks.Request g.stamp → step v m ≡ Some (outcome_of v m.client m.body)
again_taken v m g sound held own is =
    let none : needs_grant v m.client m.body ≡ false =
    ap (λ (b : VoterBody). needs_grant v m.client b) is ∙ ap (λ c. needs_grant v c (asks.Request g.stamp)) own ∙ again_needs_none v g held in
    step-taken v m sound (ap (λ (b : Bool). b && nat_le v.limit v.granted) none)

-- ---- one event, and all of them

after_heard : (g : Grant) (l : Lock) (m : ToVoter) (inside : Bool) → GrantIsKept g l → (Ends m.client m.body g → ⊥) → (out : Option Outcome) → quiet_step (is_old l.since l.vote.held) l.vote m ≡ out
    → GrantIsKept g (after l (λ v. noted true inside l.since v m.client m.body) out)
after_heard g l m inside k leaves None e = k
after_heard g l m inside k leaves (Some o) e = record {
  held = quiet_keeps g (is_old l.since l.vote.held) l.vote m o k.held leaves e;
  sound = quiet_sound (is_old l.since l.vote.held) l.vote m o e k.sound;
  places = noted_places inside l.since o.state m.client m.body ∙ k.places;
}

renewed_heard : (g : Grant) (l : Lock) (m : ToVoter) (inside : Bool) → GrantIsKept g l → (Ends m.client m.body g → ⊥) → Renewed g l.since → (out : Option Outcome)
    → quiet_step (is_old l.since l.vote.held) l.vote m ≡ out → Renewed g (after l (λ v. noted true inside l.since v m.client m.body) out).since
renewed_heard g l m inside k leaves is None e = is
renewed_heard g l m inside k leaves is (Some o) e = noted_keeps inside l.since o.state m.client m.body g (quiet_keeps g (is_old l.since l.vote.held) l.vote m o k.held leaves e) is

-- a lock after an event by which nothing is said of the grant, for any property of locks
let_go_keeps : (P : Lock → Type 0) (g : Grant) (l : Lock) (n : ℕ) → GrantIsKept g l → g.grant ≢ n → P l → P (after l (λ v. l.since) (evict l.vote n))
let_go_keeps P g l n k other p = subst (λ (x : Option Outcome). P (after l (λ v. l.since) x)) (sym (evict-other l.vote g n k.held other)) p

limit_keeps : (P : Lock → Type 0) (l : Lock) (limit : ℕ) (b : Bool) → P l → P (record { vote = record l.vote { limit = limit }; since = l.since }) → P (with_limit b l limit)
limit_keeps P l limit true p q = q
limit_keeps P l limit false p q = p

limit_stays : (g : Grant) (l : Lock) (limit : ℕ) (b : Bool) → (nat_le l.vote.granted limit && nat_le limit max_limit) ≡ b → GrantIsKept g l → GrantIsKept g (with_limit b l limit)
limit_stays g l limit false e k = k
limit_stays g l limit true e k =
    let both = and-true (nat_le l.vote.granted limit) (nat_le limit max_limit) e in
    record {
      held = k.held;
      sound = record {
        limit = grind (arith, nat_tests, both.1);
        granted = grind (arith, nat_tests, both.0);
        numbered = k.sound.numbered;
        apart = k.sound.apart;
        free = k.sound.free;
      };
      places = k.places;
    }

stays : (g : Grant) (l : Lock) (e : Event) → GrantIsKept g l → Leaves e g → GrantIsKept g (happens l e)
stays g l (Hears m inside) k leaves = elim (puts_off true inside m.body) as (λ b. GrantIsKept g (if b then l else hears l m inside)) [
  | true ↦ k
  | false ↦ after_heard g l m inside k leaves (quiet_step (is_old l.since l.vote.held) l.vote m) refl
]
stays g l (LetsGo n) k leaves = let_go_keeps (GrantIsKept g) g l n k leaves k
stays g l (IsOver client) k leaves = record { held = k.held; sound = k.sound; places = length-set l.since.inside client 0 ∙ k.places }
stays g l (Extends limit) k leaves = limit_stays g l limit (nat_le l.vote.granted limit && nat_le limit max_limit) refl k

renewed : (g : Grant) (l : Lock) (e : Event) → GrantIsKept g l → Leaves e g → Renewed g l.since → Renewed g (happens l e).since
renewed g l (Hears m inside) k leaves is = elim (puts_off true inside m.body) as (λ b. Renewed g (if b then l else hears l m inside).since) [
  | true ↦ is
  | false ↦ renewed_heard g l m inside k leaves is (quiet_step (is_old l.since l.vote.held) l.vote m) refl
]
renewed g l (LetsGo n) k leaves is = let_go_keeps (λ (j : Lock). Renewed g j.since) g l n k leaves is
renewed g l (IsOver client) k leaves is = set_keeps l.since client 0 g (λ same. absurd (leaves same)) is
renewed g l (Extends limit) k leaves is = limit_keeps (λ (j : Lock). Renewed g j.since) l limit _ is is

-- a REQUEST is taken the same way, whether there is an old grant or not
request_step : (old : Bool) (v : VoterState) (m : ToVoter) (s : ℕ) → m.body ≡ asks.Request s → quiet_step old v m ≡ step v m
request_step false v m s is = refl
request_step true v m s is = ap (step_of_old v m) is

says_now : (g : Grant) (l : Lock) (m : ToVoter) → GrantIsKept g l → (Ends m.client m.body g → ⊥) → 0 < g.stamp → g.client < max_clients → m.client ≡ g.client → m.body ≡ asks.Request g.stamp
    → Renewed g (hears l m true).since
says_now g l m k leaves some few own is =
    let old = is_old l.since l.vote.held in
    let o = outcome_of l.vote m.client m.body in
    let e : quiet_step old l.vote m ≡ Some o = request_step old l.vote m g.stamp is ∙ again_taken l.vote m g k.sound k.held own is in
    let held = quiet_keeps g old l.vote m o k.held leaves e in
    subst (λ (x : Option Outcome). Renewed g (after l (λ v. noted true true l.since v m.client m.body) x).since) (sym e)
    (subst (λ (b : VoterBody). Renewed g (noted true true l.since o.state m.client b)) (sym is)
    (subst (λ c. Renewed g (noted true true l.since o.state c (asks.Request g.stamp))) (sym own) (noted_now l.since o.state g held some few k.places)))

said_by : (g : Grant) (l : Lock) (e : Event) → GrantIsKept g l → Leaves e g → 0 < g.stamp → g.client < max_clients → IsSaidBy e g.client g.stamp → Renewed g (happens l e).since
said_by g l (Hears m inside) k leaves some few is =
    let taken : puts_off true inside m.body ≡ false = ap (puts_off true inside) is.2 ∙ ap not is.0 in
    subst (λ (b : Bool). Renewed g (if b then l else hears l m inside).since) (sym taken)
    (subst (λ (b : Bool). Renewed g (hears l m b).since) (sym is.0) (says_now g l m k leaves some few is.1 is.2))
said_by g l (LetsGo n) k leaves some few none = absurd none
said_by g l (IsOver client) k leaves some few none = absurd none
said_by g l (Extends limit) k leaves some few none = absurd none

all_stay : (g : Grant) (l : Lock) (es : List Event) → GrantIsKept g l → AllLeave es g → GrantIsKept g (all_happen l es)
all_stay g l [] k leaves = k
all_stay g l (e ∷ es) k leaves = all_stay g (happens l e) es (stays g l e k leaves.0) leaves.1

all_renewed : (g : Grant) (l : Lock) (es : List Event) → GrantIsKept g l → AllLeave es g → Renewed g l.since → Renewed g (all_happen l es).since
all_renewed g l [] k leaves is = is
all_renewed g l (e ∷ es) k leaves is = all_renewed g (happens l e) es (stays g l e k leaves.0) leaves.1 (renewed g l e k leaves.0 is)

all_said : (g : Grant) (l : Lock) (es : List Event) → GrantIsKept g l → AllLeave es g → 0 < g.stamp → g.client < max_clients → IsSaid es g.client g.stamp → Renewed g (all_happen l es).since
all_said g l [] k leaves some few none = absurd none
all_said g l (e ∷ es) k leaves some few (inl now) = all_renewed g (happens l e) es (stays g l e k leaves.0) leaves.1 (said_by g l e k leaves.0 some few now)
all_said g l (e ∷ es) k leaves some few (inr later) = all_said g (happens l e) es (stays g l e k leaves.0) leaves.1 some few later

pub renewed_is_new : (s : SinceStart) (g : Grant) → Renewed g s → is_old s (Some g) ≡ false
renewed_is_new s g is = ap (λ (b : Bool). nat_le g.grant s.begun && not b) is ∙ no_more (nat_le g.grant s.begun)
  where
    no_more : (b : Bool) → (b && false) ≡ false
    no_more true = refl
    no_more false = refl

ended_keeps : (g : Grant) (l : Lock) → l.vote.held ≡ Some g → Renewed g l.since → (ended l).vote.held ≡ Some g
ended_keeps g l held is =
    let new : end_of l.since l.vote (Some g) ≡ Some (no_reply l.vote) = ap (λ (b : Bool). if b then evict l.vote g.grant else Some (no_reply l.vote)) (renewed_is_new l.since g is) in
    let e : end_of l.since l.vote l.vote.held ≡ Some (no_reply l.vote) = ap (end_of l.since l.vote) held ∙ new in
    subst (λ (x : Option Outcome). (after l (λ v. l.since) x).vote.held ≡ Some g) (sym e) held

-- who has a vote, and says that he is inside, keeps it
pub those_inside_stay : (l : Lock) (es : List Event) (g : Grant) → Begins l → l.vote.held ≡ Some g → 0 < g.stamp → g.client < max_clients
    → IsSaid es g.client g.stamp → AllLeave es g → (ended (all_happen l es)).vote.held ≡ Some g
those_inside_stay l es g b held some few said leaves =
    let k : GrantIsKept g l = record {
      held = held;
      sound = b.sound;
      places = ap (λ (s : SinceStart). length s.inside) b.nothing ∙ length-replicate {A = ℕ} max_clients 0;
    } in
    ended_keeps g (all_happen l es) (all_stay g l es k leaves).held (all_said g l es k leaves some few said)
