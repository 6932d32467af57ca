-- what a voter knows in its quiet time of who has its vote
use Rattle.std.proofs.Common.{◌≡◌, ◌≢◌, ◌<◌, ◌≤◌, ℕ, Bool, true, false, List, [], ◌∷◌, refl, sym, ap, subst, ◌∙◌, ◌⊎◌, inl, inr, Option, Some, None, arith, length}
use Rattle.std.specs.Prelude.{◌&&◌, ◌==◌, nat_le, not, if◌then◌else◌, slice_index, slice_set}
use Rattle.std.specs.List.{AllByRecursion}
use Rattle.std.proofs.lemmas.Bool.{cases_eq, eqb-true, false≢true}
use Rattle.std.proofs.lemmas.Bool.Decides.{nat_tests}
use Rattle.std.proofs.lemmas.List.{length-set}
use Rattle.std.proofs.lemmas.Option.{none-some, same_Some}
use Rattle.numbers.specs.Bounds.{max_clients}
use Rattle.numbers.proofs.Lists.{slice_index-replicate_zero}
use Rattle.message.specs.declared.message.ClientBody.{ClientBody}
use Rattle.message.specs.declared.message.ClientBody.TheVariants as to_client
use Rattle.message.specs.declared.message.ToClient.{ToClient}
use Rattle.message.specs.declared.message.ToVoter.{ToVoter}
use Rattle.message.specs.declared.message.VoterBody.{VoterBody}
use Rattle.message.specs.declared.message.VoterBody.TheVariants as asks
use Rattle.quiet_time.specs.declared.since_start.SinceStart.{SinceStart}
use Rattle.quiet_time.specs.Quiet.{forgotten, is_old, is_said, noted, puts_off, quiet_step, since_start, step_of_old}
use Rattle.quiet_time.specs.Runs.{Event, Hears, LetsGo, Lock, all_happen, happens, hears}
use Rattle.quiet_time.specs.Runs as quiet_time
use Rattle.quiet_time.proofs.EndLemmas.{noted_keeps, noted_now, noted_places, renewed_is_new}
use Rattle.quiet_time.proofs.QuietLemmas.{KnownOfQuiet, all_known, set_cases}
use Rattle.voter.specs.declared.state.Grant.{Grant}
use Rattle.voter.specs.declared.state.VoterState.{VoterState}
use Rattle.voter.specs.Leases.{evict, evict_held, release_of}
use Rattle.voter.specs.Steps.{IsSound, Outcome, is_grant, no_reply, step}
use Rattle.voter.specs.VoterContract.{AllReport, Brings, Ends, ReportsVote}
use Rattle.voter.proofs.Contract.{MeetsContract-step}
use Rattle.voter.proofs.EvictLemmas.{evict-other}
use Rattle.working_votes.specs.Turns.{IsStamped, known, said_by}
use Rattle.working_votes.proofs.Rises.{AreNewOrAgain, IsNewOrAgain, Rises, rises-evict, rises-quiet_step}

-- ---- what is known

pub known_is : (s : SinceStart) (held : Option Grant) (g : Grant) → known true s held ≡ Some g → (held ≡ Some g) × (is_old s held ≡ false)
known_is s held g is = elim (is_old s held) as (λ b. is_old s held ≡ b → (if b then None else held) ≡ Some g → (held ≡ Some g) × (is_old s held ≡ false)) [
  | true ↦ λ old none. absurd (none-some g none)
  | false ↦ λ new one. (one, new)
] refl is

pub known_new : (s : SinceStart) (held : Option Grant) → is_old s held ≡ false → known true s held ≡ held
known_new s held new = rw new refl

-- nothing was said at a start
unsaid : (begun client stamp : ℕ) → is_said (since_start begun) client stamp ≡ false
unsaid begun client stamp = let zero_at = slice_index-replicate_zero max_clients client in grind (arith, nat_tests, zero_at)

-- a grant with a number above those of before the start is none of these
pub above : (s : SinceStart) (g : Grant) → s.begun < g.grant → is_old s (Some g) ≡ false
above s g more =
    let e : nat_le g.grant s.begun ≡ false = grind (arith, nat_tests) in
    rw e refl

not_above : (s : SinceStart) (g : Grant) (b : Bool) → nat_le g.grant s.begun ≡ b → (b && not (is_said s g.client g.stamp)) ≡ false → (s.begun < g.grant) ⊎ (is_said s g.client g.stamp ≡ true)
not_above s g false e is = inl (grind (arith, nat_tests))
not_above s g true e is = inr (grind (arith, nat_tests))

-- a grant from before a start, of which nothing was said since
pub before_start : (state : VoterState) (g : Grant) → g.grant ≤ state.granted → known true (since_start state.granted) (Some g) ≡ None
before_start state g least =
    let e : nat_le g.grant state.granted ≡ true = grind (arith, nat_tests) in
    let s = since_start state.granted in
    let old : is_old s (Some g) ≡ true = rw (e, unsaid state.granted g.client g.stamp) refl in
    rw old refl

-- so a grant that is not old is one with such a number, or was said
by_what : (s : SinceStart) (g : Grant) → is_old s (Some g) ≡ false → (s.begun < g.grant) ⊎ (is_said s g.client g.stamp ≡ true)
by_what s g is = not_above s g (nat_le g.grant s.begun) refl is

-- ---- what holds of a lock in the quiet time

pub record IsQuietSound (l : Lock) : Type 0 where
  pub sound : IsSound l.vote
  pub begun : l.since.begun ≤ l.vote.granted
  pub places : length l.since.inside ≡ max_clients

-- What happens to a lock in the quiet time, where these replies leave: the vote that is known stays, or its grant is such a one. Each LOCKED
-- is of the vote that is known then.
pub record Quietly (l next : Lock) (replies : List ToClient) (P : Grant → Type 0) : Type 0 where
  pub stays : (g : Grant) → known true l.since l.vote.held ≡ Some g → (known true next.since next.vote.held ≡ Some g) ⊎ P g
  pub said : AllReport (known true next.since next.vote.held) replies
  pub sound : IsQuietSound next

pub unchanged : (l : Lock) (P : Grant → Type 0) → IsQuietSound l → Quietly l l [] P
unchanged l P sound = record { stays = λ g is. inl is; said = tt; sound = sound }

-- nothing was said, and any request may be
anything : (l : Lock) → IsQuietSound l → KnownOfQuiet (λ c s. Unit {0}) None l.since.begun l
anything l q = record {
  split = record { held = λ g is. inr tt; waiting = λ c s is. tt };
  said = λ c s is. tt;
  begun_at = refl;
  sound = q.sound;
}

one_happens : (l : Lock) (e : Event) → IsQuietSound l → (IsSound (happens l e).vote) × ((happens l e).since.begun ≡ l.since.begun)
one_happens l e q = let k = all_known (λ c s. Unit {0}) None l.since.begun l (e ∷ []) (anything l q) in (k.sound, k.begun_at)

-- ---- a message

reports_step : (v : VoterState) (m : ToVoter) (o : Outcome) → step v m ≡ Some o → AllReport o.state.held o.replies
reports_step v m o e = (MeetsContract-step v m o e).heard

reports_nothing : (v : VoterState) (o : Outcome) → Some (no_reply v) ≡ Some o → AllReport o.state.held o.replies
reports_nothing v o e = subst (λ (x : Outcome). AllReport x.state.held x.replies) (same_Some (no_reply v) o e) tt

pub reports_evict : (v : VoterState) (held : Option Grant) (n : ℕ) (o : Outcome) → evict_held held v n ≡ Some o → AllReport o.state.held o.replies
reports_evict v None n o e = reports_nothing v o e
reports_evict v (Some g) n o e = elim (g.grant == n) as (λ b. (if b then step v (release_of v g) else Some (no_reply v)) ≡ Some o → AllReport o.state.held o.replies) [
  | true ↦ λ now. reports_step v (release_of v g) o now
  | false ↦ λ now. reports_nothing v o now
] e

reports_old : (v : VoterState) (m : ToVoter) (b : VoterBody) (o : Outcome) → step_of_old v m b ≡ Some o → AllReport o.state.held o.replies
reports_old v m (asks.Request s) o e = reports_step v m o e
reports_old v m (asks.Relinquish n) o e = elim (is_grant v.held m.client n) as (λ b. (if b then evict v n else Some (no_reply v)) ≡ Some o → AllReport o.state.held o.replies) [
  | true ↦ λ now. reports_evict v v.held n o now
  | false ↦ λ now. reports_nothing v o now
] e
reports_old v m (asks.Release s) o e = reports_step v m o e

reports_quiet : (old : Bool) (v : VoterState) (m : ToVoter) (o : Outcome) → quiet_step old v m ≡ Some o → AllReport o.state.held o.replies
reports_quiet false v m o e = reports_step v m o e
reports_quiet true v m o e = reports_old v m m.body o e

inside_by : (inside : Bool) → not inside ≡ false → inside ≡ true
inside_by true e = refl
inside_by false e = absurd (false≢true (sym e))

-- who asks again for a vote that he has said that he is inside
said_again : (s : SinceStart) (v : VoterState) (c : ℕ) (b : VoterBody) (inside : Bool) (client stamp n : ℕ) → v.held ≡ Some (record { client = client; stamp = stamp; grant = n })
    → c < max_clients → IsStamped b → puts_off true inside b ≡ false → length s.inside ≡ max_clients → Brings c b client stamp
    → is_old (noted true inside s v c b) (Some (record { client = client; stamp = stamp; grant = n })) ≡ false
said_again s v c (asks.Request t) inside client stamp n held few some taken places brings =
    let g : Grant = record { client = client; stamp = stamp; grant = n } in
    let one : is_old (noted true true s v client (asks.Request stamp)) (Some g) ≡ false =
    renewed_is_new (noted true true s v client (asks.Request stamp)) g (noted_now s v g held (subst (λ x. 0 < x) (sym brings.1) some) (subst (λ x. x < max_clients) (sym brings.0) few) places) in
    let same_client : is_old (noted true true s v c (asks.Request stamp)) (Some g) ≡ false = subst (λ x. is_old (noted true true s v x (asks.Request stamp)) (Some g) ≡ false) brings.0 one in
    let same_stamp : is_old (noted true true s v c (asks.Request t)) (Some g) ≡ false = subst (λ x. is_old (noted true true s v c (asks.Request x)) (Some g) ≡ false) brings.1 same_client in
    subst (λ (b : Bool). is_old (noted true b s v c (asks.Request t)) (Some g) ≡ false) (sym (inside_by inside taken)) same_stamp
said_again s v c (asks.Relinquish m) inside client stamp n held few some taken places brings = absurd brings
said_again s v c (asks.Release t) inside client stamp n held few some taken places brings = absurd brings

-- a LOCKED of the vote is of one that is known, if the vote is known by what it says
by_body : (s : SinceStart) (held : Option Grant) (client : ℕ) (body : ClientBody) (k c : ℕ) (b : VoterBody)
    → ((client stamp n : ℕ) → held ≡ Some (record { client = client; stamp = stamp; grant = n }) → (k < n) ⊎ Brings c b client stamp → is_old s (Some (record { client = client; stamp = stamp; grant = n })) ≡ false)
    → ReportsVote held client body → IsNewOrAgain k c b client body → ReportsVote (known true s held) client body
by_body s held client (to_client.Locked stamp n) k c b new reports rises =
    subst (λ (h : Option Grant). known true s h ≡ Some (record { client = client; stamp = stamp; grant = n })) (sym reports)
    (known_new s (Some (record { client = client; stamp = stamp; grant = n })) (new client stamp n reports rises))
by_body s held client (to_client.Fail stamp) k c b new reports rises = tt
by_body s held client (to_client.Inquire n) k c b new reports rises = tt

all_known_said : (s : SinceStart) (held : Option Grant) (replies : List ToClient) (k c : ℕ) (b : VoterBody)
    → ((client stamp n : ℕ) → held ≡ Some (record { client = client; stamp = stamp; grant = n }) → (k < n) ⊎ Brings c b client stamp → is_old s (Some (record { client = client; stamp = stamp; grant = n })) ≡ false)
    → AllReport held replies → AreNewOrAgain k c b replies → AllReport (known true s held) replies
all_known_said s held [] k c b new reports rises = tt
all_known_said s held (r ∷ replies) k c b new reports rises =
    (by_body s held r.client r.body k c b new reports.0 rises.0, all_known_said s held replies k c b new reports.1 rises.1)

new_above : (s : SinceStart) (begun k client stamp n : ℕ) → s.begun ≡ begun → begun ≤ k → k < n → is_old s (Some (record { client = client; stamp = stamp; grant = n })) ≡ false
new_above s begun k client stamp n at most more = above s (record { client = client; stamp = stamp; grant = n }) (omega (arith, at, most, more))

-- a grant that is not old is not old after a message
stays_new : (s : SinceStart) (v : VoterState) (inside : Bool) (c : ℕ) (b : VoterBody) (g : Grant) → v.held ≡ Some g → (noted true inside s v c b).begun ≡ s.begun → is_old s (Some g) ≡ false
    → is_old (noted true inside s v c b) (Some g) ≡ false
stays_new s v inside c b g held at new = elim (by_what s g new) [
  | inl more ↦ above (noted true inside s v c b) g (subst (λ n. n < g.grant) (sym at) more)
  | inr is ↦ renewed_is_new (noted true inside s v c b) g (noted_keeps inside s v c b g held is)
]

-- what happens to the lock by a message that is taken
heard_is : (l : Lock) (m : ToVoter) (inside : Bool) (o : Option Outcome) → puts_off true inside m.body ≡ false → quiet_step (is_old l.since l.vote.held) l.vote m ≡ o
    → happens l (Hears m inside) ≡ quiet_time.after l (λ v. noted true inside l.since v m.client m.body) o
heard_is l m inside o taken e = rw (taken, e) refl

stays_by : (l : Lock) (m : ToVoter) (inside : Bool) (o : Outcome) (g : Grant) → quiet_step (is_old l.since l.vote.held) l.vote m ≡ Some o
    → (noted true inside l.since o.state m.client m.body).begun ≡ l.since.begun → (l.vote.held ≡ Some g) × (is_old l.since l.vote.held ≡ false)
    → (known true (noted true inside l.since o.state m.client m.body) o.state.held ≡ Some g) ⊎ Ends m.client m.body g
stays_by l m inside o g e at is =
    let steps : step l.vote m ≡ Some o = subst (λ (b : Bool). quiet_step b l.vote m ≡ Some o) is.1 e in
    elim ((MeetsContract-step l.vote m o steps).kept g is.0) [
      | inl held ↦ inl (
          let new : is_old l.since (Some g) ≡ false = ap (is_old l.since) (sym is.0) ∙ is.1 in
          let s = noted true inside l.since o.state m.client m.body in
          subst (λ (h : Option Grant). known true s h ≡ Some g) (sym held) (known_new s (Some g) (stays_new l.since o.state inside m.client m.body g held at new)))
      | inr ends ↦ inr ends
    ]

pub quiet_hears : (l : Lock) (m : ToVoter) (inside : Bool) → IsQuietSound l → m.client < max_clients → IsStamped m.body → puts_off true inside m.body ≡ false
    → (o : Option Outcome) → quiet_step (is_old l.since l.vote.held) l.vote m ≡ o
    → Quietly l (quiet_time.after l (λ v. noted true inside l.since v m.client m.body) o) (said_by o) (Ends m.client m.body)
quiet_hears l m inside q few some taken None e = unchanged l (Ends m.client m.body) q
quiet_hears l m inside q few some taken (Some o) e =
    let s = noted true inside l.since o.state m.client m.body in
    let both = one_happens l (Hears m inside) q in
    let next = heard_is l m inside (Some o) taken e in
    let at : s.begun ≡ l.since.begun = subst (λ (x : Lock). x.since.begun ≡ l.since.begun) next both.1 in
    let r = rises-quiet_step l.vote.granted (is_old l.since l.vote.held) l.vote m o (omega arith) e in
    record {
      stays = λ g is. stays_by l m inside o g e at (known_is l.since l.vote.held g is);
      said = all_known_said s o.state.held o.replies l.vote.granted m.client m.body
          (λ client stamp n held by. elim by [
            | inl more ↦ new_above s l.since.begun l.vote.granted client stamp n at q.begun more
            | inr brings ↦ said_again l.since o.state m.client m.body inside client stamp n held few some taken q.places brings
          ])
          (reports_quiet (is_old l.since l.vote.held) l.vote m o e) r.said;
      sound = record {
        sound = subst (λ (x : Lock). IsSound x.vote) next both.0;
        begun = omega (arith, at, q.begun, r.most);
        places = noted_places inside l.since o.state m.client m.body ∙ q.places;
      };
    }

-- ---- a grant is let go

stays_evicted : (l : Lock) (n : ℕ) (o : Outcome) (g : Grant) → evict l.vote n ≡ Some o → (l.vote.held ≡ Some g) × (is_old l.since l.vote.held ≡ false)
    → (known true l.since o.state.held ≡ Some g) ⊎ (g.grant ≡ n)
stays_evicted l n o g e is = elim (cases_eq g.grant n) [
  | inl same ↦ inr same
  | inr other ↦ inl (
      let held : o.state.held ≡ Some g = ap (λ (x : Outcome). x.state.held) (same_Some o (no_reply l.vote) (sym e ∙ evict-other l.vote g n is.0 other)) ∙ is.0 in
      let new : is_old l.since (Some g) ≡ false = ap (is_old l.since) (sym is.0) ∙ is.1 in
      subst (λ (h : Option Grant). known true l.since h ≡ Some g) (sym held) (known_new l.since (Some g) new))
]

pub quiet_evicts : (l : Lock) (n : ℕ) → IsQuietSound l → (o : Option Outcome) → evict l.vote n ≡ o
    → Quietly l (quiet_time.after l (λ v. l.since) o) (said_by o) (λ g. g.grant ≡ n)
quiet_evicts l n q None e = unchanged l (λ g. g.grant ≡ n) q
quiet_evicts l n q (Some o) e =
    let both = one_happens l (LetsGo n) q in
    let r = rises-evict l.vote.granted 0 (asks.Release 0) l.vote l.vote.held n o (omega arith) e in
    record {
      stays = λ g is. stays_evicted l n o g e (known_is l.since l.vote.held g is);
      said = all_known_said l.since o.state.held o.replies l.vote.granted 0 (asks.Release 0)
          (λ client stamp m held by. elim by [
            | inl more ↦ new_above l.since l.since.begun l.vote.granted client stamp m refl q.begun more
            | inr none ↦ absurd none
          ])
          (reports_evict l.vote l.vote.held n o e) r.said;
      sound = record {
        sound = subst (λ (x : Option Outcome). IsSound (quiet_time.after l (λ v. l.since) x).vote) e both.0;
        begun = omega (arith, q.begun, r.most);
        places = q.places;
      };
    }

-- ---- what was said is forgotten

said_of_others : (s : SinceStart) (client : ℕ) (g : Grant) → (g.client ≡ client → ⊥) → is_said s g.client g.stamp ≡ true → is_said (forgotten s client) g.client g.stamp ≡ true
said_of_others s client g other is = elim (set_cases s.inside client 0 g.client) [
  | inl same ↦ rw same is
  | inr here ↦ absurd (other here.0)
]

stays_forgotten : (s : SinceStart) (client : ℕ) (g : Grant) → (g.client ≡ client → ⊥) → is_old s (Some g) ≡ false → is_old (forgotten s client) (Some g) ≡ false
stays_forgotten s client g other new = elim (by_what s g new) [
  | inl more ↦ above (forgotten s client) g more
  | inr is ↦ renewed_is_new (forgotten s client) g (said_of_others s client g other is)
]

pub quiet_forgets : (l : Lock) (client : ℕ) → IsQuietSound l → Quietly l (record { vote = l.vote; since = forgotten l.since client }) [] (λ g. g.client ≡ client)
quiet_forgets l client q = record {
  stays = λ g is. (
      let at = known_is l.since l.vote.held g is in
      elim (cases_eq g.client client) [
        | inl same ↦ inr same
        | inr other ↦ inl (
            let new : is_old l.since (Some g) ≡ false = ap (is_old l.since) (sym at.0) ∙ at.1 in
            subst (λ (h : Option Grant). known true (forgotten l.since client) h ≡ Some g) (sym at.0)
            (known_new (forgotten l.since client) (Some g) (stays_forgotten l.since client g other new)))
      ]);
  said = tt;
  sound = record { sound = q.sound; begun = q.begun; places = length-set l.since.inside client 0 ∙ q.places };
}
