-- what a guard admits, and in which order
use Rattle.std.proofs.Common.{◌≡◌, ℕ, zero, suc, ◌≤◌, true, List, [], ◌∷◌, ◌++◌, take, refl, sym, ap, subst, ◌∙◌, ◌⊎◌, inl, inr, arith}
use Rattle.std.specs.Prelude.{slice_index}
use Rattle.std.specs.List.{AllByRecursion}
use Rattle.std.proofs.lemmas.Bool.Decides.{nat_tests}
use Rattle.std.proofs.lemmas.Option.{same_Some}
use Rattle.voter.specs.declared.state.Grant.{Grant}
use Rattle.world.specs.Restarts.{IsIn, IsSameRequest, Saved, begin, pass_of, stamp_of}
use Rattle.world.specs.Runs.{AreLimits}
use Rattle.world_state.specs.Steps.{Dealing, client_at}
use Rattle.world.specs.Visible.{DealsFrom, DoMeet}
use Rattle.world.specs.Rules.{ClientLaws, VoterLaws}
use Rattle.world.proofs.Claims.{Bounds}
use Rattle.world.proofs.Exclusion.{list_all-holds, under_grant}
use Rattle.world.proofs.Reached.{RunPremises}
use Rattle.world.specs.Incidents.{Incident, all_befall, befalls}
use Rattle.fence.specs.Passes.{Admits, is_not_older}
use Rattle.leases.specs.Shows.{HasSeenOnly, IsCurrent, IsShown, ClientShow, Story, WasIn, pass_in, story_of, world_at}
use Rattle.leases.specs.WorldVoters.{AreVoters}
use Rattle.passes.specs.Grants.{AreApart, AreOfOne, Gave, Giving, HaveLimits, IsCoterie, IsPass, Pass, ShareQuorum, Voters}
use Rattle.passes.specs.Guarded.{Entry, HaveOnePassEach, ShowTheSame}
use Rattle.passes.proofs.Guards.{own_quorum}
use Rattle.requester.specs.declared.state.ClientState.{ClientState}
use Rattle.requester.specs.Words.{held_of, is_inside, members}
use Rattle.leases.proofs.Passes.{one_pass}
use Rattle.passes.proofs.Requests.{IsBeginning, has_grant, one_begins}
use Rattle.leases.proofs.Numbers.{Further, HoldsByGrants, VoterLives, Numbered, all_on, among_of, begin_on, befalls_on, knows_on, newborn, voters_of}

-- ---- every client at every moment

-- what holds of a whole story: each client, at each moment, had votes by grants that its voters gave
pub record Whole (b : Bounds) (deal : Dealing) (G : VoterLives) (s : Saved) (incidents : List Incident) : Type 0 where
  pub lives : VoterLives
  pub ok : Numbered b lives (all_befall deal incidents s)
  pub further : Further b G lives
  pub every : (moment c : ℕ) → HoldsByGrants b lives c (client_at (all_befall deal (take moment incidents) s).live.clients c)

first_moments : (b : Bounds) (deal : Dealing) (G : VoterLives) (s : Saved) → Numbered b G s → (moment c : ℕ) → HoldsByGrants b G c (client_at (all_befall deal (take moment []) s).live.clients c)
first_moments b deal G s ok zero c = ok.live_clients c
first_moments b deal G s ok (suc n) c = ok.live_clients c

next_moments : (b : Bounds) (deal : Dealing) (G H : VoterLives) (s : Saved) (i : Incident) (is : List Incident) → Numbered b G s
    → Further b G H
    → ((moment c : ℕ) → HoldsByGrants b H c (client_at (all_befall deal (take moment is) (befalls deal s i)).live.clients c))
    → (moment c : ℕ) → HoldsByGrants b H c (client_at (all_befall deal (take moment (i ∷ is)) s).live.clients c)
next_moments b deal G H s i is ok f rest zero c = knows_on b G H f c (client_at s.live.clients c) (ok.live_clients c)
next_moments b deal G H s i is ok f rest (suc n) c = rest n c

whole : (b : Bounds) → RunPremises b → (deal : Dealing) → DealsFrom b.quorums deal → (G : VoterLives) (s : Saved) → Numbered b G s → (incidents : List Incident) → Whole b deal G s incidents
whole b given deal deals G s ok [] = record {
  lives = G;
  ok = ok;
  further = λ v c t g is. is;
  every = first_moments b deal G s ok;
}
whole b given deal deals G s ok (i ∷ is) =
    let one = befalls_on b given deal deals G s ok i in
    let rest = whole b given deal deals one.lives (befalls deal s i) one.ok is in
    let f : Further b G rest.lives = λ v c t g is. rest.further v c t g (one.further v c t g is) in
    record { lives = rest.lives; ok = rest.ok; further = f; every = next_moments b deal G rest.lives s i is ok f rest.every }

-- ---- two moments

pub befall-append : (deal : Dealing) (is js : List Incident) (s : Saved) → all_befall deal (is ++ js) s ≡ all_befall deal js (all_befall deal is s)
befall-append deal [] js s = refl
befall-append deal (i ∷ is) js s = befall-append deal is js (befalls deal s i)

-- one client is inside at two moments, under one stamp
same_later : ClientLaws → VoterLaws → (voters clients limit : ℕ) (quorums : List (List ℕ)) (deal : Dealing) (is js : List Incident) (c : ℕ)
    → AreLimits voters clients limit → DoMeet voters quorums → DealsFrom quorums deal → IsBeginning is js
    → IsIn (all_befall deal is (begin voters clients limit)) c → IsIn (all_befall deal js (begin voters clients limit)) c
    → stamp_of (all_befall deal is (begin voters clients limit)) c ≡ stamp_of (all_befall deal js (begin voters clients limit)) c
    → pass_of (all_befall deal js (begin voters clients limit)) c ≡ pass_of (all_befall deal is (begin voters clients limit)) c
same_later cs vs voters clients limit quorums deal is js c limits meets deals begins in_is in_js same =
    let first = begin voters clients limit in
    let e : all_befall deal js first ≡ all_befall deal begins.0 (all_befall deal is first) = ap (λ (l : List Incident). all_befall deal l first) begins.1 ∙ befall-append deal is begins.0 first in
    ap (λ (s : Saved). pass_of s c) e
    ∙ one_pass cs vs voters clients limit quorums deal is begins.0 c limits meets deals in_is (subst (λ (s : Saved). IsIn s c) e in_js) (same ∙ ap (λ (s : Saved). stamp_of s c) e)

pub same_pass : ClientLaws → VoterLaws → (voters clients limit : ℕ) (quorums : List (List ℕ)) (deal : Dealing) (incidents : List Incident) (w x : ClientShow)
    → AreLimits voters clients limit → DoMeet voters quorums → DealsFrom quorums deal
    → WasIn (story_of deal voters clients limit incidents) w → WasIn (story_of deal voters clients limit incidents) x → IsSameRequest (world_at (story_of deal voters clients limit incidents) w.moment) w.client (world_at (story_of deal voters clients limit incidents) x.moment) x.client
    → pass_in (story_of deal voters clients limit incidents) w ≡ pass_in (story_of deal voters clients limit incidents) x
same_pass cs vs voters clients limit quorums deal incidents w x limits meets deals in_w in_x one =
    let first = begin voters clients limit in
    let s = all_befall deal (take w.moment incidents) first in
    let t = all_befall deal (take x.moment incidents) first in
    let c = w.client in
    let in_t : IsIn t c = subst (λ (k : ℕ). IsIn t k) (sym one.0) in_x in
    let stamps : stamp_of s c ≡ stamp_of t c = subst (λ (k : ℕ). stamp_of s c ≡ stamp_of t k) (sym one.0) one.1 in
    let passes : pass_of s c ≡ pass_of t c = elim (one_begins incidents w.moment x.moment) [
      | inl b ↦ sym (same_later cs vs voters clients limit quorums deal (take w.moment incidents) (take x.moment incidents) c limits meets deals b in_w in_t stamps)
      | inr b ↦ same_later cs vs voters clients limit quorums deal (take x.moment incidents) (take w.moment incidents) c limits meets deals b in_t in_w (sym stamps)
    ] in
    subst (λ (k : ℕ). pass_of s c ≡ pass_of t k) one.0 passes

-- ---- what is shown is a pass

knows_pass : (b : Bounds) (G : VoterLives) (c : ℕ) (x : ClientState) → HoldsByGrants b G c x → is_inside x.phase ≡ true
    → IsPass b.quorums (Gave (voters_of b G)) (record { client = c; stamp = x.stamp; grants = x.held })
knows_pass b G c x k inside = record {
  quorum = members x;
  among = among_of b G c x k inside;
  covers = λ v member. has_grant x v (list_all-holds x (members x) v (k.sound.inside inside) member);
  given = λ v some. (k.votes v (held_of x v) (under_grant x v some)).0;
}

pub have_voters : ClientLaws → VoterLaws → (voters clients limit : ℕ) (quorums : List (List ℕ)) (deal : Dealing) (incidents : List Incident)
    → AreLimits voters clients limit → DoMeet voters quorums → DealsFrom quorums deal
    → (lives : Voters) × AreVoters voters limit quorums (story_of deal voters clients limit incidents) lives
have_voters cs vs voters clients limit quorums deal incidents limits meets deals =
    let b : Bounds = record { voters = voters; clients = clients; limit = limit; quorums = quorums } in
    let given : RunPremises b = record { client = cs; voter = vs; limits = limits; meet = meets } in
    let all = whole b given deal deals newborn (begin voters clients limit) (begin_on b given) incidents in
    let story = story_of deal voters clients limit incidents in
    let lives = voters_of b all.lives in (
      lives,
      record {
        limits = λ v. refl;
        leads = λ v few. (all.ok.nodes v).node few;
        says = all.ok.says;
        passes = λ p is. subst (λ (q : Pass). IsPass quorums (Gave lives) q) is.2
            (knows_pass b all.lives is.0.client (client_at (world_at story is.0.moment).live.clients is.0.client) (all.every is.0.moment is.0.client) is.1);
      },
    )

-- ---- what `passes` asks for

pub coterie_of : (voters clients limit : ℕ) (quorums : List (List ℕ)) → AreLimits voters clients limit → DoMeet voters quorums → IsCoterie voters quorums
coterie_of voters clients limit quorums limits meets = record { few = limits.few_voters; meets = meets.meets }

pub have_limits : (voters clients limit : ℕ) → AreLimits voters clients limit → (lives : Voters) → ((v : ℕ) → lives.limit v ≡ limit) → HaveLimits lives
have_limits voters clients limit limits lives are v = let same = are v in let few = limits.few_stamps in omega arith

-- each request shows one pass
abbrev OnePass : Story → Type 0
OnePass story = (p q : Pass) → IsShown story p → IsShown story q → AreOfOne p q → p.grants ≡ q.grants

pub one_pass_of : ClientLaws → VoterLaws → (voters clients limit : ℕ) (quorums : List (List ℕ)) (deal : Dealing) (incidents : List Incident)
    → AreLimits voters clients limit → DoMeet voters quorums → DealsFrom quorums deal → OnePass (story_of deal voters clients limit incidents)
one_pass_of cs vs voters clients limit quorums deal incidents limits meets deals p q is_p is_q same = sym (ap (λ (k : Pass). k.grants) is_p.2)
    ∙ same_pass cs vs voters clients limit quorums deal incidents is_p.0 is_q.0 limits meets deals is_p.1 is_q.1
    (ap (λ (k : Pass). k.client) is_p.2 ∙ same.0 ∙ sym (ap (λ (k : Pass). k.client) is_q.2), ap (λ (k : Pass). k.stamp) is_p.2 ∙ same.1 ∙ sym (ap (λ (k : Pass). k.stamp) is_q.2))
    ∙ ap (λ (k : Pass). k.grants) is_q.2

one_each : (quorums : List (List ℕ)) (gave : Giving) (story : Story) → ((p : Pass) → IsShown story p → IsPass quorums gave p) → OnePass story → (p : Pass) → IsShown story p
    → (ps : List Pass) → AllByRecursion (IsShown story) ps → AllByRecursion (λ q. AreOfOne p q → ShareQuorum quorums p.grants q.grants) ps
one_each quorums gave story are_passes one p is_p [] are = tt
one_each quorums gave story are_passes one p is_p (q ∷ qs) are = (
  λ same. own_quorum quorums gave p q.grants (are_passes p is_p) (one p q is_p are.0 same),
  one_each quorums gave story are_passes one p is_p qs are.1,
)

pub all_one_each : (quorums : List (List ℕ)) (gave : Giving) (story : Story) → ((p : Pass) → IsShown story p → IsPass quorums gave p) → OnePass story
    → (ps : List Pass) → AllByRecursion (IsShown story) ps → HaveOnePassEach quorums ps
all_one_each quorums gave story are_passes one [] are = tt
all_one_each quorums gave story are_passes one (p ∷ ps) are = (one_each quorums gave story are_passes one p are.0 ps are.1, all_one_each quorums gave story are_passes one ps are.1)

same_each : (story : Story) → OnePass story → (e : Entry) → IsShown story e.pass → (es : List Entry) → AllByRecursion (λ f. IsShown story f.pass) es
    → AllByRecursion (λ f. AreOfOne e.pass f.pass → e.pass.grants ≡ f.pass.grants) es
same_each story one e is_e [] are = tt
same_each story one e is_e (f ∷ fs) are = (one e.pass f.pass is_e are.0, same_each story one e is_e fs are.1)

pub all_show_same : (story : Story) → OnePass story → (es : List Entry) → AllByRecursion (λ f. IsShown story f.pass) es → ShowTheSame es
all_show_same story one [] are = tt
all_show_same story one (e ∷ es) are = (same_each story one e are.0 es are.1, all_show_same story one es are.1)

-- ---- two moments of a run

-- what `passes` says of two passes
abbrev ApartLaw : Type 0
ApartLaw = (count : ℕ) (quorums : List (List ℕ)) (voters : Voters) (first second : Pass) → IsCoterie count quorums → HaveLimits voters
    → IsPass quorums (Gave voters) first → IsPass quorums (Gave voters) second → AreOfOne first second ⊎ AreApart first.grants second.grants

pub apart_inside : ClientLaws → VoterLaws → ApartLaw → (voters clients limit : ℕ) (quorums : List (List ℕ)) (deal : Dealing) (before after : List Incident) (c d : ℕ)
    → AreLimits voters clients limit → DoMeet voters quorums → DealsFrom quorums deal
    → IsIn (all_befall deal before (begin voters clients limit)) c
    → IsIn (all_befall deal after (all_befall deal before (begin voters clients limit))) d
    → IsSameRequest (all_befall deal before (begin voters clients limit)) c (all_befall deal after (all_befall deal before (begin voters clients limit))) d
    ⊎ AreApart (pass_of (all_befall deal before (begin voters clients limit)) c) (pass_of (all_befall deal after (all_befall deal before (begin voters clients limit))) d)
apart_inside cs vs apart voters clients limit quorums deal before after c d limits meets deals in_c in_d =
    let b : Bounds = record { voters = voters; clients = clients; limit = limit; quorums = quorums } in
    let given : RunPremises b = record { client = cs; voter = vs; limits = limits; meet = meets } in
    let s = all_befall deal before (begin voters clients limit) in
    let t = all_befall deal after s in
    let first = all_on b given deal deals newborn (begin voters clients limit) (begin_on b given) before in
    let second = all_on b given deal deals first.lives s first.ok after in
    let lives = voters_of b second.lives in
    let x = client_at s.live.clients c in
    let y = client_at t.live.clients d in
    apart voters quorums lives (record { client = c; stamp = x.stamp; grants = x.held }) (record { client = d; stamp = y.stamp; grants = y.held })
    (coterie_of voters clients limit quorums limits meets) (have_limits voters clients limit limits lives (λ v. refl))
    (knows_pass b second.lives c x (knows_on b first.lives second.lives second.further c x (first.ok.live_clients c)) in_c)
    (knows_pass b second.lives d y (second.ok.live_clients d) in_d)

-- ---- who is not refused

shows_none : (seen pass : List ℕ) (v : ℕ) → slice_index pass v ≡ 0 → is_not_older seen pass v ≡ true
shows_none seen pass v none = grind (arith, nat_tests)

shows_newer : (seen pass : List ℕ) (v : ℕ) → slice_index seen v ≤ slice_index pass v → is_not_older seen pass v ≡ true
shows_newer seen pass v less = grind (arith, nat_tests)

none_or_some : (n : ℕ) → (n ≡ 0) ⊎ (1 ≤ n)
none_or_some zero = inl refl
none_or_some (suc n) = inr (omega arith)

pub current_admitted : ClientLaws → VoterLaws → (voters clients limit : ℕ) (quorums : List (List ℕ)) (deal : Dealing) (incidents : List Incident) (seen pass : List ℕ)
    → AreLimits voters clients limit → DoMeet voters quorums → DealsFrom quorums deal
    → HasSeenOnly (record { deal = deal; first = begin voters clients limit; incidents = incidents }) seen
    → IsCurrent (all_befall deal incidents (begin voters clients limit)) pass → Admits seen pass
current_admitted cs vs voters clients limit quorums deal incidents seen pass limits meets deals only current v few =
    let b : Bounds = record { voters = voters; clients = clients; limit = limit; quorums = quorums } in
    let given : RunPremises b = record { client = cs; voter = vs; limits = limits; meet = meets } in
    let first = begin voters clients limit in
    let all = whole b given deal deals newborn first (begin_on b given) incidents in
    let story : Story = record { deal = deal; first = first; incidents = incidents } in
    elim (none_or_some (slice_index pass v)) [
      | inl none ↦ shows_none seen pass v none
      | inr some ↦ shows_newer seen pass v (elim (only v few) [
        | inl new ↦ omega arith
        | inr was ↦ elim (none_or_some (slice_index (pass_in story was.0) v)) [
          | inl nothing ↦ (let same = was.1 in omega arith)
          | inr had ↦
              let w = was.0 in
              let k = slice_index (pass_in story w) v in
              let gave = ((all.every w.moment w.client).votes v k (under_grant (client_at (world_at story w.moment).live.clients w.client) v had)).0 in
              let g = current v some in
              let latest = (all.ok.nodes v).live g.0 g.1 w.client (client_at (world_at story w.moment).live.clients w.client).stamp k gave in
              let number = g.2 in
              let same = was.1 in
              omega arith
        ]
      ])
    ]

-- ---- of the clients whose grants are current, at most one is inside

pub one_current : (s : Saved) (c d : ℕ) → IsSameRequest s c s d ⊎ AreApart (pass_of s c) (pass_of s d) → IsCurrent s (pass_of s c) → IsCurrent s (pass_of s d) → c ≡ d
one_current s c d (inl same) current_c current_d = same.0
one_current s c d (inr apart) current_c current_d =
    let v = apart.voter in
    let g = current_c v apart.first_has in
    let h = current_d v apart.second_has in
    let one : g.0 ≡ h.0 = same_Some g.0 h.0 (sym g.1 ∙ h.1) in
    absurd (apart.apart v apart.first_has (sym g.2 ∙ ap (λ (k : Grant). k.grant) one ∙ h.2))
