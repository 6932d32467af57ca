-- a request has one pass: a client that is inside keeps its votes until it leaves
use Rattle.std.proofs.Common.{◌≡◌, ℕ, ◌<◌, ◌≤◌, true, false, cond, List, [], ◌∷◌, length, Ok, refl, sym, subst, ◌∙◌, inl, inr, arith, eqb}
use Rattle.std.specs.Prelude.{slice_set}
use Rattle.std.proofs.lemmas.Bool.{false≢true}
use Rattle.std.proofs.lemmas.Bool.Decides.{nat_tests}
use Rattle.requester.specs.declared.state.ClientState.{ClientState}
use Rattle.requester.specs.declared.state.Phase.{Phase}
use Rattle.requester.specs.declared.state.Seen.{Seen}
use Rattle.requester.specs.declared.state.Seen.TheVariants.{Nothing}
use Rattle.requester.specs.RequesterContract.{Accepts, Sees}
use Rattle.requester.specs.Saved.{least_client}
use Rattle.requester.specs.Soundness as sound
use Rattle.requester.specs.Steps as client
use Rattle.requester.specs.Words.{is_idle, is_inside}
use Rattle.world.specs.Restarts.{Saved, IsIn, begin, pass_of, stamp_of}
use Rattle.world.specs.Runs.{AreLimits}
use Rattle.world_state.specs.Steps.{Dealing, client_at}
use Rattle.world.specs.Visible.{DealsFrom, DoMeet}
use Rattle.world.specs.Rules.{ClientLaws, VoterLaws}
use Rattle.world.proofs.Claims.{Bounds, put}
use Rattle.world.proofs.Places.{client_at-set}
use Rattle.world.proofs.Reached.{RunPremises}
use Rattle.world.specs.Incidents.{Incident, all_befall, anew, befalls}
use Rattle.world.proofs.Exclusion.{inside_busy}
use Rattle.world.proofs.Befalling.{Keeps, Scene, befalls_keeps, scene_of}
use Rattle.leases.proofs.Numbers.{AreNumbered, VoterLives, Numbered, all_on, befalls_on, begin_on, known_by, newborn}
use Rattle.passes.proofs.Requests.{HasOnly, only_after, only_anew, only_least, only_self, quiet_stays}

-- ---- a client that is inside

-- who is inside has a saved state that has this pass alone
abbrev IsSavedIn : ClientState → ClientState → Type 0
IsSavedIn x y = is_inside x.phase ≡ true → HasOnly x.stamp x.held y

-- ---- a property of each client, live and saved

record RelationLasts (R : ℕ → ClientState → ClientState → Type 0) : Type 0 where
  quiet : (c : ℕ) (x y : ClientState) (cause : client.Cause) (o : client.Outcome) → sound.IsSound x → Accepts x cause → client.step x cause ≡ Ok o → Sees x.phase Nothing o.state.phase → R c x y → R c o.state y
  loud : (c : ℕ) (x y : ClientState) (cause : client.Cause) (o : client.Outcome) → sound.IsSound x → Accepts x cause → client.step x cause ≡ Ok o → R c x y → R c o.state o.state
  saves : (c : ℕ) (x y : ClientState) → R c x y → R c x x
  forgets : (c : ℕ) (x y : ClientState) → R c x y → R c x (least_client y)
  restarts : (c : ℕ) (x y : ClientState) → R c x y → R c y y
  anew : (c : ℕ) (x y : ClientState) (clock : ℕ) → x.stamp ≤ clock → R c x y → R c (anew x clock) (anew x clock)

abbrev BothHave : ℕ → ℕ → List ℕ → ℕ → ClientState → ClientState → Type 0
BothHave d s p c x y = c ≡ d → HasOnly s p x × HasOnly s p y

both_last : ClientLaws → (d s : ℕ) (p : List ℕ) → RelationLasts (BothHave d s p)
both_last laws d s p = record {
  quiet = λ c x y cause o ok accepts is sees has at. let h = has at in (only_after laws s p x cause o ok accepts is h.0, h.1);
  loud = λ c x y cause o ok accepts is has at. let h = only_after laws s p x cause o ok accepts is (has at).0 in (h, h);
  saves = λ c x y has at. let h = (has at).0 in (h, h);
  forgets = λ c x y has at. let h = has at in (h.0, only_least s p y h.1);
  restarts = λ c x y has at. let h = (has at).1 in (h, h);
  anew = λ c x y clock ahead has at. let h = only_anew s p x clock ahead (has at).0 in (h, h);
}

inside_idle : (p : Phase) → is_inside p ≡ true → is_idle p ≡ true → ⊥
inside_idle p inside idle = false≢true (sym (inside_busy p inside) ∙ idle)

saved_in_last : ClientLaws → RelationLasts (λ c x y. IsSavedIn x y)
saved_in_last laws = record {
  quiet = λ c x y cause o ok accepts is sees has inside.
      let before : is_inside x.phase ≡ true = sees ∙ inside in
      let t = quiet_stays laws x cause o ok accepts is before inside in
      subst (λ (n : ℕ). HasOnly n o.state.held y) (sym t.0) (subst (λ (h : List ℕ). HasOnly x.stamp h y) (sym t.1) (has before));
  loud = λ c x y cause o ok accepts is has inside. only_self o.state inside;
  saves = λ c x y has inside. only_self x inside;
  forgets = λ c x y has inside. only_least x.stamp x.held y (has inside);
  restarts = λ c x y has inside. only_self y inside;
  anew = λ c x y clock ahead has inside. absurd (false≢true inside);
}

-- ---- lists

abbrev EachPair : (ℕ → ClientState → ClientState → Type 0) → List ClientState → List ClientState → Type 0
EachPair R lives saveds = (c : ℕ) → R c (client_at lives c) (client_at saveds c)

abbrev Pairs : (ℕ → ClientState → ClientState → Type 0) → Scene → Type 0
Pairs R w = EachPair R w.live.clients w.clients

both_at : (R : ℕ → ClientState → ClientState → Type 0) (L K : ℕ → ClientState) (c : ℕ) (x y : ClientState) (q : ℕ) → R c x y → R q (L q) (K q) → R q (put L c x q) (put K c y q)
both_at R L K c x y q here there = elim (eqb q c) as (λ b. eqb q c ≡ b → R q (cond b x (L q)) (cond b y (K q))) [
  | true ↦ λ e. let same : c ≡ q = grind (arith, nat_tests) in subst (λ (k : ℕ). R k x y) same here
  | false ↦ λ e. there
] refl

set_both : (R : ℕ → ClientState → ClientState → Type 0) (lives saveds : List ClientState) (c : ℕ) (x y : ClientState) → c < length lives → c < length saveds → R c x y → EachPair R lives saveds
    → EachPair R (slice_set lives c x) (slice_set saveds c y)
set_both R lives saveds c x y within within_saved here all q =
    subst (λ (f : ℕ → ClientState). R q (f q) (client_at (slice_set saveds c y) q)) (sym (client_at-set lives c x within))
    (subst (λ (g : ℕ → ClientState). R q (put (client_at lives) c x q) (g q)) (sym (client_at-set saveds c y within_saved))
    (both_at R (client_at lives) (client_at saveds) c x y q here (all q)))

-- ---- what befalls

pairs_keep : (R : ℕ → ClientState → ClientState → Type 0) → RelationLasts R → ClientLaws → (b : Bounds) (G : VoterLives) (w : Scene) → AreNumbered b G w → Pairs R w → Keeps b (λ m. Unit {0}) w (Pairs R)
pairs_keep R lasts laws b G w ok all =
    let X = client_at w.live.clients in
    let K = client_at w.clients in
    let turns = λ (c : ℕ) (within : c < b.clients) (x y : ClientState) (here : R c x y).
    set_both R w.live.clients w.clients c x y (subst (λ n. c < n) (sym ok.sizes.0) within) (subst (λ n. c < n) (sym ok.sizes.2) within) here all in
    record {
      known = known_by b G w ok;
      stays = all;
      client_rests = λ c cause o act is seen.
          let sound = (ok.live_clients c).sound in
          let sees = subst (λ (e : Seen). Sees (X c).phase e o.state.phase) seen (laws.meets (X c) cause o sound act.accepts is).seen in
          turns c act.within o.state (K c) (lasts.quiet c (X c) (K c) cause o sound act.accepts is sees (all c));
      client_speaks = λ c cause o act is. turns c act.within o.state o.state (lasts.loud c (X c) (K c) cause o (ok.live_clients c).sound act.accepts is (all c));
      client_reminds = λ c within. turns c within (X c) (X c) (lasts.saves c (X c) (K c) (all c));
      client_saves = λ c within. turns c within (X c) (X c) (lasts.saves c (X c) (K c) (all c));
      client_forgets = λ c within. turns c within (X c) (least_client (K c)) (lasts.forgets c (X c) (K c) (all c));
      client_restarts = λ c within. turns c within (K c) (K c) (lasts.restarts c (X c) (K c) (all c));
      client_anew = λ c clock within least most. turns c within (anew (X c) clock) (anew (X c) clock) (lasts.anew c (X c) (K c) clock least (all c));
      voter_rests = λ m o arrives is none. all;
      voter_speaks = λ m o arrives is. all;
      voter_reminds = λ v within. all;
      voter_saves = λ v within. all;
      voter_forgets = λ v within. all;
      voter_restarts = λ v within. all;
      voter_reborn = λ v above within least most. all;
      voter_limited = λ v limit within least most. all;
      voter_skipped = λ v above within least most. all;
    }

pair_all : (R : ℕ → ClientState → ClientState → Type 0) → RelationLasts R → (b : Bounds) → RunPremises b → (deal : Dealing) → DealsFrom b.quorums deal → (is : List Incident) (G : VoterLives) (s : Saved) → Numbered b G s → Pairs R (scene_of s)
    → Pairs R (scene_of (all_befall deal is s))
pair_all R lasts b given deal deals [] G s ok all = all
pair_all R lasts b given deal deals (i ∷ is) G s ok all =
    let one = befalls_on b given deal deals G s ok i in
    let kept = befalls_keeps b given deal deals (λ m. Unit {0}) s (Pairs R) (pairs_keep R lasts given.client b G (scene_of s) ok all) i (λ m e. tt) in
    pair_all R lasts b given deal deals is one.lives (befalls deal s i) one.ok kept

pub one_pass : ClientLaws → VoterLaws → (voters clients limit : ℕ) (quorums : List (List ℕ)) (deal : Dealing) (before after : List Incident) (c : ℕ)
    → AreLimits voters clients limit → DoMeet voters quorums → DealsFrom quorums deal
    → IsIn (all_befall deal before (begin voters clients limit)) c
    → IsIn (all_befall deal after (all_befall deal before (begin voters clients limit))) c
    → stamp_of (all_befall deal before (begin voters clients limit)) c ≡ stamp_of (all_befall deal after (all_befall deal before (begin voters clients limit))) c
    → pass_of (all_befall deal after (all_befall deal before (begin voters clients limit))) c ≡ pass_of (all_befall deal before (begin voters clients limit)) c
one_pass cs vs voters clients limit quorums deal before after c limits meets deals in_s in_t same =
    let b : Bounds = record { voters = voters; clients = clients; limit = limit; quorums = quorums } in
    let given : RunPremises b = record { client = cs; voter = vs; limits = limits; meet = meets } in
    let first = begin voters clients limit in
    let s = all_befall deal before first in
    let t = all_befall deal after s in
    let on = all_on b given deal deals newborn first (begin_on b given) before in
    let x = client_at s.live.clients c in
    let y = client_at t.live.clients c in
    let saved = pair_all (λ d k l. IsSavedIn k l) (saved_in_last cs) b given deal deals before newborn first (begin_on b given) (λ d. only_self (client_at first.clients d)) in
    let has : Pairs (BothHave c x.stamp x.held) (scene_of s) = λ d at. (
      subst (λ (k : ℕ). HasOnly x.stamp x.held (client_at s.live.clients k)) (sym at) (only_self x in_s),
      subst (λ (k : ℕ). HasOnly x.stamp x.held (client_at s.clients k)) (sym at) (saved c in_s),
    ) in
    let later = (pair_all (BothHave c x.stamp x.held) (both_last cs c x.stamp x.held) b given deal deals after on.lives s on.ok has c refl).0 in
    elim later [
      | inl less ↦ absurd (omega arith)
      | inr is ↦ elim is.1 [
        | inl idle ↦ absurd (inside_idle y.phase in_t idle)
        | inr inside ↦ inside.1
      ]
    ]
