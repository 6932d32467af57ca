-- services run as incidents
use Rattle.std.proofs.Common.{◌≡◌, ◌≢◌, ℕ, ◌<◌, Bool, true, false, List, [], ◌∷◌, ◌++◌, length, refl, sym, ap, subst, ◌∙◌, inl, inr, arith}
use Rattle.std.specs.Prelude.{◌&&◌, map, nat_lt, slice_set}
use Rattle.std.specs.FinMap as fin
use Rattle.std.specs.Ordering.{nat_cmp}
use Rattle.std.specs.List.{AllByRecursion, range_with_len}
use Rattle.std.proofs.lemmas.Bool.{and_parts, cases_eq, ltb-true}
use Rattle.std.proofs.lemmas.List.{length-set, set_past}
use Rattle.std.proofs.lemmas.List.FromFn.{get_or-map-range_with_len, length-map-range_with_len}
use Rattle.std.proofs.lemmas.Option.{none-some}
use Rattle.message.specs.declared.message.ToClient.{ToClient}
use Rattle.voter.specs.declared.state.VoterState.{VoterState}
use Rattle.voter.specs.Steps as voter
use Rattle.voter.specs.VoterContract.{IsEntry}
use Rattle.voter_node.specs.Nodes as nodes
use Rattle.world.specs.Restarts.{OneVoter, Saved, begin, save}
use Rattle.world.specs.Rules.{VoterLaws}
use Rattle.world_state.specs.Steps.{Dealing, voter_at}
use Rattle.leases.specs.Comeback.{AreLawful}
use Rattle.world.specs.Incidents.{Incident, Happens, Hears, IsReborn, StartsAnew, HasLimit, IsRaised, IsSkipped, all_befall, be_reborn, be_skipped, befalls, have_limit, is_above, is_limit, reborn}
use Rattle.world.proofs.IncidentLemmas.{counted, may_count}
use Rattle.leases.specs.NodeRuns.{HasVoter, Places, WasSent, given_out, incidents_of, saved_after, with_voter}
use Rattle.leases.specs.Orderly.{AreOrderly}
use Rattle.leases.specs.Services.{AlongEpisodes, Befalls, IsLawfulEpisode, IsOrderlyEpisode, IsAllSaved, LeavesVoters, MayRunIn, MayFollow, Runs, Episode, all_serve, incidents_in, incidents_served, save_after, saved_voter, serve}
use Rattle.world.proofs.Places.{voter_here, voter_others}
use Rattle.world.proofs.Restarts.{within_or}
use Rattle.leases.proofs.Guards.{befall-append}
use Rattle.leases.proofs.NodeRunLemmas.{RunEnds, lawful-append, node_leads, node_orderly, put_has}
use Rattle.leases.proofs.LifeLemmas.{as_mid, set_own}

-- ---- a new service

voter_new : (n limit v : ℕ) → v < n → voter_at (map (λ w. voter.start w limit) (range_with_len 0 n)) v ≡ voter.start v limit
unfolding voter_at
voter_new n limit v within = get_or-map-range_with_len (λ w. voter.start w limit) 0 n v v (voter.start 0 1) within (omega arith)

no_entry : (v limit c stamp : ℕ) → IsEntry (voter.start v limit) c stamp → ⊥
no_entry v limit c stamp e = elim e [ inl held ↦ none-some held.0 held.1 | inr waits ↦ none-some stamp (sym (fin.get-empty nat_cmp c) ∙ waits) ]

pub begin_served : (voters clients limit : ℕ) → IsAllSaved (begin voters clients limit)
begin_served voters clients limit v there =
    let len = length-map-range_with_len (λ w. voter.start w limit) 0 voters in
    let within : v < voters = omega arith in
    let is = voter_new voters limit v within in
    record {
      lives = there;
      is_saved = there;
      id = ap (λ (y : VoterState). y.id) is;
      live = refl;
      saved = refl;
      clients = λ c stamp e. absurd (no_entry v limit c stamp (subst (λ (y : VoterState). IsEntry y c stamp) is e));
    }

-- ---- one episode

-- what leaves the voters leaves the service in order
pub left_served : (deal : Dealing) (s : Saved) (i : Incident) → IsAllSaved s → LeavesVoters deal s i → IsAllSaved (serve deal s (Befalls i))
left_served deal s i served leaves v there =
    let t = serve deal s (Befalls i) in
    let has = served v (subst (λ (l : List VoterState). v < length l) leaves.saved there) in
    let same : saved_voter t v ≡ saved_voter s v = ap (λ (l : List VoterState). voter_at l v) leaves.saved in
    record {
      lives = subst (λ (l : List VoterState). v < length l) (sym leaves.live) has.lives;
      is_saved = there;
      id = ap (λ (y : VoterState). y.id) same ∙ has.id;
      live = ap (λ (l : List VoterState). voter_at l v) leaves.live ∙ has.live ∙ sym same;
      saved = refl;
      clients = λ c stamp e. subst (λ n. c < n) (sym leaves.clients) (has.clients c stamp (subst (λ (y : VoterState). IsEntry y c stamp) same e));
    }

-- another voter is as it was
others_have : (s : Saved) (v w : ℕ) (y : VoterState) (more : List ToClient) → HasVoter s w (saved_voter s w) → w ≢ v → HasVoter (with_voter s v y more) w (saved_voter (with_voter s v y more) w)
others_have s v w y more has other =
    let same : saved_voter (with_voter s v y more) w ≡ saved_voter s w = voter_others s.voters v y w other in
    record {
      lives = (let e = length-set s.live.voters v y in let within = has.lives in omega arith);
      is_saved = (let e = length-set s.voters v y in let within = has.is_saved in omega arith);
      id = ap (λ (z : VoterState). z.id) same ∙ has.id;
      live = voter_others s.live.voters v y w other ∙ has.live ∙ sym same;
      saved = refl;
      clients = λ c stamp e. has.clients c stamp (subst (λ (z : VoterState). IsEntry z c stamp) same e);
    }

has_saved : (s : Saved) (v : ℕ) (y : VoterState) → HasVoter s v y → HasVoter s v (saved_voter s v)
has_saved s v y has = subst (λ (z : VoterState). HasVoter s v z) (sym has.saved) has

-- a voter of the service has another state, live and saved
run_served : (s : Saved) (v : ℕ) (y : VoterState) (more : List ToClient) → IsAllSaved s → (v < length s.voters → HasVoter (with_voter s v y more) v y) → IsAllSaved (with_voter s v y more)
run_served s v y more served has w there = elim (cases_eq w v) [
  | inl same ↦
      let within : v < length s.voters = (let e = length-set s.voters v y in omega arith) in
      subst (λ k. HasVoter (with_voter s v y more) k (saved_voter (with_voter s v y more) k)) (sym same) (has_saved (with_voter s v y more) v y (has within))
  | inr other ↦ others_have s v w y more (served w (let e = length-set s.voters v y in omega arith)) other
]

pub reborn_served : (s : Saved) (v above : ℕ) (t : Bool) → IsAllSaved s → IsAllSaved (be_reborn t s v above)
reborn_served s v above false served = served
reborn_served s v above true served =
    let z = reborn (voter_at s.live.voters v) above in
    subst (λ (u : Saved). IsAllSaved u) (as_mid s v z z (slice_set s.live.voters v z) (slice_set s.voters v z) refl refl) (run_served s v z [] served (λ there.
    let has = served v there in
    put_has s v z [] has.lives there (ap (λ (y : VoterState). y.id) has.live ∙ has.id) (λ c stamp e. absurd (no_entry z.id z.limit c stamp e))))

save_served : (s : Saved) (v : ℕ) → IsAllSaved s → s ≡ save (OneVoter v) s
save_served s v served = elim (within_or s.voters v) [
  | inl there ↦ let e = set_own s.voters v (voter_at s.live.voters v) (sym (served v there).live) in λ i. record s { voters = sym e i }
  | inr past ↦ let e = set_past s.voters v (voter_at s.live.voters v) past in λ i. record s { voters = sym e i }
]

-- a live voter with other counts is saved
recount_served : (s : Saved) (v granted limit : ℕ) → v < length s.live.voters → IsAllSaved s
    → IsAllSaved (save (OneVoter v) (record s { live = record s.live { voters = slice_set s.live.voters v (counted (voter_at s.live.voters v) granted limit) } }))
recount_served s v granted limit within served =
    let z = counted (voter_at s.live.voters v) granted limit in
    let saved = ap (λ (y : VoterState). slice_set s.voters v y) (sym (voter_here s.live.voters v z within)) in
    let live : List VoterState = slice_set s.live.voters v z in
    subst (λ (u : Saved). IsAllSaved u) (as_mid s v z z live (slice_set s.voters v (voter_at live v)) refl saved) (run_served s v z [] served (λ there.
    let has = served v there in
    put_has s v z [] has.lives there (ap (λ (y : VoterState). y.id) has.live ∙ has.id)
    (λ c stamp e. has.clients c stamp (subst (λ (y : VoterState). IsEntry y c stamp) has.live e))))

pub limited_served : (s : Saved) (v limit : ℕ) (t : Bool) → (nat_lt v (length s.live.voters) && is_limit s v limit) ≡ t → IsAllSaved s → IsAllSaved (save (OneVoter v) (have_limit t s v limit))
limited_served s v limit false is served = subst (λ (u : Saved). IsAllSaved u) (save_served s v served) served
limited_served s v limit true is served =
    recount_served s v (voter_at s.live.voters v).granted limit (ltb-true _ _ (and_parts (nat_lt v (length s.live.voters)) (is_limit s v limit) is).0) served

pub skipped_served : (s : Saved) (v above : ℕ) (t : Bool) → (nat_lt v (length s.live.voters) && is_above (voter_at s.live.voters v) above) ≡ t → IsAllSaved s → IsAllSaved (save (OneVoter v) (be_skipped t s v above))
skipped_served s v above false is served = subst (λ (u : Saved). IsAllSaved u) (save_served s v served) served
skipped_served s v above true is served = recount_served s v above (voter_at s.live.voters v).limit (may_count s v above is).within served

run_ends : VoterLaws → (sure : Type 0) (deal : Dealing) (s : Saved) (v : ℕ) (places : Places) (events : List nodes.Event) → IsAllSaved s → MayRunIn s v places events
    → (sure → AllByRecursion (WasSent places) events)
    → RunEnds sure deal s v (incidents_of places (saved_voter s v) events) (saved_after (saved_voter s v) events) (given_out (saved_voter s v) events)
run_ends laws sure deal s v places events served may was =
    let y = saved_voter s v in
    let has = served v may.there in
    subst (λ k. RunEnds sure deal s k (incidents_of places y events) (saved_after y events) (given_out y events)) has.id
    (node_leads laws sure deal s places y events (record {
      voter = subst (λ k. HasVoter s k y) (sym has.id) has;
      places_are = may.places_are;
      events_may = may.events_may;
    }) was)

-- ---- all episodes

episode_led : VoterLaws → (deal : Dealing) (s : Saved) (t : Episode) → IsAllSaved s → MayFollow deal s t → all_befall deal (incidents_in s t) s ≡ serve deal s t
episode_led laws deal s (Befalls i) served may = refl
episode_led laws deal s (Runs v places events) served may = (run_ends laws ⊥ deal s v places events served may (λ no. absurd no)).led

episode_served : VoterLaws → (deal : Dealing) (s : Saved) (t : Episode) → IsAllSaved s → MayFollow deal s t → IsAllSaved (serve deal s t)
episode_served laws deal s (Befalls i) served may = may
episode_served laws deal s (Runs v places events) served may =
    run_served s v (saved_after (saved_voter s v) events) (given_out (saved_voter s v) events) served (λ _. (run_ends laws ⊥ deal s v places events served may (λ no. absurd no)).has)

pub episodes_led : VoterLaws → (deal : Dealing) (ts : List Episode) (s : Saved) → IsAllSaved s → AlongEpisodes deal (MayFollow deal) s ts → all_befall deal (incidents_served deal s ts) s ≡ all_serve deal s ts
episodes_led laws deal [] s served may = refl
episodes_led laws deal (t ∷ ts) s served may =
    let rest = incidents_served deal (serve deal s t) ts in
    befall-append deal (incidents_in s t) rest s ∙ ap (all_befall deal rest) (episode_led laws deal s t served may.0)
    ∙ episodes_led laws deal ts (serve deal s t) (episode_served laws deal s t served may.0) may.1

-- a save may follow at any time
save_may : (deal : Dealing) (s : Saved) (i : Incident) → AreLawful deal s (save_after i) × AreOrderly deal s (save_after i)
save_may deal s (HasLimit v limit) = ((tt, tt), (tt, tt))
save_may deal s (IsSkipped v above) = ((tt, tt), (tt, tt))
save_may deal s (Happens h) = (tt, tt)
save_may deal s (Hears m) = (tt, tt)
save_may deal s (IsReborn v above) = (tt, tt)
save_may deal s (StartsAnew c clock) = (tt, tt)
save_may deal s (IsRaised c clock) = (tt, tt)

episode_lawful : VoterLaws → (deal : Dealing) (s : Saved) (t : Episode) → IsAllSaved s → MayFollow deal s t → IsLawfulEpisode s t → AreLawful deal s (incidents_in s t)
episode_lawful laws deal s (Befalls i) served may lawful = (lawful, (save_may deal (befalls deal s i) i).0)
episode_lawful laws deal s (Runs v places events) served may lawful = (run_ends laws (Unit {0}) deal s v places events served may (λ _. lawful)).lawful tt

pub episodes_lawful : VoterLaws → (deal : Dealing) (ts : List Episode) (s : Saved) → IsAllSaved s → AlongEpisodes deal (MayFollow deal) s ts → AlongEpisodes deal IsLawfulEpisode s ts → AreLawful deal s (incidents_served deal s ts)
episodes_lawful laws deal [] s served may lawful = tt
episodes_lawful laws deal (t ∷ ts) s served may lawful =
    lawful-append deal (incidents_in s t) (incidents_served deal (serve deal s t) ts) s (episode_lawful laws deal s t served may.0 lawful.0)
    (subst (λ (u : Saved). AreLawful deal u (incidents_served deal (serve deal s t) ts)) (sym (episode_led laws deal s t served may.0))
    (episodes_lawful laws deal ts (serve deal s t) (episode_served laws deal s t served may.0) may.1 lawful.1))

orderly-append : (deal : Dealing) (is js : List Incident) (s : Saved) → AreOrderly deal s is → AreOrderly deal (all_befall deal is s) js → AreOrderly deal s (is ++ js)
orderly-append deal [] js s first more = more
orderly-append deal (i ∷ is) js s first more = (first.0, orderly-append deal is js (befalls deal s i) first.1 more)

episode_orderly : (deal : Dealing) (s : Saved) (t : Episode) → IsOrderlyEpisode s t → AreOrderly deal s (incidents_in s t)
episode_orderly deal s (Befalls i) orderly = (orderly, (save_may deal (befalls deal s i) i).1)
episode_orderly deal s (Runs v places events) orderly = node_orderly deal s places (saved_voter s v) events orderly.0 orderly.1

pub episodes_orderly : VoterLaws → (deal : Dealing) (ts : List Episode) (s : Saved) → IsAllSaved s → AlongEpisodes deal (MayFollow deal) s ts → AlongEpisodes deal IsOrderlyEpisode s ts → AreOrderly deal s (incidents_served deal s ts)
episodes_orderly laws deal [] s served may orderly = tt
episodes_orderly laws deal (t ∷ ts) s served may orderly =
    orderly-append deal (incidents_in s t) (incidents_served deal (serve deal s t) ts) s (episode_orderly deal s t orderly.0)
    (subst (λ (u : Saved). AreOrderly deal u (incidents_served deal (serve deal s t) ts)) (sym (episode_led laws deal s t served may.0))
    (episodes_orderly laws deal ts (serve deal s t) (episode_served laws deal s t served may.0) may.1 orderly.1))
