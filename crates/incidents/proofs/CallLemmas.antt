-- what the calls of a world with incidents do
use Rattle.std.proofs.Common.{◌≡◌, ℕ, ◌<◌, Bool, true, false, List, length, Option, Some, None, Result, Ok, Err, refl, sym, ap, ap₂, subst, ◌∙◌, inl, arith}
use Rattle.std.specs.Prelude.{◌&&◌, IfOk, OnErr, OnOk, nat_le, nat_lt, slice_set}
use Rattle.std.proofs.lemmas.Bool.{false≢true}
use Rattle.std.proofs.lemmas.Bool.Decides.{nat_tests}
use Rattle.std.proofs.lemmas.List.{length-set}
use Rattle.message.specs.declared.message.ToVoter.{ToVoter}
use Rattle.message.specs.declared.message.Message.TheVariants as kinds
use Rattle.message.specs.Lines.{HasLine}
use Rattle.voter.specs.declared.state.Grant.{Grant}
use Rattle.voter.specs.declared.state.VoterState.{VoterState}
use Rattle.voter.specs.Saved as saved_voter
use Rattle.voter.specs.Steps as voter
use Rattle.requester.specs.declared.state.ClientState.{ClientState}
use Rattle.requester.specs.Leases as client
use Rattle.requester.specs.Soundness as sound
use Rattle.world_state.specs.declared.fault.WorldFault.{WorldFault}
use Rattle.world_state.specs.declared.step.Step.{Step}
use Rattle.world_state.specs.declared.step.Stepped.{Stepped}
use Rattle.world.specs.Restarts.{Goes, OneClient, OneVoter, Saved, come_back, happens, if_there, restart, save_and_send}
use Rattle.world.specs.SavedWorlds.{PlannedSaved, SavesAndSends}
use Rattle.world_state.specs.Steps.{Outcome, WorldState, after_voter, client_at, dealing_of, if_client, if_voter, vote, voter_at}
use Rattle.world.proofs.Places.{client_here}
use Rattle.world.specs.Incidents.{Incident, Happens, Hears, anew, be_reborn, come_back_as, hear, is_above, is_ahead, reborn, start_anew, start_as}
use Rattle.incidents.specs.declared.fault.IncidentFault.{IncidentFault}
use Rattle.incidents.specs.declared.parts.Evicted.{Evicted}
use Rattle.incidents.specs.Calls.{befalls_by, grant_at, letting_go}
use Rattle.incidents.specs.Fit.{IsFit, IsWritten}

-- ---- a voter's step leaves as many clients and voters

abbrev KeepsLengths : WorldState → Result Outcome WorldFault → Type 0
KeepsLengths w (Ok o) = (length o.state.clients ≡ length w.clients) × (length o.state.voters ≡ length w.voters)
KeepsLengths w (Err fault) = Unit {0}

keeps_by : (w : WorldState) (v : ℕ) (r : Option voter.Outcome) → KeepsLengths w (after_voter w v r)
keeps_by w v (Some o) = (refl, length-set w.voters v o.state)
keeps_by w v None = tt

pub voted_lengths : (w : WorldState) (m : ToVoter) (o : Outcome) → vote w m ≡ Ok o
    → (length o.state.clients ≡ length w.clients) × (length o.state.voters ≡ length w.voters)
voted_lengths w m o is = subst (λ r. KeepsLengths w r) is (keeps_by w m.voter (voter.step (voter_at w.voters m.voter) m))

-- ---- where its condition holds, an incident befalls

pub there : (c n : ℕ) → c < n → nat_lt c n ≡ true
there c n within = grind (arith, nat_tests)

and_true : (p q : Bool) → p ≡ true → q ≡ true → (p && q) ≡ true
and_true true q e f = f
and_true false q e f = absurd (false≢true e)

pub restarts_is : (s : Saved) (c : ℕ) → c < length s.live.clients → restart (OneClient c) s ≡ come_back s c (client_at s.clients c)
restarts_is s c within = ap (λ (t : Bool). if_there t (come_back s c (client_at s.clients c)) s) (there c (length s.live.clients) within)

pub reborn_is : (s : Saved) (v above : ℕ) → v < length s.live.voters → is_above (voter_at s.live.voters v) above ≡ true
    → be_reborn (nat_lt v (length s.live.voters) && is_above (voter_at s.live.voters v) above) s v above ≡ come_back_as s v (reborn (voter_at s.live.voters v) above)
reborn_is s v above within is = ap (λ (t : Bool). be_reborn t s v above) (and_true _ _ (there v (length s.live.voters) within) is)

pub anew_is : (s : Saved) (c clock : ℕ) → c < length s.live.clients → is_ahead (client_at s.live.clients c) clock ≡ true
    → start_anew (nat_lt c (length s.live.clients) && is_ahead (client_at s.live.clients c) clock) s c clock ≡ start_as s c (anew (client_at s.live.clients c) clock)
anew_is s c clock within is = ap (λ (t : Bool). start_anew t s c clock) (and_true _ _ (there c (length s.live.clients) within) is)

pub hears_is : (s : Saved) (v : ℕ) (g : Grant) → (voter_at s.live.voters v).id ≡ v → v < length s.live.voters → g.client < length s.live.clients
    → hear s (letting_go s v g) ≡ save_and_send s (OneVoter (letting_go s v g).voter) (vote s.live (letting_go s v g))
hears_is s v g id within client =
    let m = letting_go s v g in
    ap₂ (λ (p q : Bool). save_and_send s (OneVoter m.voter) (if_voter p m.voter (if_client q m.client (vote s.live m))))
    (there m.voter (length s.live.voters) (subst (λ n. n < length s.live.voters) (sym id) within)) (and_true _ true (there g.client (length s.live.clients) client) refl)

-- ---- what worlds keep

-- a call that an incident befell, or that changed nothing
pub kept_by : {T F : Type 0} (P : PlannedSaved → Type 0) (w : PlannedSaved) (i : Incident) (r : Result T F) (new : Saved) → P w → P (befalls_by w i)
    → OnOk r (new ≡ (befalls_by w i).saved) → OnErr r (new ≡ w.saved) → P (record w { saved = new })
kept_by P w i (Ok t) new was will done same = subst (λ (s : Saved). P (record w { saved = s })) (sym done) will
kept_by P w i (Err fault) new was will done same = subst (λ (s : Saved). P (record w { saved = s })) (sym same) was

-- what the code's step makes of a world in which there was room
pub kept_by_step : (P : PlannedSaved → Type 0) → ((w : PlannedSaved) (st : Step) → P w → P (befalls_by w (Happens (Goes st)))) → (w : PlannedSaved) → P w
    → (roomy : WorldState) → roomy ≡ w.saved.live → (st : Step) (r : Result Stepped WorldFault) (new : Saved)
    → SavesAndSends (dealing_of w.plans) (record w.saved { live = roomy }) st r new → P (record w { saved = new })
kept_by_step P all w is roomy same st (Ok s) new did =
    let on = did.1 ∙ ap (λ (u : WorldState). happens (dealing_of w.plans) (record w.saved { live = u }) (Goes st)) same in
    subst (λ (n : Saved). P (record w { saved = n })) (sym on) (all w st is)
kept_by_step P all w is roomy same st (Err fault) new did =
    subst (λ (n : Saved). P (record w { saved = n })) (sym (did.1 ∙ ap (λ (u : WorldState). record w.saved { live = u }) same)) is

-- the client of a grant is one of the world
pub holder_fit : (w : PlannedSaved) → IsFit w → (v : ℕ) → v < length w.saved.live.voters → (g : Grant) → grant_at w.saved v ≡ Some g → g.client < length w.saved.live.clients
holder_fit w fit v within g held =
    let here = subst (λ n. v < n) fit.state.many_voters within in
    subst (λ n. g.client < n) (sym fit.state.many_clients) ((fit.state.voters_are v here).requests g.client g.stamp (inl (g, held, refl, refl))).0

-- the RELEASE of a grant has a line
line_of_grant : (w : PlannedSaved) → IsFit w → (v : ℕ) → v < length w.saved.live.voters → (g : Grant) → grant_at w.saved v ≡ Some g → HasLine (kinds.ToVoter (letting_go w.saved v g))
line_of_grant w fit v within g held =
    let here = subst (λ n. v < n) fit.state.many_voters within in
    let voter = fit.state.voters_are v here in
    let known = voter.requests g.client g.stamp (inl (g, held, refl, refl)) in
    let id = voter.id in
    let few_clients = fit.limits.few_clients in
    let few_voters = fit.limits.few_voters in
    let far = fit.limits.few_stamps in
    let client = known.0 in
    let least = known.1.0 in
    let most = known.1.1 in
    (omega arith, omega arith, (least, omega arith))

pub kept_by_eviction : ((w : PlannedSaved) (i : Incident) → IsFit w → IsWritten i → IsFit (befalls_by w i)) → (w : PlannedSaved) → IsFit w → (v : ℕ) (r : Result Evicted IncidentFault) (new : Saved)
    → IfOk r (λ e. new ≡ hear w.saved (letting_go w.saved v e.grant)) → IfOk r (λ e. grant_at w.saved v ≡ Some e.grant) → OnOk r (v < length w.saved.live.voters) → OnErr r (new ≡ w.saved)
    → IsFit (record w { saved = new })
kept_by_eviction all w fit v (Ok e) new done held within same =
    subst (λ (s : Saved). IsFit (record w { saved = s })) (sym done) (all w (Hears (letting_go w.saved v e.grant)) fit (line_of_grant w fit v within e.grant held))
kept_by_eviction all w fit v (Err fault) new done held within same = subst (λ (s : Saved). IsFit (record w { saved = s })) (sym same) fit

-- ---- what the calls return

-- an incident that befell, in the world as contracts see it
pub befell : {T F : Type 0} (w old : PlannedSaved) → w ≡ old → (i : Incident) (r : Result T F) (new : Saved) → OnOk r (new ≡ (befalls_by w i).saved) → OnOk r (record w { saved = new } ≡ befalls_by old i)
befell w old same i (Ok t) new done = ap (λ (s : Saved). record w { saved = s }) done ∙ ap (λ (u : PlannedSaved). befalls_by u i) same
befell w old same i (Err fault) new done = done

pub reborn_on : {T F : Type 0} (r : Result T F) (s : Saved) (v above : ℕ) (new : Saved) → OnOk r (v < length s.live.voters) → OnOk r (is_above (voter_at s.live.voters v) above ≡ true)
    → OnOk r (new ≡ come_back_as s v (reborn (voter_at s.live.voters v) above))
    → OnOk r (new ≡ be_reborn (nat_lt v (length s.live.voters) && is_above (voter_at s.live.voters v) above) s v above)
reborn_on (Ok t) s v above new within is done = done ∙ sym (reborn_is s v above within is)
reborn_on (Err fault) s v above new within is done = done

pub anew_on : {T F : Type 0} (r : Result T F) (s : Saved) (c clock : ℕ) (new : Saved) → OnOk r (c < length s.live.clients) → OnOk r (is_ahead (client_at s.live.clients c) clock ≡ true)
    → OnOk r (new ≡ start_as s c (anew (client_at s.live.clients c) clock))
    → OnOk r (new ≡ start_anew (nat_lt c (length s.live.clients) && is_ahead (client_at s.live.clients c) clock) s c clock)
anew_on (Ok t) s c clock new within is done = done ∙ sym (anew_is s c clock within is)
anew_on (Err fault) s c clock new within is done = done

-- a client that is saved anew, and then comes back, started anew
pub starts_as : (s : Saved) (c clock limit : ℕ) (x : ClientState) (live : WorldState) (clients : List ClientState) (new : Saved) → c < length s.clients → x ≡ client_at s.live.clients c → x.id ≡ c → limit ≡ x.limit
    → live ≡ s.live → clients ≡ slice_set s.clients c (client.anew c limit clock) → new ≡ come_back (record { live = live; clients = clients; voters = s.voters }) c (client_at clients c)
    → new ≡ start_as s c (anew (client_at s.live.clients c) clock)
starts_as s c clock limit x live clients new within who id limit_is live_is clients_are came =
    let y = anew (client_at s.live.clients c) clock in
    let same : client.anew c limit clock ≡ anew x clock = ap₂ (λ (i l : ℕ). client.anew i l clock) (sym id) limit_is in
    let made : clients ≡ slice_set s.clients c y = clients_are ∙ ap (λ (z : ClientState). slice_set s.clients c z) (same ∙ ap (λ (z : ClientState). anew z clock) who) in
    came ∙ ap₂ (λ (w : WorldState) (l : List ClientState). come_back (record { live = w; clients = l; voters = s.voters }) c (client_at l c)) live_is made
    ∙ ap (λ (z : ClientState). come_back (record s { clients = slice_set s.clients c y }) c z) (client_here s.clients c y within)

-- ---- a voter and a client that come back as they are

pub above_itself : (y : VoterState) → saved_voter.IsKept y → is_above y y.granted ≡ true
above_itself y kept = let few = kept.sound.granted in and_true (nat_le y.granted y.granted) (nat_le y.granted y.limit) (grind (arith, nat_tests)) (grind (arith, nat_tests))

pub ahead_itself : (x : ClientState) → sound.IsSound x → is_ahead x x.stamp ≡ true
ahead_itself x is = let few = is.stamp in and_true (nat_le x.stamp x.stamp) (nat_le x.stamp x.limit) (grind (arith, nat_tests)) (grind (arith, nat_tests))
