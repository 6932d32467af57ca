-- after any happenings, losses of saved states too, requests get on in fair rounds
use Rattle.std.proofs.Common.{◌≡◌, ◌≢◌, ℕ, suc, ◌<◌, ◌≤◌, Bool, true, false, List, [], ◌∷◌, ◌++◌, length, map, Ok, Err, refl, sym, ap, subst, ◌∙◌, ◌⊎◌, inl, inr, arith}
use Rattle.std.specs.Prelude.{Result, nat_lt, slice_set, Some}
use Rattle.std.proofs.lemmas.Bool.{cases_eq, false≢true, ltb-true}
use Rattle.std.proofs.lemmas.List.{append-nil, length-set, set_past}
use Rattle.message.specs.declared.message.Message.TheVariants as kinds
use Rattle.voter.specs.declared.state.VoterState.{VoterState}
use Rattle.voter.specs.Saved.{least_voter}
use Rattle.voter.specs.Steps as voter
use Rattle.voter.specs.VoterContract.{IsEntry}
use Rattle.requester.specs.declared.state.ClientState.{ClientState}
use Rattle.requester.specs.Saved.{least_client}
use Rattle.requester.specs.Steps as requester
use Rattle.requester.proofs.SoundSteps.{is_asking-busy}
use Rattle.world_state.specs.declared.fault.WorldFault.{WorldFault}
use Rattle.world_state.specs.declared.step.Step.{Step}
use Rattle.world.specs.Coherence.{IsCoherent}
use Rattle.world.specs.Restarts.{Node, OneClient, OneVoter, Nobody, Saved, Happening, Goes, Saves, Forgets, Restarts, all_happen, begin, come_back, forget, happens, if_there, maker, restart, save, save_and_send, save_unless}
use Rattle.world_state.specs.Steps.{is_silent}
use Rattle.world.specs.Rules.{ClientLaws, VoterLaws}
use Rattle.world.specs.Runs.{run_of}
use Rattle.world.specs.SavedWorlds.{AreMixed, with_nodes}
use Rattle.world_state.specs.Steps.{Adds, Dealing, Outcome, WorldState, client_at, events, step, voter_at}
use Rattle.world.specs.Visible.{DealsFrom}
use Rattle.world.proofs.Added.{Adds-step}
use Rattle.world.proofs.Claims.{Bounds}
use Rattle.world.proofs.EveryRun.{coherent_by, run_from}
use Rattle.world.proofs.Mixes.{same_clients, same_voters}
use Rattle.world.proofs.Places.{client_at-set, voter_at-set}
use Rattle.world.proofs.Reached.{RunPremises}
use Rattle.world.proofs.Restarts.{Mix, MixBut, Mix-back, Mix-restarted, Mix-saved, Mix-with, SavedOk, begin_ok, happens_ok, live_ok, nothing_more, silent_parts, within_or}
use Rattle.progress.specs.AfterLosses.{AskedSince, IsHeard, IsReachedAfterLosses}
use Rattle.progress.specs.LiveRounds.{AreGone, AreLiveRounds, HasGrantsThere, Live, SparesLive}
use Rattle.progress.specs.Moves.{Move, moved, moves_of, of_moves}
use Rattle.progress.specs.Rules.{Laws}
use Rattle.world.specs.WayIn.{Asks}
use Rattle.progress.proofs.invariants.Always.{VoterHasSeen, Heeds, Seen-voter}
use Rattle.progress.proofs.overtaking.Behind.{IsLater-moved, is_current_of}
use Rattle.progress.proofs.invariants.Fitting.{current_stamp}
use Rattle.progress.proofs.losses.Forgetting.{Endures, Endures-client_lost, Endures-moved, Endures-same, Endures-start, Endures-voter_lost, beyond, outstanding_by}
use Rattle.progress.proofs.run.Makers.{MadeBy, OnlySays, coherent_world, made_by}
use Rattle.progress.proofs.run.Moves.{Came, ClientMoved, Moved, StaysCoherent, VoterMoved, client_here, client_others, kept-by, voter_here, voter_others}
use Rattle.progress.proofs.invariants.Placed.{Seen-client}
use Rattle.progress.proofs.shade.Shaded.{Rests, Rests-run, Runs, nobody, under_self}
use Rattle.progress.proofs.invariants.Sure.{Course, IsSure-first}

-- ---- mixes

-- whichever clients and voters are as they were saved
abbrev EachEndures : Saved → Type 0
EachEndures s = (cs : List ClientState) (vs : List VoterState) → AreMixed s cs vs → Endures (with_nodes s.live cs vs)

mix_coherent : (b : Bounds) → RunPremises b → (s : Saved) → SavedOk b s → (cs : List ClientState) (vs : List VoterState) → AreMixed s cs vs → IsCoherent (with_nodes s.live cs vs)
mix_coherent b given s ok cs vs mixed = coherent_world b given (with_nodes s.live cs vs) (mixed.many_clients ∙ ok.sizes.0) (mixed.many_voters ∙ ok.sizes.1)
    (ok.mixes (client_at cs) (voter_at vs) mixed.each_client mixed.each_voter)

came_in : (w : WorldState) (cs : List ClientState) (vs : List VoterState) (c d : ℕ) (cause : requester.Cause) → d ≡ c → Came w d cause → Came (with_nodes w cs vs) c cause
came_in w cs vs c d (requester.Asks q) who came = tt
came_in w cs vs c d (requester.Takes m) who came = (came.0 ∙ who, came.1, came.2)
came_in w cs vs c d requester.Leaves who came = tt
came_in w cs vs c d requester.GivesUp who came = tt

-- what is known of a saved world
record BeforeStep (s : Saved) : Type 0 where
  all : EachEndures s
  before : (cs : List ClientState) (vs : List VoterState) → AreMixed s cs vs → IsCoherent (with_nodes s.live cs vs)
  clients : length s.clients ≡ length s.live.clients
  voters : length s.voters ≡ length s.live.voters

-- a client as it is after its step, and the others mixed
client_mix : (laws : Laws) (s : Saved) (u : WorldState) (c : ℕ) → BeforeStep s → c < length s.live.clients → ((k : ClientMoved s.live u) × (k.who ≡ c))
    → (cs : List ClientState) (vs : List VoterState) → length cs ≡ length s.live.clients → length vs ≡ length s.live.voters → client_at cs c ≡ client_at u.clients c
    → MixBut c (client_at s.live.clients) (client_at s.clients) (client_at cs) → Mix (voter_at s.live.voters) (voter_at s.voters) (voter_at vs)
    → IsCoherent (with_nodes u cs vs) → Endures (with_nodes u cs vs)
client_mix laws s u c t within moved cs vs many_cs many_vs here others mix now =
    let w = s.live in
    let k = moved.0 in
    let own = moved.1 in
    let L = client_at w.clients in
    let Z = slice_set cs c (L c) in
    let there : c < length cs = omega arith in
    let many : length Z ≡ length w.clients = length-set cs c (L c) ∙ many_cs in
    let mixed : AreMixed s Z vs = record {
      many_clients = many;
      many_voters = many_vs;
      each_client = subst (λ (f : ℕ → ClientState). Mix L (client_at s.clients) f) (sym (client_at-set cs c (L c) there)) (Mix-back L (client_at s.clients) (client_at cs) c others);
      each_voter = mix;
    } in
    let old : client_at Z c ≡ L c = client_here cs c (L c) there in
    let made : ClientMoved (with_nodes w Z vs) (with_nodes u cs vs) = record {
      who = c;
      cause = k.cause;
      outcome = k.outcome;
      within = omega arith;
      step = subst (λ (x : ClientState). requester.step x k.cause ≡ Ok k.outcome) (sym old) (subst (λ i. requester.step (L i) k.cause ≡ Ok k.outcome) own k.step);
      came = came_in w Z vs c k.who k.cause own k.came;
      here = here ∙ subst (λ i. client_at u.clients i ≡ k.outcome.state) own k.here;
      others = λ q other. sym (client_others cs c (L c) q other);
      count = sym (length-set cs c (L c));
      voters = refl;
      sent = k.sent;
      visible = k.visible ∙ ap (λ i. w.visible ++ events i k.outcome.seen) own;
    } in
    Endures-moved laws (with_nodes w Z vs) (with_nodes u cs vs) (t.before Z vs mixed) now (inl made) (t.all Z vs mixed)

voter_mix : (laws : Laws) (s : Saved) (u : WorldState) (v : ℕ) → BeforeStep s → v < length s.live.voters → ((k : VoterMoved s.live u) × (k.message.voter ≡ v))
    → (cs : List ClientState) (vs : List VoterState) → length cs ≡ length s.live.clients → length vs ≡ length s.live.voters → voter_at vs v ≡ voter_at u.voters v
    → Mix (client_at s.live.clients) (client_at s.clients) (client_at cs) → MixBut v (voter_at s.live.voters) (voter_at s.voters) (voter_at vs)
    → IsCoherent (with_nodes u cs vs) → Endures (with_nodes u cs vs)
voter_mix laws s u v t within moved cs vs many_cs many_vs here mix others now =
    let w = s.live in
    let k = moved.0 in
    let own = moved.1 in
    let M = voter_at w.voters in
    let i = k.message.voter in
    let here_own : voter_at vs i ≡ voter_at u.voters i = subst (λ n. voter_at vs n ≡ voter_at u.voters n) (sym own) here in
    let Z = slice_set vs i (M i) in
    let below : i < length w.voters = subst (λ n. n < length w.voters) (sym own) within in
    let there : i < length vs = omega arith in
    let many : length Z ≡ length w.voters = length-set vs i (M i) ∙ many_vs in
    let others_own : MixBut i M (voter_at s.voters) (voter_at vs) = subst (λ n. MixBut n M (voter_at s.voters) (voter_at vs)) (sym own) others in
    let mixed : AreMixed s cs Z = record {
      many_clients = many_cs;
      many_voters = many;
      each_client = mix;
      each_voter = subst (λ (f : ℕ → VoterState). Mix M (voter_at s.voters) f) (sym (voter_at-set vs i (M i) there)) (Mix-back M (voter_at s.voters) (voter_at vs) i others_own);
    } in
    let old : voter_at Z i ≡ M i = voter_here vs i (M i) there in
    let made : VoterMoved (with_nodes w cs Z) (with_nodes u cs vs) = record {
      message = k.message;
      outcome = k.outcome;
      place = k.place;
      came = k.came;
      step = subst (λ (y : VoterState). voter.step y k.message ≡ Some k.outcome) (sym old) k.step;
      here = here_own ∙ k.here;
      others = λ q other. sym (voter_others vs i (M i) q other);
      count = sym (length-set vs i (M i));
      clients = refl;
      sent = k.sent;
      visible = k.visible;
    } in
    Endures-moved laws (with_nodes w cs Z) (with_nodes u cs vs) (t.before cs Z mixed) now (inr (inl made)) (t.all cs Z mixed)

-- a client or voter that is as it was is reminded
client_said : (laws : Laws) (s : Saved) (u : WorldState) (c : ℕ) → BeforeStep s → c < length s.live.clients → OnlySays s.live u (map kinds.ToVoter (requester.remind (client_at s.live.clients c)))
    → (cs : List ClientState) (vs : List VoterState) → AreMixed s cs vs → client_at cs c ≡ client_at s.live.clients c → IsCoherent (with_nodes u cs vs) → Endures (with_nodes u cs vs)
client_said laws s u c t within said cs vs mixed here now =
    let w = s.live in
    let out = requester.remind (client_at w.clients c) in
    let many = mixed.many_clients in
    Endures-moved laws (with_nodes w cs vs) (with_nodes u cs vs) (t.before cs vs mixed) now
    (inr (inr (record {
      more = map kinds.ToVoter out;
      reminder = inl (out, refl, inr (c, (let less : c < length cs = omega arith in less), ap (λ (x : ClientState). requester.remind x) (sym here)));
      clients = refl;
      voters = refl;
      sent = said.sent;
      visible = said.visible;
    }))) (t.all cs vs mixed)

voter_said : (laws : Laws) (s : Saved) (u : WorldState) (v : ℕ) → BeforeStep s → v < length s.live.voters → OnlySays s.live u (map kinds.ToClient (voter.remind (voter_at s.live.voters v)))
    → (cs : List ClientState) (vs : List VoterState) → AreMixed s cs vs → voter_at vs v ≡ voter_at s.live.voters v → IsCoherent (with_nodes u cs vs) → Endures (with_nodes u cs vs)
voter_said laws s u v t within said cs vs mixed here now =
    let w = s.live in
    let more = map kinds.ToClient (voter.remind (voter_at w.voters v)) in
    let many = mixed.many_voters in
    Endures-moved laws (with_nodes w cs vs) (with_nodes u cs vs) (t.before cs vs mixed) now
    (inr (inr (record {
      more = more;
      reminder = inr (v, (let less : v < length vs = omega arith in less), ap (λ (y : VoterState). map kinds.ToClient (voter.remind y)) (sym here));
      clients = refl;
      voters = refl;
      sent = said.sent;
      visible = said.visible;
    }))) (t.all cs vs mixed)

-- ---- a step, saved or not

-- each client of the mix but this one is as it was before, or as it was saved
saved_others : {A : Type 0} (L K U S X : ℕ → A) (c : ℕ) → ((q : ℕ) → q ≢ c → U q ≡ L q) → ((q : ℕ) → q ≢ c → S q ≡ K q) → Mix U S X → MixBut c L K X
saved_others L K U S X c lives saves mix q other = elim (mix q) [ inl e ↦ inl (e ∙ lives q other) | inr e ↦ inr (e ∙ saves q other) ]

silent_sent : (w : WorldState) (o : Outcome) → Adds w o → is_silent o.sent o.seen ≡ true → o.state.sent ≡ w.sent
silent_sent w o adds silent =
    let none = (silent_parts o.sent o.seen silent).0 in
    let count = adds.count in
    adds.sent ∙ sym (nothing_more w.sent adds.more (omega arith))

-- what is known of the saved world after a step
record AfterStep (b : Bounds) (s : Saved) (who : Node) (o : Outcome) (silent : Bool) : Type 0 where
  given : RunPremises b
  adds : Adds s.live o
  is : is_silent o.sent o.seen ≡ silent
  ok : SavedOk b (save_unless silent who (record s { live = o.state }))

taken_client : (laws : Laws) (b : Bounds) (s : Saved) (o : Outcome) (c : ℕ) → BeforeStep s → c < length s.live.clients
    → ((k : ClientMoved s.live o.state) × (k.who ≡ c)) ⊎ OnlySays s.live o.state (map kinds.ToVoter (requester.remind (client_at s.live.clients c)))
    → (silent : Bool) → AfterStep b s (OneClient c) o silent → EachEndures (save_unless silent (OneClient c) (record s { live = o.state }))
taken_client laws b s o c t within (inl moved) false a cs vs mixed =
    let u = o.state in
    let k = moved.0 in
    let count = t.clients in
    let there : c < length s.clients = omega arith in
    let x = client_at u.clients c in
    let here : client_at cs c ≡ x = elim (mixed.each_client c) [ inl e ↦ e | inr e ↦ e ∙ client_here s.clients c x there ] in
    let others = saved_others (client_at s.live.clients) (client_at s.clients) (client_at u.clients) (client_at (slice_set s.clients c x)) (client_at cs) c
    (λ q other. k.others q (λ same. other (same ∙ moved.1))) (λ q other. client_others s.clients c x q other) mixed.each_client in
    client_mix laws s u c t within moved cs vs (mixed.many_clients ∙ k.count) (mixed.many_voters ∙ ap length k.voters) here others
    (subst (λ (l : List VoterState). Mix (voter_at l) (voter_at s.voters) (voter_at vs)) k.voters mixed.each_voter)
    (mix_coherent b a.given (save_unless false (OneClient c) (record s { live = u })) a.ok cs vs mixed)
taken_client laws b s o c t within (inl moved) true a cs vs mixed =
    let u = o.state in
    let k = moved.0 in
    let now = mix_coherent b a.given (save_unless true (OneClient c) (record s { live = u })) a.ok cs vs mixed in
    let others = saved_others (client_at s.live.clients) (client_at s.clients) (client_at u.clients) (client_at s.clients) (client_at cs) c
    (λ q other. k.others q (λ same. other (same ∙ moved.1))) (λ q other. refl) mixed.each_client in
    let many_cs = mixed.many_clients ∙ k.count in
    let many_vs = mixed.many_voters ∙ ap length k.voters in
    let voters = subst (λ (l : List VoterState). Mix (voter_at l) (voter_at s.voters) (voter_at vs)) k.voters mixed.each_voter in
    elim (mixed.each_client c) [
      | inl e ↦ client_mix laws s u c t within moved cs vs many_cs many_vs e others voters now
      | inr e ↦ Endures-same (with_nodes s.live cs vs) (with_nodes u cs vs) now refl refl (silent_sent s.live o a.adds a.is) (t.all cs vs (record {
        many_clients = many_cs;
        many_voters = many_vs;
        each_client = Mix-with (client_at s.live.clients) (client_at s.clients) (client_at cs) c others (inr e);
        each_voter = voters;
      }))
    ]
taken_client laws b s o c t within (inr said) false a cs vs mixed =
    let u = o.state in
    let count = t.clients in
    let there : c < length s.clients = omega arith in
    let x = client_at u.clients c in
    let lives : (q : ℕ) → client_at u.clients q ≡ client_at s.live.clients q = λ q. ap (λ (l : List ClientState). client_at l q) said.clients in
    let here : client_at cs c ≡ client_at s.live.clients c = elim (mixed.each_client c) [ inl e ↦ e ∙ lives c | inr e ↦ e ∙ client_here s.clients c x there ∙ lives c ] in
    let others = saved_others (client_at s.live.clients) (client_at s.clients) (client_at u.clients) (client_at (slice_set s.clients c x)) (client_at cs) c
    (λ q other. lives q) (λ q other. client_others s.clients c x q other) mixed.each_client in
    client_said laws s u c t within said cs vs (record {
      many_clients = mixed.many_clients ∙ ap length said.clients;
      many_voters = mixed.many_voters ∙ ap length said.voters;
      each_client = Mix-with (client_at s.live.clients) (client_at s.clients) (client_at cs) c others (inl here);
      each_voter = subst (λ (l : List VoterState). Mix (voter_at l) (voter_at s.voters) (voter_at vs)) said.voters mixed.each_voter;
    }) here (mix_coherent b a.given (save_unless false (OneClient c) (record s { live = u })) a.ok cs vs mixed)
taken_client laws b s o c t within (inr said) true a cs vs mixed =
    let u = o.state in
    Endures-same (with_nodes s.live cs vs) (with_nodes u cs vs) (mix_coherent b a.given (save_unless true (OneClient c) (record s { live = u })) a.ok cs vs mixed) refl refl
    (silent_sent s.live o a.adds a.is) (t.all cs vs (record {
      many_clients = mixed.many_clients ∙ ap length said.clients;
      many_voters = mixed.many_voters ∙ ap length said.voters;
      each_client = subst (λ (l : List ClientState). Mix (client_at l) (client_at s.clients) (client_at cs)) said.clients mixed.each_client;
      each_voter = subst (λ (l : List VoterState). Mix (voter_at l) (voter_at s.voters) (voter_at vs)) said.voters mixed.each_voter;
    }))

taken_voter : (laws : Laws) (b : Bounds) (s : Saved) (o : Outcome) (v : ℕ) → BeforeStep s → v < length s.live.voters
    → ((k : VoterMoved s.live o.state) × (k.message.voter ≡ v)) ⊎ OnlySays s.live o.state (map kinds.ToClient (voter.remind (voter_at s.live.voters v)))
    → (silent : Bool) → AfterStep b s (OneVoter v) o silent → EachEndures (save_unless silent (OneVoter v) (record s { live = o.state }))
taken_voter laws b s o v t within (inl moved) false a cs vs mixed =
    let u = o.state in
    let k = moved.0 in
    let count = t.voters in
    let there : v < length s.voters = omega arith in
    let y = voter_at u.voters v in
    let here : voter_at vs v ≡ y = elim (mixed.each_voter v) [ inl e ↦ e | inr e ↦ e ∙ voter_here s.voters v y there ] in
    let others = saved_others (voter_at s.live.voters) (voter_at s.voters) (voter_at u.voters) (voter_at (slice_set s.voters v y)) (voter_at vs) v
    (λ q other. k.others q (λ same. other (same ∙ moved.1))) (λ q other. voter_others s.voters v y q other) mixed.each_voter in
    voter_mix laws s u v t within moved cs vs (mixed.many_clients ∙ ap length k.clients) (mixed.many_voters ∙ k.count) here
    (subst (λ (l : List ClientState). Mix (client_at l) (client_at s.clients) (client_at cs)) k.clients mixed.each_client) others
    (mix_coherent b a.given (save_unless false (OneVoter v) (record s { live = u })) a.ok cs vs mixed)
taken_voter laws b s o v t within (inl moved) true a cs vs mixed =
    let u = o.state in
    let k = moved.0 in
    let now = mix_coherent b a.given (save_unless true (OneVoter v) (record s { live = u })) a.ok cs vs mixed in
    let others = saved_others (voter_at s.live.voters) (voter_at s.voters) (voter_at u.voters) (voter_at s.voters) (voter_at vs) v
    (λ q other. k.others q (λ same. other (same ∙ moved.1))) (λ q other. refl) mixed.each_voter in
    let many_cs = mixed.many_clients ∙ ap length k.clients in
    let many_vs = mixed.many_voters ∙ k.count in
    let clients = subst (λ (l : List ClientState). Mix (client_at l) (client_at s.clients) (client_at cs)) k.clients mixed.each_client in
    elim (mixed.each_voter v) [
      | inl e ↦ voter_mix laws s u v t within moved cs vs many_cs many_vs e clients others now
      | inr e ↦ Endures-same (with_nodes s.live cs vs) (with_nodes u cs vs) now refl refl (silent_sent s.live o a.adds a.is) (t.all cs vs (record {
        many_clients = many_cs;
        many_voters = many_vs;
        each_client = clients;
        each_voter = Mix-with (voter_at s.live.voters) (voter_at s.voters) (voter_at vs) v others (inr e);
      }))
    ]
taken_voter laws b s o v t within (inr said) false a cs vs mixed =
    let u = o.state in
    let count = t.voters in
    let there : v < length s.voters = omega arith in
    let y = voter_at u.voters v in
    let lives : (q : ℕ) → voter_at u.voters q ≡ voter_at s.live.voters q = λ q. ap (λ (l : List VoterState). voter_at l q) said.voters in
    let here : voter_at vs v ≡ voter_at s.live.voters v = elim (mixed.each_voter v) [ inl e ↦ e ∙ lives v | inr e ↦ e ∙ voter_here s.voters v y there ∙ lives v ] in
    let others = saved_others (voter_at s.live.voters) (voter_at s.voters) (voter_at u.voters) (voter_at (slice_set s.voters v y)) (voter_at vs) v
    (λ q other. lives q) (λ q other. voter_others s.voters v y q other) mixed.each_voter in
    voter_said laws s u v t within said cs vs (record {
      many_clients = mixed.many_clients ∙ ap length said.clients;
      many_voters = mixed.many_voters ∙ ap length said.voters;
      each_client = subst (λ (l : List ClientState). Mix (client_at l) (client_at s.clients) (client_at cs)) said.clients mixed.each_client;
      each_voter = Mix-with (voter_at s.live.voters) (voter_at s.voters) (voter_at vs) v others (inl here);
    }) here (mix_coherent b a.given (save_unless false (OneVoter v) (record s { live = u })) a.ok cs vs mixed)
taken_voter laws b s o v t within (inr said) true a cs vs mixed =
    let u = o.state in
    Endures-same (with_nodes s.live cs vs) (with_nodes u cs vs) (mix_coherent b a.given (save_unless true (OneVoter v) (record s { live = u })) a.ok cs vs mixed) refl refl
    (silent_sent s.live o a.adds a.is) (t.all cs vs (record {
      many_clients = mixed.many_clients ∙ ap length said.clients;
      many_voters = mixed.many_voters ∙ ap length said.voters;
      each_client = subst (λ (l : List ClientState). Mix (client_at l) (client_at s.clients) (client_at cs)) said.clients mixed.each_client;
      each_voter = subst (λ (l : List VoterState). Mix (voter_at l) (voter_at s.voters) (voter_at vs)) said.voters mixed.each_voter;
    }))

-- nobody made it
nobody_said : (b : Bounds) → RunPremises b → (s : Saved) (u : WorldState) → BeforeStep s → OnlySays s.live u [] → SavedOk b (record s { live = u }) → EachEndures (record s { live = u })
nobody_said b given s u t said ok cs vs mixed =
    Endures-same (with_nodes s.live cs vs) (with_nodes u cs vs) (mix_coherent b given (record s { live = u }) ok cs vs mixed) refl refl (said.sent ∙ append-nil s.live.sent) (t.all cs vs (record {
      many_clients = mixed.many_clients ∙ ap length said.clients;
      many_voters = mixed.many_voters ∙ ap length said.voters;
      each_client = subst (λ (l : List ClientState). Mix (client_at l) (client_at s.clients) (client_at cs)) said.clients mixed.each_client;
      each_voter = subst (λ (l : List VoterState). Mix (voter_at l) (voter_at s.voters) (voter_at vs)) said.voters mixed.each_voter;
    }))

taken_nobody : (b : Bounds) (s : Saved) (o : Outcome) → BeforeStep s → OnlySays s.live o.state [] → (silent : Bool) → AfterStep b s Nobody o silent → EachEndures (save_unless silent Nobody (record s { live = o.state }))
taken_nobody b s o t said true a = nobody_said b a.given s o.state t said a.ok
taken_nobody b s o t said false a = nobody_said b a.given s o.state t said a.ok

taken : (laws : Laws) (b : Bounds) (s : Saved) (o : Outcome) (who : Node) → BeforeStep s → MadeBy who s.live o.state → (silent : Bool) → AfterStep b s who o silent
    → EachEndures (save_unless silent who (record s { live = o.state }))
taken laws b s o (OneClient c) t by silent a = taken_client laws b s o c t by.0 by.1 silent a
taken laws b s o (OneVoter v) t by silent a = taken_voter laws b s o v t by.0 by.1 silent a
taken laws b s o Nobody t by silent a = taken_nobody b s o t by silent a

before_of : (b : Bounds) → RunPremises b → (s : Saved) → SavedOk b s → EachEndures s → BeforeStep s
before_of b given s ok all = record { all = all; before = mix_coherent b given s ok; clients = ok.sizes.2 ∙ sym ok.sizes.0; voters = ok.sizes.3 ∙ sym ok.sizes.1 }

live_mixed : (s : Saved) → AreMixed s s.live.clients s.live.voters
live_mixed s = record { many_clients = refl; many_voters = refl; each_client = λ n. inl refl; each_voter = λ n. inl refl }

goes_on : (laws : Laws) (b : Bounds) → RunPremises b → (deal : Dealing) (s : Saved) → SavedOk b s → EachEndures s → (st : Step) (r : Result Outcome WorldFault) → step deal s.live st ≡ r
    → SavedOk b (save_and_send s (maker s.live st) r) → EachEndures (save_and_send s (maker s.live st) r)
goes_on laws b given deal s ok all st (Err fault) is now = all
goes_on laws b given deal s ok all st (Ok o) is now =
    taken laws b s o (maker s.live st) (before_of b given s ok all) (made_by deal s.live (mix_coherent b given s ok s.live.clients s.live.voters (live_mixed s)).numbered st o is) _
    (record { given = given; adds = Adds-step deal s.live st o is; is = refl; ok = now })

-- ---- saves, restarts and losses

saves_on : (who : Node) (s : Saved) → EachEndures s → EachEndures (save who s)
saves_on Nobody s all = all
saves_on (OneClient c) s all = elim (within_or s.clients c) [
  | inl within ↦ λ cs vs mixed. all cs vs (record {
    many_clients = mixed.many_clients;
    many_voters = mixed.many_voters;
    each_client = Mix-saved (client_at s.live.clients) (client_at s.clients) c (client_at cs)
        (subst (λ (f : ℕ → ClientState). Mix (client_at s.live.clients) f (client_at cs)) (client_at-set s.clients c (client_at s.live.clients c) within) mixed.each_client);
    each_voter = mixed.each_voter;
  })
  | inr past ↦ subst (λ (l : List ClientState). EachEndures (record s { clients = l })) (sym (set_past s.clients c (client_at s.live.clients c) past)) all
]
saves_on (OneVoter v) s all = elim (within_or s.voters v) [
  | inl within ↦ λ cs vs mixed. all cs vs (record {
    many_clients = mixed.many_clients;
    many_voters = mixed.many_voters;
    each_client = mixed.each_client;
    each_voter = Mix-saved (voter_at s.live.voters) (voter_at s.voters) v (voter_at vs)
        (subst (λ (f : ℕ → VoterState). Mix (voter_at s.live.voters) f (voter_at vs)) (voter_at-set s.voters v (voter_at s.live.voters v) within) mixed.each_voter);
  })
  | inr past ↦ subst (λ (l : List VoterState). EachEndures (record s { voters = l })) (sym (set_past s.voters v (voter_at s.live.voters v) past)) all
]

comes_back : (b : Bounds) → RunPremises b → (s : Saved) → EachEndures s → (c : ℕ) (t : Bool) → nat_lt c (length s.live.clients) ≡ t → SavedOk b (if_there t (come_back s c (client_at s.clients c)) s)
    → EachEndures (if_there t (come_back s c (client_at s.clients c)) s)
comes_back b given s all c false test now cs vs mixed = all cs vs mixed
comes_back b given s all c true test now cs vs mixed =
    let L = client_at s.live.clients in
    let K = client_at s.clients in
    let u = (come_back s c (K c)).live in
    Endures-same (with_nodes s.live cs vs) (with_nodes u cs vs) (mix_coherent b given (come_back s c (K c)) now cs vs mixed) refl refl refl (all cs vs (record {
      many_clients = mixed.many_clients ∙ length-set s.live.clients c (K c);
      many_voters = mixed.many_voters;
      each_client = Mix-restarted L K c (client_at cs)
          (subst (λ (f : ℕ → ClientState). Mix f K (client_at cs)) (client_at-set s.live.clients c (K c) (ltb-true c (length s.live.clients) test)) mixed.each_client);
      each_voter = mixed.each_voter;
    }))

restarts_on : (b : Bounds) → RunPremises b → (who : Node) (s : Saved) → EachEndures s → SavedOk b (restart who s) → EachEndures (restart who s)
restarts_on b given Nobody s all now = all
restarts_on b given (OneClient c) s all now = comes_back b given s all c _ refl now
restarts_on b given (OneVoter v) s all now = elim (within_or s.live.voters v) [
  | inl within ↦ λ cs vs mixed. all cs vs (record {
    many_clients = mixed.many_clients;
    many_voters = mixed.many_voters ∙ length-set s.live.voters v (voter_at s.voters v);
    each_client = mixed.each_client;
    each_voter = Mix-restarted (voter_at s.live.voters) (voter_at s.voters) v (voter_at vs)
        (subst (λ (f : ℕ → VoterState). Mix f (voter_at s.voters) (voter_at vs)) (voter_at-set s.live.voters v (voter_at s.voters v) within) mixed.each_voter);
  })
  | inr past ↦ subst (λ (l : List VoterState). EachEndures (record s { live = record s.live { voters = l } })) (sym (set_past s.live.voters v (voter_at s.voters v) past)) all
]

-- the saved one in the mix
mix_with_saved : {A : Type 0} (L K X Z : ℕ → A) (c : ℕ) → Z c ≡ K c → ((q : ℕ) → q ≢ c → Z q ≡ X q) → MixBut c L K X → Mix L K Z
mix_with_saved L K X Z c here rest others q = elim (cases_eq q c) [
  | inl same ↦ inr (ap Z same ∙ here ∙ ap K (sym same))
  | inr other ↦ elim (others q other) [ inl e ↦ inl (rest q other ∙ e) | inr e ↦ inr (rest q other ∙ e) ]
]

forgets_client : (b : Bounds) → RunPremises b → (s : Saved) → SavedOk b s → EachEndures s → (c : ℕ) → c < length s.clients → SavedOk b (forget (OneClient c) s) → EachEndures (forget (OneClient c) s)
forgets_client b given s ok all c within now cs vs mixed =
    let w = s.live in
    let L = client_at w.clients in
    let K = client_at s.clients in
    let x = least_client (K c) in
    let many = mixed.many_clients in
    let saved = ok.sizes.2 in
    let live = ok.sizes.0 in
    let there : c < length cs = omega arith in
    let others = saved_others L K L (client_at (slice_set s.clients c x)) (client_at cs) c (λ q other. refl) (λ q other. client_others s.clients c x q other) mixed.each_client in
    elim (mixed.each_client c) [
      | inl e ↦ all cs vs (record { many_clients = many; many_voters = mixed.many_voters; each_client = Mix-with L K (client_at cs) c others (inl e); each_voter = mixed.each_voter })
      | inr e ↦
          let Z = slice_set cs c (K c) in
          let here = client_here cs c (K c) there in
          Endures-client_lost (with_nodes w Z vs) (with_nodes w cs vs) (mix_coherent b given (forget (OneClient c) s) now cs vs mixed)
          (record {
            who = c;
            here = e ∙ client_here s.clients c x within ∙ ap (λ z. least_client z) (sym here);
            others = λ q other. sym (client_others cs c (K c) q other);
            voters = refl;
            sent = refl;
          }) (all Z vs (record {
            many_clients = length-set cs c (K c) ∙ many;
            many_voters = mixed.many_voters;
            each_client = mix_with_saved L K (client_at cs) (client_at Z) c here (λ q other. client_others cs c (K c) q other) others;
            each_voter = mixed.each_voter;
          }))
    ]

forgets_voter : (b : Bounds) → RunPremises b → (s : Saved) → SavedOk b s → EachEndures s → (v : ℕ) → v < length s.voters → SavedOk b (forget (OneVoter v) s) → EachEndures (forget (OneVoter v) s)
forgets_voter b given s ok all v within now cs vs mixed =
    let w = s.live in
    let M = voter_at w.voters in
    let N = voter_at s.voters in
    let y = least_voter (N v) in
    let many = mixed.many_voters in
    let saved = ok.sizes.3 in
    let live = ok.sizes.1 in
    let there : v < length vs = omega arith in
    let others = saved_others M N M (voter_at (slice_set s.voters v y)) (voter_at vs) v (λ q other. refl) (λ q other. voter_others s.voters v y q other) mixed.each_voter in
    elim (mixed.each_voter v) [
      | inl e ↦ all cs vs (record { many_clients = mixed.many_clients; many_voters = many; each_client = mixed.each_client; each_voter = Mix-with M N (voter_at vs) v others (inl e) })
      | inr e ↦
          let Z = slice_set vs v (N v) in
          let here = voter_here vs v (N v) there in
          Endures-voter_lost (with_nodes w cs Z) (with_nodes w cs vs) (mix_coherent b given (forget (OneVoter v) s) now cs vs mixed)
          (record {
            who = v;
            here = e ∙ voter_here s.voters v y within ∙ ap (λ z. least_voter z) (sym here);
            others = λ q other. sym (voter_others vs v (N v) q other);
            clients = refl;
            sent = refl;
          }) (all cs Z (record {
            many_clients = mixed.many_clients;
            many_voters = length-set vs v (N v) ∙ many;
            each_client = mixed.each_client;
            each_voter = mix_with_saved M N (voter_at vs) (voter_at Z) v here (λ q other. voter_others vs v (N v) q other) others;
          }))
    ]

forgets_on : (b : Bounds) → RunPremises b → (who : Node) (s : Saved) → SavedOk b s → EachEndures s → SavedOk b (forget who s) → EachEndures (forget who s)
forgets_on b given Nobody s ok all now = all
forgets_on b given (OneClient c) s ok all now = elim (within_or s.clients c) [
  | inl within ↦ forgets_client b given s ok all c within now
  | inr past ↦ subst (λ (l : List ClientState). EachEndures (record s { clients = l })) (sym (set_past s.clients c (least_client (client_at s.clients c)) past)) all
]
forgets_on b given (OneVoter v) s ok all now = elim (within_or s.voters v) [
  | inl within ↦ forgets_voter b given s ok all v within now
  | inr past ↦ subst (λ (l : List VoterState). EachEndures (record s { voters = l })) (sym (set_past s.voters v (least_voter (voter_at s.voters v)) past)) all
]

-- ---- all that may happen

happens_on : (laws : Laws) (b : Bounds) → RunPremises b → (deal : Dealing) (s : Saved) → SavedOk b s → EachEndures s → (h : Happening) → SavedOk b (happens deal s h) → EachEndures (happens deal s h)
happens_on laws b given deal s ok all (Goes st) now = goes_on laws b given deal s ok all st (step deal s.live st) refl now
happens_on laws b given deal s ok all (Saves who) now = saves_on who s all
happens_on laws b given deal s ok all (Forgets who) now = forgets_on b given who s ok all now
happens_on laws b given deal s ok all (Restarts who) now = restarts_on b given who s all now

all_on : (laws : Laws) (b : Bounds) → RunPremises b → (deal : Dealing) → DealsFrom b.quorums deal → (hs : List Happening) (s : Saved) → SavedOk b s → EachEndures s
    → SavedOk b (all_happen deal hs s) × EachEndures (all_happen deal hs s)
all_on laws b given deal deals [] s ok all = (ok, all)
all_on laws b given deal deals (h ∷ hs) s ok all =
    let now = happens_ok b given deal deals s ok h in
    all_on laws b given deal deals hs (happens deal s h) now (happens_on laws b given deal s ok all h now)

-- in a new world all are saved as they are
same_nodes : (laws : Laws) (b : Bounds) → RunPremises b → EachEndures (begin b.voters b.clients b.limit)
same_nodes laws b given cs vs mixed =
    let s = begin b.voters b.clients b.limit in
    let w = s.live in
    Endures-same w (with_nodes w cs vs) (mix_coherent b given s (begin_ok b given) cs vs mixed) (same_clients cs w.clients mixed.many_clients mixed.each_client)
    (same_voters vs w.voters mixed.many_voters mixed.each_voter) refl (Endures-start laws b.voters b.clients b.limit)

-- ---- worlds after losses

-- all of this holds of the world
pub record WorldLives (deal : Dealing) (w : WorldState) : Type 0 where
  pub rests : Rests deal w
  pub endures : Endures w

pub stays_by : (deal : Dealing) (w : WorldState) → Rests deal w → StaysCoherent deal w
stays_by deal w r = λ steps. coherent_by r.bounds r.given (run_of deal steps w) (run_from r.bounds r.given deal r.deals steps w r.ok)

-- of the live world, when all has happened
lives_first : Laws → ClientLaws → VoterLaws → (deal : Dealing) (w : WorldState) → (r : IsReachedAfterLosses deal w) → WorldLives deal (all_happen deal r.happenings (begin r.voters r.clients r.limit)).live
lives_first laws clients voters deal w r =
    let b : Bounds = record { voters = r.voters; clients = r.clients; limit = r.limit; quorums = r.quorums } in
    let given : RunPremises b = record { client = clients; voter = voters; limits = r.limits; meet = r.meet } in
    let s = all_happen deal r.happenings (begin r.voters r.clients r.limit) in
    let both = all_on laws b given deal r.deals r.happenings (begin r.voters r.clients r.limit) (begin_ok b given) (same_nodes laws b given) in
    let ok = both.0 in
    record {
      rests = record { bounds = b; given = given; deals = r.deals; ok = record { clients = ok.sizes.0; voters = ok.sizes.1; world = live_ok b s ok; walked = ok.walked } };
      endures = both.1 s.live.clients s.live.voters (live_mixed s);
    }

pub lives_after : Laws → ClientLaws → VoterLaws → (deal : Dealing) (w : WorldState) → IsReachedAfterLosses deal w → WorldLives deal w
lives_after laws clients voters deal w r =
    let first = (all_happen deal r.happenings (begin r.voters r.clients r.limit)).live in
    let a = lives_first laws clients voters deal w r in
    subst (WorldLives deal) (sym r.state) (record {
      rests = Rests-run deal r.steps first a.rests;
      endures = kept-by Endures (Endures-moved laws) deal r.steps first (stays_by deal first a.rests) a.endures;
    })

-- each grant that was given so far is old
abbrev pub course_at : Live → Dealing → WorldState → Course
course_at live deal w = record { deal = deal; old = λ v. suc (voter_at w.voters v).granted; live = live }

unfoldable pub after_losses_runs : Laws → ClientLaws → VoterLaws → (live : Live) (deal : Dealing) (w : WorldState) (rounds : List (List Move)) → IsReachedAfterLosses deal w → AreLiveRounds of_moves live deal w rounds
    → AreGone live deal w (moves_of rounds) → SparesLive live deal w (moves_of rounds) → HasGrantsThere live 1 (moved deal (moves_of rounds) w) → Runs (course_at live deal w) w rounds
unfolding nobody
after_losses_runs laws clients voters live deal w rounds r fair gone spares left =
    let p = course_at live deal w in
    let a = lives_after laws clients voters deal w r in
    let coherent = stays_by deal w a.rests in
    record {
      was = nobody;
      others = [];
      base = w;
      under = under_self w;
      passed = λ c is. absurd (false≢true is);
      rests = a.rests;
      few = λ v. omega arith;
      sure = IsSure-first laws p w coherent (record { fits = a.endures.fits; placed = a.endures.placed; out = outstanding_by beyond p.old w (coherent []) (λ v. omega arith) a.endures.out });
      live = fair;
      gone = gone;
      spares = spares;
      left = left;
    }

pub after_losses_heeds : Laws → ClientLaws → VoterLaws → (deal : Dealing) (w : WorldState) (c : ℕ) → IsReachedAfterLosses deal w → IsHeard w c → Heeds c w
after_losses_heeds laws clients voters deal w c r heard = record {
  seen = λ v s entry is.
      let same = current_stamp (client_at w.clients c) s is in
      subst (λ n. n ≤ (voter_at w.voters v).seen) (sym same) (heard v (subst (λ n. IsEntry (voter_at w.voters v) c n) same entry));
  given = (lives_after laws clients voters deal w r).endures.given;
}

-- ---- new requests

-- the client has not asked since, or its request is heard
abbrev IsHeardOr : ℕ → ℕ → WorldState → Type 0
IsHeardOr c t x = ((client_at x.clients c).stamp ≡ t) ⊎ ((v : ℕ) → VoterHasSeen c (client_at x.clients c) (voter_at x.voters v))

first_heard : (laws : Laws) (c t : ℕ) (u x : WorldState) → IsCoherent u → IsCoherent x → Moved u x → (client_at u.clients c).stamp ≡ t → (client_at x.clients c).stamp ≢ t
    → (v : ℕ) → VoterHasSeen c (client_at x.clients c) (voter_at x.voters v)
first_heard laws c t u x ok now moved same differs v s entry is = elim moved [
  | inl k ↦
      let before = subst (λ (vs : List VoterState). IsEntry (voter_at vs v) c s) k.voters entry in
      let reached = (ok.made v c s before).reached in
      let own = current_stamp (client_at x.clients c) s is in
      let rises = (IsLater-moved laws.client u x ok now (inl k) c).stamp in
      absurd (differs (omega arith))
  | inr (inl k) ↦ absurd (differs (ap (λ (cs : List ClientState). (client_at cs c).stamp) k.clients ∙ same))
  | inr (inr k) ↦ absurd (differs (ap (λ (cs : List ClientState). (client_at cs c).stamp) k.clients ∙ same))
]

heard_moved : (laws : Laws) (c t : ℕ) (u x : WorldState) → IsCoherent u → IsCoherent x → Moved u x → IsHeardOr c t u → IsHeardOr c t x
heard_moved laws c t u x ok now moved (inl same) = elim (cases_eq (client_at x.clients c).stamp t) [
  | inl still ↦ inl still
  | inr differs ↦ inr (first_heard laws c t u x ok now moved same differs)
]
heard_moved laws c t u x ok now moved (inr seen) = elim moved [
  | inl k ↦ inr (Seen-client laws u x c ok now k seen)
  | inr (inl k) ↦ inr (Seen-voter laws.voter u x c k seen)
  | inr (inr k) ↦ inr (λ v. subst (λ (cs : List ClientState). VoterHasSeen c (client_at cs c) (voter_at x.voters v)) (sym k.clients)
      (subst (λ (vs : List VoterState). VoterHasSeen c (client_at u.clients c) (voter_at vs v)) (sym k.voters) (seen v)))
]

pub heard_anew : Laws → ClientLaws → VoterLaws → (deal : Dealing) (w : WorldState) (c : ℕ) → (r : IsReachedAfterLosses deal w) → AskedSince deal w r c → Asks w c → IsHeard w c
heard_anew laws clients voters deal w c r since asks v entry =
    let first = (all_happen deal r.happenings (begin r.voters r.clients r.limit)).live in
    let t = (client_at first.clients c).stamp in
    let a = lives_first laws clients voters deal w r in
    let end : IsHeardOr c t w = subst (IsHeardOr c t) (sym r.state) (kept-by (IsHeardOr c t) (heard_moved laws c t) deal r.steps first (stays_by deal first a.rests) (inl refl)) in
    elim end [
      | inl same ↦ absurd (omega arith)
      | inr seen ↦ seen v (client_at w.clients c).stamp entry (is_current_of (client_at w.clients c) (client_at w.clients c).stamp (is_asking-busy (client_at w.clients c).phase asks.asks) refl)
    ]
