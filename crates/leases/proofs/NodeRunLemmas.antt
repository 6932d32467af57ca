-- the runs of a node are incidents
use Rattle.std.proofs.Common.{◌≡◌, ℕ, ◌<◌, Bool, true, false, List, [], ◌∷◌, ◌++◌, map, length, Option, Some, None, Result, Ok, Err, refl, sym, ap, subst, ◌∙◌, inl, inr, arith, append_assoc}
use Rattle.std.specs.Prelude.{◌&&◌, ◌==◌, if◌then◌else◌, nat_lt, slice_get, slice_set, zero, suc}
use Rattle.std.specs.FinMap as fin
use Rattle.std.specs.Ordering.{nat_cmp}
use Rattle.std.specs.List.{AllByRecursion}
use Rattle.std.proofs.lemmas.Bool.Decides.{nat_tests}
use Rattle.std.proofs.lemmas.List.{append-nil, length-set, map-append, set-set}
use Rattle.std.proofs.lemmas.Option.{none-some, same_Some}
use Rattle.message.specs.declared.message.Message.{Message}
use Rattle.message.specs.declared.message.Message.TheVariants as kinds
use Rattle.message.specs.declared.message.ToClient.{ToClient}
use Rattle.message.specs.declared.message.ToVoter.{ToVoter}
use Rattle.message.specs.declared.message.VoterBody.{VoterBody}
use Rattle.message.specs.declared.message.VoterBody.TheVariants as asks
use Rattle.requester.specs.declared.state.Seen.TheVariants.{Nothing}
use Rattle.voter.specs.declared.state.Grant.{Grant}
use Rattle.voter.specs.declared.state.VoterState.{VoterState}
use Rattle.voter.specs.Leases.{evict_held, release_of}
use Rattle.voter.specs.Saved.{least_voter}
use Rattle.voter.specs.Steps as voter
use Rattle.voter.specs.VoterContract.{Brings, IsEntry}
use Rattle.voter_node.specs.declared.fault.NodeFault.{NodeFault}
use Rattle.voter_node.specs.Nodes as nodes
use Rattle.world_state.specs.declared.step.Step.TheVariants.{Deliver, RemindVoter}
use Rattle.world.specs.Restarts.{Saved, OneVoter, Goes, Saves, Forgets, Restarts, forget, happens, receiver, restart, save, save_and_send, save_unless}
use Rattle.world_state.specs.Steps.{is_silent}
use Rattle.world.specs.Rules.{VoterLaws}
use Rattle.world_state.specs.Steps.{Dealing, after_voter, client_at, come, if_client, if_voter, say, step, vote, voter_at, voter_did}
use Rattle.world.specs.Incidents.{Incident, Happens, Hears, IsReborn, StartsAnew, HasLimit, IsRaised, IsSkipped, all_befall, befalls, hear, is_message, is_request_within}
use Rattle.leases.specs.Comeback.{AreLawful, IsEviction}
use Rattle.leases.specs.Orderly.{AreOrderly}
use Rattle.leases.specs.NodeRuns.{AreSentAt, EvictsNone, HasVoter, UnsentIsInRange, MayComeToNode, MayRun, Places, WasSent, arrival_by, eviction_of, incidents_from, incidents_of, unless_refused, with_voter}
use Rattle.leases.proofs.Guards.{befall-append}
use Rattle.leases.proofs.LifeLemmas.{mid, set_own}
use Rattle.world.proofs.Places.{voter_here}

-- ---- a world in which a voter has another state

own : (s : Saved) (v : ℕ) (y : VoterState) → HasVoter s v y → s ≡ mid s v y y []
own s v y has =
    let live = sym (set_own s.live.voters v y has.live) in
    let saved = sym (set_own s.voters v y has.saved) in
    let sent = sym (append-nil s.live.sent) in
    λ i. record s { live = record s.live { voters = live i; sent = sent i }; voters = saved i }

more_sent : (sent : List Message) (a b : List ToClient) → (sent ++ map kinds.ToClient a) ++ map kinds.ToClient b ≡ sent ++ map kinds.ToClient (a ++ b)
more_sent sent a b = append_assoc sent (map kinds.ToClient a) (map kinds.ToClient b) ∙ ap (λ (l : List Message). sent ++ l) (sym (map-append kinds.ToClient a b))

saves_mid : (s : Saved) (v : ℕ) (y z : VoterState) (more : List ToClient) → v < length s.live.voters → save (OneVoter v) (mid s v y z more) ≡ mid s v y y more
saves_mid s v y z more within =
    let e = ap (λ (w : VoterState). slice_set (slice_set s.voters v z) v w) (voter_here s.live.voters v y within) ∙ set-set s.voters v z y in
    ap (λ (l : List VoterState). record (mid s v y z more) { voters = l }) e

abbrev IsMid : Saved → ℕ → VoterState → List ToClient → Saved → Type 0
IsMid s v y more t = (z : VoterState) × (t ≡ mid s v y z more)

settles : (b : Bool) (s : Saved) (v : ℕ) (y z : VoterState) (more : List ToClient) → v < length s.live.voters → IsMid s v y more (save_unless b (OneVoter v) (mid s v y z more))
settles true s v y z more within = (z, refl)
settles false s v y z more within = (y, saves_mid s v y z more within)

lt_true : (a b : ℕ) → a < b → nat_lt a b ≡ true
lt_true a b less = grind (arith, nat_tests)

still_within : (s : Saved) (v : ℕ) (y : VoterState) → v < length s.live.voters → nat_lt v (length (slice_set s.live.voters v y)) ≡ true
still_within s v y within = lt_true v (length (slice_set s.live.voters v y)) (let e = length-set s.live.voters v y in omega arith)

-- ---- what a voter hears

-- the voter made this step
spoken : (s : Saved) (v : ℕ) (y z : VoterState) (more : List ToClient) (o : voter.Outcome) → v < length s.live.voters
    → IsMid s v o.state (more ++ o.replies) (save_and_send (mid s v y z more) (OneVoter v) (Ok (voter_did (mid s v y z more).live v o)))
spoken s v y z more o within =
    let set_ = set-set s.live.voters v y o.state in
    let sent = more_sent s.live.sent more o.replies in
    let e : record (mid s v y z more) { live = (voter_did (mid s v y z more).live v o).state } ≡ mid s v o.state z (more ++ o.replies) =
    λ i. record s { live = record s.live { voters = set_ i; sent = sent i }; voters = slice_set s.voters v z } in
    let end = settles (is_silent (length o.replies) Nothing) s v o.state z (more ++ o.replies) within in
    (end.0, ap (λ (t : Saved). save_unless (is_silent (length o.replies) Nothing) (OneVoter v) t) e ∙ end.1)

heard : (s : Saved) (y z : VoterState) (more : List ToClient) (m : ToVoter) (o : voter.Outcome) → m.voter < length s.live.voters → m.client < length s.live.clients
    → is_request_within (client_at s.live.clients m.client).limit m.body ≡ true → voter.step y m ≡ Some o → IsMid s m.voter o.state (more ++ o.replies) (hear (mid s m.voter y z more) m)
heard s y z more m o within client stamp is =
    let t = mid s m.voter y z more in
    let here = voter_here s.live.voters m.voter y within in
    let known : is_message t m ≡ true = (λ i. lt_true m.client (length s.live.clients) client i && stamp i) in
    let comes = ap (λ b. if_voter b m.voter (if_client (is_message t m) m.client (vote t.live m))) (still_within s m.voter y within)
    ∙ ap (λ b. if_client b m.client (vote t.live m)) known
    ∙ ap (λ (x : Option voter.Outcome). after_voter t.live m.voter x) (ap (λ (w : VoterState). voter.step w m) here ∙ is) in
    let end = spoken s m.voter y z more o within in
    (end.0, ap (save_and_send t (OneVoter m.voter)) comes ∙ end.1)

pub get_more : {A : Type 0} (xs ys : List A) (k : ℕ) (x : A) → slice_get xs k ≡ Some x → slice_get (xs ++ ys) k ≡ Some x
get_more [] ys k x is = absurd (none-some x is)
get_more (a ∷ xs) ys zero x is = is
get_more (a ∷ xs) ys (suc k) x is = get_more xs ys k x is

delivered : (deal : Dealing) (s : Saved) (y z : VoterState) (more : List ToClient) (m : ToVoter) (o : voter.Outcome) (k : ℕ) → m.voter < length s.live.voters
    → slice_get s.live.sent k ≡ Some (kinds.ToVoter m) → voter.step y m ≡ Some o
    → IsMid s m.voter o.state (more ++ o.replies) (happens deal (mid s m.voter y z more) (Goes (Deliver k)))
unfolding step
delivered deal s y z more m o k within at is =
    let t = mid s m.voter y z more in
    let here = voter_here s.live.voters m.voter y within in
    let there = get_more s.live.sent (map kinds.ToClient more) k (kinds.ToVoter m) at in
    let comes = ap (λ (x : Option voter.Outcome). after_voter t.live m.voter x) (ap (λ (w : VoterState). voter.step w m) here ∙ is) in
    let end = spoken s m.voter y z more o within in
    (end.0, ap (λ (x : Option Message). save_and_send t (receiver x) (come t.live k x)) there ∙ ap (save_and_send t (OneVoter m.voter)) comes ∙ end.1)

reminded : (deal : Dealing) (s : Saved) (v : ℕ) (y z : VoterState) (more : List ToClient) → v < length s.live.voters
    → IsMid s v y (more ++ voter.remind y) (happens deal (mid s v y z more) (Goes (RemindVoter v)))
unfolding step
reminded deal s v y z more within =
    let t = mid s v y z more in
    let lines = λ (w : VoterState). map kinds.ToClient (voter.remind w) in
    let comes = ap (λ b. if_voter b v (Ok (say t.live (lines (voter_at t.live.voters v))))) (still_within s v y within)
    ∙ ap (λ (w : VoterState). Ok (say t.live (lines w))) (voter_here s.live.voters v y within) in
    let e : record t { live = (say t.live (lines y)).state } ≡ mid s v y z (more ++ voter.remind y) =
    ap (λ (l : List Message). record s { live = record s.live { voters = slice_set s.live.voters v y; sent = l }; voters = slice_set s.voters v z }) (more_sent s.live.sent more (voter.remind y)) in
    let end = settles (is_silent (length (lines y)) Nothing) s v y z (more ++ voter.remind y) within in
    (end.0, ap (save_and_send t (OneVoter v)) comes ∙ ap (λ (u : Saved). save_unless (is_silent (length (lines y)) Nothing) (OneVoter v) u) e ∙ end.1)

-- ---- a node on its way to the next save

pub lawful-append : (deal : Dealing) (is js : List Incident) (s : Saved) → AreLawful deal s is → AreLawful deal (all_befall deal is s) js → AreLawful deal s (is ++ js)
lawful-append deal [] js s first then_ = then_
lawful-append deal (i ∷ is) js s first then_ = (first.0, lawful-append deal is js (befalls deal s i) first.1 then_)

-- The incidents that wait lead to the world in which the node's voter is as it is, and has said what
-- waits. If all messages were sent, they are lawful.
record Underway (sure : Type 0) (deal : Dealing) (s : Saved) (y : VoterState) (n : nodes.Node) (waiting : List Incident) : Type 0 where
  has : HasVoter s y.id n.saved
  id : n.live.id ≡ y.id
  clients : (c stamp : ℕ) → IsEntry n.live c stamp → c < length s.live.clients
  there : IsMid s y.id n.live n.outbox (all_befall deal waiting s)
  lawful : sure → AreLawful deal s waiting

begins : (sure : Type 0) (deal : Dealing) (s : Saved) (y z : VoterState) → HasVoter s y.id z → Underway sure deal s y (nodes.node_of z) []
begins sure deal s y z has = record {
  has = has;
  id = has.id;
  clients = has.clients;
  there = (z, own s y.id z has);
  lawful = λ _. tt;
}

-- these incidents are this step of the node's voter
record IncidentsLead (sure : Type 0) (deal : Dealing) (s : Saved) (y : VoterState) (n : nodes.Node) (is : List Incident) (o : voter.Outcome) : Type 0 where
  to : (z : VoterState) → IsMid s y.id o.state (n.outbox ++ o.replies) (all_befall deal is (mid s y.id n.live z n.outbox))
  id : o.state.id ≡ y.id
  clients : (c stamp : ℕ) → IsEntry o.state c stamp → c < length s.live.clients
  lawful : sure → (z : VoterState) → AreLawful deal (mid s y.id n.live z n.outbox) is

refused : (sure : Type 0) (deal : Dealing) (s : Saved) (y : VoterState) (n : nodes.Node) (waiting : List Incident) → Underway sure deal s y n waiting → Underway sure deal s y n (waiting ++ [])
refused sure deal s y n waiting under = subst (λ (is : List Incident). Underway sure deal s y n is) (sym (append-nil waiting)) under

stepped : (sure : Type 0) (deal : Dealing) (s : Saved) (y : VoterState) (n : nodes.Node) (waiting is : List Incident) (b : Bool) (o : Option voter.Outcome) → Underway sure deal s y n waiting
    → ((p : voter.Outcome) → o ≡ Some p → IncidentsLead sure deal s y n is p)
    → Underway sure deal s y (nodes.after n (nodes.if_room b (nodes.after_voter n o))) (waiting ++ unless_refused (nodes.if_room b (nodes.after_voter n o)) is)
stepped sure deal s y n waiting is false o under leads = refused sure deal s y n waiting under
stepped sure deal s y n waiting is true None under leads = refused sure deal s y n waiting under
stepped sure deal s y n waiting is true (Some p) under leads =
    let l = leads p refl in
    let end = l.to under.there.0 in
    record {
      has = under.has;
      id = l.id;
      clients = l.clients;
      there = (end.0, befall-append deal waiting is s ∙ ap (all_befall deal is) under.there.1 ∙ end.1);
      lawful = λ all. lawful-append deal waiting is s (under.lawful all)
          (subst (λ (t : Saved). AreLawful deal t is) (sym under.there.1) (l.lawful all under.there.0));
    }

nothing : (sure : Type 0) (deal : Dealing) (s : Saved) (y : VoterState) (n : nodes.Node) (waiting : List Incident) → Underway sure deal s y n waiting
    → IncidentsLead sure deal s y n [] (voter.no_reply n.live)
nothing sure deal s y n waiting under = record {
  to = λ z. (z, ap (mid s y.id n.live z) (sym (append-nil n.outbox)));
  id = under.id;
  clients = under.clients;
  lawful = λ _ z. tt;
}

brings_own : (client : ℕ) (body : VoterBody) (c stamp : ℕ) → Brings client body c stamp → c ≡ client
brings_own client (asks.Request s) c stamp brings = brings.0
brings_own client (asks.Relinquish g) c stamp brings = absurd brings
brings_own client (asks.Release s) c stamp brings = absurd brings

-- a step by this message leaves a voter of the world
takes : VoterLaws → (sure : Type 0) (deal : Dealing) (s : Saved) (y : VoterState) (n : nodes.Node) (waiting : List Incident) (m : ToVoter) (is : List Incident) → Underway sure deal s y n waiting
    → m.client < length s.live.clients → (p : voter.Outcome) → voter.step n.live m ≡ Some p
    → ((z : VoterState) → IsMid s y.id p.state (n.outbox ++ p.replies) (all_befall deal is (mid s y.id n.live z n.outbox)))
    → (sure → (z : VoterState) → AreLawful deal (mid s y.id n.live z n.outbox) is) → IncidentsLead sure deal s y n is p
takes laws sure deal s y n waiting m is under client p step_is to lawful =
    let carries = laws.carries n.live m p step_is in
    record {
      to = to;
      id = carries.id ∙ under.id;
      clients = λ c t e. elim ((laws.meets n.live m p step_is).entries c t e) [
        | inl was ↦ under.clients c t was
        | inr brings ↦ subst (λ k. k < length s.live.clients) (sym (brings_own m.client m.body c t brings)) client
      ];
      lawful = lawful;
    }

-- a message that nobody sent
hears_to : (deal : Dealing) (s : Saved) (y : VoterState) (n : nodes.Node) (m : ToVoter) → y.id < length s.live.voters → m.voter ≡ y.id
    → m.client < length s.live.clients → is_request_within (client_at s.live.clients m.client).limit m.body ≡ true → (p : voter.Outcome) → voter.step n.live m ≡ Some p → (z : VoterState)
    → IsMid s y.id p.state (n.outbox ++ p.replies) (hear (mid s y.id n.live z n.outbox) m)
hears_to deal s y n m within own_message client stamp p is z =
    subst (λ v. IsMid s v p.state (n.outbox ++ p.replies) (hear (mid s v n.live z n.outbox) m)) own_message
    (heard s n.live z n.outbox m p (subst (λ v. v < length s.live.voters) (sym own_message) within) client stamp is)

comes_to : (deal : Dealing) (s : Saved) (y : VoterState) (n : nodes.Node) (m : ToVoter) (k : ℕ) → y.id < length s.live.voters → m.voter ≡ y.id
    → slice_get s.live.sent k ≡ Some (kinds.ToVoter m) → (p : voter.Outcome) → voter.step n.live m ≡ Some p → (z : VoterState)
    → IsMid s y.id p.state (n.outbox ++ p.replies) (happens deal (mid s y.id n.live z n.outbox) (Goes (Deliver k)))
comes_to deal s y n m k within own_message at p is z =
    subst (λ v. IsMid s v p.state (n.outbox ++ p.replies) (happens deal (mid s v n.live z n.outbox) (Goes (Deliver k)))) own_message
    (delivered deal s n.live z n.outbox m p k (subst (λ v. v < length s.live.voters) (sym own_message) within) at is)

arrives : VoterLaws → (sure : Type 0) (deal : Dealing) (s : Saved) (y : VoterState) (n : nodes.Node) (waiting : List Incident) (m : ToVoter) (place : Option ℕ) → Underway sure deal s y n waiting
    → (m.voter ≡ y.id) × (m.client < length s.live.clients) × UnsentIsInRange (client_at s.live.clients m.client) place m
    → ((k : ℕ) → place ≡ Some k → slice_get s.live.sent k ≡ Some (kinds.ToVoter m)) → (sure → (k : ℕ) × (place ≡ Some k))
    → (p : voter.Outcome) → voter.step n.live m ≡ Some p → IncidentsLead sure deal s y n (arrival_by place m ∷ []) p
arrives laws sure deal s y n waiting m None under may at was p is =
    takes laws sure deal s y n waiting m (Hears m ∷ []) under may.1 p is (hears_to deal s y n m under.has.lives may.0 may.1 may.2 p is)
    (λ all. absurd (none-some (was all).0 (was all).1))
arrives laws sure deal s y n waiting m (Some k) under may at was p is =
    takes laws sure deal s y n waiting m (Happens (Goes (Deliver k)) ∷ []) under may.1 p is (comes_to deal s y n m k under.has.lives may.0 (at k refl) p is) (λ _ z. (tt, tt))

-- a RELEASE of the current grant is an eviction
is_eviction : (s : Saved) (v : ℕ) (n : nodes.Node) (z : VoterState) (g : Grant) → v < length s.live.voters → n.live.id ≡ v → n.live.held ≡ Some g
    → IsEviction (mid s v n.live z n.outbox) (release_of n.live g)
is_eviction s v n z g within id held = record {
  grant = g;
  held = ap (λ k. (voter_at (slice_set s.live.voters v n.live) k).held) id ∙ ap (λ (w : VoterState). w.held) (voter_here s.live.voters v n.live within) ∙ held;
  client = refl;
  body = refl;
}

evicts_by : VoterLaws → (sure : Type 0) (deal : Dealing) (s : Saved) (y : VoterState) (n : nodes.Node) (waiting : List Incident) (r b : Bool) (g : Grant) → Underway sure deal s y n waiting
    → n.live.held ≡ Some g
    → Underway sure deal s y (nodes.after n (nodes.if_room r (nodes.after_voter n (if b then voter.step n.live (release_of n.live g) else Some (voter.no_reply n.live)))))
    (waiting ++ unless_refused (nodes.if_room r (nodes.after_voter n (if b then voter.step n.live (release_of n.live g) else Some (voter.no_reply n.live)))) (if b then Hears (release_of n.live g) ∷ [] else []))
evicts_by laws sure deal s y n waiting r true g under held =
    let m = release_of n.live g in
    let client = under.clients g.client g.stamp (inl (g, held, refl, refl)) in
    stepped sure deal s y n waiting (Hears m ∷ []) r (voter.step n.live m) under
    (λ p is. takes laws sure deal s y n waiting m (Hears m ∷ []) under client p is (hears_to deal s y n m under.has.lives under.id client refl p is)
    (λ _ z. (inl (is_eviction s y.id n z g under.has.lives under.id held), tt)))
evicts_by laws sure deal s y n waiting r false g under held =
    stepped sure deal s y n waiting [] r (Some (voter.no_reply n.live)) under
    (λ p e. subst (λ (q : voter.Outcome). IncidentsLead sure deal s y n [] q) (same_Some _ _ e) (nothing sure deal s y n waiting under))

evicts : VoterLaws → (sure : Type 0) (deal : Dealing) (s : Saved) (y : VoterState) (n : nodes.Node) (waiting : List Incident) (r : Bool) (grant : ℕ) (h : Option Grant) → Underway sure deal s y n waiting
    → n.live.held ≡ h
    → Underway sure deal s y (nodes.after n (nodes.if_room r (nodes.after_voter n (evict_held h n.live grant))))
    (waiting ++ unless_refused (nodes.if_room r (nodes.after_voter n (evict_held h n.live grant))) (eviction_of h n.live grant))
evicts laws sure deal s y n waiting r grant None under held =
    stepped sure deal s y n waiting [] r (Some (voter.no_reply n.live)) under
    (λ p e. subst (λ (q : voter.Outcome). IncidentsLead sure deal s y n [] q) (same_Some _ _ e) (nothing sure deal s y n waiting under))
evicts laws sure deal s y n waiting r grant (Some g) under held = evicts_by laws sure deal s y n waiting r (g.grant == grant) g under held

reminds : (sure : Type 0) (deal : Dealing) (s : Saved) (y : VoterState) (n : nodes.Node) (waiting : List Incident) → Underway sure deal s y n waiting
    → IncidentsLead sure deal s y n (Happens (Goes (RemindVoter n.live.id)) ∷ []) (record { replies = voter.remind n.live; state = n.live })
reminds sure deal s y n waiting under = record {
  to = λ z. subst (λ v. IsMid s y.id n.live (n.outbox ++ voter.remind n.live) (happens deal (mid s y.id n.live z n.outbox) (Goes (RemindVoter v)))) (sym under.id)
      (reminded deal s y.id n.live z n.outbox under.has.lives);
  id = under.id;
  clients = under.clients;
  lawful = λ _ z. (tt, tt);
}

-- ---- the end of a batch

pub put_has : (s : Saved) (v : ℕ) (y : VoterState) (more : List ToClient) → v < length s.live.voters → v < length s.voters → y.id ≡ v
    → ((c stamp : ℕ) → IsEntry y c stamp → c < length s.live.clients) → HasVoter (mid s v y y more) v y
put_has s v y more lives is_saved id clients = record {
  lives = (let e = length-set s.live.voters v y in omega arith);
  is_saved = (let e = length-set s.voters v y in omega arith);
  id = id;
  live = voter_here s.live.voters v y lives;
  saved = voter_here s.voters v y is_saved;
  clients = clients;
}

-- two states of one voter, one after the other: the later one stays
merges : (s : Saved) (v : ℕ) (y z : VoterState) (first more : List ToClient) → with_voter (mid s v y y first) v z more ≡ with_voter s v z (first ++ more)
merges s v y z first more =
    let live = set-set s.live.voters v y z in
    let saved = set-set s.voters v y z in
    let sent = more_sent s.live.sent first more in
    λ i. record s { live = record s.live { voters = live i; sent = sent i }; voters = saved i }

forgets : (s : Saved) (v : ℕ) (y : VoterState) → HasVoter s v y → restart (OneVoter v) (forget (OneVoter v) s) ≡ mid s v (least_voter y) (least_voter y) []
forgets s v y has =
    let least = ap least_voter has.saved in
    let saved = ap (λ (w : VoterState). slice_set s.voters v w) least in
    let read = voter_here s.voters v (least_voter (voter_at s.voters v)) has.is_saved ∙ least in
    let live = ap (λ (w : VoterState). slice_set s.live.voters v w) read in
    let sent = sym (append-nil s.live.sent) in
    λ i. record s { live = record s.live { voters = live i; sent = sent i }; voters = saved i }

least_clients : (y : VoterState) (n : ℕ) → ((c stamp : ℕ) → IsEntry y c stamp → c < n) → (c stamp : ℕ) → IsEntry (least_voter y) c stamp → c < n
least_clients y n clients c stamp e = elim e [
  | inl held ↦ clients c stamp (inl held)
  | inr waits ↦ absurd (none-some stamp (sym (fin.get-empty nat_cmp c) ∙ waits))
]

places_more : (places : Places) (sent : List Message) (more : List Message) → AreSentAt places sent → AreSentAt places (sent ++ more)
places_more places sent more are m k is = get_more sent more k (kinds.ToVoter m) (are m k is)

no_sends : (n : nodes.Node) (b : Bool) (o : Option voter.Outcome) → nodes.sends_of (nodes.if_room b (nodes.after_voter n o)) ≡ []
no_sends n true (Some o) = refl
no_sends n true None = refl
no_sends n false o = refl

-- what these incidents lead to, if they are lawful where all messages were sent
pub record RunEnds (sure : Type 0) (deal : Dealing) (s : Saved) (v : ℕ) (is : List Incident) (y : VoterState) (out : List ToClient) : Type 0 where
  pub led : all_befall deal is s ≡ with_voter s v y out
  pub has : HasVoter (with_voter s v y out) v y
  pub lawful : sure → AreLawful deal s is

-- an event that gives nothing out, and then the others
quiet : (sure : Type 0) (deal : Dealing) (s : Saved) (v : ℕ) (is : List Incident) (y : VoterState) (out more : List ToClient) → out ≡ [] → RunEnds sure deal s v is y more
    → RunEnds sure deal s v is y (out ++ more)
quiet sure deal s v is y out more none ends = subst (λ (l : List ToClient). RunEnds sure deal s v is y (l ++ more)) (sym none) ends

-- a batch ended in the world with this state of the voter, and then the others
ended : (sure : Type 0) (deal : Dealing) (s : Saved) (v : ℕ) (y z : VoterState) (first more : List ToClient) (is js : List Incident) → all_befall deal is s ≡ mid s v y y first
    → (sure → AreLawful deal s is) → RunEnds sure deal (mid s v y y first) v js z more → RunEnds sure deal s v (is ++ js) z (first ++ more)
ended sure deal s v y z first more is js there lawful ends =
    let both = merges s v y z first more in
    record {
      led = befall-append deal is js s ∙ ap (all_befall deal js) there ∙ ends.led ∙ both;
      has = subst (λ (t : Saved). HasVoter t v z) both ends.has;
      lawful = λ all. lawful-append deal is js s (lawful all) (subst (λ (t : Saved). AreLawful deal t js) (sym there) (ends.lawful all));
    }

leads_on : VoterLaws → (sure : Type 0) (deal : Dealing) (places : Places) (y : VoterState) (es : List nodes.Event) (s : Saved) (n : nodes.Node) (waiting : List Incident)
    → Underway sure deal s y n waiting → AreSentAt places s.live.sent → AllByRecursion (MayComeToNode s.live.clients places y) es → (sure → AllByRecursion (WasSent places) es)
    → RunEnds sure deal s y.id (incidents_from places n waiting es) (nodes.run n es).saved (nodes.gives n es)
unfolding nodes.node_step
leads_on laws sure deal places y [] s n waiting under are may was =
    let has = under.has in
    record { led = own s y.id n.saved has; has = put_has s y.id n.saved [] has.lives has.is_saved has.id has.clients; lawful = λ _. tt }
leads_on laws sure deal places y (nodes.Takes m ∷ es) s n waiting under are may was =
    let o = voter.step n.live m in
    let next = stepped sure deal s y n waiting (arrival_by (places m) m ∷ []) (nodes.has_room n) o under
    (arrives laws sure deal s y n waiting m (places m) under may.0 (are m) (λ all. (was all).0)) in
    quiet sure deal s y.id _ _ _ _ (no_sends n (nodes.has_room n) o) (leads_on laws sure deal places y es s _ _ next are may.1 (λ all. (was all).1))
leads_on laws sure deal places y (nodes.Evicts grant ∷ es) s n waiting under are may was =
    let o = evict_held n.live.held n.live grant in
    let next = evicts laws sure deal s y n waiting (nodes.has_room n) grant n.live.held under refl in
    quiet sure deal s y.id _ _ _ _ (no_sends n (nodes.has_room n) o) (leads_on laws sure deal places y es s _ _ next are may.1 (λ all. (was all).1))
leads_on laws sure deal places y (nodes.Reminds ∷ es) s n waiting under are may was =
    let o : Option voter.Outcome = Some (record { replies = voter.remind n.live; state = n.live }) in
    let next = stepped sure deal s y n waiting (Happens (Goes (RemindVoter n.live.id)) ∷ []) (nodes.has_room n) o under
    (λ p e. subst (λ (q : voter.Outcome). IncidentsLead sure deal s y n (Happens (Goes (RemindVoter n.live.id)) ∷ []) q) (same_Some _ _ e) (reminds sure deal s y n waiting under)) in
    quiet sure deal s y.id _ _ _ _ (no_sends n (nodes.has_room n) o) (leads_on laws sure deal places y es s _ _ next are may.1 (λ all. (was all).1))
leads_on laws sure deal places y (nodes.IsSaved ∷ es) s n waiting under are may was =
    let v = y.id in
    let t = mid s v n.live n.live n.outbox in
    let there = befall-append deal waiting (Happens (Saves (OneVoter n.live.id)) ∷ []) s ∙ ap (save (OneVoter n.live.id)) under.there.1
    ∙ ap (λ k. save (OneVoter k) (mid s v n.live under.there.0 n.outbox)) under.id ∙ saves_mid s v n.live under.there.0 n.outbox under.has.lives in
    let has = put_has s v n.live n.outbox under.has.lives under.has.is_saved under.id under.clients in
    ended sure deal s v n.live _ n.outbox _ (waiting ++ Happens (Saves (OneVoter n.live.id)) ∷ []) _ there
    (λ all. lawful-append deal waiting (Happens (Saves (OneVoter n.live.id)) ∷ []) s (under.lawful all) (tt, tt))
    (leads_on laws sure deal places y es t (nodes.node_of n.live) [] (begins sure deal t y n.live has)
    (places_more places s.live.sent (map kinds.ToClient n.outbox) are) may.1 (λ all. (was all).1))
leads_on laws sure deal places y (nodes.Restarts ∷ es) s n waiting under are may was =
    leads_on laws sure deal places y es s (nodes.node_of n.saved) [] (begins sure deal s y n.saved under.has) are may.1 (λ all. (was all).1)
leads_on laws sure deal places y (nodes.Forgets ∷ es) s n waiting under are may was =
    let v = y.id in
    let least = least_voter n.saved in
    let t = mid s v least least [] in
    let there = ap (λ k. restart (OneVoter k) (forget (OneVoter k) s)) under.id ∙ forgets s v n.saved under.has in
    let has = put_has s v least [] under.has.lives under.has.is_saved under.has.id (least_clients n.saved (length s.live.clients) under.has.clients) in
    ended sure deal s v least _ [] _ (Happens (Forgets (OneVoter n.live.id)) ∷ Happens (Restarts (OneVoter n.live.id)) ∷ []) _ there (λ _. (tt, (tt, tt)))
    (leads_on laws sure deal places y es t (nodes.node_of least) [] (begins sure deal t y least has)
    (places_more places s.live.sent [] are) may.1 (λ all. (was all).1))

pub node_leads : VoterLaws → (sure : Type 0) (deal : Dealing) (s : Saved) (places : Places) (y : VoterState) (es : List nodes.Event) → MayRun s places y es → (sure → AllByRecursion (WasSent places) es)
    → RunEnds sure deal s y.id (incidents_of places y es) (nodes.run (nodes.node_of y) es).saved (nodes.gives (nodes.node_of y) es)
node_leads laws sure deal s places y es may was =
    leads_on laws sure deal places y es s (nodes.node_of y) [] (begins sure deal s y y may.voter) may.places_are may.events_may was

-- ---- without evictions

-- each of these is a happening
abbrev AllHappen : List Incident → Type 0
AllHappen [] = Unit {0}
AllHappen (Happens h ∷ is) = AllHappen is
AllHappen (i ∷ is) = ⊥

happen-append : (is js : List Incident) → AllHappen is → AllHappen js → AllHappen (is ++ js)
happen-append [] js first then_ = then_
happen-append (Happens h ∷ is) js first then_ = happen-append is js first then_
happen-append (Hears m ∷ is) js first then_ = absurd first
happen-append (IsReborn v above ∷ is) js first then_ = absurd first
happen-append (StartsAnew c clock ∷ is) js first then_ = absurd first
happen-append (HasLimit v limit ∷ is) js first then_ = absurd first
happen-append (IsRaised c clock ∷ is) js first then_ = absurd first
happen-append (IsSkipped v above ∷ is) js first then_ = absurd first

happen_orderly : (deal : Dealing) (is : List Incident) (s : Saved) → AllHappen is → AreOrderly deal s is
happen_orderly deal [] s all = tt
happen_orderly deal (Happens h ∷ is) s all = (tt, happen_orderly deal is (befalls deal s (Happens h)) all)
happen_orderly deal (Hears m ∷ is) s all = absurd all
happen_orderly deal (IsReborn v above ∷ is) s all = absurd all
happen_orderly deal (StartsAnew c clock ∷ is) s all = absurd all
happen_orderly deal (HasLimit v limit ∷ is) s all = absurd all
happen_orderly deal (IsRaised c clock ∷ is) s all = absurd all
happen_orderly deal (IsSkipped v above ∷ is) s all = absurd all

happen_unless : (r : Result nodes.Turn NodeFault) (is : List Incident) → AllHappen is → AllHappen (unless_refused r is)
happen_unless (Ok t) is all = all
happen_unless (Err fault) is all = tt

arrival_happens : (place : Option ℕ) (m : ToVoter) → (k : ℕ) × (place ≡ Some k) → AllHappen (arrival_by place m ∷ [])
arrival_happens None m was = absurd (none-some was.0 was.1)
arrival_happens (Some k) m was = tt

all_happen : (places : Places) (es : List nodes.Event) (n : nodes.Node) (waiting : List Incident) → AllHappen waiting → AllByRecursion (WasSent places) es → AllByRecursion EvictsNone es
    → AllHappen (incidents_from places n waiting es)
all_happen places [] n waiting wait was none = tt
all_happen places (nodes.Takes m ∷ es) n waiting wait was none =
    all_happen places es _ _ (happen-append waiting _ wait (happen_unless (nodes.node_step n (nodes.Takes m)) (arrival_by (places m) m ∷ []) (arrival_happens (places m) m was.0))) was.1 none.1
all_happen places (nodes.Evicts grant ∷ es) n waiting wait was none = absurd none.0
all_happen places (nodes.Reminds ∷ es) n waiting wait was none =
    all_happen places es _ _ (happen-append waiting _ wait (happen_unless (nodes.node_step n nodes.Reminds) (Happens (Goes (RemindVoter n.live.id)) ∷ []) tt)) was.1 none.1
all_happen places (nodes.IsSaved ∷ es) n waiting wait was none =
    happen-append (waiting ++ Happens (Saves (OneVoter n.live.id)) ∷ []) _ (happen-append waiting (Happens (Saves (OneVoter n.live.id)) ∷ []) wait tt)
    (all_happen places es (nodes.after n (nodes.node_step n nodes.IsSaved)) [] tt was.1 none.1)
all_happen places (nodes.Restarts ∷ es) n waiting wait was none = all_happen places es (nodes.after n (nodes.node_step n nodes.Restarts)) [] tt was.1 none.1
all_happen places (nodes.Forgets ∷ es) n waiting wait was none = all_happen places es (nodes.after n (nodes.node_step n nodes.Forgets)) [] tt was.1 none.1

pub node_orderly : (deal : Dealing) (s : Saved) (places : Places) (y : VoterState) (es : List nodes.Event) → AllByRecursion (WasSent places) es → AllByRecursion EvictsNone es
    → AreOrderly deal s (incidents_of places y es)
node_orderly deal s places y es was none = happen_orderly deal (incidents_of places y es) s (all_happen places es (nodes.node_of y) [] tt was none)
