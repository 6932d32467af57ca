-- What befalls a saved world, told once: each incident changes one client or one voter, live, saved or both,
-- and sends what it says. `Keeps` has a field for each kind of change, and `befalls_keeps` is the one walk over incidents.
use Rattle.std.proofs.Common.{◌≡◌, ℕ, ◌<◌, ◌≤◌, Bool, true, false, List, [], ◌∷◌, ◌++◌, map, length, Option, Some, None, Result, Ok, Err, refl, sym, ap, subst, ◌∙◌, ◌⊎◌, inl, inr, arith}
use Rattle.std.specs.Prelude.{is_some, nat_le, nat_lt, slice_get, slice_set}
use Rattle.std.proofs.lemmas.Bool.{and_parts, false≢true, ltb-true}
use Rattle.std.proofs.lemmas.Bool.Decides.{nat_tests}
use Rattle.std.proofs.lemmas.List.{append-nil, set-get_or, set_past}
use Rattle.message.specs.declared.message.ToVoter.{ToVoter}
use Rattle.message.specs.declared.message.ToClient.{ToClient}
use Rattle.message.specs.declared.message.Message.{Message}
use Rattle.message.specs.declared.message.Message.TheVariants as kinds
use Rattle.message.specs.declared.message.ClientBody.{ClientBody}
use Rattle.message.specs.declared.message.ClientBody.TheVariants as to_client
use Rattle.voter.specs.declared.state.VoterState.{VoterState}
use Rattle.voter.specs.Saved.{least_voter}
use Rattle.voter.specs.Steps as voter
use Rattle.requester.specs.declared.fault.ClientFault.{ClientFault}
use Rattle.requester.specs.declared.state.ClientState.{ClientState}
use Rattle.requester.specs.declared.state.Seen.{Seen}
use Rattle.requester.specs.declared.state.Seen.TheVariants.{Nothing, Entered, Left}
use Rattle.requester.specs.RequesterContract.{Accepts, IsLocked, Locks}
use Rattle.requester.specs.Saved.{least_client}
use Rattle.requester.specs.Steps as client
use Rattle.quorum_set.specs.declared.bridge.Side.{Side}
use Rattle.quorum_set.specs.declared.bridge.Side.TheVariants.{First, Second}
use Rattle.world_state.specs.declared.step.Step.TheVariants.{Ask, Deliver, Leave, GiveUp, RemindClient, RemindVoter, Exchange}
use Rattle.world_state.specs.Steps.{Dealing, act, ask, say, vote, after_client, after_voter, client_at, client_did, come, draw_of, exchange, if_client, if_voter, is_silent, next_ticket, quorum_dealt, step, voter_at, voter_did}
use Rattle.world.specs.Incidents.{Incident, Happens, Hears, IsReborn, StartsAnew, HasLimit, IsRaised, IsSkipped, anew, be_raised, be_reborn, be_skipped, befalls, have_limit, is_ahead, is_message, is_request_within, limited, reborn, skipped, start_anew}
use Rattle.world.specs.Restarts.{OneClient, OneVoter, Nobody, Saved, Happening, Goes, Saves, Forgets, Restarts, come_back, happens, if_there, receiver, save_and_send, save_unless}
use Rattle.world.specs.Visible.{DealsFrom}
use Rattle.world.proofs.Claims.{Bounds}
use Rattle.world.proofs.ClientMoves.{Draws}
use Rattle.world.proofs.IncidentLemmas.{AsksInRange, asks_by, may_count, may_have}
use Rattle.world.proofs.Places.{client_here, voter_here}
use Rattle.world.proofs.Raises.{no_inquiry, raised_by_step}
use Rattle.world.proofs.Reached.{RunPremises, accepts_among}
use Rattle.world.proofs.Restarts.{AreAll, within_or}

-- ---- clients and voters

-- clients and voters as they are, and every message that was sent
pub record LiveWorld : Type 0 where
  pub clients : List ClientState
  pub voters : List VoterState
  pub sent : List Message

-- clients and voters as they are, and as they are saved: a saved world without its tickets and what was seen
pub record Scene : Type 0 where
  pub live : LiveWorld
  pub clients : List ClientState
  pub voters : List VoterState

abbrev pub scene_of : Saved → Scene
scene_of s = record { live = record { clients = s.live.clients; voters = s.live.voters; sent = s.live.sent }; clients = s.clients; voters = s.voters }

-- the client is in these states, live and saved, and sent these messages
abbrev pub client_turns : Scene → ℕ → ClientState → ClientState → List ToVoter → Scene
client_turns w c x y ms = record {
  live = record { clients = slice_set w.live.clients c x; voters = w.live.voters; sent = w.live.sent ++ map kinds.ToVoter ms };
  clients = slice_set w.clients c y;
  voters = w.voters;
}

-- the voter is in these states, live and saved, and sent these messages
abbrev pub voter_turns : Scene → ℕ → VoterState → VoterState → List ToClient → Scene
voter_turns w v y z rs = record {
  live = record { clients = w.live.clients; voters = slice_set w.live.voters v y; sent = w.live.sent ++ map kinds.ToClient rs };
  clients = w.clients;
  voters = slice_set w.voters v z;
}

-- ---- what is known where something befalls

-- the message is of a client and a voter of the world
abbrev pub IsOfWorld : Bounds → Message → Type 0
IsOfWorld b (kinds.ToVoter m) = (m.client < b.clients) × (m.voter < b.voters)
IsOfWorld b (kinds.ToClient m) = (m.client < b.clients) × (m.voter < b.voters)

-- clients have their numbers and limits, and messages name clients and voters of the world
pub record Known (b : Bounds) (w : Scene) : Type 0 where
  pub sizes : AreAll b (length w.live.clients) (length w.live.voters) (length w.clients) (length w.voters)
  pub ids : (c : ℕ) → c < b.clients → (client_at w.live.clients c).id ≡ c
  pub limits : (c : ℕ) → c < b.clients → (client_at w.live.clients c).limit ≡ b.limit
  pub sent : (k : ℕ) (m : Message) → slice_get w.live.sent k ≡ Some m → IsOfWorld b m

-- this LOCKED was sent to the client
abbrev pub WasLocked : Scene → ℕ → ℕ → ℕ → ℕ → Type 0
WasLocked w c v t g = (k : ℕ) × (n : ℕ) × (slice_get w.live.sent k ≡ Some (kinds.ToClient (record { voter = v; client = c; seen = n; body = to_client.Locked t g })))

-- a client of the world may make a step with this cause
pub record Acts (b : Bounds) (w : Scene) (c : ℕ) (cause : client.Cause) : Type 0 where
  pub within : c < b.clients
  pub accepts : Accepts (client_at w.live.clients c) cause
  pub draws : Draws b cause
  pub came : (v t g : ℕ) → IsLocked cause v t g → WasLocked w c v t g

-- a message arrives at a voter of the world: it was sent, or is made up
pub record Arrives (b : Bounds) (Made : ToVoter → Type 0) (w : Scene) (m : ToVoter) : Type 0 where
  pub client : m.client < b.clients
  pub voter : m.voter < b.voters
  pub source : ((k : ℕ) × (slice_get w.live.sent k ≡ Some (kinds.ToVoter m))) ⊎ (Made m × AsksInRange b.limit m.body)

-- ---- each kind of change

-- `To` holds of the scene after whatever may befall
pub record Keeps (b : Bounds) (Made : ToVoter → Type 0) (w : Scene) (To : Scene → Type 0) : Type 0 where
  pub known : Known b w
  pub stays : To w
  -- a step of a client: it is saved before its messages leave, unless there are none and nobody sees it
  pub client_rests : (c : ℕ) (cause : client.Cause) (o : client.Outcome) → Acts b w c cause → client.step (client_at w.live.clients c) cause ≡ Ok o → o.seen ≡ Nothing
      → To (client_turns w c o.state (client_at w.clients c) [])
  pub client_speaks : (c : ℕ) (cause : client.Cause) (o : client.Outcome) → Acts b w c cause → client.step (client_at w.live.clients c) cause ≡ Ok o → To (client_turns w c o.state o.state o.out)
  pub client_reminds : (c : ℕ) → c < b.clients → To (client_turns w c (client_at w.live.clients c) (client_at w.live.clients c) (client.remind (client_at w.live.clients c)))
  pub client_saves : (c : ℕ) → c < b.clients → To (client_turns w c (client_at w.live.clients c) (client_at w.live.clients c) [])
  pub client_forgets : (c : ℕ) → c < b.clients → To (client_turns w c (client_at w.live.clients c) (least_client (client_at w.clients c)) [])
  pub client_restarts : (c : ℕ) → c < b.clients → To (client_turns w c (client_at w.clients c) (client_at w.clients c) [])
  pub client_anew : (c clock : ℕ) → c < b.clients → (client_at w.live.clients c).stamp ≤ clock → clock ≤ (client_at w.live.clients c).limit
      → To (client_turns w c (anew (client_at w.live.clients c) clock) (anew (client_at w.live.clients c) clock) [])
  -- a step of a voter: it is saved before its messages leave, unless there are none
  pub voter_rests : (m : ToVoter) (o : voter.Outcome) → Arrives b Made w m → voter.step (voter_at w.live.voters m.voter) m ≡ Some o → o.replies ≡ [] → To (voter_turns w m.voter o.state (voter_at w.voters m.voter) [])
  pub voter_speaks : (m : ToVoter) (o : voter.Outcome) → Arrives b Made w m → voter.step (voter_at w.live.voters m.voter) m ≡ Some o → To (voter_turns w m.voter o.state o.state o.replies)
  pub voter_reminds : (v : ℕ) → v < b.voters → To (voter_turns w v (voter_at w.live.voters v) (voter_at w.live.voters v) (voter.remind (voter_at w.live.voters v)))
  pub voter_saves : (v : ℕ) → v < b.voters → To (voter_turns w v (voter_at w.live.voters v) (voter_at w.live.voters v) [])
  pub voter_forgets : (v : ℕ) → v < b.voters → To (voter_turns w v (voter_at w.live.voters v) (least_voter (voter_at w.voters v)) [])
  pub voter_restarts : (v : ℕ) → v < b.voters → To (voter_turns w v (voter_at w.voters v) (voter_at w.voters v) [])
  pub voter_reborn : (v above : ℕ) → v < b.voters → (voter_at w.live.voters v).granted ≤ above → above ≤ (voter_at w.live.voters v).limit
      → To (voter_turns w v (reborn (voter_at w.live.voters v) above) (reborn (voter_at w.live.voters v) above) [])
  pub voter_limited : (v limit : ℕ) → v < b.voters → (voter_at w.live.voters v).granted ≤ limit → limit ≤ b.limit → To (voter_turns w v (limited (voter_at w.live.voters v) limit) (voter_at w.voters v) [])
  pub voter_skipped : (v above : ℕ) → v < b.voters → (voter_at w.live.voters v).granted ≤ above → above ≤ (voter_at w.live.voters v).limit
      → To (voter_turns w v (skipped (voter_at w.live.voters v) above) (voter_at w.voters v) [])

-- ---- lists written in other ways

-- each is what it is
own_client : (cs : List ClientState) (c : ℕ) → slice_set cs c (client_at cs c) ≡ cs
unfolding client_at
own_client cs c = set-get_or cs c (client.start 0 1)

pub own_voter : (vs : List VoterState) (v : ℕ) → slice_set vs v (voter_at vs v) ≡ vs
unfolding voter_at
own_voter vs v = set-get_or vs v (voter.start 0 1)

-- the lists of a changed scene, under other names
as_client : (To : Scene → Type 0) (w : Scene) (c : ℕ) (x y : ClientState) (ms : List ToVoter) (l k : List ClientState) (sent : List Message) → slice_set w.live.clients c x ≡ l → slice_set w.clients c y ≡ k
    → w.live.sent ++ map kinds.ToVoter ms ≡ sent → To (client_turns w c x y ms) → To (record { live = record { clients = l; voters = w.live.voters; sent = sent }; clients = k; voters = w.voters })
as_client To w c x y ms l k sent live saved more = subst To (λ i. record { live = record { clients = live i; voters = w.live.voters; sent = more i }; clients = saved i; voters = w.voters })

as_voter : (To : Scene → Type 0) (w : Scene) (v : ℕ) (y z : VoterState) (rs : List ToClient) (l k : List VoterState) (sent : List Message) → slice_set w.live.voters v y ≡ l → slice_set w.voters v z ≡ k
    → w.live.sent ++ map kinds.ToClient rs ≡ sent → To (voter_turns w v y z rs) → To (record { live = record { clients = w.live.clients; voters = l; sent = sent }; clients = w.clients; voters = k })
as_voter To w v y z rs l k sent live saved more = subst To (λ i. record { live = record { clients = w.live.clients; voters = live i; sent = more i }; clients = w.clients; voters = saved i })

-- nothing is sent, and the client or the voter may be none of the world
set_client_of : (b : Bounds) (Made : ToVoter → Type 0) (w : Scene) (To : Scene → Type 0) → Keeps b Made w To → (c : ℕ) (x y : ClientState) (l k : List ClientState) → slice_set w.live.clients c x ≡ l → slice_set w.clients c y ≡ k
    → (c < b.clients → To (client_turns w c x y [])) → To (record { live = record { clients = l; voters = w.live.voters; sent = w.live.sent }; clients = k; voters = w.voters })
set_client_of b Made w To keeps c x y l k live saved turns = elim (within_or w.live.clients c) [
  | inl within ↦ as_client To w c x y [] l k w.live.sent live saved (append-nil w.live.sent) (turns (subst (λ n. c < n) keeps.known.sizes.0 within))
  | inr past ↦
      let none = subst (λ n. n ≤ c) (keeps.known.sizes.0 ∙ sym keeps.known.sizes.2) past in
      let first = sym (set_past w.live.clients c x past) ∙ live in
      let second = sym (set_past w.clients c y none) ∙ saved in
      subst To (λ i. record { live = record { clients = first i; voters = w.live.voters; sent = w.live.sent }; clients = second i; voters = w.voters }) keeps.stays
]

set_voter_of : (b : Bounds) (Made : ToVoter → Type 0) (w : Scene) (To : Scene → Type 0) → Keeps b Made w To → (v : ℕ) (y z : VoterState) (l k : List VoterState) → slice_set w.live.voters v y ≡ l → slice_set w.voters v z ≡ k
    → (v < b.voters → To (voter_turns w v y z [])) → To (record { live = record { clients = w.live.clients; voters = l; sent = w.live.sent }; clients = w.clients; voters = k })
set_voter_of b Made w To keeps v y z l k live saved turns = elim (within_or w.live.voters v) [
  | inl within ↦ as_voter To w v y z [] l k w.live.sent live saved (append-nil w.live.sent) (turns (subst (λ n. v < n) keeps.known.sizes.1 within))
  | inr past ↦
      let none = subst (λ n. n ≤ v) (keeps.known.sizes.1 ∙ sym keeps.known.sizes.3) past in
      let first = sym (set_past w.live.voters v y past) ∙ live in
      let second = sym (set_past w.voters v z none) ∙ saved in
      subst To (λ i. record { live = record { clients = w.live.clients; voters = first i; sent = w.live.sent }; clients = w.clients; voters = second i }) keeps.stays
]

-- ---- steps

empty_of : {A : Type 0} (xs : List A) → length xs ≡ 0 → xs ≡ []
empty_of [] none = refl
empty_of (x ∷ xs) none = absurd (omega arith)

-- a silent step sends nothing, and nobody sees it
silent_none : (n : ℕ) (seen : Seen) → is_silent n seen ≡ true → (n ≡ 0) × (seen ≡ Nothing)
silent_none n Nothing e = (grind (arith, nat_tests), refl)
silent_none n Entered e = absurd (false≢true e)
silent_none n Left e = absurd (false≢true e)

client_did_keeps : (b : Bounds) (Made : ToVoter → Type 0) (s : Saved) (To : Scene → Type 0) → Keeps b Made (scene_of s) To → (c : ℕ) (cause : client.Cause) → Acts b (scene_of s) c cause
    → (o : client.Outcome) → client.step (client_at s.live.clients c) cause ≡ Ok o → (silent : Bool) → is_silent (length o.out) o.seen ≡ silent
    → To (scene_of (save_unless silent (OneClient c) (record s { live = (client_did s.live c o).state })))
client_did_keeps b Made s To keeps c cause act o is true e =
    let none = silent_none (length o.out) o.seen e in
    let sent = ap (λ (ms : List ToVoter). s.live.sent ++ map kinds.ToVoter ms) (sym (empty_of o.out none.0)) in
    as_client To (scene_of s) c o.state (client_at s.clients c) [] (slice_set s.live.clients c o.state) s.clients (s.live.sent ++ map kinds.ToVoter o.out) refl (own_client s.clients c) sent
    (keeps.client_rests c cause o act is none.1)
client_did_keeps b Made s To keeps c cause act o is false e =
    let live = slice_set s.live.clients c o.state in
    let here = client_here s.live.clients c o.state (subst (λ n. c < n) (sym keeps.known.sizes.0) act.within) in
    as_client To (scene_of s) c o.state o.state o.out live (slice_set s.clients c (client_at live c)) (s.live.sent ++ map kinds.ToVoter o.out) refl (ap (λ x. slice_set s.clients c x) (sym here)) refl
    (keeps.client_speaks c cause o act is)

client_keeps : (b : Bounds) (Made : ToVoter → Type 0) (s : Saved) (To : Scene → Type 0) → Keeps b Made (scene_of s) To → (c : ℕ) (cause : client.Cause) → Acts b (scene_of s) c cause
    → (r : Result client.Outcome ClientFault) → client.step (client_at s.live.clients c) cause ≡ r → To (scene_of (save_and_send s (OneClient c) (after_client s.live c r)))
client_keeps b Made s To keeps c cause act (Ok o) is = client_did_keeps b Made s To keeps c cause act o is (is_silent (length o.out) o.seen) refl
client_keeps b Made s To keeps c cause act (Err fault) is = keeps.stays

-- with a ticket of either plan
draw_keeps : (b : Bounds) (Made : ToVoter → Type 0) (s : Saved) (To : Scene → Type 0) → Keeps b Made (scene_of s) To → (c : ℕ) (cause : client.Cause) → Acts b (scene_of s) c cause
    → (side : Side) (r : Result client.Outcome ClientFault) → client.step (client_at s.live.clients c) cause ≡ r → To (scene_of (save_and_send s (OneClient c) (after_client (draw_of side s.live c) c r)))
draw_keeps b Made s To keeps c cause act First (Ok o) is = client_did_keeps b Made (record s { live = draw_of First s.live c }) To keeps c cause act o is (is_silent (length o.out) o.seen) refl
draw_keeps b Made s To keeps c cause act Second (Ok o) is = client_did_keeps b Made (record s { live = draw_of Second s.live c }) To keeps c cause act o is (is_silent (length o.out) o.seen) refl
draw_keeps b Made s To keeps c cause act side (Err fault) is = keeps.stays

voter_did_keeps : (b : Bounds) (Made : ToVoter → Type 0) (s : Saved) (To : Scene → Type 0) → Keeps b Made (scene_of s) To → (m : ToVoter) → Arrives b Made (scene_of s) m
    → (o : voter.Outcome) → voter.step (voter_at s.live.voters m.voter) m ≡ Some o → (silent : Bool) → is_silent (length o.replies) Nothing ≡ silent
    → To (scene_of (save_unless silent (OneVoter m.voter) (record s { live = (voter_did s.live m.voter o).state })))
voter_did_keeps b Made s To keeps m arrives o is true e =
    let v = m.voter in
    let none = empty_of o.replies (silent_none (length o.replies) Nothing e).0 in
    as_voter To (scene_of s) v o.state (voter_at s.voters v) [] (slice_set s.live.voters v o.state) s.voters (s.live.sent ++ map kinds.ToClient o.replies) refl (own_voter s.voters v)
    (ap (λ (rs : List ToClient). s.live.sent ++ map kinds.ToClient rs) (sym none)) (keeps.voter_rests m o arrives is none)
voter_did_keeps b Made s To keeps m arrives o is false e =
    let v = m.voter in
    let live = slice_set s.live.voters v o.state in
    let here = voter_here s.live.voters v o.state (subst (λ n. v < n) (sym keeps.known.sizes.1) arrives.voter) in
    as_voter To (scene_of s) v o.state o.state o.replies live (slice_set s.voters v (voter_at live v)) (s.live.sent ++ map kinds.ToClient o.replies) refl (ap (λ y. slice_set s.voters v y) (sym here)) refl
    (keeps.voter_speaks m o arrives is)

voter_keeps : (b : Bounds) (Made : ToVoter → Type 0) (s : Saved) (To : Scene → Type 0) → Keeps b Made (scene_of s) To → (m : ToVoter) → Arrives b Made (scene_of s) m
    → (r : Option voter.Outcome) → voter.step (voter_at s.live.voters m.voter) m ≡ r → To (scene_of (save_and_send s (OneVoter m.voter) (after_voter s.live m.voter r)))
voter_keeps b Made s To keeps m arrives None is = keeps.stays
voter_keeps b Made s To keeps m arrives (Some o) is = voter_did_keeps b Made s To keeps m arrives o is (is_silent (length o.replies) Nothing) refl

-- ---- reminders

-- nothing is said
no_more : (To : Scene → Type 0) (w : Scene) (more : List Message) → more ≡ [] → To w → To (record { live = record { clients = w.live.clients; voters = w.live.voters; sent = w.live.sent ++ more }; clients = w.clients; voters = w.voters })
no_more To w more none =
    let sent = sym (append-nil w.live.sent) ∙ ap (λ (l : List Message). w.live.sent ++ l) (sym none) in
    subst To (λ i. record { live = record { clients = w.live.clients; voters = w.live.voters; sent = sent i }; clients = w.clients; voters = w.voters })

client_reminded : (b : Bounds) (Made : ToVoter → Type 0) (s : Saved) (To : Scene → Type 0) → Keeps b Made (scene_of s) To → (c : ℕ) → c < b.clients → (more : List Message)
    → map kinds.ToVoter (client.remind (client_at s.live.clients c)) ≡ more → (silent : Bool) → is_silent (length more) Nothing ≡ silent
    → To (scene_of (save_unless silent (OneClient c) (record s { live = record s.live { sent = s.live.sent ++ more } })))
client_reminded b Made s To keeps c within more is true e = no_more To (scene_of s) more (empty_of more (silent_none (length more) Nothing e).0) keeps.stays
client_reminded b Made s To keeps c within more is false e =
    let x = client_at s.live.clients c in
    as_client To (scene_of s) c x x (client.remind x) s.live.clients (slice_set s.clients c x) (s.live.sent ++ more) (own_client s.live.clients c) refl (ap (λ (l : List Message). s.live.sent ++ l) is) (keeps.client_reminds c within)

voter_reminded : (b : Bounds) (Made : ToVoter → Type 0) (s : Saved) (To : Scene → Type 0) → Keeps b Made (scene_of s) To → (v : ℕ) → v < b.voters → (more : List Message)
    → map kinds.ToClient (voter.remind (voter_at s.live.voters v)) ≡ more → (silent : Bool) → is_silent (length more) Nothing ≡ silent
    → To (scene_of (save_unless silent (OneVoter v) (record s { live = record s.live { sent = s.live.sent ++ more } })))
voter_reminded b Made s To keeps v within more is true e = no_more To (scene_of s) more (empty_of more (silent_none (length more) Nothing e).0) keeps.stays
voter_reminded b Made s To keeps v within more is false e =
    let y = voter_at s.live.voters v in
    as_voter To (scene_of s) v y y (voter.remind y) s.live.voters (slice_set s.voters v y) (s.live.sent ++ more) (own_voter s.live.voters v) refl (ap (λ (l : List Message). s.live.sent ++ l) is) (keeps.voter_reminds v within)

-- ---- steps of the world

-- where a condition fails, nothing happens
when : (To : Scene → Type 0) (f : Bool → Saved) → To (scene_of (f false)) → (t : Bool) → (t ≡ true → To (scene_of (f true))) → To (scene_of (f t))
when To f stays true goes = goes refl
when To f stays false goes = stays

exchange_keeps : (To : Scene → Type 0) (s : Saved) (two : Bool) (side : Side) → To (scene_of s) → To (scene_of (save_and_send s Nobody (exchange two side s.live)))
exchange_keeps To s true First stays = stays
exchange_keeps To s true Second stays = stays
exchange_keeps To s false side stays = stays

-- the LOCKED that comes is a message that was sent
was_locked : (w : Scene) (k sender c n : ℕ) (body : ClientBody) → slice_get w.live.sent k ≡ Some (kinds.ToClient (record { voter = sender; client = c; seen = n; body = body }))
    → (v t g : ℕ) → Locks sender body v t g → WasLocked w c v t g
was_locked w k sender c n (to_client.Locked stamp grant) at v t g locks =
    (k, n, at ∙ (λ i. Some (kinds.ToClient (record { voter = sym locks.0 i; client = c; seen = n; body = to_client.Locked (sym locks.1 i) (sym locks.2 i) }))))
was_locked w k sender c n (to_client.Fail stamp) at v t g locks = absurd locks
was_locked w k sender c n (to_client.Inquire grant) at v t g locks = absurd locks

come_keeps : (b : Bounds) → RunPremises b → (Made : ToVoter → Type 0) (s : Saved) (To : Scene → Type 0) → Keeps b Made (scene_of s) To → (k : ℕ) (o : Option Message) → slice_get s.live.sent k ≡ o
    → To (scene_of (save_and_send s (receiver o) (come s.live k o)))
come_keeps b given Made s To keeps k None at = keeps.stays
come_keeps b given Made s To keeps k (Some (kinds.ToVoter m)) at =
    let is = keeps.known.sent k (kinds.ToVoter m) at in
    voter_keeps b Made s To keeps m (record { client = is.0; voter = is.1; source = inl (k, at) }) (voter.step (voter_at s.live.voters m.voter) m) refl
come_keeps b given Made s To keeps k (Some (kinds.ToClient m)) at =
    let is = keeps.known.sent k (kinds.ToClient m) at in
    let few = given.limits.few_voters in
    let least = is.1 in
    client_keeps b Made s To keeps m.client (client.Takes m) (record {
      within = is.0;
      accepts = (sym (keeps.known.ids m.client is.0), omega arith);
      draws = tt;
      came = was_locked (scene_of s) k m.voter m.client m.seen m.body at;
    }) (client.step (client_at s.live.clients m.client) (client.Takes m)) refl

-- a client acts of its own accord
alone_keeps : (b : Bounds) (Made : ToVoter → Type 0) (s : Saved) (To : Scene → Type 0) → Keeps b Made (scene_of s) To → (c : ℕ) (cause : client.Cause)
    → Accepts (client_at s.live.clients c) cause → Draws b cause → ((v t g : ℕ) → IsLocked cause v t g → ⊥)
    → To (scene_of (save_and_send s (OneClient c) (if_client (nat_lt c (length s.live.clients)) c (after_client s.live c (client.step (client_at s.live.clients c) cause)))))
alone_keeps b Made s To keeps c cause accepts draws never = when To (λ t. save_and_send s (OneClient c) (if_client t c (act s.live c cause))) keeps.stays (nat_lt c (length s.live.clients)) (λ t.
    client_keeps b Made s To keeps c cause (record { within = subst (λ n. c < n) keeps.known.sizes.0 (ltb-true _ _ t); accepts = accepts; draws = draws; came = λ v u g locks. absurd (never v u g locks) }) _ refl)

happens_keeps : (b : Bounds) → RunPremises b → (deal : Dealing) → DealsFrom b.quorums deal → (Made : ToVoter → Type 0) (s : Saved) (To : Scene → Type 0) → Keeps b Made (scene_of s) To → (h : Happening)
    → To (scene_of (happens deal s h))
unfolding step
happens_keeps b given deal deals Made s To keeps (Goes (Ask c)) =
    let q = quorum_dealt deal s.live.side (next_ticket s.live) in
    let among = deals s.live.side (next_ticket s.live) in
    when To (λ t. save_and_send s (OneClient c) (if_client t c (ask s.live c q))) keeps.stays (nat_lt c (length s.live.clients)) (λ t. draw_keeps b Made s To keeps c (client.Asks q)
    (record { within = subst (λ n. c < n) keeps.known.sizes.0 (ltb-true _ _ t); accepts = accepts_among b given.meet q among; draws = among; came = λ v u g never. absurd never }) s.live.side _ refl)
happens_keeps b given deal deals Made s To keeps (Goes (Deliver k)) = come_keeps b given Made s To keeps k (slice_get s.live.sent k) refl
happens_keeps b given deal deals Made s To keeps (Goes (Leave c)) = alone_keeps b Made s To keeps c client.Leaves tt tt (λ v t g never. never)
happens_keeps b given deal deals Made s To keeps (Goes (GiveUp c)) = alone_keeps b Made s To keeps c client.GivesUp tt tt (λ v t g never. never)
happens_keeps b given deal deals Made s To keeps (Goes (RemindClient c)) =
    let more = map kinds.ToVoter (client.remind (client_at s.live.clients c)) in
    when To (λ t. save_and_send s (OneClient c) (if_client t c (Ok (say s.live more)))) keeps.stays (nat_lt c (length s.live.clients))
    (λ t. client_reminded b Made s To keeps c (subst (λ n. c < n) keeps.known.sizes.0 (ltb-true _ _ t)) more refl _ refl)
happens_keeps b given deal deals Made s To keeps (Goes (RemindVoter v)) =
    let more = map kinds.ToClient (voter.remind (voter_at s.live.voters v)) in
    when To (λ t. save_and_send s (OneVoter v) (if_voter t v (Ok (say s.live more)))) keeps.stays (nat_lt v (length s.live.voters))
    (λ t. voter_reminded b Made s To keeps v (subst (λ n. v < n) keeps.known.sizes.1 (ltb-true _ _ t)) more refl _ refl)
happens_keeps b given deal deals Made s To keeps (Goes Exchange) = exchange_keeps To s (is_some deal.second) s.live.side keeps.stays
happens_keeps b given deal deals Made s To keeps (Saves Nobody) = keeps.stays
happens_keeps b given deal deals Made s To keeps (Saves (OneClient c)) =
    set_client_of b Made (scene_of s) To keeps c (client_at s.live.clients c) (client_at s.live.clients c) s.live.clients _ (own_client s.live.clients c) refl (keeps.client_saves c)
happens_keeps b given deal deals Made s To keeps (Saves (OneVoter v)) =
    set_voter_of b Made (scene_of s) To keeps v (voter_at s.live.voters v) (voter_at s.live.voters v) s.live.voters _ (own_voter s.live.voters v) refl (keeps.voter_saves v)
happens_keeps b given deal deals Made s To keeps (Forgets Nobody) = keeps.stays
happens_keeps b given deal deals Made s To keeps (Forgets (OneClient c)) =
    set_client_of b Made (scene_of s) To keeps c (client_at s.live.clients c) (least_client (client_at s.clients c)) s.live.clients _ (own_client s.live.clients c) refl (keeps.client_forgets c)
happens_keeps b given deal deals Made s To keeps (Forgets (OneVoter v)) =
    set_voter_of b Made (scene_of s) To keeps v (voter_at s.live.voters v) (least_voter (voter_at s.voters v)) s.live.voters _ (own_voter s.live.voters v) refl (keeps.voter_forgets v)
happens_keeps b given deal deals Made s To keeps (Restarts Nobody) = keeps.stays
happens_keeps b given deal deals Made s To keeps (Restarts (OneClient c)) = when To (λ t. if_there t (come_back s c (client_at s.clients c)) s) keeps.stays (nat_lt c (length s.live.clients))
    (λ t. set_client_of b Made (scene_of s) To keeps c (client_at s.clients c) (client_at s.clients c) _ s.clients refl (own_client s.clients c) (keeps.client_restarts c))
happens_keeps b given deal deals Made s To keeps (Restarts (OneVoter v)) =
    set_voter_of b Made (scene_of s) To keeps v (voter_at s.voters v) (voter_at s.voters v) _ s.voters refl (own_voter s.voters v) (keeps.voter_restarts v)

-- ---- what befalls

-- a clock is raised, as by an INQUIRE of no vote
raised_keeps : (b : Bounds) (Made : ToVoter → Type 0) (s : Saved) (To : Scene → Type 0) → Keeps b Made (scene_of s) To → (c clock : ℕ) → nat_lt c (length s.live.clients) ≡ true → To (scene_of (be_raised true s c clock))
unfolding client.step
raised_keeps b Made s To keeps c clock is =
    let x = client_at s.live.clients c in
    subst (λ (u : Saved). To (scene_of u)) (raised_by_step s c clock) (client_keeps b Made s To keeps c (client.Takes (no_inquiry x clock))
    (record { within = subst (λ n. c < n) keeps.known.sizes.0 (ltb-true _ _ is); accepts = (refl, omega arith); draws = tt; came = λ v t g never. absurd never }) (Ok (client.take x (no_inquiry x clock))) refl)

pub befalls_keeps : (b : Bounds) → RunPremises b → (deal : Dealing) → DealsFrom b.quorums deal → (Made : ToVoter → Type 0) (s : Saved) (To : Scene → Type 0) → Keeps b Made (scene_of s) To
    → (i : Incident) → ((m : ToVoter) → i ≡ Hears m → Made m) → To (scene_of (befalls deal s i))
befalls_keeps b given deal deals Made s To keeps (Happens h) made = happens_keeps b given deal deals Made s To keeps h
befalls_keeps b given deal deals Made s To keeps (Hears m) made = when To (λ t. save_and_send s (OneVoter m.voter) (if_voter t m.voter (if_client (is_message s m) m.client (vote s.live m)))) keeps.stays (nat_lt m.voter (length s.live.voters)) (λ t.
    when To (λ u. save_and_send s (OneVoter m.voter) (if_client u m.client (vote s.live m))) keeps.stays (is_message s m) (λ u.
    let parts = and_parts (nat_lt m.client (length s.live.clients)) (is_request_within (client_at s.live.clients m.client).limit m.body) u in
    let within : m.client < b.clients = subst (λ n. m.client < n) keeps.known.sizes.0 (ltb-true _ _ parts.0) in
    let asks = asks_by b (client_at s.live.clients m.client).limit m.body (let same = keeps.known.limits m.client within in omega arith) parts.1 in
    voter_keeps b Made s To keeps m (record { client = within; voter = subst (λ n. m.voter < n) keeps.known.sizes.1 (ltb-true _ _ t); source = inr (made m refl, asks) }) _ refl))
befalls_keeps b given deal deals Made s To keeps (IsReborn v above) made = when To (λ t. be_reborn t s v above) keeps.stays _ (λ is.
    let may = may_count s v above is in
    set_voter_of b Made (scene_of s) To keeps v _ _ _ _ refl refl (λ few. keeps.voter_reborn v above few may.least may.most))
befalls_keeps b given deal deals Made s To keeps (StartsAnew c clock) made = when To (λ t. start_anew t s c clock) keeps.stays _ (λ is.
    let x = client_at s.live.clients c in
    let ends = and_parts (nat_le x.stamp clock) (nat_le clock x.limit) (and_parts (nat_lt c (length s.live.clients)) (is_ahead x clock) is).1 in
    let least : x.stamp ≤ clock = (let h = ends.0 in grind (arith, nat_tests)) in
    let most : clock ≤ x.limit = (let h = ends.1 in grind (arith, nat_tests)) in
    set_client_of b Made (scene_of s) To keeps c _ _ _ _ refl refl (λ few. keeps.client_anew c clock few least most))
befalls_keeps b given deal deals Made s To keeps (HasLimit v limit) made = when To (λ t. have_limit t s v limit) keeps.stays _ (λ is.
    let may = may_have b s keeps.known.sizes.0 (keeps.known.limits 0) v limit is in
    set_voter_of b Made (scene_of s) To keeps v _ (voter_at s.voters v) _ s.voters refl (own_voter s.voters v) (λ few. keeps.voter_limited v limit few may.least may.most))
befalls_keeps b given deal deals Made s To keeps (IsRaised c clock) made = when To (λ t. be_raised t s c clock) keeps.stays _ (λ is. raised_keeps b Made s To keeps c clock is)
befalls_keeps b given deal deals Made s To keeps (IsSkipped v above) made = when To (λ t. be_skipped t s v above) keeps.stays _ (λ is.
    let may = may_count s v above is in
    set_voter_of b Made (scene_of s) To keeps v _ (voter_at s.voters v) _ s.voters refl (own_voter s.voters v) (λ few. keeps.voter_skipped v above few may.least may.most))
