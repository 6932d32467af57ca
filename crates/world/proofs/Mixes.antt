-- Whichever clients and voters are as they were saved, steps alone led to such a world: a step looks at
-- nobody but its maker, and a silent step changes nothing else.
use Rattle.std.proofs.Common.{◌≡◌, ℕ, ◌+◌, ◌<◌, ◌≤◌, Bool, true, false, List, [], ◌∷◌, ◌++◌, map, length, Option, Some, None, Result, Ok, Err, refl, sym, ap, subst, ◌∙◌, inl, inr, arith, set}
use Rattle.std.specs.Prelude.{is_some, nat_lt, slice_get, slice_set}
use Rattle.std.proofs.lemmas.Bool.{false≢true, ltb-true}
use Rattle.std.proofs.lemmas.List.{length-set, append-nil, ext_get_or, set_past, set-set, set-get_or, length-map}
use Rattle.numbers.proofs.Lists.{AllByRecursion-get}
use Rattle.message.specs.declared.message.Message.{Message}
use Rattle.message.specs.declared.message.Message.TheVariants as kinds
use Rattle.message.specs.declared.message.VoterBody.TheVariants as asks
use Rattle.voter.specs.declared.state.VoterState.{VoterState}
use Rattle.voter.specs.Steps as voter
use Rattle.requester.specs.declared.fault.ClientFault.{ClientFault}
use Rattle.requester.specs.declared.state.ClientState.{ClientState}
use Rattle.requester.specs.declared.state.Seen.{Seen}
use Rattle.requester.specs.declared.state.Seen.TheVariants.{Nothing}
use Rattle.requester.specs.Steps as client
use Rattle.requester.specs.Words.{is_inside}
use Rattle.quorum_set.specs.declared.bridge.Side.{Side}
use Rattle.quorum_set.specs.declared.bridge.Side.TheVariants.{First, Second}
use Rattle.world_state.specs.declared.fault.WorldFault.{WorldFault}
use Rattle.world_state.specs.declared.step.Event.{Event}
use Rattle.world_state.specs.declared.step.Step.{Step}
use Rattle.world_state.specs.declared.step.Step.TheVariants.{Ask, Deliver, Leave, GiveUp, RemindClient, RemindVoter, Exchange}
use Rattle.world_state.specs.Numbered.{IsAddressed, IsNumbered}
use Rattle.world.specs.Restarts.{Node, OneClient, OneVoter, Nobody, Saved, Happening, Goes, Saves, Forgets, Restarts, all_happen, begin, crash_seen, come_back, happens, if_there, maker, receiver, restart, save, save_and_send, save_unless}
use Rattle.world_state.specs.Steps.{is_silent}
use Rattle.world.specs.Runs.{AreLimits, after, start}
use Rattle.world.specs.SavedWorlds.{EachMixIsLed, IsLed, LoseNothing, LosesNothing, with_nodes}
use Rattle.world_state.specs.Steps.{Dealing, Outcome, WorldState, after_client, after_voter, client_at, come, draw_of, events, exchange, if_client, if_voter, next_ticket, quorum_dealt, say, step, ticket_of, voter_at}
use Rattle.world.specs.Rules.{ClientLaws, VoterLaws}
use Rattle.world.specs.Visible.{DealsFrom, DoMeet}
use Rattle.world.proofs.Claims.{Bounds, put, put-same}
use Rattle.world.proofs.EveryRun.{numbered_by, run_ok}
use Rattle.world.proofs.Places.{client_at-set, client_here, voter_at-set, voter_here}
use Rattle.world.proofs.Plans.{run_then}
use Rattle.world.proofs.Reached.{RunPremises, RunOk, accepts_among}
use Rattle.world.proofs.Restarts.{Mix, MixBut, Mix-back, Mix-restarted, Mix-saved, Mix-with, MixBut-put, MixBut-put_left, none_of, nothing_more, put-both, silent_parts, within_or}

-- ---- lists

client_back : (cs : List ClientState) (c : ℕ) → set cs c (client_at cs c) ≡ cs
unfolding client_at
client_back cs c = set-get_or cs c (client.start 0 1)

voter_back : (vs : List VoterState) (v : ℕ) → set vs v (voter_at vs v) ≡ vs
unfolding voter_at
voter_back vs v = set-get_or vs v (voter.start 0 1)

-- what is written in one list is written in another one that is as long
client_same : (cs X : List ClientState) (c : ℕ) (x : ClientState) → length X ≡ length cs → set X c x ≡ set X c (client_at (set cs c x) c)
client_same cs X c x long = elim (within_or cs c) [
  | inl within ↦ ap (λ y. set X c y) (sym (client_here cs c x within))
  | inr past ↦ set_past X c x (omega arith) ∙ sym (set_past X c (client_at (set cs c x) c) (omega arith))
]

voter_same : (vs Y : List VoterState) (v : ℕ) (y : VoterState) → length Y ≡ length vs → set Y v y ≡ set Y v (voter_at (set vs v y) v)
voter_same vs Y v y long = elim (within_or vs v) [
  | inl within ↦ ap (λ z. set Y v z) (sym (voter_here vs v y within))
  | inr past ↦ set_past Y v y (omega arith) ∙ sym (set_past Y v (voter_at (set vs v y) v) (omega arith))
]

-- ---- a step looks at nobody but its maker

-- the maker's state afterwards, in other lists
abbrev put_client : Node → List ClientState → WorldState → List ClientState
put_client (OneClient c) X u = slice_set X c (client_at u.clients c)
put_client (OneVoter v) X u = X
put_client Nobody X u = X

abbrev put_voter : Node → List VoterState → WorldState → List VoterState
put_voter (OneClient c) Y u = Y
put_voter (OneVoter v) Y u = slice_set Y v (voter_at u.voters v)
put_voter Nobody Y u = Y

-- the maker is as it is in the world
abbrev Agrees : Node → WorldState → List ClientState → List VoterState → Type 0
Agrees (OneClient c) w X Y = client_at X c ≡ client_at w.clients c
Agrees (OneVoter v) w X Y = voter_at Y v ≡ voter_at w.voters v
Agrees Nobody w X Y = Unit {0}

-- what the step does with other clients and voters
abbrev moved : Node → List ClientState → List VoterState → Outcome → Outcome
moved who X Y o = record o { state = with_nodes o.state (put_client who X o.state) (put_voter who Y o.state) }

record NodeMoves (who : Node) (w u : WorldState) : Type 0 where
  clients : u.clients ≡ put_client who w.clients u
  voters : u.voters ≡ put_voter who w.voters u

-- the same outcome, and nobody but the maker changes
abbrev Alike : WorldState → List ClientState → List VoterState → Node → Result Outcome WorldFault → Result Outcome WorldFault → Type 0
Alike w X Y who (Ok o) r = (r ≡ Ok (moved who X Y o)) × NodeMoves who w o.state
Alike w X Y who (Err fault) r = r ≡ Err fault

alike_client : (w : WorldState) (X : List ClientState) (Y : List VoterState) (c : ℕ) → length X ≡ length w.clients → (r : Result client.Outcome ClientFault)
    → Alike w X Y (OneClient c) (after_client w c r) (after_client (with_nodes w X Y) c r)
alike_client w X Y c long (Ok o) = (
  λ i. Ok (record {
    sent = length o.out;
    seen = o.seen;
    state = record w { clients = client_same w.clients X c o.state long i; voters = Y; sent = w.sent ++ map kinds.ToVoter o.out; visible = w.visible ++ events c o.seen };
  }),
  record { clients = client_same w.clients w.clients c o.state refl; voters = refl },
)
alike_client w X Y c long (Err fault) = refl

alike_draw : (side : Side) (w : WorldState) (X : List ClientState) (Y : List VoterState) (c : ℕ) → length X ≡ length w.clients → (r : Result client.Outcome ClientFault)
    → Alike w X Y (OneClient c) (after_client (draw_of side w c) c r) (after_client (draw_of side (with_nodes w X Y) c) c r)
alike_draw First w X Y c long (Ok o) = by (alike_client (draw_of First w c) X Y c long (Ok o))
  where
    by : Alike (draw_of First w c) X Y (OneClient c) (after_client (draw_of First w c) c (Ok o)) (after_client (with_nodes (draw_of First w c) X Y) c (Ok o))
        → Alike w X Y (OneClient c) (after_client (draw_of First w c) c (Ok o)) (after_client (draw_of First (with_nodes w X Y) c) c (Ok o))
    by h = (h.0, record { clients = h.1.clients; voters = h.1.voters })
alike_draw Second w X Y c long (Ok o) = by (alike_client (draw_of Second w c) X Y c long (Ok o))
  where
    by : Alike (draw_of Second w c) X Y (OneClient c) (after_client (draw_of Second w c) c (Ok o)) (after_client (with_nodes (draw_of Second w c) X Y) c (Ok o))
        → Alike w X Y (OneClient c) (after_client (draw_of Second w c) c (Ok o)) (after_client (draw_of Second (with_nodes w X Y) c) c (Ok o))
    by h = (h.0, record { clients = h.1.clients; voters = h.1.voters })
alike_draw First w X Y c long (Err fault) = refl
alike_draw Second w X Y c long (Err fault) = refl

alike_voter : (w : WorldState) (X : List ClientState) (Y : List VoterState) (v : ℕ) → length Y ≡ length w.voters → (r : Option voter.Outcome)
    → Alike w X Y (OneVoter v) (after_voter w v r) (after_voter (with_nodes w X Y) v r)
alike_voter w X Y v long (Some o) = (
  λ i. Ok (record {
    sent = length o.replies;
    seen = Nothing;
    state = record w { clients = X; voters = voter_same w.voters Y v o.state long i; sent = w.sent ++ map kinds.ToClient o.replies };
  }),
  record { clients = refl; voters = voter_same w.voters w.voters v o.state refl },
)
alike_voter w X Y v long None = refl

alike_exchange : (w : WorldState) (X : List ClientState) (Y : List VoterState) (two : Bool) (side : Side) → Alike w X Y Nobody (exchange two side w) (exchange two side (with_nodes w X Y))
alike_exchange w X Y true First = (refl, record { clients = refl; voters = refl })
alike_exchange w X Y true Second = refl
alike_exchange w X Y false side = refl

if_client_alike : (w : WorldState) (X : List ClientState) (Y : List VoterState) (who : Node) (t : Bool) (c : ℕ) (r s : Result Outcome WorldFault) → Alike w X Y who r s
    → Alike w X Y who (if_client t c r) (if_client t c s)
if_client_alike w X Y who true c r s h = h
if_client_alike w X Y who false c r s h = refl

if_voter_alike : (w : WorldState) (X : List ClientState) (Y : List VoterState) (who : Node) (t : Bool) (v : ℕ) (r s : Result Outcome WorldFault) → Alike w X Y who r s
    → Alike w X Y who (if_voter t v r) (if_voter t v s)
if_voter_alike w X Y who true v r s h = h
if_voter_alike w X Y who false v r s h = refl

-- what a client makes of a cause, in both worlds
alike_act : (w : WorldState) (X : List ClientState) (Y : List VoterState) (c : ℕ) (cause : client.Cause) → length X ≡ length w.clients → client_at X c ≡ client_at w.clients c
    → Alike w X Y (OneClient c) (after_client w c (client.step (client_at w.clients c) cause)) (after_client (with_nodes w X Y) c (client.step (client_at X c) cause))
alike_act w X Y c cause long same =
    subst (λ (x : ClientState). Alike w X Y (OneClient c) (after_client w c (client.step (client_at w.clients c) cause)) (after_client (with_nodes w X Y) c (client.step x cause))) (sym same)
    (alike_client w X Y c long (client.step (client_at w.clients c) cause))

-- the next ticket is the same one
next_same : (side : Side) (w : WorldState) (X : List ClientState) (Y : List VoterState) → ticket_of side (with_nodes w X Y) ≡ ticket_of side w
next_same First w X Y = refl
next_same Second w X Y = refl

alike_ask : (w : WorldState) (X : List ClientState) (Y : List VoterState) (c : ℕ) (q r : List ℕ) → r ≡ q → length X ≡ length w.clients → client_at X c ≡ client_at w.clients c
    → Alike w X Y (OneClient c) (after_client (draw_of w.side w c) c (client.step (client_at w.clients c) (client.Asks q)))
    (after_client (draw_of w.side (with_nodes w X Y) c) c (client.step (client_at X c) (client.Asks r)))
alike_ask w X Y c q r asked long same =
    subst (λ (l : List ℕ). Alike w X Y (OneClient c) (after_client (draw_of w.side w c) c (client.step (client_at w.clients c) (client.Asks q)))
    (after_client (draw_of w.side (with_nodes w X Y) c) c (client.step (client_at X c) (client.Asks l)))) (sym asked)
    (subst (λ (x : ClientState). Alike w X Y (OneClient c) (after_client (draw_of w.side w c) c (client.step (client_at w.clients c) (client.Asks q)))
    (after_client (draw_of w.side (with_nodes w X Y) c) c (client.step x (client.Asks q)))) (sym same)
    (alike_draw w.side w X Y c long (client.step (client_at w.clients c) (client.Asks q))))

alike_say_client : (w : WorldState) (X : List ClientState) (Y : List VoterState) (c : ℕ) → client_at X c ≡ client_at w.clients c
    → Alike w X Y (OneClient c) (Ok (say w (map kinds.ToVoter (client.remind (client_at w.clients c))))) (Ok (say (with_nodes w X Y) (map kinds.ToVoter (client.remind (client_at X c)))))
alike_say_client w X Y c same =
    let back : X ≡ set X c (client_at w.clients c) = sym (client_back X c) ∙ ap (λ x. set X c x) same in
    let own = sym (client_back w.clients c) in
    let more = map kinds.ToVoter (client.remind (client_at w.clients c)) in (
      ap (λ (x : ClientState). Ok (say (with_nodes w X Y) (map kinds.ToVoter (client.remind x)))) same
          ∙ ap (λ (l : List ClientState). Ok (record { sent = length more; seen = Nothing; state = record w { clients = l; voters = Y; sent = w.sent ++ more } })) back,
      record { clients = own; voters = refl },
    )

alike_say_voter : (w : WorldState) (X : List ClientState) (Y : List VoterState) (v : ℕ) → voter_at Y v ≡ voter_at w.voters v
    → Alike w X Y (OneVoter v) (Ok (say w (map kinds.ToClient (voter.remind (voter_at w.voters v))))) (Ok (say (with_nodes w X Y) (map kinds.ToClient (voter.remind (voter_at Y v)))))
alike_say_voter w X Y v same =
    let back : Y ≡ set Y v (voter_at w.voters v) = sym (voter_back Y v) ∙ ap (λ y. set Y v y) same in
    let own = sym (voter_back w.voters v) in
    let more = map kinds.ToClient (voter.remind (voter_at w.voters v)) in (
      ap (λ (y : VoterState). Ok (say (with_nodes w X Y) (map kinds.ToClient (voter.remind y)))) same
          ∙ ap (λ (l : List VoterState). Ok (record { sent = length more; seen = Nothing; state = record w { clients = X; voters = l; sent = w.sent ++ more } })) back,
      record { clients = refl; voters = own },
    )

alike_come : (w : WorldState) (X : List ClientState) (Y : List VoterState) (k : ℕ) (o : Option Message) → length X ≡ length w.clients → length Y ≡ length w.voters
    → Agrees (receiver o) w X Y → Alike w X Y (receiver o) (come w k o) (come (with_nodes w X Y) k o)
alike_come w X Y k None long_x long_y same = refl
alike_come w X Y k (Some (kinds.ToVoter m)) long_x long_y same =
    subst (λ (y : VoterState). Alike w X Y (OneVoter m.voter) (after_voter w m.voter (voter.step (voter_at w.voters m.voter) m)) (after_voter (with_nodes w X Y) m.voter (voter.step y m))) (sym same)
    (alike_voter w X Y m.voter long_y (voter.step (voter_at w.voters m.voter) m))
alike_come w X Y k (Some (kinds.ToClient m)) long_x long_y same = alike_act w X Y m.client (client.Takes m) long_x same

-- the same test of a number, in both worlds
as_long : (n m c : ℕ) (who : Node) (w : WorldState) (X : List ClientState) (Y : List VoterState) (r s : Result Outcome WorldFault) → m ≡ n
    → Alike w X Y who (if_client (nat_lt c n) c r) (if_client (nat_lt c n) c s) → Alike w X Y who (if_client (nat_lt c n) c r) (if_client (nat_lt c m) c s)
as_long n m c who w X Y r s same h = subst (λ k. Alike w X Y who (if_client (nat_lt c n) c r) (if_client (nat_lt c k) c s)) (sym same) h

as_many : (n m v : ℕ) (who : Node) (w : WorldState) (X : List ClientState) (Y : List VoterState) (r s : Result Outcome WorldFault) → m ≡ n
    → Alike w X Y who (if_voter (nat_lt v n) v r) (if_voter (nat_lt v n) v s) → Alike w X Y who (if_voter (nat_lt v n) v r) (if_voter (nat_lt v m) v s)
as_many n m v who w X Y r s same h = subst (λ k. Alike w X Y who (if_voter (nat_lt v n) v r) (if_voter (nat_lt v k) v s)) (sym same) h

alike : (deal : Dealing) (w : WorldState) (X : List ClientState) (Y : List VoterState) (st : Step) → length X ≡ length w.clients → length Y ≡ length w.voters
    → Agrees (maker w st) w X Y → Alike w X Y (maker w st) (step deal w st) (step deal (with_nodes w X Y) st)
unfolding step
alike deal w X Y (Ask c) long_x long_y same =
    as_long _ _ c (OneClient c) w X Y _ _ long_x (if_client_alike w X Y (OneClient c) _ c _ _ (alike_ask w X Y c (quorum_dealt deal w.side (next_ticket w)) (quorum_dealt deal w.side (next_ticket (with_nodes w X Y)))
    (ap (quorum_dealt deal w.side) (next_same w.side w X Y)) long_x same))
alike deal w X Y (Deliver k) long_x long_y same = alike_come w X Y k (slice_get w.sent k) long_x long_y same
alike deal w X Y (Leave c) long_x long_y same =
    as_long _ _ c (OneClient c) w X Y _ _ long_x (if_client_alike w X Y (OneClient c) _ c _ _ (alike_act w X Y c client.Leaves long_x same))
alike deal w X Y (GiveUp c) long_x long_y same =
    as_long _ _ c (OneClient c) w X Y _ _ long_x (if_client_alike w X Y (OneClient c) _ c _ _ (alike_act w X Y c client.GivesUp long_x same))
alike deal w X Y (RemindClient c) long_x long_y same =
    as_long _ _ c (OneClient c) w X Y _ _ long_x (if_client_alike w X Y (OneClient c) (nat_lt c (length w.clients)) c (Ok (say w (map kinds.ToVoter (client.remind (client_at w.clients c)))))
    (Ok (say (with_nodes w X Y) (map kinds.ToVoter (client.remind (client_at X c))))) (alike_say_client w X Y c same))
alike deal w X Y (RemindVoter v) long_x long_y same =
    as_many _ _ v (OneVoter v) w X Y _ _ long_y (if_voter_alike w X Y (OneVoter v) (nat_lt v (length w.voters)) v (Ok (say w (map kinds.ToClient (voter.remind (voter_at w.voters v)))))
    (Ok (say (with_nodes w X Y) (map kinds.ToClient (voter.remind (voter_at Y v))))) (alike_say_voter w X Y v same))
alike deal w X Y Exchange long_x long_y same = alike_exchange w X Y (is_some deal.second) w.side

-- ---- a silent step changes nobody but its maker

abbrev IsRest : WorldState → WorldState → Type 0
IsRest w u = u ≡ with_nodes w u.clients u.voters

-- unless nobody makes it
abbrev RestsUnless : Node → WorldState → Result Outcome WorldFault → Type 0
RestsUnless Nobody w r = Unit {0}
RestsUnless (OneClient c) w (Ok o) = is_silent o.sent o.seen ≡ true → IsRest w o.state
RestsUnless (OneClient c) w (Err fault) = Unit {0}
RestsUnless (OneVoter v) w (Ok o) = is_silent o.sent o.seen ≡ true → IsRest w o.state
RestsUnless (OneVoter v) w (Err fault) = Unit {0}

rest_by : (w : WorldState) (X : List ClientState) (Y : List VoterState) (sent : List Message) (c : ℕ) (seen : Seen) → w.sent ≡ sent → seen ≡ Nothing
    → ◌≡◌ {A = WorldState} (record w { clients = X; voters = Y; sent = sent; visible = w.visible ++ events c seen }) (with_nodes w X Y)
rest_by w X Y sent c seen same none = λ i. record w {
  clients = X;
  voters = Y;
  sent = sym same i;
  visible = (ap (λ (s : Seen). w.visible ++ events c s) none ∙ append-nil w.visible) i;
}

rests_client : (w : WorldState) (c : ℕ) (r : Result client.Outcome ClientFault) → RestsUnless (OneClient c) w (after_client w c r)
rests_client w c (Ok o) = λ silent.
    let parts = silent_parts (length o.out) o.seen silent in
    rest_by w (slice_set w.clients c o.state) w.voters (w.sent ++ map kinds.ToVoter o.out) c o.seen (none_of kinds.ToVoter w.sent o.out parts.0) parts.1
rests_client w c (Err fault) = tt

rests_voter : (w : WorldState) (v : ℕ) (r : Option voter.Outcome) → RestsUnless (OneVoter v) w (after_voter w v r)
rests_voter w v (Some o) = λ silent.
    let parts = silent_parts (length o.replies) Nothing silent in
    ap (λ (l : List Message). record w { voters = slice_set w.voters v o.state; sent = l }) (sym (none_of kinds.ToClient w.sent o.replies parts.0))
rests_voter w v None = tt

rests_say : (w : WorldState) (more : List Message) → is_silent (length more) Nothing ≡ true → IsRest w (say w more).state
rests_say w more silent = ap (λ (l : List Message). record w { sent = l }) (sym (nothing_more w.sent more (silent_parts (length more) Nothing silent).0))

-- whoever asks sends something
abbrev out_len : Result client.Outcome ClientFault → ℕ
out_len (Ok o) = length o.out
out_len (Err fault) = 1

loud_unless : (fault : Option ClientFault) (x : ClientState) (q : List ℕ) → 1 ≤ length q → 1 ≤ out_len (client.unless fault (client.send_requests x q))
loud_unless (Some f) x q some = omega arith
loud_unless None x q some = subst (λ (n : ℕ). 1 ≤ n) (sym (length-map q (λ v. client.tell (client.begin_request x q) v (asks.Request (x.clock + 1))))) some

asks_loud : (x : ClientState) (q : List ℕ) (o : client.Outcome) → 1 ≤ length q → client.step x (client.Asks q) ≡ Ok o → 1 ≤ length o.out
unfolding client.step client.ask
asks_loud x q o some is = subst (λ r. 1 ≤ out_len r) is (loud_unless (client.ask_fault x) x q some)

rests_ask : (side : Side) (w : WorldState) (c : ℕ) (q : List ℕ) (r : Result client.Outcome ClientFault) → 1 ≤ length q → client.step (client_at w.clients c) (client.Asks q) ≡ r
    → RestsUnless (OneClient c) w (after_client (draw_of side w c) c r)
rests_ask side w c q (Ok o) some is = λ silent.
    let parts = silent_parts (length o.out) o.seen silent in
    let none = parts.0 in
    let loud = asks_loud (client_at w.clients c) q o some is in
    absurd (omega arith)
rests_ask side w c q (Err fault) some is = tt

if_client_rests : (w : WorldState) (c : ℕ) (t : Bool) (r : Result Outcome WorldFault) → RestsUnless (OneClient c) w r → RestsUnless (OneClient c) w (if_client t c r)
if_client_rests w c true r h = h
if_client_rests w c false r h = tt

if_voter_rests : (w : WorldState) (v : ℕ) (t : Bool) (r : Result Outcome WorldFault) → RestsUnless (OneVoter v) w r → RestsUnless (OneVoter v) w (if_voter t v r)
if_voter_rests w v true r h = h
if_voter_rests w v false r h = tt

rests_come : (w : WorldState) (k : ℕ) (o : Option Message) → RestsUnless (receiver o) w (come w k o)
rests_come w k None = tt
rests_come w k (Some (kinds.ToVoter m)) = rests_voter w m.voter (voter.step (voter_at w.voters m.voter) m)
rests_come w k (Some (kinds.ToClient m)) = rests_client w m.client (client.step (client_at w.clients m.client) (client.Takes m))

-- each ticket stands for a quorum of somebody
abbrev AsksSomebody : Dealing → Type 0
AsksSomebody deal = (side : Side) (ticket : ℕ) → 1 ≤ length (quorum_dealt deal side ticket)

by_client : (w : WorldState) (c : ℕ) (cause : client.Cause) → RestsUnless (OneClient c) w (if_client (nat_lt c (length w.clients)) c (after_client w c (client.step (client_at w.clients c) cause)))
by_client w c cause =
    let r = client.step (client_at w.clients c) cause in
    if_client_rests w c (nat_lt c (length w.clients)) (after_client w c r) (rests_client w c r)

rests : (deal : Dealing) (w : WorldState) (st : Step) → AsksSomebody deal → RestsUnless (maker w st) w (step deal w st)
unfolding step
rests deal w (Ask c) some =
    let q = quorum_dealt deal w.side (next_ticket w) in
    let r = client.step (client_at w.clients c) (client.Asks q) in
    if_client_rests w c (nat_lt c (length w.clients)) (after_client (draw_of w.side w c) c r) (rests_ask w.side w c q r (some w.side (next_ticket w)) refl)
rests deal w (Deliver k) some = rests_come w k (slice_get w.sent k)
rests deal w (Leave c) some = by_client w c client.Leaves
rests deal w (GiveUp c) some = by_client w c client.GivesUp
rests deal w (RemindClient c) some =
    let more = map kinds.ToVoter (client.remind (client_at w.clients c)) in
    if_client_rests w c (nat_lt c (length w.clients)) (Ok (say w more)) (rests_say w more)
rests deal w (RemindVoter v) some =
    let more = map kinds.ToClient (voter.remind (voter_at w.voters v)) in
    if_voter_rests w v (nat_lt v (length w.voters)) (Ok (say w more)) (rests_say w more)
rests deal w Exchange some = tt

-- ---- the maker of a step that is taken is one of the world

abbrev Within : Node → WorldState → Type 0
Within (OneClient c) w = c < length w.clients
Within (OneVoter v) w = v < length w.voters
Within Nobody w = Unit {0}

within_client : (t : Bool) (c n : ℕ) (r : Result Outcome WorldFault) (o : Outcome) → nat_lt c n ≡ t → if_client t c r ≡ Ok o → c < n
within_client true c n r o test is = ltb-true c n test
within_client false c n r o test is = absurd cc

within_voter : (t : Bool) (v n : ℕ) (r : Result Outcome WorldFault) (o : Outcome) → nat_lt v n ≡ t → if_voter t v r ≡ Ok o → v < n
within_voter true v n r o test is = ltb-true v n test
within_voter false v n r o test is = absurd cc

within_come : (w : WorldState) (k : ℕ) (m : Option Message) (o : Outcome) → ((x : Message) → m ≡ Some x → IsAddressed w x) → come w k m ≡ Ok o → Within (receiver m) w
within_come w k None o known is = tt
within_come w k (Some (kinds.ToVoter m)) o known is = (known (kinds.ToVoter m) refl).1
within_come w k (Some (kinds.ToClient m)) o known is = (known (kinds.ToClient m) refl).0

within_step : (deal : Dealing) (w : WorldState) (st : Step) (o : Outcome) → IsNumbered w → step deal w st ≡ Ok o → Within (maker w st) w
unfolding step
within_step deal w (Ask c) o ok is = within_client _ c (length w.clients) _ o refl is
within_step deal w (Deliver k) o ok is = within_come w k (slice_get w.sent k) o (λ m there. AllByRecursion-get (IsAddressed w) w.sent k m ok.messages there) is
within_step deal w (Leave c) o ok is = within_client _ c (length w.clients) _ o refl is
within_step deal w (GiveUp c) o ok is = within_client _ c (length w.clients) _ o refl is
within_step deal w (RemindClient c) o ok is = within_client _ c (length w.clients) _ o refl is
within_step deal w (RemindVoter v) o ok is = within_voter _ v (length w.voters) _ o refl is
within_step deal w Exchange o ok is = tt

-- ---- a step that is taken

led_after : (deal : Dealing) (first w : WorldState) → IsLed deal first w → (st : Step) (o : Outcome) → step deal w st ≡ Ok o → IsLed deal first o.state
led_after deal first w led st o is = (
  led.0 ++ st ∷ [],
  sym (ap (λ r. after w r) is) ∙ ap (λ (v : WorldState). after v (step deal v st)) led.1 ∙ sym (run_then deal led.0 (st ∷ []) first),
)

-- what is known of a step that is taken
record Taken (deal : Dealing) (first : WorldState) (s : Saved) (st : Step) (who : Node) (o : Outcome) : Type 0 where
  ok : EachMixIsLed deal first s
  within : Within who s.live
  goes : (X : List ClientState) (Y : List VoterState) → length X ≡ length s.live.clients → length Y ≡ length s.live.voters → Agrees who s.live X Y
      → Alike s.live X Y who (Ok o) (step deal (with_nodes s.live X Y) st)
  quiet : RestsUnless who s.live (Ok o)
  moves : NodeMoves who s.live o.state

-- a client as it is after its step, and the others mixed
client_led : (deal : Dealing) (first : WorldState) (s : Saved) (st : Step) (c : ℕ) (o : Outcome) → Taken deal first s st (OneClient c) o
    → (X : List ClientState) (Y : List VoterState) → length X ≡ length s.live.clients → length Y ≡ length s.live.voters → client_at X c ≡ client_at o.state.clients c
    → MixBut c (client_at s.live.clients) (client_at s.clients) (client_at X) → Mix (voter_at s.live.voters) (voter_at s.voters) (voter_at Y) → IsLed deal first (with_nodes o.state X Y)
client_led deal first s st c o t X Y long_x long_y here others mix =
    let w = s.live in
    let L = client_at w.clients in
    let Z = set X c (L c) in
    let below : c < length w.clients = t.within in
    let within : c < length X = omega arith in
    let long_z : length Z ≡ length w.clients = length-set X c (L c) ∙ long_x in
    let led = t.ok.mixes Z Y (record {
      many_clients = long_z;
      many_voters = long_y;
      each_client = subst (λ (f : ℕ → ClientState). Mix L (client_at s.clients) f) (sym (client_at-set X c (L c) within)) (Mix-back L (client_at s.clients) (client_at X) c others);
      each_voter = mix;
    }) in
    let goes = t.goes Z Y long_z long_y (client_here X c (L c) within) in
    let back : set Z c (client_at o.state.clients c) ≡ X = set-set X c (L c) (client_at o.state.clients c) ∙ ap (λ x. set X c x) (sym here) ∙ client_back X c in
    subst (λ (l : List ClientState). IsLed deal first (with_nodes o.state l Y)) back (led_after deal first (with_nodes w Z Y) led st (moved (OneClient c) Z Y o) goes.0)

voter_led : (deal : Dealing) (first : WorldState) (s : Saved) (st : Step) (v : ℕ) (o : Outcome) → Taken deal first s st (OneVoter v) o
    → (X : List ClientState) (Y : List VoterState) → length X ≡ length s.live.clients → length Y ≡ length s.live.voters → voter_at Y v ≡ voter_at o.state.voters v
    → Mix (client_at s.live.clients) (client_at s.clients) (client_at X) → MixBut v (voter_at s.live.voters) (voter_at s.voters) (voter_at Y) → IsLed deal first (with_nodes o.state X Y)
voter_led deal first s st v o t X Y long_x long_y here mix others =
    let w = s.live in
    let M = voter_at w.voters in
    let Z = set Y v (M v) in
    let below : v < length w.voters = t.within in
    let within : v < length Y = omega arith in
    let long_z : length Z ≡ length w.voters = length-set Y v (M v) ∙ long_y in
    let led = t.ok.mixes X Z (record {
      many_clients = long_x;
      many_voters = long_z;
      each_client = mix;
      each_voter = subst (λ (f : ℕ → VoterState). Mix M (voter_at s.voters) f) (sym (voter_at-set Y v (M v) within)) (Mix-back M (voter_at s.voters) (voter_at Y) v others);
    }) in
    let goes = t.goes X Z long_x long_z (voter_here Y v (M v) within) in
    let back : set Z v (voter_at o.state.voters v) ≡ Y = set-set Y v (M v) (voter_at o.state.voters v) ∙ ap (λ y. set Y v y) (sym here) ∙ voter_back Y v in
    subst (λ (l : List VoterState). IsLed deal first (with_nodes o.state X l)) back (led_after deal first (with_nodes w X Z) led st (moved (OneVoter v) X Z o) goes.0)

-- a world that is as it was but for clients and voters
still_led : (deal : Dealing) (first w u : WorldState) (X : List ClientState) (Y : List VoterState) → IsRest w u → IsLed deal first (with_nodes w X Y) → IsLed deal first (with_nodes u X Y)
still_led deal first w u X Y rest led = subst (λ (z : WorldState). IsLed deal first z) (sym (ap (λ (z : WorldState). with_nodes z X Y) rest)) led

nobody_led : (deal : Dealing) (first : WorldState) (s : Saved) (st : Step) (o : Outcome) → Taken deal first s st Nobody o → EachMixIsLed deal first (record s { live = o.state })
nobody_led deal first s st o t = record {
  clients = t.ok.clients ∙ sym (ap (λ (l : List ClientState). length l) t.moves.clients);
  voters = t.ok.voters ∙ sym (ap (λ (l : List VoterState). length l) t.moves.voters);
  mixes = λ X Y mixed.
      let long_x : length X ≡ length s.live.clients = mixed.many_clients ∙ ap (λ (l : List ClientState). length l) t.moves.clients in
      let long_y : length Y ≡ length s.live.voters = mixed.many_voters ∙ ap (λ (l : List VoterState). length l) t.moves.voters in
      let led = t.ok.mixes X Y (record {
        many_clients = long_x;
        many_voters = long_y;
        each_client = subst (λ (l : List ClientState). Mix (client_at l) (client_at s.clients) (client_at X)) t.moves.clients mixed.each_client;
        each_voter = subst (λ (l : List VoterState). Mix (voter_at l) (voter_at s.voters) (voter_at Y)) t.moves.voters mixed.each_voter;
      }) in
      led_after deal first (with_nodes s.live X Y) led st (moved Nobody X Y o) (t.goes X Y long_x long_y tt).0;
}

taken : (deal : Dealing) (first : WorldState) (s : Saved) (st : Step) (who : Node) (o : Outcome) → Taken deal first s st who o → (silent : Bool) → is_silent o.sent o.seen ≡ silent
    → EachMixIsLed deal first (save_unless silent who (record s { live = o.state }))
taken deal first s st Nobody o t true is = nobody_led deal first s st o t
taken deal first s st Nobody o t false is = nobody_led deal first s st o t
taken deal first s st (OneClient c) o t false is =
    let L = client_at s.live.clients in
    let K = client_at s.clients in
    let x = client_at o.state.clients c in
    let below : c < length s.live.clients = t.within in
    let long : length o.state.clients ≡ length s.live.clients = ap (λ (l : List ClientState). length l) t.moves.clients ∙ length-set s.live.clients c x in
    let same = t.ok.clients in
    let within_saved : c < length s.clients = omega arith in
    let now : client_at o.state.clients ≡ put L c x = ap client_at t.moves.clients ∙ client_at-set s.live.clients c x t.within in
    let kept : client_at (slice_set s.clients c x) ≡ put K c x = client_at-set s.clients c x within_saved in
    record {
      clients = length-set s.clients c x ∙ t.ok.clients ∙ sym long;
      voters = t.ok.voters ∙ sym (ap (λ (l : List VoterState). length l) t.moves.voters);
      mixes = λ X Y mixed.
          let mix = subst (λ (f : ℕ → ClientState). Mix (put L c x) f (client_at X)) kept
          (subst (λ (f : ℕ → ClientState). Mix f (client_at (slice_set s.clients c x)) (client_at X)) now mixed.each_client) in
          client_led deal first s st c o t X Y (mixed.many_clients ∙ long) (mixed.many_voters ∙ ap (λ (l : List VoterState). length l) t.moves.voters)
          (put-both L K (client_at X) c x mix) (MixBut-put L K (client_at X) c x x mix)
          (subst (λ (l : List VoterState). Mix (voter_at l) (voter_at s.voters) (voter_at Y)) t.moves.voters mixed.each_voter);
    }
taken deal first s st (OneClient c) o t true is =
    let L = client_at s.live.clients in
    let K = client_at s.clients in
    let x = client_at o.state.clients c in
    let long : length o.state.clients ≡ length s.live.clients = ap (λ (l : List ClientState). length l) t.moves.clients ∙ length-set s.live.clients c x in
    let now : client_at o.state.clients ≡ put L c x = ap client_at t.moves.clients ∙ client_at-set s.live.clients c x t.within in
    record {
      clients = t.ok.clients ∙ sym long;
      voters = t.ok.voters ∙ sym (ap (λ (l : List VoterState). length l) t.moves.voters);
      mixes = λ X Y mixed.
          let mix = subst (λ (f : ℕ → ClientState). Mix f K (client_at X)) now mixed.each_client in
          let others = MixBut-put_left L K (client_at X) c x mix in
          let long_x = mixed.many_clients ∙ long in
          let long_y = mixed.many_voters ∙ ap (λ (l : List VoterState). length l) t.moves.voters in
          let voters = subst (λ (l : List VoterState). Mix (voter_at l) (voter_at s.voters) (voter_at Y)) t.moves.voters mixed.each_voter in
          elim (mix c) [
            | inl e ↦ client_led deal first s st c o t X Y long_x long_y (e ∙ put-same L c x) others voters
            | inr e ↦ still_led deal first s.live o.state X Y (t.quiet is)
                (t.ok.mixes X Y (record { many_clients = long_x; many_voters = long_y; each_client = Mix-with L K (client_at X) c others (inr e); each_voter = voters }))
          ];
    }
taken deal first s st (OneVoter v) o t false is =
    let M = voter_at s.live.voters in
    let N = voter_at s.voters in
    let y = voter_at o.state.voters v in
    let below : v < length s.live.voters = t.within in
    let long : length o.state.voters ≡ length s.live.voters = ap (λ (l : List VoterState). length l) t.moves.voters ∙ length-set s.live.voters v y in
    let same = t.ok.voters in
    let within_saved : v < length s.voters = omega arith in
    let now : voter_at o.state.voters ≡ put M v y = ap voter_at t.moves.voters ∙ voter_at-set s.live.voters v y t.within in
    let kept : voter_at (slice_set s.voters v y) ≡ put N v y = voter_at-set s.voters v y within_saved in
    record {
      clients = t.ok.clients ∙ sym (ap (λ (l : List ClientState). length l) t.moves.clients);
      voters = length-set s.voters v y ∙ t.ok.voters ∙ sym long;
      mixes = λ X Y mixed.
          let mix = subst (λ (f : ℕ → VoterState). Mix (put M v y) f (voter_at Y)) kept
          (subst (λ (f : ℕ → VoterState). Mix f (voter_at (slice_set s.voters v y)) (voter_at Y)) now mixed.each_voter) in
          voter_led deal first s st v o t X Y (mixed.many_clients ∙ ap (λ (l : List ClientState). length l) t.moves.clients) (mixed.many_voters ∙ long)
          (put-both M N (voter_at Y) v y mix)
          (subst (λ (l : List ClientState). Mix (client_at l) (client_at s.clients) (client_at X)) t.moves.clients mixed.each_client)
          (MixBut-put M N (voter_at Y) v y y mix);
    }
taken deal first s st (OneVoter v) o t true is =
    let M = voter_at s.live.voters in
    let N = voter_at s.voters in
    let y = voter_at o.state.voters v in
    let long : length o.state.voters ≡ length s.live.voters = ap (λ (l : List VoterState). length l) t.moves.voters ∙ length-set s.live.voters v y in
    let now : voter_at o.state.voters ≡ put M v y = ap voter_at t.moves.voters ∙ voter_at-set s.live.voters v y t.within in
    record {
      clients = t.ok.clients ∙ sym (ap (λ (l : List ClientState). length l) t.moves.clients);
      voters = t.ok.voters ∙ sym long;
      mixes = λ X Y mixed.
          let mix = subst (λ (f : ℕ → VoterState). Mix f N (voter_at Y)) now mixed.each_voter in
          let others = MixBut-put_left M N (voter_at Y) v y mix in
          let long_x = mixed.many_clients ∙ ap (λ (l : List ClientState). length l) t.moves.clients in
          let long_y = mixed.many_voters ∙ long in
          let clients = subst (λ (l : List ClientState). Mix (client_at l) (client_at s.clients) (client_at X)) t.moves.clients mixed.each_client in
          elim (mix v) [
            | inl e ↦ voter_led deal first s st v o t X Y long_x long_y (e ∙ put-same M v y) clients others
            | inr e ↦ still_led deal first s.live o.state X Y (t.quiet is)
                (t.ok.mixes X Y (record { many_clients = long_x; many_voters = long_y; each_client = clients; each_voter = Mix-with M N (voter_at Y) v others (inr e) }))
          ];
    }

-- ---- all that may happen without a loss

-- the live world is one of the mixes
pub live_led : (deal : Dealing) (first : WorldState) (s : Saved) → EachMixIsLed deal first s → IsLed deal first s.live
live_led deal first s ok = ok.mixes s.live.clients s.live.voters (record { many_clients = refl; many_voters = refl; each_client = λ n. inl refl; each_voter = λ n. inl refl })

agrees_self : (who : Node) (w : WorldState) → Agrees who w w.clients w.voters
agrees_self (OneClient c) w = refl
agrees_self (OneVoter v) w = refl
agrees_self Nobody w = tt

lengths_by : (who : Node) (w u : WorldState) → NodeMoves who w u → (length u.clients ≡ length w.clients) × (length u.voters ≡ length w.voters)
lengths_by (OneClient c) w u m = (
  ap (λ (l : List ClientState). length l) m.clients ∙ length-set w.clients c (client_at u.clients c),
  ap (λ (l : List VoterState). length l) m.voters,
)
lengths_by (OneVoter v) w u m = (
  ap (λ (l : List ClientState). length l) m.clients,
  ap (λ (l : List VoterState). length l) m.voters ∙ length-set w.voters v (voter_at u.voters v),
)
lengths_by Nobody w u m = (ap (λ (l : List ClientState). length l) m.clients, ap (λ (l : List VoterState). length l) m.voters)

-- a step leaves as many clients and voters
pub same_lengths : (deal : Dealing) (w : WorldState) (st : Step) (o : Outcome) → step deal w st ≡ Ok o
    → (length o.state.clients ≡ length w.clients) × (length o.state.voters ≡ length w.voters)
same_lengths deal w st o is =
    lengths_by (maker w st) w o.state
    (subst (λ r. Alike w w.clients w.voters (maker w st) r (step deal (with_nodes w w.clients w.voters) st)) is (alike deal w w.clients w.voters st refl refl (agrees_self (maker w st) w))).1

asks_somebody : (b : Bounds) → RunPremises b → (deal : Dealing) → DealsFrom b.quorums deal → AsksSomebody deal
asks_somebody b given deal deals side ticket = (accepts_among b given.meet (quorum_dealt deal side ticket) (deals side ticket)).1

goes_led : (b : Bounds) → RunPremises b → (deal : Dealing) → DealsFrom b.quorums deal → (s : Saved) → EachMixIsLed deal (start b.voters b.clients b.limit) s → (st : Step)
    → (r : Result Outcome WorldFault) → step deal s.live st ≡ r → EachMixIsLed deal (start b.voters b.clients b.limit) (save_and_send s (maker s.live st) r)
goes_led b given deal deals s ok st (Err fault) is = ok
goes_led b given deal deals s ok st (Ok o) is =
    let w = s.live in
    let first = start b.voters b.clients b.limit in
    let led = live_led deal first s ok in
    let numbered : IsNumbered w = numbered_by b given w (subst (λ (u : WorldState). RunOk b u) (sym led.1) (run_ok b given deal deals led.0)) in
    let same : (X : List ClientState) (Y : List VoterState) → length X ≡ length w.clients → length Y ≡ length w.voters → Agrees (maker w st) w X Y
    → Alike w X Y (maker w st) (Ok o) (step deal (with_nodes w X Y) st) =
    λ X Y long_x long_y agrees. subst (λ r. Alike w X Y (maker w st) r (step deal (with_nodes w X Y) st)) is (alike deal w X Y st long_x long_y agrees) in
    taken deal first s st (maker w st) o
    (record {
      ok = ok;
      within = within_step deal w st o numbered is;
      goes = same;
      quiet = subst (λ r. RestsUnless (maker w st) w r) is (rests deal w st (asks_somebody b given deal deals));
      moves = (same w.clients w.voters refl refl (agrees_self (maker w st) w)).1;
    }) _ refl

saves_led : (deal : Dealing) (first : WorldState) (who : Node) (s : Saved) → EachMixIsLed deal first s → EachMixIsLed deal first (save who s)
saves_led deal first Nobody s ok = ok
saves_led deal first (OneClient c) s ok = elim (within_or s.clients c) [
  | inl within ↦
      let L = client_at s.live.clients in
      let K = client_at s.clients in
      record {
        clients = length-set s.clients c (L c) ∙ ok.clients;
        voters = ok.voters;
        mixes = λ X Y mixed. ok.mixes X Y (record {
          many_clients = mixed.many_clients;
          many_voters = mixed.many_voters;
          each_client = Mix-saved L K c (client_at X) (subst (λ (f : ℕ → ClientState). Mix L f (client_at X)) (client_at-set s.clients c (L c) within) mixed.each_client);
          each_voter = mixed.each_voter;
        });
      }
  | inr past ↦ subst (λ (l : List ClientState). EachMixIsLed deal first (record s { clients = l })) (sym (set_past s.clients c (client_at s.live.clients c) past)) ok
]
saves_led deal first (OneVoter v) s ok = elim (within_or s.voters v) [
  | inl within ↦
      let M = voter_at s.live.voters in
      let N = voter_at s.voters in
      record {
        clients = ok.clients;
        voters = length-set s.voters v (M v) ∙ ok.voters;
        mixes = λ X Y mixed. ok.mixes X Y (record {
          many_clients = mixed.many_clients;
          many_voters = mixed.many_voters;
          each_client = mixed.each_client;
          each_voter = Mix-saved M N v (voter_at Y) (subst (λ (f : ℕ → VoterState). Mix M f (voter_at Y)) (voter_at-set s.voters v (M v) within) mixed.each_voter);
        });
      }
  | inr past ↦ subst (λ (l : List VoterState). EachMixIsLed deal first (record s { voters = l })) (sym (set_past s.voters v (voter_at s.live.voters v) past)) ok
]

no_crash : (a b : Bool) → a ≡ b → crash_seen a b ≡ Nothing
no_crash true true e = refl
no_crash true false e = absurd (false≢true (sym e))
no_crash false true e = absurd (false≢true e)
no_crash false false e = refl

-- a client is inside as it was saved, if and only if it is inside
pub same_inside : (b : Bounds) → RunPremises b → (deal : Dealing) → DealsFrom b.quorums deal → (s : Saved) → EachMixIsLed deal (start b.voters b.clients b.limit) s → (c : ℕ) → c < length s.live.clients
    → is_inside (client_at s.live.clients c).phase ≡ is_inside (client_at s.clients c).phase
same_inside b given deal deals s ok c within =
    let w = s.live in
    let first = start b.voters b.clients b.limit in
    let L = client_at w.clients in
    let K = client_at s.clients in
    let Z = set w.clients c (K c) in
    let led = live_led deal first s ok in
    let back = ok.mixes Z w.voters (record {
      many_clients = length-set w.clients c (K c);
      many_voters = refl;
      each_client = subst (λ (f : ℕ → ClientState). Mix L K f) (sym (client_at-set w.clients c (K c) within)) (Mix-restarted L K c (put L c (K c)) (λ n. inl refl));
      each_voter = λ n. inl refl;
    }) in
    let here = subst (λ (u : WorldState). RunOk b u) (sym led.1) (run_ok b given deal deals led.0) in
    let there = subst (λ (u : WorldState). RunOk b u) (sym back.1) (run_ok b given deal deals back.0) in
    here.walked.inside c ∙ sym (there.walked.inside c) ∙ ap (λ (x : ClientState). is_inside x.phase) (client_here w.clients c (K c) within)

-- a client that restarts is not seen
pub unseen : (b : Bounds) → RunPremises b → (deal : Dealing) → DealsFrom b.quorums deal → (s : Saved) → EachMixIsLed deal (start b.voters b.clients b.limit) s → (c : ℕ) → c < length s.live.clients
    → s.live.visible ++ events c (crash_seen (is_inside (client_at s.live.clients c).phase) (is_inside (client_at s.clients c).phase)) ≡ s.live.visible
unseen b given deal deals s ok c within =
    ap (λ (seen : Seen). s.live.visible ++ events c seen) (no_crash _ _ (same_inside b given deal deals s ok c within)) ∙ append-nil s.live.visible

restarts_led : (b : Bounds) → RunPremises b → (deal : Dealing) → DealsFrom b.quorums deal → (who : Node) (s : Saved) → EachMixIsLed deal (start b.voters b.clients b.limit) s
    → EachMixIsLed deal (start b.voters b.clients b.limit) (restart who s)
restarts_led b given deal deals Nobody s ok = ok
restarts_led b given deal deals (OneVoter v) s ok = elim (within_or s.live.voters v) [
  | inl within ↦
      let M = voter_at s.live.voters in
      let N = voter_at s.voters in
      record {
        clients = ok.clients;
        voters = ok.voters ∙ sym (length-set s.live.voters v (N v));
        mixes = λ X Y mixed. ok.mixes X Y (record {
          many_clients = mixed.many_clients;
          many_voters = mixed.many_voters ∙ length-set s.live.voters v (N v);
          each_client = mixed.each_client;
          each_voter = Mix-restarted M N v (voter_at Y) (subst (λ (f : ℕ → VoterState). Mix f N (voter_at Y)) (voter_at-set s.live.voters v (N v) within) mixed.each_voter);
        });
      }
  | inr past ↦
      subst (λ (l : List VoterState). EachMixIsLed deal (start b.voters b.clients b.limit) (record s { live = record s.live { voters = l } })) (sym (set_past s.live.voters v (voter_at s.voters v) past)) ok
]
restarts_led b given deal deals (OneClient c) s ok = by (nat_lt c (length s.live.clients)) refl
  where
    by : (t : Bool) → nat_lt c (length s.live.clients) ≡ t
        → EachMixIsLed deal (start b.voters b.clients b.limit) (if_there t (come_back s c (client_at s.clients c)) s)
    by true test =
        let within = ltb-true c (length s.live.clients) test in
        let L = client_at s.live.clients in
        let K = client_at s.clients in
        record {
          clients = ok.clients ∙ sym (length-set s.live.clients c (K c));
          voters = ok.voters;
          mixes = λ X Y mixed.
              let led = ok.mixes X Y (record {
                many_clients = mixed.many_clients ∙ length-set s.live.clients c (K c);
                many_voters = mixed.many_voters;
                each_client = Mix-restarted L K c (client_at X) (subst (λ (f : ℕ → ClientState). Mix f K (client_at X)) (client_at-set s.live.clients c (K c) within) mixed.each_client);
                each_voter = mixed.each_voter;
              }) in
              subst (λ (l : List Event). IsLed deal (start b.voters b.clients b.limit) (record s.live { clients = X; voters = Y; visible = l })) (sym (unseen b given deal deals s ok c within)) led;
        }
    by false test = ok

pub happens_led : (b : Bounds) → RunPremises b → (deal : Dealing) → DealsFrom b.quorums deal → (s : Saved) → EachMixIsLed deal (start b.voters b.clients b.limit) s → (h : Happening) → LosesNothing h
    → EachMixIsLed deal (start b.voters b.clients b.limit) (happens deal s h)
happens_led b given deal deals s ok (Goes st) nothing = goes_led b given deal deals s ok st (step deal s.live st) refl
happens_led b given deal deals s ok (Saves who) nothing = saves_led deal (start b.voters b.clients b.limit) who s ok
happens_led b given deal deals s ok (Forgets who) nothing = absurd nothing
happens_led b given deal deals s ok (Restarts who) nothing = restarts_led b given deal deals who s ok

pub all_led : (b : Bounds) → RunPremises b → (deal : Dealing) → DealsFrom b.quorums deal → (hs : List Happening) → LoseNothing hs → (s : Saved) → EachMixIsLed deal (start b.voters b.clients b.limit) s
    → EachMixIsLed deal (start b.voters b.clients b.limit) (all_happen deal hs s)
all_led b given deal deals [] nothing s ok = ok
all_led b given deal deals (h ∷ hs) nothing s ok = all_led b given deal deals hs nothing.1 (happens deal s h) (happens_led b given deal deals s ok h nothing.0)

-- ---- the first world

pub same_clients : (xs ys : List ClientState) → length xs ≡ length ys → Mix (client_at ys) (client_at ys) (client_at xs) → xs ≡ ys
unfolding client_at
same_clients xs ys long mix = ext_get_or (client.start 0 1) xs ys long (λ n within. elim (mix n) [ inl e ↦ e | inr e ↦ e ])

pub same_voters : (xs ys : List VoterState) → length xs ≡ length ys → Mix (voter_at ys) (voter_at ys) (voter_at xs) → xs ≡ ys
unfolding voter_at
same_voters xs ys long mix = ext_get_or (voter.start 0 1) xs ys long (λ n within. elim (mix n) [ inl e ↦ e | inr e ↦ e ])

pub begin_led : (deal : Dealing) (voters clients limit : ℕ) → EachMixIsLed deal (start voters clients limit) (begin voters clients limit)
begin_led deal voters clients limit = record {
  clients = refl;
  voters = refl;
  mixes = λ X Y mixed.
      let w = start voters clients limit in
      let first : IsLed deal w w = ([], refl) in
      subst (λ (u : WorldState). IsLed deal w u)
      (λ i. with_nodes w (sym (same_clients X w.clients mixed.many_clients mixed.each_client) i) (sym (same_voters Y w.voters mixed.many_voters mixed.each_voter) i)) first;
}

-- over every list of happenings in which no saved state is lost
pub every_world_is_led : ClientLaws → VoterLaws → (voters clients limit : ℕ) (quorums : List (List ℕ)) (deal : Dealing) (hs : List Happening)
    → AreLimits voters clients limit → DoMeet voters quorums → DealsFrom quorums deal → LoseNothing hs → IsLed deal (start voters clients limit) (all_happen deal hs (begin voters clients limit)).live
every_world_is_led cs vs voters clients limit quorums deal hs limits meets deals nothing =
    let b : Bounds = record { voters = voters; clients = clients; limit = limit; quorums = quorums } in
    let given : RunPremises b = record { client = cs; voter = vs; limits = limits; meet = meets } in
    live_led deal (start voters clients limit) (all_happen deal hs (begin voters clients limit))
    (all_led b given deal deals hs nothing (begin voters clients limit) (begin_led deal voters clients limit))
