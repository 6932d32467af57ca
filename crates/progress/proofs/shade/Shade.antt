-- The shade of a world: in it the clients that are dead are idle, and RELEASEs of who is not live were sent
-- before all else. What moves make of a world, steps make of its shade.
use Rattle.std.proofs.Common.{◌≡◌, ◌≢◌, ℕ, zero, suc, ◌+◌, ◌<◌, ◌≤◌, Bool, true, false, List, [], ◌∷◌, ◌++◌, map, length, Option, Some, None, Result, Ok, Err, set, refl, sym, ap, subst, ◌∙◌, inl, inr, arith, append_assoc}
use Rattle.std.specs.Prelude.{nat_lt, is_some, slice_get, if◌then◌else◌}
use Rattle.std.specs.List.{AllByRecursion}
use Rattle.std.proofs.lemmas.Bool.{cases_eq, cases_lt, false≢true, false_from_ne_true}
use Rattle.std.proofs.lemmas.List.{get_or_past, length-set, set_past}
use Rattle.std.proofs.lemmas.Option.{none-some}
use Rattle.numbers.proofs.Lists.{AllByRecursion-append}
use Rattle.message.specs.declared.message.Message.{Message}
use Rattle.message.specs.declared.message.Message.TheVariants as kinds
use Rattle.message.specs.declared.message.VoterBody.TheVariants as asks
use Rattle.voter.specs.declared.state.Grant.{Grant}
use Rattle.voter.specs.declared.state.VoterState.{VoterState}
use Rattle.voter.specs.Steps as voter
use Rattle.requester.specs.declared.fault.ClientFault.{ClientFault}
use Rattle.requester.specs.declared.state.ClientState.{ClientState}
use Rattle.requester.specs.Steps as requester
use Rattle.requester.specs.Words.{is_idle}
use Rattle.quorum_set.specs.declared.bridge.Side.{Side}
use Rattle.quorum_set.specs.declared.bridge.Side.TheVariants.{First, Second}
use Rattle.world_state.specs.declared.fault.WorldFault.{WorldFault}
use Rattle.world_state.specs.declared.step.Event.{Event}
use Rattle.world_state.specs.declared.step.Step.{Step}
use Rattle.world_state.specs.declared.step.Step.TheVariants.{Ask, Deliver, Leave, GiveUp, RemindClient, RemindVoter, Exchange}
use Rattle.world.specs.Coherence.{IsCoherent}
use Rattle.world.specs.Restarts.{OneClient, maker, receiver}
use Rattle.world.specs.Runs.{after, run_of}
use Rattle.world_state.specs.Steps.{Dealing, Outcome, WorldState, act, after_client, after_voter, client_at, client_did, come, draw_of, events, exchange, if_client, if_voter, quorum_dealt, say, step, ticket_of, vote, voter_at, voter_did}
use Rattle.world.proofs.Places.{client_here, client_others}
use Rattle.world.proofs.Plans.{run_then}
use Rattle.progress.specs.LiveRounds.{Live, SparesIn}
use Rattle.progress.specs.Moves.{EachMove, Goes, IsNotBy, LetsGo, Move, let_go, move, moved, release_of}
use Rattle.progress.proofs.invariants.Sure.{Course, IsSure, IsSure-run}

-- ---- lists

pub get_after : {A : Type 0} (xs ys : List A) (i : ℕ) → slice_get (xs ++ ys) (length xs + i) ≡ slice_get ys i
get_after [] ys i = ap (slice_get ys) (let e : 0 + i ≡ i = omega arith in e)
get_after (x ∷ xs) ys i = ap (slice_get (x ∷ (xs ++ ys))) (let e : length (x ∷ xs) + i ≡ suc (length xs + i) = omega arith in e) ∙ get_after xs ys i

pub get_before : {A : Type 0} (xs ys : List A) (i : ℕ) (x : A) → slice_get xs i ≡ Some x → slice_get (xs ++ ys) i ≡ Some x
get_before [] ys i x is = absurd (none-some x is)
get_before (y ∷ xs) ys zero x is = is
get_before (y ∷ xs) ys (suc i) x is = get_before xs ys i x is

-- the lists of the numbers below n, one after the other
all_below : {A : Type 0} → (ℕ → List A) → ℕ → List A
all_below f zero = []
all_below f (suc n) = all_below f n ++ f n

get_below : {A : Type 0} (f : ℕ → List A) (n k i : ℕ) (x : A) → k < n → slice_get (f k) i ≡ Some x → slice_get (all_below f n) (length (all_below f k) + i) ≡ Some x
unfolding all_below
get_below f zero k i x less is = absurd (omega arith)
get_below f (suc n) k i x less is = elim (cases_eq k n) [
  | inl same ↦ subst (λ j. slice_get (all_below f n ++ f n) (length (all_below f j) + i) ≡ Some x) (sym same) (get_after (all_below f n) (f n) i ∙ subst (λ j. slice_get (f j) i ≡ Some x) same is)
  | inr other ↦ get_before (all_below f n) (f n) (length (all_below f k) + i) x (get_below f n k i x (omega arith) is)
]

each_below : {A : Type 0} (P : A → Type 0) (f : ℕ → List A) (n : ℕ) → ((k : ℕ) → k < n → AllByRecursion P (f k)) → AllByRecursion P (all_below f n)
unfolding all_below
each_below P f zero h = tt
each_below P f (suc n) h = AllByRecursion-append P (all_below f n) (f n) (each_below P f n (λ k less. h k (omega arith))) (h n (omega arith))

-- ---- RELEASEs that were sent before all else

-- Who is live, who is dead, and the world in which the moves begin. It may be a shade itself: then other messages
-- were sent before all else.
pub record Shading : Type 0 where
  pub live : Live
  pub dead : ℕ → Bool
  pub apart : (c : ℕ) → live.client c ≡ true → dead c ≡ false
  pub first : WorldState
  pub others : List Message

release : ℕ → ℕ → ℕ → Message
release c v t = kinds.ToVoter (record { client = c; voter = v; body = asks.Release t })

by_stamp : ℕ → ℕ → ℕ → List Message
by_stamp c v zero = []
by_stamp c v (suc t) = release c v (suc t) ∷ []

-- those of a client to a voter, of all stamps that it reached
by_voter : Shading → ℕ → ℕ → List Message
by_voter k c v = all_below (by_stamp c v) (suc (client_at k.first.clients c).stamp)

by_client : Shading → ℕ → List Message
by_client k c = if k.live.client c then [] else all_below (by_voter k c) (length k.first.voters)

pub releases : Shading → List Message
releases k = all_below (by_client k) (length k.first.clients)

unfoldable pub extra : Shading → List Message
extra k = releases k ++ k.others

-- the number of one of them
pub place : Shading → ℕ → ℕ → ℕ → ℕ
place k c v t = length (all_below (by_client k) c) + (length (all_below (by_voter k c) v) + (length (all_below (by_stamp c v) t) + 0))

place_is : (k : Shading) (c v t : ℕ) → k.live.client c ≡ false → c < length k.first.clients → v < length k.first.voters → 1 ≤ t → t ≤ (client_at k.first.clients c).stamp
    → slice_get (extra k) (place k c v t) ≡ Some (release c v t)
unfolding extra releases place by_client by_voter by_stamp
place_is k c v zero gone client voter some most = absurd (omega arith)
place_is k c v (suc t) gone client voter some most = get_before (releases k) k.others (place k c v (suc t)) (release c v (suc t)) (
    let stamps = by_stamp c v in
    let voters = by_voter k c in
    let one = get_below stamps (suc (client_at k.first.clients c).stamp) (suc t) 0 (release c v (suc t)) (omega arith) refl in
    let two = get_below voters (length k.first.voters) v (length (all_below stamps (suc t)) + 0) (release c v (suc t)) voter one in
    get_below (by_client k) (length k.first.clients) c (length (all_below voters v) + (length (all_below stamps (suc t)) + 0)) (release c v (suc t)) client
    (subst (λ b. slice_get (if b then [] else all_below voters (length k.first.voters)) (length (all_below voters v) + (length (all_below stamps (suc t)) + 0)) ≡ Some (release c v (suc t))) (sym gone) two))

-- what holds of each such RELEASE
pub each_release : (P : Message → Type 0) (k : Shading)
    → ((c v t : ℕ) → k.live.client c ≡ false → c < length k.first.clients → v < length k.first.voters → 1 ≤ t → t ≤ (client_at k.first.clients c).stamp → P (kinds.ToVoter (record { client = c; voter = v; body = asks.Release t })))
    → AllByRecursion P (releases k)
unfolding releases by_client by_voter by_stamp release
each_release P k h = each_below P (by_client k) (length k.first.clients) (λ c client. by c client (k.live.client c) refl)
  where
    stamps : (c v t : ℕ) → k.live.client c ≡ false → c < length k.first.clients → v < length k.first.voters → t ≤ (client_at k.first.clients c).stamp → AllByRecursion P (by_stamp c v t)
    stamps c v zero gone client voter most = tt
    stamps c v (suc t) gone client voter most = (h c v (suc t) gone client voter (omega arith) most, tt)

    by : (c : ℕ) → c < length k.first.clients → (b : Bool) → k.live.client c ≡ b → AllByRecursion P (if b then [] else all_below (by_voter k c) (length k.first.voters))
    by c client true is = tt
    by c client false is = each_below P (by_voter k c) (length k.first.voters) (λ v voter. each_below P (by_stamp c v) (suc (client_at k.first.clients c).stamp)
        (λ t less. stamps c v t is client voter (omega arith)))

-- ---- shades

-- The world s is a shade of the world w. Before, `a` was seen of w, and `b` of s.
pub record IsShade (k : Shading) (a b : List Event) (w s : WorldState) : Type 0 where
  pub voters : s.voters ≡ w.voters
  pub clients : length s.clients ≡ length w.clients
  pub many_clients : length w.clients ≡ length k.first.clients
  pub many_voters : length w.voters ≡ length k.first.voters
  pub same : (c : ℕ) → k.dead c ≡ false → client_at s.clients c ≡ client_at w.clients c
  pub idle : (c : ℕ) → k.dead c ≡ true → is_idle (client_at s.clients c).phase ≡ true
  pub stamp : (c : ℕ) → k.dead c ≡ true → (client_at s.clients c).stamp ≡ (client_at k.first.clients c).stamp
  pub sent : s.sent ≡ extra k ++ w.sent
  pub draws : s.draws ≡ w.draws
  pub draws2 : s.draws2 ≡ w.draws2
  pub side : s.side ≡ w.side
  pub seen : List Event
  pub real : w.visible ≡ a ++ seen
  pub shown : s.visible ≡ b ++ seen

-- the same client in two lists, after a write of the same
same_set : (cs ds : List ClientState) (c : ℕ) (x : ClientState) (q : ℕ) → length cs ≡ length ds → client_at cs q ≡ client_at ds q → client_at (set cs c x) q ≡ client_at (set ds c x) q
same_set cs ds c x q many same = elim (cases_eq q c) [
  | inr other ↦ client_others cs c x q other ∙ same ∙ sym (client_others ds c x q other)
  | inl here ↦ elim (cases_lt c (length cs)) [
    | inl within ↦ subst (λ i. client_at (set cs c x) i ≡ client_at (set ds c x) i) (sym here) (client_here cs c x within ∙ sym (client_here ds c x (omega arith)))
    | inr past ↦ ap (λ (l : List ClientState). client_at l q) (set_past cs c x (omega arith)) ∙ same ∙ sym (ap (λ (l : List ClientState). client_at l q) (set_past ds c x (omega arith)))
  ]
]

apart_from : (k : Shading) (c d : ℕ) → k.dead c ≡ false → k.dead d ≡ true → d ≢ c
apart_from k c d lives dead same = false≢true (sym lives ∙ ap k.dead (sym same) ∙ dead)

client_shade : (k : Shading) (a b : List Event) (w s : WorldState) → IsShade k a b w s → (c : ℕ) → k.dead c ≡ false → (o : requester.Outcome) → IsShade k a b (client_did w c o).state (client_did s c o).state
client_shade k a b w s h c lives o = record {
  voters = h.voters;
  clients = length-set s.clients c o.state ∙ h.clients ∙ sym (length-set w.clients c o.state);
  many_clients = length-set w.clients c o.state ∙ h.many_clients;
  many_voters = h.many_voters;
  same = λ q alive. same_set s.clients w.clients c o.state q h.clients (h.same q alive);
  idle = λ q dead. subst (λ (x : ClientState). is_idle x.phase ≡ true) (sym (client_others s.clients c o.state q (apart_from k c q lives dead))) (h.idle q dead);
  stamp = λ q dead. ap (λ (x : ClientState). x.stamp) (client_others s.clients c o.state q (apart_from k c q lives dead)) ∙ h.stamp q dead;
  sent = ap (λ l. l ++ map kinds.ToVoter o.out) h.sent ∙ append_assoc (extra k) w.sent (map kinds.ToVoter o.out);
  draws = h.draws;
  draws2 = h.draws2;
  side = h.side;
  seen = h.seen ++ events c o.seen;
  real = ap (λ l. l ++ events c o.seen) h.real ∙ append_assoc a h.seen (events c o.seen);
  shown = ap (λ l. l ++ events c o.seen) h.shown ∙ append_assoc b h.seen (events c o.seen);
}

voter_shade : (k : Shading) (a b : List Event) (w s : WorldState) → IsShade k a b w s → (v : ℕ) (o : voter.Outcome) → IsShade k a b (voter_did w v o).state (voter_did s v o).state
voter_shade k a b w s h v o = record {
  voters = ap (λ (l : List VoterState). set l v o.state) h.voters;
  clients = h.clients;
  many_clients = h.many_clients;
  many_voters = length-set w.voters v o.state ∙ h.many_voters;
  same = h.same;
  idle = h.idle;
  stamp = h.stamp;
  sent = ap (λ l. l ++ map kinds.ToClient o.replies) h.sent ∙ append_assoc (extra k) w.sent (map kinds.ToClient o.replies);
  draws = h.draws;
  draws2 = h.draws2;
  side = h.side;
  seen = h.seen;
  real = h.real;
  shown = h.shown;
}

say_shade : (k : Shading) (a b : List Event) (w s : WorldState) → IsShade k a b w s → (more : List Message) → IsShade k a b (say w more).state (say s more).state
say_shade k a b w s h more = record {
  voters = h.voters;
  clients = h.clients;
  many_clients = h.many_clients;
  many_voters = h.many_voters;
  same = h.same;
  idle = h.idle;
  stamp = h.stamp;
  sent = ap (λ l. l ++ more) h.sent ∙ append_assoc (extra k) w.sent more;
  draws = h.draws;
  draws2 = h.draws2;
  side = h.side;
  seen = h.seen;
  real = h.real;
  shown = h.shown;
}

-- the tickets that were drawn, and the plan in use
drawn_shade : (k : Shading) (a b : List Event) (w s : WorldState) → IsShade k a b w s → (ds es : List (ℕ × ℕ)) (side : Side)
    → IsShade k a b (record w { draws = ds; draws2 = es; side = side }) (record s { draws = ds; draws2 = es; side = side })
drawn_shade k a b w s h ds es side = record {
  voters = h.voters;
  clients = h.clients;
  many_clients = h.many_clients;
  many_voters = h.many_voters;
  same = h.same;
  idle = h.idle;
  stamp = h.stamp;
  sent = h.sent;
  draws = refl;
  draws2 = refl;
  side = refl;
  seen = h.seen;
  real = h.real;
  shown = h.shown;
}

draw_shade : (k : Shading) (a b : List Event) (w s : WorldState) → IsShade k a b w s → (side : Side) (c : ℕ) → IsShade k a b (draw_of side w c) (draw_of side s c)
draw_shade k a b w s h First c = subst (λ (x : WorldState). IsShade k a b (draw_of First w c) x) (λ i. record s { draws = sym h.draws i ++ (c, length (sym h.draws i)) ∷ []; draws2 = sym h.draws2 i; side = sym h.side i })
    (drawn_shade k a b w s h (w.draws ++ (c, length w.draws) ∷ []) w.draws2 w.side)
draw_shade k a b w s h Second c = subst (λ (x : WorldState). IsShade k a b (draw_of Second w c) x) (λ i. record s { draws = sym h.draws i; draws2 = sym h.draws2 i ++ (c, length (sym h.draws2 i)) ∷ []; side = sym h.side i })
    (drawn_shade k a b w s h w.draws (w.draws2 ++ (c, length w.draws2) ∷ []) w.side)

-- ---- one step

-- a client acts, perhaps after it drew a ticket
after_client_shade : (k : Shading) (a b : List Event) (w s x y : WorldState) → IsShade k a b w s → IsShade k a b x y → (c : ℕ) → k.dead c ≡ false → (r : Result requester.Outcome ClientFault)
    → IsShade k a b (after w (after_client x c r)) (after s (after_client y c r))
after_client_shade k a b w s x y h drawn c lives (Ok o) = client_shade k a b x y drawn c lives o
after_client_shade k a b w s x y h drawn c lives (Err fault) = h

after_voter_shade : (k : Shading) (a b : List Event) (w s : WorldState) → IsShade k a b w s → (v : ℕ) (r : Option voter.Outcome) → IsShade k a b (after w (after_voter w v r)) (after s (after_voter s v r))
after_voter_shade k a b w s h v (Some o) = voter_shade k a b w s h v o
after_voter_shade k a b w s h v None = h

-- a step of a client or of a voter, if there is one of this number
if_client_shade : (k : Shading) (a b : List Event) (w s : WorldState) → IsShade k a b w s → (c : ℕ) (x y : Result Outcome WorldFault) → IsShade k a b (after w x) (after s y)
    → IsShade k a b (after w (if_client (nat_lt c (length w.clients)) c x)) (after s (if_client (nat_lt c (length s.clients)) c y))
if_client_shade k a b w s h c x y went = subst (λ n. IsShade k a b (after w (if_client (nat_lt c (length w.clients)) c x)) (after s (if_client (nat_lt c n) c y))) (sym h.clients) (by (nat_lt c (length w.clients)))
  where
    by : (t : Bool) → IsShade k a b (after w (if_client t c x)) (after s (if_client t c y))
    by true = went
    by false = h

if_voter_shade : (k : Shading) (a b : List Event) (w s : WorldState) → IsShade k a b w s → (v : ℕ) (x y : Result Outcome WorldFault) → IsShade k a b (after w x) (after s y)
    → IsShade k a b (after w (if_voter (nat_lt v (length w.voters)) v x)) (after s (if_voter (nat_lt v (length s.voters)) v y))
if_voter_shade k a b w s h v x y went = subst (λ (vs : List VoterState). IsShade k a b (after w (if_voter (nat_lt v (length w.voters)) v x)) (after s (if_voter (nat_lt v (length vs)) v y))) (sym h.voters) (by (nat_lt v (length w.voters)))
  where
    by : (t : Bool) → IsShade k a b (after w (if_voter t v x)) (after s (if_voter t v y))
    by true = went
    by false = h

act_shade : (k : Shading) (a b : List Event) (w s : WorldState) → IsShade k a b w s → (c : ℕ) → k.dead c ≡ false → (cause : requester.Cause) → IsShade k a b (after w (act w c cause)) (after s (act s c cause))
act_shade k a b w s h c lives cause = subst (λ (z : ClientState). IsShade k a b (after w (act w c cause)) (after s (after_client s c (requester.step z cause)))) (sym (h.same c lives))
    (after_client_shade k a b w s w s h h c lives (requester.step (client_at w.clients c) cause))

vote_shade : (k : Shading) (a b : List Event) (w s : WorldState) → IsShade k a b w s → (m : _) → IsShade k a b (after w (vote w m)) (after s (vote s m))
vote_shade k a b w s h m = subst (λ (l : List VoterState). IsShade k a b (after w (vote w m)) (after s (after_voter s m.voter (voter.step (voter_at l m.voter) m)))) (sym h.voters)
    (after_voter_shade k a b w s h m.voter (voter.step (voter_at w.voters m.voter) m))

-- a client that makes the step is not dead
pub not_dead : (k : Shading) (d : ℕ) → ((c : ℕ) → k.dead c ≡ true → OneClient d ≢ OneClient c) → k.dead d ≡ false
not_dead k d others = false_from_ne_true (k.dead d) (λ is. others d is refl)

come_shade : (k : Shading) (a b : List Event) (w s : WorldState) → IsShade k a b w s → (i j : ℕ) (o : Option Message) → ((c : ℕ) → k.dead c ≡ true → receiver o ≢ OneClient c)
    → IsShade k a b (after w (come w i o)) (after s (come s j o))
come_shade k a b w s h i j None others = h
come_shade k a b w s h i j (Some (kinds.ToVoter m)) others = vote_shade k a b w s h m
come_shade k a b w s h i j (Some (kinds.ToClient m)) others = act_shade k a b w s h m.client (not_dead k m.client others) (requester.Takes m)

ticket_same : (k : Shading) (a b : List Event) (w s : WorldState) → IsShade k a b w s → (side : Side) → ticket_of side s ≡ ticket_of side w
ticket_same k a b w s h First = ap length h.draws
ticket_same k a b w s h Second = ap length h.draws2

-- the client draws a ticket of this plan, and asks its quorum
ask_shade : (k : Shading) (a b : List Event) (deal : Dealing) (w s : WorldState) → IsShade k a b w s → (c : ℕ) → k.dead c ≡ false → (side : Side)
    → IsShade k a b (after w (after_client (draw_of side w c) c (requester.step (client_at w.clients c) (requester.Asks (quorum_dealt deal side (ticket_of side w))))))
    (after s (after_client (draw_of side s c) c (requester.step (client_at s.clients c) (requester.Asks (quorum_dealt deal side (ticket_of side s))))))
ask_shade k a b deal w s h c lives side =
    let tried = requester.step (client_at w.clients c) (requester.Asks (quorum_dealt deal side (ticket_of side w))) in
    subst (λ r. IsShade k a b (after w (after_client (draw_of side w c) c tried)) (after s (after_client (draw_of side s c) c r)))
    (λ i. requester.step (sym (h.same c lives) i) (requester.Asks (quorum_dealt deal side (sym (ticket_same k a b w s h side) i))))
    (after_client_shade k a b w s (draw_of side w c) (draw_of side s c) h (draw_shade k a b w s h side c) c lives tried)

exchange_shade : (k : Shading) (a b : List Event) (w s : WorldState) → IsShade k a b w s → (two : Bool) (side : Side) → IsShade k a b (after w (exchange two side w)) (after s (exchange two side s))
exchange_shade k a b w s h true First = subst (λ (x : WorldState). IsShade k a b (record w { side = Second }) x) (λ i. record s { draws = sym h.draws i; draws2 = sym h.draws2 i; side = Second })
    (drawn_shade k a b w s h w.draws w.draws2 Second)
exchange_shade k a b w s h true Second = h
exchange_shade k a b w s h false side = h

-- the same step, with the number that the message has in the shade
unfoldable pub shifted : ℕ → Step → Step
shifted n (Ask c) = Ask c
shifted n (Deliver k) = Deliver (n + k)
shifted n (Leave c) = Leave c
shifted n (GiveUp c) = GiveUp c
shifted n (RemindClient c) = RemindClient c
shifted n (RemindVoter v) = RemindVoter v
shifted n Exchange = Exchange

step_shade : (k : Shading) (a b : List Event) (deal : Dealing) (w s : WorldState) → IsShade k a b w s → (t : Step) → ((c : ℕ) → k.dead c ≡ true → maker w t ≢ OneClient c)
    → IsShade k a b (after w (step deal w t)) (after s (step deal s (shifted (length (extra k)) t)))
unfolding step shifted
step_shade k a b deal w s h (Ask c) others =
    let asks : Side → WorldState → Result Outcome WorldFault = λ side x. after_client (draw_of side x c) c (requester.step (client_at x.clients c) (requester.Asks (quorum_dealt deal side (ticket_of side x)))) in
    subst (λ (side : Side). IsShade k a b (after w (if_client (nat_lt c (length w.clients)) c (asks w.side w))) (after s (if_client (nat_lt c (length s.clients)) c (asks side s)))) (sym h.side)
    (if_client_shade k a b w s h c (asks w.side w) (asks w.side s) (ask_shade k a b deal w s h c (not_dead k c others) w.side))
step_shade k a b deal w s h (Deliver i) others =
    subst (λ (o : Option Message). IsShade k a b (after w (come w i (slice_get w.sent i))) (after s (come s (length (extra k) + i) o))) (sym (ap (λ l. slice_get l (length (extra k) + i)) h.sent ∙ get_after (extra k) w.sent i))
    (come_shade k a b w s h i (length (extra k) + i) (slice_get w.sent i) others)
step_shade k a b deal w s h (Leave c) others = if_client_shade k a b w s h c (act w c requester.Leaves) (act s c requester.Leaves) (act_shade k a b w s h c (not_dead k c others) requester.Leaves)
step_shade k a b deal w s h (GiveUp c) others = if_client_shade k a b w s h c (act w c requester.GivesUp) (act s c requester.GivesUp) (act_shade k a b w s h c (not_dead k c others) requester.GivesUp)
step_shade k a b deal w s h (RemindClient c) others =
    let says : WorldState → ClientState → Result Outcome WorldFault = λ u x. Ok (say u (map kinds.ToVoter (requester.remind x))) in
    if_client_shade k a b w s h c (says w (client_at w.clients c)) (says s (client_at s.clients c))
    (subst (λ (x : ClientState). IsShade k a b (after w (says w (client_at w.clients c))) (after s (says s x))) (sym (h.same c (not_dead k c others)))
    (say_shade k a b w s h (map kinds.ToVoter (requester.remind (client_at w.clients c)))))
step_shade k a b deal w s h (RemindVoter v) others =
    let says : WorldState → VoterState → Result Outcome WorldFault = λ u y. Ok (say u (map kinds.ToClient (voter.remind y))) in
    if_voter_shade k a b w s h v (says w (voter_at w.voters v)) (says s (voter_at s.voters v))
    (subst (λ (vs : List VoterState). IsShade k a b (after w (says w (voter_at w.voters v))) (after s (says s (voter_at vs v)))) (sym h.voters)
    (say_shade k a b w s h (map kinds.ToClient (voter.remind (voter_at w.voters v)))))
step_shade k a b deal w s h Exchange others =
    subst (λ (side : Side). IsShade k a b (after w (exchange (is_some deal.second) w.side w)) (after s (exchange (is_some deal.second) side s))) (sym h.side) (exchange_shade k a b w s h (is_some deal.second) w.side)

-- ---- a voter lets its grant go

-- the arrival of the RELEASE that was sent before, if the voter has a grant
unfoldable pub freed : Shading → ℕ → Option Grant → List Step
freed k v None = []
freed k v (Some g) = Deliver (place k g.client v g.stamp) ∷ []

-- the RELEASE of a grant that is let go was sent before all else
pub freed_is : (k : Shading) (a b : List Event) (w s : WorldState) → IsShade k a b w s → IsCoherent s
    → ((c : ℕ) → k.live.client c ≡ false → (client_at s.clients c).stamp ≡ (client_at k.first.clients c).stamp) → (v : ℕ) (g : Grant) → (voter_at w.voters v).held ≡ Some g
    → k.live.client g.client ≡ false → slice_get (extra k) (place k g.client v g.stamp) ≡ Some (kinds.ToVoter (release_of v g))
unfolding voter_at release
freed_is k a b w s h ok stamps v g is gone =
    let there : (voter_at s.voters v).held ≡ Some g = ap (λ (vs : List VoterState). (voter_at vs v).held) h.voters ∙ is in
    let made = ok.made v g.client g.stamp (inl (g, there, refl, refl)) in
    let client = made.client in
    let many = h.clients in
    let count = h.many_clients in
    let voters = h.many_voters in
    let below : v < length w.voters = elim (cases_lt v (length w.voters)) [
      | inl within ↦ within
      | inr beyond ↦ absurd (none-some g (sym (ap (λ (y : VoterState). y.held) (get_or_past w.voters v (voter.start 0 1) (omega arith))) ∙ is))
    ] in
    let most = made.reached in
    let up_to = stamps g.client gone in
    place_is k g.client v g.stamp gone (omega arith) (omega arith) made.some (omega arith)

free_shade : (k : Shading) (a b : List Event) (deal : Dealing) (w s : WorldState) → IsShade k a b w s → IsCoherent s
    → ((c : ℕ) → k.live.client c ≡ false → (client_at s.clients c).stamp ≡ (client_at k.first.clients c).stamp) → (v : ℕ) (held : Option Grant) → (voter_at w.voters v).held ≡ held
    → ((g : Grant) → held ≡ Some g → k.live.client g.client ≡ false) → IsShade k a b (let_go w v held) (run_of deal (freed k v held) s)
unfolding step freed
free_shade k a b deal w s h ok stamps v None is gone = h
free_shade k a b deal w s h ok stamps v (Some g) is gone =
    let j = place k g.client v g.stamp in
    let here : slice_get s.sent j ≡ Some (kinds.ToVoter (release_of v g)) =
    ap (λ l. slice_get l j) h.sent ∙ get_before (extra k) w.sent j (kinds.ToVoter (release_of v g)) (freed_is k a b w s h ok stamps v g is (gone g refl)) in
    subst (λ o. IsShade k a b (after w (vote w (release_of v g))) (after s (come s j o))) (sym here) (vote_shade k a b w s h (release_of v g))

-- ---- moves

-- the steps that a move is in the shade
unfoldable pub image : Shading → WorldState → Move → List Step
image k w (Goes t) = shifted (length (extra k)) t ∷ []
image k w (LetsGo v) = freed k v (voter_at w.voters v).held

unfoldable pub images : Shading → Dealing → WorldState → List Move → List Step
images k deal w [] = []
images k deal w (m ∷ moves) = image k w m ++ images k deal (move deal w m) moves

-- what is asked of a move: no step of the dead, no new request of others that are not live, and no grant of
-- a live client is let go
pub record Allows (k : Shading) (deal : Dealing) (w : WorldState) (m : Move) : Type 0 where
  pub rests : (c : ℕ) → k.dead c ≡ true → IsNotBy c w m
  pub stays : (c : ℕ) → k.live.client c ≡ false → k.dead c ≡ false → (client_at (move deal w m).clients c).stamp ≡ (client_at w.clients c).stamp
  pub spares : SparesIn k.live w m

-- a world and its shade, at some time after the first move
pub record Shades (k : Shading) (p : Course) (a b : List Event) (w s : WorldState) : Type 0 where
  pub shade : IsShade k a b w s
  pub sure : IsSure p s
  pub stood : (c : ℕ) → k.live.client c ≡ false → k.dead c ≡ false → (client_at w.clients c).stamp ≡ (client_at k.first.clients c).stamp

pub stands : (k : Shading) (p : Course) (a b : List Event) (w s : WorldState) → Shades k p a b w s → (c : ℕ) → k.live.client c ≡ false → (client_at s.clients c).stamp ≡ (client_at k.first.clients c).stamp
stands k p a b w s h c gone = by (k.dead c) refl
  where
    by : (t : Bool) → k.dead c ≡ t → (client_at s.clients c).stamp ≡ (client_at k.first.clients c).stamp
    by true dead = h.shade.stamp c dead
    by false lives = ap (λ (x : ClientState). x.stamp) (h.shade.same c lives) ∙ h.stood c gone lives

move_shade : (k : Shading) (p : Course) (a b : List Event) (w s : WorldState) → Shades k p a b w s → (m : Move) → Allows k p.deal w m → IsShade k a b (move p.deal w m) (run_of p.deal (image k w m) s)
unfolding image
move_shade k p a b w s h (Goes t) allows = step_shade k a b p.deal w s h.shade t allows.rests
move_shade k p a b w s h (LetsGo v) allows =
    free_shade k a b p.deal w s h.shade (h.sure []).coherent (stands k p a b w s h) v (voter_at w.voters v).held refl allows.spares

pub moves_once : (k : Shading) (p : Course) (a b : List Event) (w s : WorldState) → Shades k p a b w s → (m : Move) → Allows k p.deal w m → Shades k p a b (move p.deal w m) (run_of p.deal (image k w m) s)
moves_once k p a b w s h m allows = record {
  shade = move_shade k p a b w s h m allows;
  sure = IsSure-run p (image k w m) s h.sure;
  stood = λ c gone lives. allows.stays c gone lives ∙ h.stood c gone lives;
}

pub moves_on : (k : Shading) (p : Course) (a b : List Event) (moves : List Move) (w s : WorldState) → Shades k p a b w s → EachMove (Allows k p.deal) p.deal w moves
    → Shades k p a b (moved p.deal moves w) (run_of p.deal (images k p.deal w moves) s)
unfolding images
moves_on k p a b [] w s h allow = h
moves_on k p a b (m ∷ moves) w s h allow =
    let y = move p.deal w m in
    subst (λ (t : WorldState). Shades k p a b (moved p.deal moves y) t) (sym (run_then p.deal (image k w m) (images k p.deal y moves) s))
    (moves_on k p a b moves y (run_of p.deal (image k w m) s) (moves_once k p a b w s h m allow.0) allow.1)

-- ---- lists of moves in two parts

pub moved_then : (deal : Dealing) (a b : List Move) (w : WorldState) → moved deal (a ++ b) w ≡ moved deal b (moved deal a w)
moved_then deal [] b w = refl
moved_then deal (m ∷ a) b w = moved_then deal a b (move deal w m)

pub each_split : (P : WorldState → Move → Type 0) (deal : Dealing) (a b : List Move) (w : WorldState) → EachMove P deal w (a ++ b) → EachMove P deal w a × EachMove P deal (moved deal a w) b
each_split P deal [] b w h = (tt, h)
each_split P deal (m ∷ a) b w h = (let rest = each_split P deal a b (move deal w m) h.1 in ((h.0, rest.0), rest.1))

pub images-append : (k : Shading) (deal : Dealing) (a b : List Move) (w : WorldState) → images k deal w (a ++ b) ≡ images k deal w a ++ images k deal (moved deal a w) b
unfolding images
images-append k deal [] b w = refl
images-append k deal (m ∷ a) b w = ap (λ l. image k w m ++ l) (images-append k deal a b (move deal w m)) ∙ sym (append_assoc (image k w m) (images k deal (move deal w m) a) (images k deal (moved deal a (move deal w m)) b))

-- the image of one step
pub images-one : (k : Shading) (deal : Dealing) (w : WorldState) (t : Step) → images k deal w (Goes t ∷ []) ≡ shifted (length (extra k)) t ∷ []
unfolding images image
images-one k deal w t = refl

pub get_shade : (k : Shading) (a b : List Event) (w s : WorldState) → IsShade k a b w s → (i : ℕ) → slice_get s.sent (length (extra k) + i) ≡ slice_get w.sent i
get_shade k a b w s h i = ap (λ l. slice_get l (length (extra k) + i)) h.sent ∙ get_after (extra k) w.sent i
