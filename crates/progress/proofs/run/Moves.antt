-- what one step of a world changes
use Rattle.std.proofs.Common.{◌≡◌, ◌≢◌, ℕ, ◌<◌, Bool, true, false, List, [], ◌∷◌, ◌++◌, map, length, set, Option, Some, None, Result, Ok, Err, refl, sym, ap, subst, ◌∙◌, ◌⊎◌, inl, inr}
use Rattle.std.specs.Prelude.{nat_lt, slice_get}
use Rattle.std.specs.List.{AllByRecursion}
use Rattle.std.proofs.lemmas.List.{append-nil, length-set}
use Rattle.std.proofs.lemmas.Bool.{cases_eq, ltb-true}
use Rattle.message.specs.declared.message.Message.{Message}
use Rattle.message.specs.declared.message.Message.TheVariants as kinds
use Rattle.message.specs.declared.message.ToVoter.{ToVoter}
use Rattle.voter.specs.declared.state.VoterState.{VoterState}
use Rattle.voter.specs.Steps as voter
use Rattle.requester.specs.declared.fault.ClientFault.{ClientFault}
use Rattle.requester.specs.declared.state.ClientState.{ClientState}
use Rattle.requester.specs.Steps as requester
use Rattle.quorum_set.specs.declared.bridge.Side.{Side}
use Rattle.quorum_set.specs.declared.bridge.Side.TheVariants.{First, Second}
use Rattle.world_state.specs.declared.fault.WorldFault.{WorldFault}
use Rattle.world_state.specs.declared.step.Step.{Step}
use Rattle.world_state.specs.declared.step.Step.TheVariants.{Ask, Deliver, Leave, GiveUp, RemindClient, RemindVoter, Exchange}
use Rattle.world.specs.Coherence.{IsCoherent}
use Rattle.world_state.specs.Numbered.{IsAddressed, IsNumbered}
use Rattle.world.specs.Runs.{IsReached, after, run_of}
use Rattle.world_state.specs.Steps.{Dealing, Outcome, Planned, WorldState, after_client, after_voter, client_at, come, dealing_of, draw_of, events, exchange, if_client, if_voter}
use Rattle.world_state.specs.Steps.{next_ticket, quorum_dealt, say, step, voter_at}
use Rattle.numbers.proofs.Lists.{AllByRecursion-get}
pub use Rattle.world.proofs.Places.{client_here, client_others, voter_here, voter_others}
use Rattle.world.proofs.Plans.{IsReached-after as reached_after}

-- what came is a message that was sent to this client
abbrev pub Came : WorldState → ℕ → requester.Cause → Type 0
Came w c (requester.Asks quorum) = Unit {0}
Came w c (requester.Takes m) = (m.client ≡ c) × (k : ℕ) × (slice_get w.sent k ≡ Some (kinds.ToClient m))
Came w c requester.Leaves = Unit {0}
Came w c requester.GivesUp = Unit {0}

-- one client took a step
pub record ClientMoved (w u : WorldState) : Type 0 where
  pub who : ℕ
  pub cause : requester.Cause
  pub outcome : requester.Outcome
  pub within : who < length w.clients
  pub step : requester.step (client_at w.clients who) cause ≡ Ok outcome
  pub came : Came w who cause
  pub here : client_at u.clients who ≡ outcome.state
  pub others : (q : ℕ) → q ≢ who → client_at u.clients q ≡ client_at w.clients q
  pub count : length u.clients ≡ length w.clients
  pub voters : u.voters ≡ w.voters
  pub sent : u.sent ≡ w.sent ++ map kinds.ToVoter outcome.out
  pub visible : u.visible ≡ w.visible ++ events who outcome.seen

-- one voter took a message
pub record VoterMoved (w u : WorldState) : Type 0 where
  pub message : ToVoter
  pub outcome : voter.Outcome
  pub place : ℕ
  pub came : slice_get w.sent place ≡ Some (kinds.ToVoter message)
  pub step : voter.step (voter_at w.voters message.voter) message ≡ Some outcome
  pub here : voter_at u.voters message.voter ≡ outcome.state
  pub others : (q : ℕ) → q ≢ message.voter → voter_at u.voters q ≡ voter_at w.voters q
  pub count : length u.voters ≡ length w.voters
  pub clients : u.clients ≡ w.clients
  pub sent : u.sent ≡ w.sent ++ map kinds.ToClient outcome.replies
  pub visible : u.visible ≡ w.visible

-- no message, or the reminder of a client
abbrev pub AreReminders : WorldState → List ToVoter → Type 0
AreReminders w out = (out ≡ []) ⊎ ((c : ℕ) × (c < length w.clients) × (out ≡ requester.remind (client_at w.clients c)))

-- no message, the reminder of a client, or the reminder of a voter
abbrev pub IsReminder : WorldState → List Message → Type 0
IsReminder w more =
    ((out : List ToVoter) × (more ≡ map kinds.ToVoter out) × AreReminders w out) ⊎ ((v : ℕ) × (v < length w.voters) × (more ≡ map kinds.ToClient (voter.remind (voter_at w.voters v))))

-- messages were sent, perhaps none, and nothing else changed
pub record OnlySent (w u : WorldState) : Type 0 where
  pub more : List Message
  pub reminder : IsReminder w more
  pub clients : u.clients ≡ w.clients
  pub voters : u.voters ≡ w.voters
  pub sent : u.sent ≡ w.sent ++ more
  pub visible : u.visible ≡ w.visible

abbrev pub Moved : WorldState → WorldState → Type 0
Moved w u = ClientMoved w u ⊎ VoterMoved w u ⊎ OnlySent w u

-- the step that gives its client this cause
abbrev pub Makes : Step → ℕ → requester.Cause → Type 0
Makes s c (requester.Asks quorum) = s ≡ Ask c
Makes s c (requester.Takes m) = Unit {0}
Makes s c requester.Leaves = s ≡ Leave c
Makes s c requester.GivesUp = s ≡ GiveUp c

-- what this step changes
abbrev pub MovedBy : Step → WorldState → WorldState → Type 0
MovedBy s w u = ((k : ClientMoved w u) × Makes s k.who k.cause) ⊎ ((k : VoterMoved w u) × (s ≡ Deliver k.place)) ⊎ OnlySent w u

Moved-self : (s : Step) (w u : WorldState) → u.clients ≡ w.clients → u.voters ≡ w.voters → u.sent ≡ w.sent → u.visible ≡ w.visible → MovedBy s w u
Moved-self s w u clients voters sent visible =
    inr (inr (record { more = []; reminder = inl ([], refl, inl refl); clients = clients; voters = voters; sent = sent ∙ sym (append-nil w.sent); visible = visible }))

-- a client's step, and what became of the world
pub client_made : (w : WorldState) (c : ℕ) (cause : requester.Cause) → c < length w.clients → Came w c cause → (o : requester.Outcome) → requester.step (client_at w.clients c) cause ≡ Ok o
    → (u : WorldState) → u.clients ≡ set w.clients c o.state → u.voters ≡ w.voters → u.sent ≡ w.sent ++ map kinds.ToVoter o.out → u.visible ≡ w.visible ++ events c o.seen
    → (k : ClientMoved w u) × (k.who ≡ c)
client_made w c cause within came o is u clients voters sent visible = (
  record {
    who = c;
    cause = cause;
    outcome = o;
    within = within;
    step = is;
    came = came;
    here = ap (λ (cs : List ClientState). client_at cs c) clients ∙ client_here w.clients c o.state within;
    others = λ q other. ap (λ (cs : List ClientState). client_at cs q) clients ∙ client_others w.clients c o.state q other;
    count = ap length clients ∙ length-set w.clients c o.state;
    voters = voters;
    sent = sent;
    visible = visible;
  },
  refl,
)

client_moved : (s : Step) (w : WorldState) (c : ℕ) (cause : requester.Cause) → Makes s c cause → c < length w.clients → Came w c cause → (o : requester.Outcome)
    → requester.step (client_at w.clients c) cause ≡ Ok o
    → (u : WorldState) → u.clients ≡ set w.clients c o.state → u.voters ≡ w.voters → u.sent ≡ w.sent ++ map kinds.ToVoter o.out → u.visible ≡ w.visible ++ events c o.seen → MovedBy s w u
unfolding client_made
client_moved s w c cause makes within came o is u clients voters sent visible = inl ((client_made w c cause within came o is u clients voters sent visible).0, makes)

Moved-after_client : (s : Step) (w : WorldState) (c : ℕ) (cause : requester.Cause) → Makes s c cause → c < length w.clients → Came w c cause
    → (r : Result requester.Outcome ClientFault) → requester.step (client_at w.clients c) cause ≡ r → MovedBy s w (after w (after_client w c r))
Moved-after_client s w c cause makes within came (Ok o) is = client_moved s w c cause makes within came o is (after w (after_client w c (Ok o))) refl refl refl refl
Moved-after_client s w c cause makes within came (Err fault) is = Moved-self s w w refl refl refl refl

Moved-after_draw : (s : Step) (side : Side) (w : WorldState) (c : ℕ) (cause : requester.Cause) → Makes s c cause → c < length w.clients → Came w c cause
    → (r : Result requester.Outcome ClientFault) → requester.step (client_at w.clients c) cause ≡ r → MovedBy s w (after w (after_client (draw_of side w c) c r))
Moved-after_draw s First w c cause makes within came (Ok o) is =
    client_moved s w c cause makes within came o is (after w (after_client (draw_of First w c) c (Ok o))) refl refl refl refl
Moved-after_draw s Second w c cause makes within came (Ok o) is =
    client_moved s w c cause makes within came o is (after w (after_client (draw_of Second w c) c (Ok o))) refl refl refl refl
Moved-after_draw s side w c cause makes within came (Err fault) is = Moved-self s w w refl refl refl refl

pub voter_made : (w : WorldState) (m : ToVoter) (k : ℕ) → slice_get w.sent k ≡ Some (kinds.ToVoter m) → m.voter < length w.voters → (o : voter.Outcome)
    → voter.step (voter_at w.voters m.voter) m ≡ Some o → (r : VoterMoved w (after w (after_voter w m.voter (Some o)))) × (r.message.voter ≡ m.voter)
voter_made w m k came within o is = (
  record {
    message = m;
    outcome = o;
    place = k;
    came = came;
    step = is;
    here = voter_here w.voters m.voter o.state within;
    others = voter_others w.voters m.voter o.state;
    count = length-set w.voters m.voter o.state;
    clients = refl;
    sent = refl;
    visible = refl;
  },
  refl,
)

Moved-after_voter : (w : WorldState) (m : ToVoter) (k : ℕ) → slice_get w.sent k ≡ Some (kinds.ToVoter m) → m.voter < length w.voters
    → (r : Option voter.Outcome) → voter.step (voter_at w.voters m.voter) m ≡ r → MovedBy (Deliver k) w (after w (after_voter w m.voter r))
unfolding voter_made
Moved-after_voter w m k came within (Some o) is = inr (inl ((voter_made w m k came within o is).0, refl))
Moved-after_voter w m k came within None is = Moved-self (Deliver k) w w refl refl refl refl

Moved-come : (w : WorldState) → IsNumbered w → (k : ℕ) (o : Option Message) → slice_get w.sent k ≡ o → MovedBy (Deliver k) w (after w (come w k o))
Moved-come w ok k None is = Moved-self (Deliver k) w w refl refl refl refl
Moved-come w ok k (Some (kinds.ToVoter m)) is =
    let a = AllByRecursion-get (IsAddressed w) w.sent k (kinds.ToVoter m) ok.messages is in
    Moved-after_voter w m k is a.1 _ refl
Moved-come w ok k (Some (kinds.ToClient m)) is =
    let a = AllByRecursion-get (IsAddressed w) w.sent k (kinds.ToClient m) ok.messages is in
    Moved-after_client (Deliver k) w m.client (requester.Takes m) tt a.0 (refl, k, is) _ refl

if_one : (s : Step) (w : WorldState) (t : Bool) (c : ℕ) (next : Result Outcome WorldFault) → (t ≡ true → MovedBy s w (after w next)) → MovedBy s w (after w (if_client t c next))
if_one s w true c next then = then refl
if_one s w false c next then = Moved-self s w w refl refl refl refl

if_voter_one : (s : Step) (w : WorldState) (t : Bool) (v : ℕ) (next : Result Outcome WorldFault) → (t ≡ true → MovedBy s w (after w next)) → MovedBy s w (after w (if_voter t v next))
if_voter_one s w true v next then = then refl
if_voter_one s w false v next then = Moved-self s w w refl refl refl refl

Moved-exchange : (w : WorldState) (two : Bool) (side : Side) → MovedBy Exchange w (after w (exchange two side w))
Moved-exchange w true First = Moved-self Exchange w _ refl refl refl refl
Moved-exchange w true Second = Moved-self Exchange w w refl refl refl refl
Moved-exchange w false side = Moved-self Exchange w w refl refl refl refl

pub MovedBy-step : (deal : Dealing) (w : WorldState) → IsNumbered w → (s : Step) → MovedBy s w (after w (step deal w s))
unfolding step
MovedBy-step deal w ok (Ask c) =
    if_one (Ask c) w _ c _ (λ t. Moved-after_draw (Ask c) w.side w c (requester.Asks (quorum_dealt deal w.side (next_ticket w))) refl (ltb-true _ _ t) tt _ refl)
MovedBy-step deal w ok (Deliver k) = Moved-come w ok k (slice_get w.sent k) refl
MovedBy-step deal w ok (Leave c) = if_one (Leave c) w _ c _ (λ t. Moved-after_client (Leave c) w c requester.Leaves refl (ltb-true _ _ t) tt _ refl)
MovedBy-step deal w ok (GiveUp c) = if_one (GiveUp c) w _ c _ (λ t. Moved-after_client (GiveUp c) w c requester.GivesUp refl (ltb-true _ _ t) tt _ refl)
MovedBy-step deal w ok (RemindClient c) =
    if_one (RemindClient c) w (nat_lt c (length w.clients)) c (Ok (say w (map kinds.ToVoter (requester.remind (client_at w.clients c))))) (λ t. inr (inr (record {
      more = map kinds.ToVoter (requester.remind (client_at w.clients c));
      reminder = inl (requester.remind (client_at w.clients c), refl, inr (c, ltb-true _ _ t, refl));
      clients = refl;
      voters = refl;
      sent = refl;
      visible = refl;
    })))
MovedBy-step deal w ok (RemindVoter v) =
    if_voter_one (RemindVoter v) w (nat_lt v (length w.voters)) v (Ok (say w (map kinds.ToClient (voter.remind (voter_at w.voters v))))) (λ t. inr (inr (record {
      more = map kinds.ToClient (voter.remind (voter_at w.voters v));
      reminder = inr (v, ltb-true _ _ t, refl);
      clients = refl;
      voters = refl;
      sent = refl;
      visible = refl;
    })))
MovedBy-step deal w ok Exchange = Moved-exchange w _ w.side

pub Moved-by : (s : Step) (w u : WorldState) → MovedBy s w u → Moved w u
Moved-by s w u moved = elim moved [
  | inl client ↦ inl client.0
  | inr (inl voter) ↦ inr (inl voter.0)
  | inr (inr sent) ↦ inr (inr sent)
]

pub Moved-step : (deal : Dealing) (w : WorldState) → IsNumbered w → (s : Step) → Moved w (after w (step deal w s))
Moved-step deal w ok s = Moved-by s w _ (MovedBy-step deal w ok s)

-- what holds here, and of the others as they were, holds of each
pub each_but : {A : Type 0} (P : ℕ → A → Type 0) (X Y : ℕ → A) (v : ℕ) → ((q : ℕ) → q ≢ v → Y q ≡ X q) → P v (Y v) → ((q : ℕ) → P q (X q)) → (q : ℕ) → P q (Y q)
each_but P X Y v others here before q = elim (cases_eq q v) as (λ _. P q (Y q)) [
  | inl same ↦ subst (λ n. P n (Y n)) (sym same) here
  | inr other ↦ subst (P q) (sym (others q other)) (before q)
]

pub each_client : (P : ℕ → ClientState → Type 0) (w u : WorldState) (k : ClientMoved w u) → P k.who (client_at u.clients k.who) → ((c : ℕ) → P c (client_at w.clients c))
    → (c : ℕ) → P c (client_at u.clients c)
each_client P w u k = each_but P (client_at w.clients) (client_at u.clients) k.who k.others

pub each_voter : (P : ℕ → VoterState → Type 0) (w u : WorldState) (k : VoterMoved w u) → P k.message.voter k.outcome.state → ((v : ℕ) → P v (voter_at w.voters v))
    → (v : ℕ) → P v (voter_at u.voters v)
each_voter P w u k here = each_but P (voter_at w.voters) (voter_at u.voters) k.message.voter k.others (subst (P k.message.voter) (sym k.here) here)

-- what holds of each message holds of all that are sent
pub all_sent : {A : Type 0} (P : Message → Type 0) (f : A → Message) → ((m : A) → P (f m)) → (ms : List A) → AllByRecursion P (map f ms)
all_sent P f each [] = tt
all_sent P f each (m ∷ ms) = (each m, all_sent P f each ms)

-- ---- more steps of a world that is reached

-- the same plans, with this world
abbrev pub with_state : Planned → WorldState → Planned
with_state w u = record { plans = w.plans; state = u }

pub IsReached-after : (w : Planned) → IsReached w → (s : Step) → IsReached (with_state w (after w.state (step (dealing_of w.plans) w.state s)))
IsReached-after w r s = reached_after w r s _ refl

pub IsReached-run : (steps : List Step) (w : Planned) → IsReached w → IsReached (with_state w (run_of (dealing_of w.plans) steps w.state))
IsReached-run [] w r = r
IsReached-run (s ∷ steps) w r = IsReached-run steps (with_state w (after w.state (step (dealing_of w.plans) w.state s))) (IsReached-after w r s)

-- ---- what each step keeps

-- the world is coherent, and stays so by any steps
abbrev pub StaysCoherent : Dealing → WorldState → Type 0
StaysCoherent deal u = (steps : List Step) → IsCoherent (run_of deal steps u)

-- what each step keeps holds after any steps
pub kept-by : (P : WorldState → Type 0) → ((u x : WorldState) → IsCoherent u → IsCoherent x → Moved u x → P u → P x)
    → (deal : Dealing) (steps : List Step) (u : WorldState) → StaysCoherent deal u → P u → P (run_of deal steps u)
kept-by P keep deal [] u coherent h = h
kept-by P keep deal (s ∷ steps) u coherent h =
    let ok = coherent [] in
    let x = after u (step deal u s) in
    kept-by P keep deal steps x (λ more. coherent (s ∷ more)) (keep u x ok (coherent (s ∷ [])) (Moved-step deal u ok.numbered s) h)
