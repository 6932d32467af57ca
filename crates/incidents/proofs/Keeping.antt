-- whatever befalls a fit world, it is fit
use Rattle.std.proofs.Common.{◌≡◌, ℕ, ◌<◌, ◌≤◌, ◌^◌, List, [], map, length, Ok, sym, subst, ◌∙◌, inl, inr, arith}
use Rattle.std.specs.List.{AllByRecursion}
use Rattle.std.proofs.lemmas.Bool.{cases_lt}
use Rattle.std.proofs.lemmas.Option.{none-some}
use Rattle.std.proofs.lemmas.List.{length-set}
use Rattle.numbers.proofs.Lists.{AllByRecursion-append, AllByRecursion-get, AllByRecursion-weaker}
use Rattle.message.specs.Lines.{AreCounts, HasLine, IsCount}
use Rattle.message.specs.declared.message.ToClient.{ToClient}
use Rattle.message.specs.declared.message.ToVoter.{ToVoter}
use Rattle.message.specs.declared.message.Message.{Message}
use Rattle.message.specs.declared.message.Message.TheVariants as kinds
use Rattle.message.specs.declared.message.ClientBody.{ClientBody}
use Rattle.message.specs.declared.message.ClientBody.TheVariants as to_client
use Rattle.voter.specs.declared.state.VoterState.{VoterState}
use Rattle.voter.specs.Replies.{AllCarry, seen_after}
use Rattle.voter.specs.Saved.{least_voter}
use Rattle.voter.specs.Steps as voter
use Rattle.requester.specs.declared.state.ClientState.{ClientState}
use Rattle.requester.specs.Saved.{least_client}
use Rattle.requester.specs.Steps as client
use Rattle.requester.specs.Words.{held_of}
use Rattle.dealer.specs.Plans.{PlanPair, ArePlans}
use Rattle.world.specs.Ranges.{IsWithin, ReportsWithin}
use Rattle.world_state.specs.Numbered.{IsAddressed, IsNumbered}
use Rattle.world.specs.Restarts.{Saved}
use Rattle.world.specs.Restarts.{begin}
use Rattle.world.specs.Runs.{AreLimits}
use Rattle.world.specs.SavedWorlds.{PlannedSaved, begin_by}
use Rattle.world_state.specs.Steps.{Dealing, WorldState, client_at, dealing_of, voter_at}
use Rattle.world.specs.Visible.{DealsFrom}
use Rattle.world.proofs.Befalling.{Acts, Arrives, IsOfWorld, Keeps, Known, Scene, befalls_keeps, client_turns, scene_of, voter_turns}
use Rattle.world.proofs.Claims.{Bounds}
use Rattle.world.proofs.ClientMoves.{member_below}
use Rattle.world.proofs.Exclusion.{under_grant}
use Rattle.world.proofs.Places.{set_client, set_voter}
use Rattle.world.proofs.Plans.{plans_deal, plans_meet, quorums_of}
use Rattle.world.proofs.Reached.{RunPremises, are_quorums, start_ok, start_unused}
use Rattle.world.proofs.SavedWorlds.{SavedLaws}
use Rattle.world.specs.Incidents.{Incident, anew, befalls, limited, reborn, skipped}
use Rattle.incidents.specs.Calls.{befalls_by}
use Rattle.incidents.specs.Fit.{IsFit, IsFitState, IsWritten}
use Rattle.incidents.proofs.Pieces.{ComesOfWorld, FitClient, FitMessage, FitVoter, MayHear, anew_fit, asks_fit, client_after, comes_in_range, counted_fit, least_client_fit, least_voter_fit, may_hear, reborn_fit, reminders_fit, replies_fit, seen_carried, voter_after}

abbrev pub Fit : Bounds → Saved → Type 0
Fit b s = IsFitState b.voters b.clients b.limit s

-- ---- one client or voter changes

-- the world with these clients, voters and messages
abbrev with_scene : Saved → Scene → Saved
with_scene s w = record s {
  live = record s.live { clients = w.live.clients; voters = w.live.voters; sent = w.live.sent };
  clients = w.clients;
  voters = w.voters;
}

-- it is the same whatever is seen, and whose tickets were drawn
fit_again : (b : Bounds) (s t : Saved) → Fit b (with_scene s (scene_of t)) → Fit b t
fit_again b s t fit = record {
  many_clients = fit.many_clients;
  many_voters = fit.many_voters;
  many_saved_clients = fit.many_saved_clients;
  many_saved_voters = fit.many_saved_voters;
  clients_are = fit.clients_are;
  voters_are = fit.voters_are;
  saved_clients_are = fit.saved_clients_are;
  saved_voters_are = fit.saved_voters_are;
  messages = fit.messages;
}

client_on : (b : Bounds) (s : Saved) → Fit b s → (c : ℕ) (x y : ClientState) (ms : List ToVoter) → FitClient b c x → FitClient b c y → AllByRecursion (FitMessage b) (map kinds.ToVoter ms)
    → Fit b (with_scene s (client_turns (scene_of s) c x y ms))
client_on b s fit c x y ms live saved told = record {
  many_clients = length-set s.live.clients c x ∙ fit.many_clients;
  many_voters = fit.many_voters;
  many_saved_clients = length-set s.clients c y ∙ fit.many_saved_clients;
  many_saved_voters = fit.many_saved_voters;
  clients_are = set_client (λ q a. q < b.clients → FitClient b q a) s.live.clients c x (λ few. live) fit.clients_are;
  voters_are = fit.voters_are;
  saved_clients_are = set_client (λ q a. q < b.clients → FitClient b q a) s.clients c y (λ few. saved) fit.saved_clients_are;
  saved_voters_are = fit.saved_voters_are;
  messages = AllByRecursion-append (FitMessage b) s.live.sent (map kinds.ToVoter ms) fit.messages told;
}

voter_on : (b : Bounds) (s : Saved) → Fit b s → (v : ℕ) (y z : VoterState) (rs : List ToClient) → FitVoter b v y → FitVoter b v z → AllByRecursion (FitMessage b) (map kinds.ToClient rs)
    → Fit b (with_scene s (voter_turns (scene_of s) v y z rs))
voter_on b s fit v y z rs live saved told = record {
  many_clients = fit.many_clients;
  many_voters = length-set s.live.voters v y ∙ fit.many_voters;
  many_saved_clients = fit.many_saved_clients;
  many_saved_voters = length-set s.voters v z ∙ fit.many_saved_voters;
  clients_are = fit.clients_are;
  voters_are = set_voter (λ q a. q < b.voters → FitVoter b q a) s.live.voters v y (λ few. live) fit.voters_are;
  saved_clients_are = fit.saved_clients_are;
  saved_voters_are = set_voter (λ q a. q < b.voters → FitVoter b q a) s.voters v z (λ few. saved) fit.saved_voters_are;
  messages = AllByRecursion-append (FitMessage b) s.live.sent (map kinds.ToClient rs) fit.messages told;
}

-- ---- what comes to clients and voters

message_of : (b : Bounds) (m : Message) → FitMessage b m → IsOfWorld b m
message_of b (kinds.ToVoter m) fit = (fit.0, fit.1)
message_of b (kinds.ToClient m) fit = (fit.0, fit.1)

known_of : (b : Bounds) (s : Saved) → Fit b s → Known b (scene_of s)
known_of b s fit = record {
  sizes = (fit.many_clients, fit.many_voters, fit.many_saved_clients, fit.many_saved_voters);
  ids = λ c within. (fit.clients_are c within).id;
  limits = λ c within. (fit.clients_are c within).limit;
  sent = λ k m at. message_of b m (AllByRecursion-get (FitMessage b) s.live.sent k m fit.messages at);
}

comes_of : (b : Bounds) (s : Saved) → Fit b s → (c : ℕ) (cause : client.Cause) → Acts b (scene_of s) c cause → ComesOfWorld b cause
comes_of b s fit c cause act v t g locks =
    let at = act.came v t g locks in
    let m : ToClient = record { voter = v; client = c; seen = at.1; body = to_client.Locked t g } in
    let is = AllByRecursion-get (FitMessage b) s.live.sent at.0 (kinds.ToClient m) fit.messages at.2 in
    (is.1, is.3.0, is.3.1)

hears_of : (b : Bounds) → RunPremises b → (s : Saved) → Fit b s → (m : ToVoter) → Arrives b (λ n. HasLine (kinds.ToVoter n)) (scene_of s) m → MayHear b m
hears_of b given s fit m arrives = elim arrives.source [
  | inl sent ↦ may_hear b given m (AllByRecursion-get (FitMessage b) s.live.sent sent.0 (kinds.ToVoter m) fit.messages sent.1)
  | inr made ↦ record { client = arrives.client; voter = arrives.voter; asks = made.1; number = made.0.2.1 }
]

-- ---- what befalls

fit_keeps : (b : Bounds) → RunPremises b → (s : Saved) → Fit b s → Keeps b (λ m. HasLine (kinds.ToVoter m)) (scene_of s) (λ w. Fit b (with_scene s w))
fit_keeps b given s fit =
    let X = client_at s.live.clients in
    let K = client_at s.clients in
    let Y = voter_at s.live.voters in
    let Z = voter_at s.voters in
    let after = λ (c : ℕ) (cause : client.Cause) (o : client.Outcome) (act : Acts b (scene_of s) c cause) (is : client.step (X c) cause ≡ Ok o).
    client_after given.client b (are_quorums b given.meet) c (X c) cause o (fit.clients_are c act.within) act.accepts act.draws (comes_of b s fit c cause act) is in
    record {
      known = known_of b s fit;
      stays = fit;
      client_rests = λ c cause o act is seen. client_on b s fit c o.state (K c) [] (after c cause o act is) (fit.saved_clients_are c act.within) tt;
      client_speaks = λ c cause o act is.
          let was = fit.clients_are c act.within in
          let now = after c cause o act is in
          let comes = comes_of b s fit c cause act in
          client_on b s fit c o.state o.state o.out now now
          (asks_fit b c act.within (X c) o.state cause was.id now comes o.out (given.client.meets (X c) cause o was.sound act.accepts is).out
          (given.client.ranges (X c) cause o was.sound act.accepts (comes_in_range b (X c) cause was.limit comes) is));
      client_reminds = λ c within.
          let was = fit.clients_are c within in
          client_on b s fit c (X c) (X c) (client.remind (X c)) was was (reminders_fit b c within (X c) was (client.remind (X c)) (given.client.repeats (X c)) (given.client.reminders (X c) was.sound));
      client_saves = λ c within. client_on b s fit c (X c) (X c) [] (fit.clients_are c within) (fit.clients_are c within) tt;
      client_forgets = λ c within. client_on b s fit c (X c) (least_client (K c)) [] (fit.clients_are c within) (least_client_fit b c (K c) (fit.saved_clients_are c within)) tt;
      client_restarts = λ c within. client_on b s fit c (K c) (K c) [] (fit.saved_clients_are c within) (fit.saved_clients_are c within) tt;
      client_anew = λ c clock within least most.
          let now = anew_fit b given c (X c) clock (fit.clients_are c within) most in
          client_on b s fit c (anew (X c) clock) (anew (X c) clock) [] now now tt;
      voter_rests = λ m o arrives is none.
          voter_on b s fit m.voter o.state (Z m.voter) [] (voter_after given.voter b m.voter (Y m.voter) m o (fit.voters_are m.voter arrives.voter) (hears_of b given s fit m arrives) is) (fit.saved_voters_are m.voter arrives.voter) tt;
      voter_speaks = λ m o arrives is.
          let v = m.voter in
          let y = Y v in
          let was = fit.voters_are v arrives.voter in
          let may = hears_of b given s fit m arrives in
          let now = voter_after given.voter b v y m o was may is in
          voter_on b s fit v o.state o.state o.replies now now
          (replies_fit b v (seen_after y.seen m.body) o.state arrives.voter (seen_carried b v y m was may) now o.replies (given.voter.meets y m o is).heard (given.voter.answers y m o was.sound is).place
          (subst (λ k. AllCarry k (seen_after y.seen m.body) o.replies) was.id (given.voter.carries y m o is).carried));
      voter_reminds = λ v within.
          let y = Y v in
          let was = fit.voters_are v within in
          voter_on b s fit v y y (voter.remind y) was was
          (replies_fit b v y.seen y within was.seen was (voter.remind y) (given.voter.reminds y) (given.voter.places y) (subst (λ k. AllCarry k y.seen (voter.remind y)) was.id (given.voter.remembers y)));
      voter_saves = λ v within. voter_on b s fit v (Y v) (Y v) [] (fit.voters_are v within) (fit.voters_are v within) tt;
      voter_forgets = λ v within. voter_on b s fit v (Y v) (least_voter (Z v)) [] (fit.voters_are v within) (least_voter_fit b v (Z v) (fit.saved_voters_are v within)) tt;
      voter_restarts = λ v within. voter_on b s fit v (Z v) (Z v) [] (fit.saved_voters_are v within) (fit.saved_voters_are v within) tt;
      voter_reborn = λ v above within least most.
          let now = reborn_fit b v (Y v) above (fit.voters_are v within) most in
          voter_on b s fit v (reborn (Y v) above) (reborn (Y v) above) [] now now tt;
      voter_limited = λ v limit within least most.
          voter_on b s fit v (limited (Y v) limit) (Z v) [] (counted_fit b given v (Y v) (Y v).granted limit (fit.voters_are v within) (omega arith) least most) (fit.saved_voters_are v within) tt;
      voter_skipped = λ v above within least most.
          let was = fit.voters_are v within in
          voter_on b s fit v (skipped (Y v) above) (Z v) [] (counted_fit b given v (Y v) above (Y v).limit was least most was.limit) (fit.saved_voters_are v within) tt;
    }

pub befalls_fit : (b : Bounds) → RunPremises b → (deal : Dealing) → DealsFrom b.quorums deal → (s : Saved) → Fit b s → (i : Incident) → IsWritten i → Fit b (befalls deal s i)
befalls_fit b given deal deals s fit i written = fit_again b s (befalls deal s i)
    (befalls_keeps b given deal deals (λ m. HasLine (kinds.ToVoter m)) s (λ w. Fit b (with_scene s w)) (fit_keeps b given s fit) i (λ m e. subst (λ (j : Incident). IsWritten j) e written))

-- ---- the first world

begin_client : (b : Bounds) → RunPremises b → (c : ℕ) → c < b.clients → FitClient b c (client_at (begin b.voters b.clients b.limit).live.clients c)
begin_client b given c within =
    let ok = start_ok b given in
    let x = client_at (begin b.voters b.clients b.limit).live.clients c in
    record {
      id = (ok.world.client_ids c within).id;
      limit = (ok.world.client_ids c within).limit;
      sound = (ok.world.clients c).sound;
      quorum = λ v is. member_below b (are_quorums b given.meet) x (ok.world.clients c).quorum v is;
      held = λ v. elim (cases_lt 0 (held_of x v)) [
        | inl some ↦ absurd (none-some _ (sym (start_unused b given v).held ∙ ok.world.held c v (held_of x v) (under_grant x v some)))
        | inr none ↦ omega arith
      ];
      last = λ v. (
          let few = ok.world.last c v in
          let given_few = (ok.world.voters v).sound.granted in
          let most = (ok.world.voters v).limit in
          omega arith);
    }

begin_voter : (b : Bounds) → RunPremises b → (v : ℕ) → v < b.voters → FitVoter b v (voter_at (begin b.voters b.clients b.limit).live.voters v)
begin_voter b given v within =
    let ok = (start_ok b given).world in
    let few = given.limits.few_stamps in
    record {
      id = ok.voter_ids v within;
      limit = (ok.voters v).limit;
      sound = (ok.voters v).sound;
      requests = λ c s is. let e = (ok.voters v).entries c s is in (e.client, e.stamp);
      grant = (ok.voters v).numbered;
      seen = (let most = (ok.voters v).seen in omega arith);
    }

pub begin_fit : (b : Bounds) → RunPremises b → Fit b (begin b.voters b.clients b.limit)
begin_fit b given =
    let ok = start_ok b given in
    record {
      many_clients = ok.clients;
      many_voters = ok.voters;
      many_saved_clients = ok.clients;
      many_saved_voters = ok.voters;
      clients_are = begin_client b given;
      voters_are = begin_voter b given;
      saved_clients_are = begin_client b given;
      saved_voters_are = begin_voter b given;
      messages = tt;
    }

-- ---- what the calls need

addressed : (b : Bounds) (w : WorldState) → length w.clients ≡ b.clients → length w.voters ≡ b.voters → (m : Message) → FitMessage b m → IsAddressed w m
addressed b w clients voters (kinds.ToVoter m) fit = (subst (λ n. m.client < n) (sym clients) fit.0, subst (λ n. m.voter < n) (sym voters) fit.1)
addressed b w clients voters (kinds.ToClient m) fit = (subst (λ n. m.client < n) (sym clients) fit.0, subst (λ n. m.voter < n) (sym voters) fit.1)

pub numbered_fit : (b : Bounds) → AreLimits b.voters b.clients b.limit → (s : Saved) → Fit b s → IsNumbered s.live
numbered_fit b limits s fit =
    let clients = fit.many_clients in
    let voters = fit.many_voters in
    let few_clients = limits.few_clients in
    let few_voters = limits.few_voters in
    record {
      clients = λ c within. (fit.clients_are c (subst (λ n. c < n) fit.many_clients within)).id;
      voters = λ v within. (fit.voters_are v (subst (λ n. v < n) fit.many_voters within)).id;
      few_clients = omega arith;
      few_voters = omega arith;
      messages = AllByRecursion-weaker (FitMessage b) (IsAddressed s.live) (addressed b s.live clients voters) s.live.sent fit.messages;
    }

count_within : (limit n : ℕ) → limit ≤ 2 ^ 62 → IsWithin limit n → IsCount n
count_within limit n most within = let least = within.0 in let far = within.1 in (least, omega arith)

counts_within : (limit : ℕ) (body : ClientBody) → limit ≤ 2 ^ 62 → ReportsWithin limit body → AreCounts body
counts_within limit (to_client.Locked stamp grant) most within = (count_within limit stamp most within.0, count_within limit grant most within.1)
counts_within limit (to_client.Fail stamp) most within = count_within limit stamp most within
counts_within limit (to_client.Inquire grant) most within = count_within limit grant most within

line_fit : (b : Bounds) → AreLimits b.voters b.clients b.limit → (m : Message) → FitMessage b m → HasLine m
line_fit b limits (kinds.ToVoter m) fit =
    let few_clients = limits.few_clients in
    let few_voters = limits.few_voters in
    let client = fit.0 in
    let voter = fit.1 in
    (omega arith, omega arith, count_within b.limit _ limits.few_stamps fit.2)
line_fit b limits (kinds.ToClient m) fit =
    let few_clients = limits.few_clients in
    let few_voters = limits.few_voters in
    let client = fit.0 in
    let voter = fit.1 in
    (omega arith, omega arith, fit.2, counts_within b.limit m.body limits.few_stamps fit.3)

pub lines_fit : (b : Bounds) → AreLimits b.voters b.clients b.limit → (s : Saved) → Fit b s → AllByRecursion HasLine s.live.sent
lines_fit b limits s fit = AllByRecursion-weaker (FitMessage b) HasLine (line_fit b limits) s.live.sent fit.messages

-- ---- worlds with plans

abbrev bounds_of : (plans : PlanPair) (clients limit : ℕ) → Bounds
bounds_of plans clients limit = record { voters = plans.first.system.voters; clients = clients; limit = limit; quorums = quorums_of plans.first plans.second }

given_by : SavedLaws → (plans : PlanPair) (clients limit : ℕ) → ArePlans plans → AreLimits plans.first.system.voters clients limit → RunPremises (bounds_of plans clients limit)
given_by laws plans clients limit are limits = record {
  client = laws.client;
  voter = laws.voter;
  limits = limits;
  meet = plans_meet laws.meet laws.bridges plans.first are.first plans.second are.second;
}

pub first_fit : SavedLaws → (plans : PlanPair) (clients limit : ℕ) → ArePlans plans → AreLimits plans.first.system.voters clients limit → IsFit (record { plans = plans; saved = begin_by plans clients limit })
first_fit laws plans clients limit are limits = record {
  plans = are;
  clients = clients;
  limit = limit;
  limits = limits;
  state = begin_fit (bounds_of plans clients limit) (given_by laws plans clients limit are limits);
}

pub worlds_fit : SavedLaws → (w : PlannedSaved) (i : Incident) → IsFit w → IsWritten i → IsFit (befalls_by w i)
worlds_fit laws w i fit written = record {
  plans = fit.plans;
  clients = fit.clients;
  limit = fit.limit;
  limits = fit.limits;
  state = befalls_fit (bounds_of w.plans fit.clients fit.limit) (given_by laws w.plans fit.clients fit.limit fit.plans fit.limits) (dealing_of w.plans)
      (plans_deal laws.name w.plans.first fit.plans.first w.plans.second fit.plans.second) w.saved fit.state i written;
}

pub IsNumbered-fit : (w : PlannedSaved) → IsFit w → IsNumbered w.saved.live
IsNumbered-fit w fit = numbered_fit (bounds_of w.plans fit.clients fit.limit) fit.limits w.saved fit.state

pub HasLine-fit : (w : PlannedSaved) → IsFit w → AllByRecursion HasLine w.saved.live.sent
HasLine-fit w fit = lines_fit (bounds_of w.plans fit.clients fit.limit) fit.limits w.saved fit.state
