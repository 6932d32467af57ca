-- how to make fair rounds
use Rattle.std.proofs.Common.{◌≡◌, ℕ, zero, suc, ◌+◌, ◌-◌, ◌<◌, ◌≤◌, false, List, [], ◌∷◌, ◌++◌, length, map, Option, None, Some, Ok, Err, refl, sym, ap, subst, ◌∙◌, inl, inr, arith, length-append, Bool, true}
use Rattle.std.specs.Prelude.{if◌then◌else◌, nat_lt, slice_get, slice_index_or}
use Rattle.std.specs.List.{AllByRecursion, Contains, range_with_len}
use Rattle.std.proofs.lemmas.Bool.{cases_eq, false≢true}
use Rattle.std.proofs.lemmas.Bool.Decides.{nat_tests}
use Rattle.std.proofs.lemmas.List.{append-nil}
use Rattle.std.proofs.lemmas.List.Elements.{Contains-append_cases, Contains-append_left, Contains-append_right}
use Rattle.numbers.proofs.Lists.{AllByRecursion-append, AllByRecursion-weaker}
use Rattle.message.specs.declared.message.Message.{Message}
use Rattle.message.specs.declared.message.Message.TheVariants as kinds
use Rattle.message.specs.declared.message.VoterBody.{VoterBody}
use Rattle.message.specs.declared.message.VoterBody.TheVariants as asks
use Rattle.requester.proofs.RangeLemmas.{is_inside-busy}
use Rattle.requester.proofs.SoundSteps.{is_asking-busy, is_asking-outside}
use Rattle.requester.specs.Steps as requester
use Rattle.requester.specs.RequesterContract.{KeepsQuorum}
use Rattle.requester.specs.Words.{is_asking, is_idle, is_inside}
use Rattle.requester.specs.declared.state.ClientState.{ClientState}
use Rattle.requester.specs.declared.state.Phase.TheVariants.{Asking, Idle, Inside}
use Rattle.requester.specs.declared.state.Phase.{Phase}
use Rattle.world_state.specs.declared.step.Step.{Step}
use Rattle.world_state.specs.declared.step.Step.TheVariants.{Ask, Deliver, Exchange, GiveUp, Leave, RemindClient, RemindVoter}
use Rattle.world.specs.Coherence.{IsCoherent}
use Rattle.world.specs.Runs.{after, run_of}
use Rattle.world_state.specs.Steps.{Dealing, WorldState, client_at, step}
use Rattle.world.proofs.Added.{Adds-step}
use Rattle.world.proofs.Plans.{run_then}
use Rattle.progress.proofs.overtaking.Behind.{meets}
use Rattle.progress.proofs.run.Moves.{Makes, MovedBy, MovedBy-step}
use Rattle.progress.proofs.invariants.Sure.{Course, IsSure, IsSure-after}
use Rattle.progress.proofs.patience.Turns.{asks_at}
use Rattle.progress.specs.LiveRounds.{IsAnswered, IsReminded, Live, everybody, is_between}
use Rattle.progress.specs.Moves.{of_steps}
use Rattle.progress.specs.Rounds as fair
use Rattle.progress.specs.Rounds.{IsFairRound, IsTimely, give_up, give_ups_in, late_body, late_message, late_step, late_steps, steps_of}
use Rattle.world.specs.WayIn.{Serves}
use Rattle.progress.proofs.run.Along.{next}
use Rattle.progress.proofs.block.Known.{within_by}
use Rattle.progress.proofs.rounds.Fair.{fair_reminded, was_sent}
use Rattle.progress.proofs.rounds.Longer.{contains_here, contains_next}
use Rattle.progress.proofs.rounds.Reminders.{answered_before, answered_more, reminded_more}
use Rattle.progress.specs.Rules.{Laws}

-- ---- the same step for each of some numbers

unfoldable pub each : (ℕ → Step) → ℕ → ℕ → List Step
each f low n = map f (range_with_len low n)

contains_each : (f : ℕ → Step) (low n k : ℕ) → low ≤ k → k < low + n → Contains (each f low n) (f k)
unfolding each
contains_each f low zero k least less = absurd (omega arith)
contains_each f low (suc n) k least less = elim (cases_eq low k) [
  | inl same ↦ contains_here (f low) (f k) (each f (low + 1) n) (ap f same)
  | inr other ↦ contains_next (f low) (f k) (each f (low + 1) n) (contains_each f (low + 1) n k (omega arith) (omega arith))
]

-- ---- a message arrives, and then the replies to it

-- the arrivals of those messages that are between live ones, of the n from this one on
unfoldable pub arrivals : Live → List Message → ℕ → ℕ → List Step
arrivals live sent low zero = []
arrivals live sent low (suc n) = (if is_between live (slice_get sent low) then Deliver low ∷ [] else []) ++ arrivals live sent (low + 1) n

contains_arrival : (live : Live) (sent : List Message) (low n k : ℕ) → low ≤ k → k < low + n → is_between live (slice_get sent k) ≡ true → Contains (arrivals live sent low n) (Deliver k)
unfolding arrivals
contains_arrival live sent low zero k least less between = absurd (omega arith)
contains_arrival live sent low (suc n) k least less between =
    let rest = arrivals live sent (low + 1) n in
    elim (cases_eq low k) [
      | inl same ↦ subst (λ b. Contains ((if b then Deliver low ∷ [] else []) ++ rest) (Deliver k)) (sym (ap (λ i. is_between live (slice_get sent i)) same ∙ between)) (contains_here (Deliver low) (Deliver k) rest (ap Deliver same))
      | inr other ↦ Contains-append_right (if is_between live (slice_get sent low) then Deliver low ∷ [] else []) rest (Deliver k) (contains_arrival live sent (low + 1) n k (omega arith) (omega arith) between)
    ]

unfoldable pub answer : Live → Dealing → WorldState → ℕ → List Step
answer live deal u k = Deliver k ∷ arrivals live (next deal u (Deliver k)).sent (length u.sent) (length (next deal u (Deliver k)).sent - length u.sent)

is_answered : (live : Live) (deal : Dealing) (u : WorldState) (k : ℕ) → IsAnswered of_steps live deal u (answer live deal u k) k
unfolding answer
is_answered live deal u k =
    let y = next deal u (Deliver k) in
    record {
      first = [];
      rest = arrivals live y.sent (length u.sent) (length y.sent - length u.sent);
      split = refl;
      answers = λ j least between. (let less = was_sent live y.sent j between in contains_arrival live y.sent (length u.sent) (length y.sent - length u.sent) j least (omega arith) between);
    }

unfoldable pub answer_if : Bool → Live → Dealing → WorldState → ℕ → List Step
answer_if true live deal u k = answer live deal u k
answer_if false live deal u k = []

-- those of the n messages from this one on arrive that are between live ones, each with the replies to it
unfoldable pub answer_all : Live → Dealing → List Message → WorldState → ℕ → ℕ → List Step
answer_all live deal sent u low zero = []
answer_all live deal sent u low (suc n) =
    answer_if (is_between live (slice_get sent low)) live deal u low ++ answer_all live deal sent (run_of deal (answer_if (is_between live (slice_get sent low)) live deal u low) u) (low + 1) n

pub all_answered : (live : Live) (deal : Dealing) (sent : List Message) (u : WorldState) (low n k : ℕ) → low ≤ k → k < low + n → is_between live (slice_get sent k) ≡ true → IsAnswered of_steps live deal u (answer_all live deal sent u low n) k
unfolding answer_all answer_if
all_answered live deal sent u low zero k least less between = absurd (omega arith)
all_answered live deal sent u low (suc n) k least less between =
    let b = is_between live (slice_get sent low) in
    let first = answer_if b live deal u low in
    let rest = answer_all live deal sent (run_of deal first u) (low + 1) n in
    elim (cases_eq low k) [
      | inl same ↦ subst (λ i. IsAnswered of_steps live deal u (first ++ rest) i) same (answered_more of_steps run_then live deal u [] first rest low
          (subst (λ t. IsAnswered of_steps live deal u (answer_if t live deal u low) low) (sym (ap (λ i. is_between live (slice_get sent i)) same ∙ between)) (is_answered live deal u low)))
      | inr other ↦ answered_before of_steps run_then live deal u first rest k (all_answered live deal sent (run_of deal first u) (low + 1) n k (omega arith) (omega arith) between)
    ]

-- ---- reminders

unfoldable pub remind : Live → Dealing → WorldState → Step → List Step
remind live deal x s = s ∷ answer_all live deal (next deal x s).sent (next deal x s) (length x.sent) (length (next deal x s).sent - length x.sent)

pub is_reminded : (live : Live) (deal : Dealing) (x : WorldState) (s : Step) → IsReminded of_steps live deal x (remind live deal x s) s
unfolding remind
is_reminded live deal x s =
    let y = next deal x s in
    record {
      first = [];
      rest = answer_all live deal y.sent y (length x.sent) (length y.sent - length x.sent);
      split = refl;
      arrive = λ k least between. (let less = was_sent live y.sent k between in all_answered live deal y.sent y (length x.sent) (length y.sent - length x.sent) k least (omega arith) between);
    }

-- all of these reminders, one after the other
unfoldable pub remind_all : Dealing → WorldState → List Step → List Step
remind_all deal x [] = []
remind_all deal x (s ∷ ss) = remind everybody deal x s ++ remind_all deal (run_of deal (remind everybody deal x s) x) ss

only_one : (t s : Step) → Contains (t ∷ []) s → t ≡ s
only_one t s there = go there.0 there.1 there.2
  where
    go : (i : ℕ) → i < length (t ∷ []) → slice_index_or (t ∷ []) i s ≡ s → t ≡ s
    go zero less is = is
    go (suc i) less is = absurd (omega arith)

all_reminded : (deal : Dealing) (x : WorldState) (ss : List Step) (s : Step) → Contains ss s → IsReminded of_steps everybody deal x (remind_all deal x ss) s
unfolding remind_all
all_reminded deal x [] s there = absurd (let less = there.1 in omega arith)
all_reminded deal x (t ∷ ss) s there =
    let first = remind everybody deal x t in
    let y = run_of deal first x in
    let rest = remind_all deal y ss in
    elim (Contains-append_cases (t ∷ []) ss s there) [
      | inl own ↦ subst (λ i. IsReminded of_steps everybody deal x (first ++ rest) i) (only_one t s own) (reminded_more of_steps run_then everybody deal x [] first rest t (is_reminded everybody deal x t))
      | inr later ↦ subst (λ l. IsReminded of_steps everybody deal x (first ++ l) s) (append-nil rest) (reminded_more of_steps run_then everybody deal x first rest [] s (all_reminded deal y ss s later))
    ]

-- ---- no other steps: each is a reminder, a Leave, or the arrival of a message that was sent in the round

each_serves : (sent : ℕ) (f : ℕ → Step) (low n : ℕ) → ((k : ℕ) → low ≤ k → Serves sent (f k)) → AllByRecursion (Serves sent) (each f low n)
unfolding each
each_serves sent f low zero serves = tt
each_serves sent f low (suc n) serves = (serves low (omega arith), each_serves sent f (low + 1) n (λ k least. serves k (omega arith)))

pub sent_more : (deal : Dealing) (x : WorldState) (s : Step) → length x.sent ≤ length (next deal x s).sent
sent_more deal x s = elim (step deal x s) as (λ r. step deal x s ≡ r → length x.sent ≤ length (after x r).sent) [
  | Ok o ↦ λ e.
      let adds = Adds-step deal x s o e in
      let more = ap length adds.sent in
      omega (arith, more, length-append x.sent adds.more)
  | Err fault ↦ λ e. omega arith
] (refl {a = step deal x s})

sent_run : (deal : Dealing) (steps : List Step) (x : WorldState) → length x.sent ≤ length (run_of deal steps x).sent
sent_run deal [] x = omega arith
sent_run deal (s ∷ steps) x =
    let first = sent_more deal x s in
    let rest = sent_run deal steps (next deal x s) in
    omega (arith, first, rest)

arrivals_serve : (live : Live) (sent : List Message) (low n first : ℕ) → first ≤ low → AllByRecursion (Serves first) (arrivals live sent low n)
unfolding arrivals
arrivals_serve live sent low zero first least = tt
arrivals_serve live sent low (suc n) first least = AllByRecursion-append (Serves first) (if is_between live (slice_get sent low) then Deliver low ∷ [] else []) (arrivals live sent (low + 1) n)
    (by (is_between live (slice_get sent low))) (arrivals_serve live sent (low + 1) n first (omega arith))
  where
    by : (b : Bool) → AllByRecursion (Serves first) (if b then Deliver low ∷ [] else [])
    by true = (least, tt)
    by false = tt

answer_serves : (live : Live) (deal : Dealing) (u : WorldState) (k first : ℕ) (b : Bool) → first ≤ k → first ≤ length u.sent → AllByRecursion (Serves first) (answer_if b live deal u k)
unfolding answer answer_if
answer_serves live deal u k first true least most =
    (least, arrivals_serve live (next deal u (Deliver k)).sent (length u.sent) (length (next deal u (Deliver k)).sent - length u.sent) first most)
answer_serves live deal u k first false least most = tt

pub answer_all_serves : (live : Live) (deal : Dealing) (sent : List Message) (u : WorldState) (low n first : ℕ) → first ≤ low → first ≤ length u.sent → AllByRecursion (Serves first) (answer_all live deal sent u low n)
unfolding answer_all
answer_all_serves live deal sent u low zero first least most = tt
answer_all_serves live deal sent u low (suc n) first least most =
    let b = is_between live (slice_get sent low) in
    let steps = answer_if b live deal u low in
    let y = run_of deal steps u in
    let grows = sent_run deal steps u in
    AllByRecursion-append (Serves first) steps (answer_all live deal sent y (low + 1) n) (answer_serves live deal u low first b least most)
    (answer_all_serves live deal sent y (low + 1) n first (omega arith) (omega arith))

pub remind_serves : (live : Live) (deal : Dealing) (x : WorldState) (s : Step) (first : ℕ) → Serves first s → first ≤ length x.sent → AllByRecursion (Serves first) (remind live deal x s)
unfolding remind
remind_serves live deal x s first serves most =
    let y = next deal x s in
    let grows = sent_more deal x s in
    (serves, answer_all_serves live deal y.sent y (length x.sent) (length y.sent - length x.sent) first most (omega arith))

pub remind_all_serves : (deal : Dealing) (x : WorldState) (ss : List Step) (first : ℕ) → AllByRecursion (Serves first) ss → first ≤ length x.sent → AllByRecursion (Serves first) (remind_all deal x ss)
unfolding remind_all
remind_all_serves deal x [] first serve most = tt
remind_all_serves deal x (s ∷ ss) first serve most =
    let steps = remind everybody deal x s in
    let y = run_of deal steps x in
    let grows = sent_run deal steps x in
    AllByRecursion-append (Serves first) steps (remind_all deal y ss) (remind_serves everybody deal x s first serve.0 most)
    (remind_all_serves deal y ss first serve.1 (omega arith))

-- so no REQUEST is late

body_in_time : (old k : ℕ) (b : VoterBody) → old ≤ k → late_body old k b ≡ 0
body_in_time old k (asks.Request stamp) least = let e : nat_lt k old ≡ false = grind (arith, nat_tests) in ap (λ b. if b then 1 else 0) e
body_in_time old k (asks.Relinquish grant) least = refl
body_in_time old k (asks.Release stamp) least = refl

message_in_time : (old k : ℕ) (o : Option Message) → old ≤ k → late_message old k o ≡ 0
message_in_time old k None least = refl
message_in_time old k (Some (kinds.ToVoter m)) least = body_in_time old k m.body least
message_in_time old k (Some (kinds.ToClient m)) least = refl

step_in_time : (old low : ℕ) (sent : List Message) (s : Step) → old ≤ low → Serves low s → late_step old sent s ≡ 0
step_in_time old low sent (Ask c) most serves = absurd serves
step_in_time old low sent (Deliver k) most serves = message_in_time old k (slice_get sent k) (omega arith)
step_in_time old low sent (Leave c) most serves = refl
step_in_time old low sent (GiveUp c) most serves = absurd serves
step_in_time old low sent (RemindClient c) most serves = refl
step_in_time old low sent (RemindVoter v) most serves = refl
step_in_time old low sent Exchange most serves = absurd serves

pub in_time : (old low : ℕ) (sent : List Message) (steps : List Step) → old ≤ low → AllByRecursion (Serves low) steps → late_steps old sent steps ≡ 0
in_time old low sent [] most serve = refl
in_time old low sent (s ∷ steps) most serve =
    let first = step_in_time old low sent s most serve.0 in
    let rest = in_time old low sent steps most serve.1 in
    omega (arith, first, rest)

-- and nobody gives up

no_give_up : (low : ℕ) (s : Step) → Serves low s → give_up s ≡ 0
no_give_up low (Ask c) serves = refl
no_give_up low (Deliver k) serves = refl
no_give_up low (Leave c) serves = refl
no_give_up low (GiveUp c) serves = absurd serves
no_give_up low (RemindClient c) serves = refl
no_give_up low (RemindVoter v) serves = refl
no_give_up low Exchange serves = refl

pub no_give_ups : (low : ℕ) (steps more : List Step) → AllByRecursion (Serves low) steps → give_ups_in more ≡ 0 → give_ups_in (steps ++ more) ≡ 0
no_give_ups low [] more serve none = none
no_give_ups low (s ∷ steps) more serve none =
    let first = no_give_up low s serve.0 in
    let rest = no_give_ups low steps more serve.1 none in
    omega (arith, first, rest)

-- ---- a round

-- everybody is reminded, and then everybody leaves who is inside
unfoldable pub round_of : Dealing → WorldState → List Step
round_of deal w =
    remind_all deal w (each RemindClient 0 (length w.clients) ++ each RemindVoter 0 (length w.voters)) ++ each Leave 0 (length w.clients)

pub round_serves : (deal : Dealing) (w : WorldState) → AllByRecursion (Serves (length w.sent)) (round_of deal w)
unfolding round_of
round_serves deal w =
    let n = length w.clients in
    let m = length w.voters in
    let all = each RemindClient 0 n ++ each RemindVoter 0 m in
    let sent = length w.sent in
    AllByRecursion-append (Serves sent) (remind_all deal w all) (each Leave 0 n)
    (remind_all_serves deal w all sent
    (AllByRecursion-append (Serves sent) (each RemindClient 0 n) (each RemindVoter 0 m) (each_serves sent RemindClient 0 n (λ k least. tt)) (each_serves sent RemindVoter 0 m (λ k least. tt)))
    (omega arith))
    (each_serves sent Leave 0 n (λ k least. tt))

round_is_fair : (deal : Dealing) (w : WorldState) → IsFairRound deal w (round_of deal w)
unfolding round_of
round_is_fair deal w =
    let n = length w.clients in
    let m = length w.voters in
    let all = each RemindClient 0 n ++ each RemindVoter 0 m in
    let reminders = remind_all deal w all in
    let leaves = each Leave 0 n in
    let reminded : (s : Step) → Contains all s → fair.IsReminded deal w (reminders ++ leaves) s = λ s there.
    fair_reminded deal w (reminders ++ leaves) s (reminded_more of_steps run_then everybody deal w [] reminders leaves s (all_reminded deal w all s there)) in
    record {
      clients = λ c within. reminded (RemindClient c) (Contains-append_left (each RemindClient 0 n) (each RemindVoter 0 m) (RemindClient c) (contains_each RemindClient 0 n c (omega arith) (omega arith)));
      voters = λ v within. reminded (RemindVoter v) (Contains-append_right (each RemindClient 0 n) (each RemindVoter 0 m) (RemindVoter v) (contains_each RemindVoter 0 m v (omega arith) (omega arith)));
      leaves = λ c inside.
          let within = within_by w c (is_inside-busy (client_at w.clients c).phase inside) in
          Contains-append_right reminders leaves (Leave c) (contains_each Leave 0 n c (omega arith) (omega arith));
    }

-- k rounds, one after the other
unfoldable pub made_rounds : Dealing → WorldState → ℕ → List (List Step)
made_rounds deal w zero = []
made_rounds deal w (suc k) = round_of deal w ∷ made_rounds deal (run_of deal (round_of deal w) w) k

-- `old` messages were sent before the round before the first
timely_after : (deal : Dealing) (old : ℕ) (w : WorldState) (k : ℕ) → old ≤ length w.sent → IsTimely deal old w k (made_rounds deal w k)
unfolding made_rounds
timely_after deal old w zero most = record { fair = tt; count = refl; in_time = refl; kept_up = refl }
timely_after deal old w (suc k) most =
    let first = round_of deal w in
    let u = run_of deal first w in
    let rest = timely_after deal (length w.sent) u k (sent_run deal first w) in
    let serves = round_serves deal w in
    let now = in_time old (length w.sent) w.sent first most serves in
    let later = rest.in_time in
    record {
      fair = (round_is_fair deal w, rest.fair);
      count = ap suc rest.count;
      in_time = omega (arith, now, later);
      kept_up = no_give_ups (length w.sent) first (steps_of (made_rounds deal u k)) serves rest.kept_up;
    }

pub are_timely : (deal : Dealing) (w : WorldState) (k : ℕ) → IsTimely deal 0 w k (made_rounds deal w k)
are_timely deal w k = timely_after deal 0 w k (omega arith)

serves_later : (m n : ℕ) (s : Step) → m ≤ n → Serves n s → Serves m s
serves_later m n (Ask c) most h = h
serves_later m n (Deliver k) most h = omega arith
serves_later m n (Leave c) most h = h
serves_later m n (GiveUp c) most h = h
serves_later m n (RemindClient c) most h = h
serves_later m n (RemindVoter v) most h = h
serves_later m n Exchange most h = h

pub rounds_serve : (deal : Dealing) (w : WorldState) (k : ℕ) → AllByRecursion (Serves (length w.sent)) (steps_of (made_rounds deal w k))
unfolding made_rounds
rounds_serve deal w zero = tt
rounds_serve deal w (suc k) =
    let first = round_of deal w in
    let u = run_of deal first w in
    let later = steps_of (made_rounds deal u k) in
    AllByRecursion-append (Serves (length w.sent)) first later (round_serves deal w)
    (AllByRecursion-weaker (Serves (length u.sent)) (Serves (length w.sent)) (λ s. serves_later (length w.sent) (length u.sent) s (sent_run deal first w)) later (rounds_serve deal u k))

-- ---- by steps that serve nobody begins to ask

asking_by : (q : Phase) → is_idle q ≡ false → (is_inside q ≡ true → ⊥) → is_asking q ≡ true
asking_by Idle busy outside = absurd (false≢true (sym busy))
asking_by Asking busy outside = refl
asking_by Inside busy outside = absurd (outside refl)

asked_by : (low : ℕ) (s : Step) (who : ℕ) (x : ClientState) (cause : requester.Cause) (y : ClientState) → Makes s who cause → Serves low s → KeepsQuorum x cause y → is_asking y.phase ≡ true
    → is_asking x.phase ≡ true
asked_by low s who x (requester.Asks q) y makes serves keeps asks = absurd (subst (Serves low) makes serves)
asked_by low s who x (requester.Takes m) y makes serves keeps asks =
    asking_by x.phase (sym keeps.1 ∙ is_asking-busy y.phase asks) (λ inside. false≢true (sym (is_asking-outside y.phase asks) ∙ keeps.2 inside))
asked_by low s who x requester.Leaves y makes serves keeps asks = absurd (false≢true (sym (is_asking-busy y.phase asks) ∙ keeps.1))
asked_by low s who x requester.GivesUp y makes serves keeps asks = absurd (false≢true (sym (is_asking-busy y.phase asks) ∙ keeps.1))

pub asked_before : (laws : Laws) (low : ℕ) (s : Step) (x y : WorldState) → IsCoherent x → IsCoherent y → MovedBy s x y → Serves low s → (d : ℕ) → asks_at y d ≡ true → asks_at x d ≡ true
asked_before laws low s x y ok now moved serves d asks = elim moved [
  | inl client ↦
      let k = client.0 in
      elim (cases_eq d k.who) [
        | inl same ↦ ap (asks_at x) same ∙ asked_by low s k.who (client_at x.clients k.who) k.cause k.outcome.state client.1 serves (meets laws.client x y ok now k).quorum
            (ap (λ (z : ClientState). is_asking z.phase) (sym k.here) ∙ ap (asks_at y) (sym same) ∙ asks)
        | inr other ↦ ap (λ (z : ClientState). is_asking z.phase) (sym (k.others d other)) ∙ asks
      ]
  | inr (inl voter) ↦ ap (λ (cs : List ClientState). is_asking (client_at cs d).phase) (sym voter.0.clients) ∙ asks
  | inr (inr sent) ↦ ap (λ (cs : List ClientState). is_asking (client_at cs d).phase) (sym sent.clients) ∙ asks
]

-- of these clients alone some ask
abbrev pub AskAmong : (ℕ → Bool) → WorldState → Type 0
AskAmong among x = (d : ℕ) → asks_at x d ≡ true → among d ≡ true

pub among_still : (laws : Laws) (p : Course) (among : ℕ → Bool) (low : ℕ) (steps : List Step) (x : WorldState) → IsSure p x → AllByRecursion (Serves low) steps → AskAmong among x
    → AskAmong among (run_of p.deal steps x)
among_still laws p among low [] x r serve ask = ask
among_still laws p among low (s ∷ steps) x r serve ask =
    let y = next p.deal x s in
    let ok = (r []).coherent in
    among_still laws p among low steps y (IsSure-after p x r s) serve.1
    (λ d asks. ask d (asked_before laws low s x y ok (r (s ∷ [])).coherent (MovedBy-step p.deal x ok.numbered s) serve.0 d asks))
