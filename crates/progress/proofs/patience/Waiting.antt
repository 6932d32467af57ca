-- after so many fair rounds somebody has entered
use Rattle.std.proofs.Common.{◌≡◌, ℕ, zero, suc, ◌+◌, ◌*◌, ◌<◌, ◌≤◌, Bool, true, false, List, [], ◌∷◌, ◌++◌, length, refl, sym, ap, subst, ◌∙◌, ◌⊎◌, inl, inr, arith, append_assoc}
use Rattle.std.specs.Prelude.{nat_le, ◌&&◌, if◌then◌else◌}
use Rattle.std.proofs.Math.Nat.{mul_comm, suc-mul}
use Rattle.std.proofs.lemmas.Bool.{cases_eq, cases_lt, false≢true}
use Rattle.std.proofs.lemmas.List.{append_cancel_left, get_or_past}
use Rattle.numbers.specs.Sets.{has}
use Rattle.numbers.specs.Sums.{sum_below}
use Rattle.numbers.proofs.SumsBelow.{sum_below-add, sum_below-le, sum_below-times, sum_below-same, sum_below-zero}
use Rattle.requester.specs.declared.state.ClientState.{ClientState}
use Rattle.requester.specs.Steps as requester
use Rattle.requester.specs.Words.{is_asking}
use Rattle.requester.proofs.SoundSteps.{is_asking-busy}
use Rattle.voter.specs.VoterContract.{IsEntry}
use Rattle.world_state.specs.declared.step.Event.{Event}
use Rattle.world_state.specs.declared.step.Step.{Step}
use Rattle.world.specs.Runs.{IsReached, run_of}
use Rattle.world_state.specs.Steps.{Dealing, Planned, WorldState, client_at, dealing_of, voter_at}
use Rattle.world.proofs.Plans.{run_then}
use Rattle.progress.specs.LiveRounds.{AreLiveRounds, IsLiveRound, Live, live_below}
use Rattle.progress.specs.Moves.{of_steps}
use Rattle.progress.specs.Overtaking.{IsKnownEverywhere, StillRuns}
use Rattle.world.specs.Visible.{entries_of}
use Rattle.progress.specs.Rounds.{DoesNotGiveUp, IsStill, give_ups_in, late_in, steps_of}
use Rattle.progress.specs.Rules.{Laws}
use Rattle.world.specs.WayIn.{Asks}
use Rattle.progress.proofs.run.Along.{Along, along-last, next}
use Rattle.progress.proofs.invariants.Always.{Heeds}
use Rattle.progress.proofs.block.Blocks.{IsBlock}
use Rattle.progress.proofs.overtaking.Counting.{entries_of-append}
use Rattle.progress.proofs.block.Known.{asks_within, known_after}
use Rattle.progress.proofs.rounds.Longer.{Grows-moved, Grows-run}
use Rattle.progress.proofs.run.Moves.{Moved-by, MovedBy, MovedBy-step, kept-by}
use Rattle.progress.proofs.losses.Olds.{AreOld, keeps_olds, no_olds, olds_fall, olds_of}
use Rattle.progress.proofs.rounds.Parts.{late-more, late-split, live-split, split_rounds, steps-append}
use Rattle.progress.proofs.invariants.Placed.{Heeds-moved}
use Rattle.progress.proofs.losses.Lasting.{Goes-run, Lasts-moved, Lasts-run, RunsOn, SameAsk, left_before, same_between, serving_both}
use Rattle.progress.proofs.invariants.Sure.{Course, IsSure, IsSure-after, IsSure-reached, IsSure-run, LiveServe, Serving, course_of, live_by, stays_coherent}
use Rattle.progress.proofs.block.Tame.{asks_up_to, turns_up_to, turns_up_to-append}
use Rattle.progress.proofs.patience.Turns.{all_give_ups, asks_at, entries_most, gives_up_never, idle_not_asking, no_turn, none_turned, one_if, own_give_ups, own_give_ups-append, shown, stamp_stays, sum_has, turn, turn_same, turns, turns-append, turns_most}

-- ---- turns up to a stamp

-- each of them is one of all turns
pub up_to_most : (laws : Laws) (p : Course) (s d : ℕ) (steps : List Step) (x : WorldState) → IsSure p x → turns_up_to p.deal s d steps x ≤ turns p.deal d steps x
up_to_most laws p s d [] x r = omega arith
up_to_most laws p s d (t ∷ steps) x r =
    let deal = p.deal in
    let y = next deal x t in
    let rest = up_to_most laws p s d steps y (IsSure-after p x r t) in
    let here : turn (asks_up_to s x d) (asks_up_to s y d) ≤ turn (asks_at x d) (asks_at y d) = elim (cases_lt 0 (turn (asks_at x d) (asks_at y d))) [
      | inl some ↦ (let most = turn_most (asks_up_to s x d) (asks_up_to s y d) in omega arith)
      | inr none ↦
          let same = no_turn (asks_at x d) (asks_at y d) (omega arith) in
          let stamp = stamp_stays t x y d (MovedBy-step deal x (r []).coherent.numbered t) same in
          let zero_turns = turn_same (asks_up_to s x d) (asks_up_to s y d) (λ i. same i && nat_le (stamp i) s) in
          omega arith
    ] in
    omega arith
  where
    turn_most : (a b : Bool) → turn a b ≤ 1
    turn_most true true = omega arith
    turn_most true false = omega arith
    turn_most false true = omega arith
    turn_most false false = omega arith

-- nobody is beyond the clients
none_beyond : (laws : Laws) (p : Course) (s d : ℕ) (steps : List Step) (x : WorldState) → IsSure p x → length x.clients ≤ d → turns_up_to p.deal s d steps x ≡ 0
unfolding client_at
none_beyond laws p s d [] x r beyond = refl
none_beyond laws p s d (t ∷ steps) x r beyond =
    let deal = p.deal in
    let y = next deal x t in
    let grows = (Grows-moved x y (Moved-by t x y (MovedBy-step deal x (r []).coherent.numbered t))).clients in
    let now : length y.clients ≤ d = omega arith in
    let same : client_at y.clients d ≡ client_at x.clients d = get_or_past y.clients d (requester.start 0 1) now ∙ sym (get_or_past x.clients d (requester.start 0 1) beyond) in
    let first = turn_same (asks_up_to s x d) (asks_up_to s y d) (ap (λ (z : ClientState). is_asking z.phase && nat_le z.stamp s) same) in
    let more = none_beyond laws p s d steps y (IsSure-after p x r t) now in
    omega arith

-- how often the first n clients turn in these steps
unfoldable pub all_up_to : Dealing → ℕ → ℕ → List Step → WorldState → ℕ
all_up_to deal s n steps x = sum_below (λ d. turns_up_to deal s d steps x) n

all_up_to-append : (deal : Dealing) (s n : ℕ) (a b : List Step) (x : WorldState) → all_up_to deal s n (a ++ b) x ≡ all_up_to deal s n a x + all_up_to deal s n b (run_of deal a x)
unfolding all_up_to
all_up_to-append deal s n a b x =
    sum_below-same n (λ d. turns_up_to deal s d (a ++ b) x) (λ d. turns_up_to deal s d a x + turns_up_to deal s d b (run_of deal a x)) (λ d _. turns_up_to-append deal s d a b x)
    ∙ sum_below-add n (λ d. turns_up_to deal s d a x) (λ d. turns_up_to deal s d b (run_of deal a x))

none_of_sum : (deal : Dealing) (s n d : ℕ) (steps : List Step) (x : WorldState) → d < n → all_up_to deal s n steps x ≡ 0 → turns_up_to deal s d steps x ≡ 0
unfolding all_up_to
none_of_sum deal s n d steps x within none = (let one = sum_has n d (λ d. turns_up_to deal s d steps x) within in omega arith)

-- ---- each block has a turn, a late REQUEST, or an old grant that is given back

is_one : (b : Bool) → 1 ≤ one_if b → b ≡ true
is_one true some = refl
is_one false some = absurd (omega arith)

-- a client that asks, and neither enters nor gives up, asks on
pub asks_on : (laws : Laws) (p : Course) (c : ℕ) (steps : List Step) (x : WorldState) (more : List Event) → IsSure p x → (run_of p.deal steps x).visible ≡ x.visible ++ more
    → entries_of c more ≡ 0 → own_give_ups c steps ≡ 0 → asks_at x c ≡ true → (asks_at (run_of p.deal steps x) c ≡ true) × (turns p.deal c steps x ≡ 0)
asks_on laws p c steps x more r visible none stays asking =
    let deal = p.deal in
    let z = run_of deal steps x in
    let most = turns_most laws p steps x more r visible c in
    let one : one_if (asks_at x c) ≡ 1 = ap one_if asking in
    let few : one_if (asks_at z c) ≤ 1 = at_most_one (asks_at z c) in
    (is_one (asks_at z c) (omega arith), omega arith)
  where
    at_most_one : (b : Bool) → one_if b ≤ 1
    at_most_one true = omega arith
    at_most_one false = omega arith

-- so many clients and voters, and the client c asks under this stamp
pub record Waits (p : Course) (c n m s : ℕ) (x : WorldState) : Type 0 where
  pub clients : length x.clients ≡ n
  pub voters : length x.voters ≡ m
  pub few : AreOld p x
  pub sure : IsSure p x
  pub asks : asks_at x c ≡ true
  pub stamp : (client_at x.clients c).stamp ≡ s

-- k blocks of rounds, in which the client c asks on, have k turns of clients under stamps up to its own, late
-- REQUESTs or old grants that are given back
abbrev pub HasTurns : Course → ℕ → ℕ → ℕ → ℕ → ℕ → WorldState → ℕ → List (List Step) → Type 0
HasTurns p c n m s k x old rounds = AreLiveRounds of_steps p.live p.deal x rounds → Serving p x (run_of p.deal (steps_of rounds) x) → turns p.deal c (steps_of rounds) x ≡ 0
    → k + olds_of p m (run_of p.deal (steps_of rounds) x) ≤ all_up_to p.deal s n (steps_of rounds) x + late_in p.deal old x rounds + olds_of p m x

one_block : (laws : Laws) (p : Course) (c n m s size k : ℕ) → IsBlock p n size → (a b : List (List Step)) (x : WorldState) (old : ℕ) → Waits p c n m s x → length a ≡ size
    → ((y : WorldState) (later : ℕ) → Waits p c n m s y → HasTurns p c n m s k y later b) → HasTurns p c n m s (suc k) x old (a ++ b)
one_block laws p c n m s size k is a b x old waits long then_rest fair left stays =
    let deal = p.deal in
    let r = waits.sure in
    let count = waits.clients in
    let y = run_of deal (steps_of a) x in
    let ry = IsSure-run p (steps_of a) x r in
    let both = steps-append a b in
    let goes : run_of deal (steps_of (a ++ b)) x ≡ run_of deal (steps_of b) y = ap (λ l. run_of deal l x) both ∙ run_then deal (steps_of a) (steps_of b) x in
    let own = sym (turns-append deal c (steps_of a) (steps_of b) x) ∙ ap (λ l. turns deal c l x) (sym both) ∙ stays in
    let own_first : turns deal c (steps_of a) x ≡ 0 = omega arith in
    let own_rest : turns deal c (steps_of b) y ≡ 0 = omega arith in
    let on = none_turned laws p c (steps_of a) x r own_first in
    let parts = live-split p.live deal a b x fair in
    let late = late-split deal old a b x in
    let serves = serving_both laws p (steps_of a) (steps_of b) x r (subst (λ l. Serving p x (run_of deal l x)) both left) in
    let left_b = serves.1 in
    let grows = Grows-run laws p (steps_of a) x r in
    let go = Goes-run laws p (steps_of a) x waits.few r in
    let few_y : AreOld p y = λ v. (let most = waits.few v in let rises = (go.outlasts v).granted in omega arith) in
    let waits_y : Waits p c n m s y = record { clients = grows.clients ∙ count; voters = grows.voters ∙ waits.voters; few = few_y; sure = ry; asks = on.0 ∙ waits.asks; stamp = on.1 ∙ waits.stamp } in
    let more_b = then_rest y late.0 waits_y parts.1 left_b own_rest in
    let fewer = olds_fall p m x y go in
    let end = ap (olds_of p m) goes in
    let turned = ap (λ l. all_up_to deal s n l x) both ∙ all_up_to-append deal s n (steps_of a) (steps_of b) x in
    let lates = late.1 in
    let less = late-more deal old a x in
    elim (cases_lt 0 (late_in deal 0 x a)) [
      | inl some ↦ omega arith
      | inr no_late ↦ elim (cases_lt 0 (all_up_to deal s n (steps_of a) x)) [
        | inl some ↦ omega arith
        | inr no_turns ↦ elim (cases_lt (olds_of p m y) (olds_of p m x)) [
          | inl fell ↦ omega arith
          | inr kept ↦
              let still : (d : ℕ) → turns_up_to deal (client_at x.clients c).stamp d (steps_of a) x ≡ 0 = λ d. subst (λ i. turns_up_to deal i d (steps_of a) x ≡ 0) (sym waits.stamp) (elim (cases_lt d n) [
                | inl within ↦ none_of_sum deal s n d (steps_of a) x within (omega arith)
                | inr beyond ↦ none_beyond laws p s d (steps_of a) x r (omega arith)
              ]) in
              absurd (is x c a count r (record { client = asks_within x c waits.asks; asks = waits.asks }) waits.few (omega arith)
              parts.0 (omega arith) serves.0 (keeps_olds p m x y go waits.voters kept) still)
        ]
      ]
    ]

pub blocks_turn : (laws : Laws) (p : Course) (c n m s size k : ℕ) → IsBlock p n size → (rounds : List (List Step)) (x : WorldState) (old : ℕ) → Waits p c n m s x → k * size ≤ length rounds → HasTurns p c n m s k x old rounds
blocks_turn laws p c n m s size zero is rounds x old waits long fair left stays =
    (let fewer = olds_fall p m x (run_of p.deal (steps_of rounds) x) (Goes-run laws p (steps_of rounds) x waits.few waits.sure) in omega arith)
blocks_turn laws p c n m s size (suc k) is rounds x old waits long fair left stays =
    let product = suc-mul k size in
    let parts = split_rounds size rounds (omega arith) in
    let lengths = parts.4 in
    subst (HasTurns p c n m s (suc k) x old) (sym parts.2) (one_block laws p c n m s size k is parts.0 parts.1 x old waits parts.3
    (λ y later waits_y. blocks_turn laws p c n m s size k is parts.1 y later waits_y (omega arith)))
    fair left stays

-- ---- nothing stands still

-- a client that has its stamp at the end, and asks if it did, does not turn
still_turns : (laws : Laws) (p : Course) (d : ℕ) (steps : List Step) (x : WorldState) → IsSure p x → (client_at (run_of p.deal steps x).clients d).stamp ≡ (client_at x.clients d).stamp
    → (asks_at x d ≡ true → asks_at (run_of p.deal steps x) d ≡ true) → turns p.deal d steps x ≡ 0
still_turns laws p d [] x r stamp asks = refl
still_turns laws p d (t ∷ steps) x r stamp asks =
    let deal = p.deal in
    let y = next deal x t in
    let ok = (r []).coherent in
    let ry = IsSure-after p x r t in
    let same = same_between (client_at x.clients d) (client_at y.clients d) (client_at (run_of deal steps y).clients d)
    (Lasts-moved laws x y ok (ry []).coherent (Moved-by t x y (MovedBy-step deal x ok.numbered t)) d) (Lasts-run laws p steps y ry d) stamp asks in
    let here = turn_same (asks_at x d) (asks_at y d) same.asks in
    let rest = still_turns laws p d steps y ry (stamp ∙ sym same.stamp) (λ now. asks (sym same.asks ∙ now)) in
    omega arith

-- in more blocks than there are old grants somebody asks, enters or gives up
pub moves_by : (laws : Laws) (p : Course) (w : WorldState) (c size k : ℕ) → IsBlock p (length w.clients) size → (rounds : List (List Step)) → AreOld p w → IsSure p w → Asks w c → AreLiveRounds of_steps p.live p.deal w rounds → late_in p.deal 0 w rounds ≡ 0
    → Serving p w (run_of p.deal (steps_of rounds) w) → olds_of p (length w.voters) w < k → k * size ≤ length rounds → IsStill w (run_of p.deal (steps_of rounds) w) → ⊥
unfolding all_up_to
moves_by laws p w c size k is rounds few r asks fair late left enough long still =
    let n = length w.clients in
    let s = (client_at w.clients c).stamp in
    let steps = steps_of rounds in
    let none : (d : ℕ) → turns p.deal d steps w ≡ 0 = λ d. still_turns laws p d steps w r (still.stamps d) (still.asks d) in
    let turned = blocks_turn laws p c n (length w.voters) s size k is rounds w 0 (record { clients = refl; voters = refl; few = few; sure = r; asks = asks.asks; stamp = refl }) long fair left (none c) in
    let most = sum_below-le n (λ d. turns_up_to p.deal s d steps w) (λ d. 0) (λ d _. (let zero_turns = none d in let less = up_to_most laws p s d steps w r in omega arith)) in
    let zeros = sum_below-zero n in
    omega arith

pub live_move : Laws → (live : Live) (w : Planned) (c size : ℕ) → IsBlock (course_of live w) (length w.state.clients) size → (rounds : List (List Step)) → IsReached w → Asks w.state c → AreLiveRounds of_steps live (dealing_of w.plans) w.state rounds
    → late_in (dealing_of w.plans) 0 w.state rounds ≡ 0 → Serving (course_of live w) w.state (run_of (dealing_of w.plans) (steps_of rounds) w.state) → size ≤ length rounds
    → IsStill w.state (run_of (dealing_of w.plans) (steps_of rounds) w.state) → ⊥
live_move laws live w c size is rounds reached asks fair late left long still =
    let p = course_of live w in
    let none = no_olds p (length w.state.voters) w.state (λ v. refl) in
    moves_by laws p w.state c size 1 is rounds (λ v. omega arith) (IsSure-reached laws live w reached) asks fair late left (omega arith) (omega arith) still

-- ---- somebody enters

product_of : (b t len : ℕ) → b * t ≤ len → t * b ≤ len
product_of b t len most = (let turned = mul_comm b t in omega arith)

-- a client below n entered, or none of these did
entered_or : (n : ℕ) (more : List Event) → ((d : ℕ) → d < n → entries_of d more ≡ 0) ⊎ ((d : ℕ) × (1 ≤ entries_of d more))
entered_or zero more = inl (λ d less. absurd (omega arith))
entered_or (suc n) more = elim (cases_lt 0 (entries_of n more)) [
  | inl some ↦ inr (n, omega arith)
  | inr none ↦ elim (entered_or n more) [
    | inr one ↦ inr one
    | inl all ↦ inl (λ d less. elim (cases_eq d n) [
      | inl same ↦ ap (λ i. entries_of i more) same ∙ (let e : entries_of n more ≡ 0 = omega arith in e)
      | inr other ↦ all d (omega arith)
    ])
  ]
]

pub one_most : (b : Bool) → one_if b ≤ 1
one_most true = omega arith
one_most false = omega arith

-- who is not live does not turn
pub out_turns : (laws : Laws) (p : Course) (d : ℕ) (steps : List Step) (x : WorldState) → IsSure p x → Serving p x (run_of p.deal steps x) → p.live.client d ≡ false → turns p.deal d steps x ≡ 0
out_turns laws p d steps x r serving dead =
    let out = serving.out d dead in
    still_turns laws p d steps x r out.1 (λ asks. absurd (false≢true (sym (idle_not_asking (client_at x.clients d).phase out.0) ∙ asks)))

-- a client that asks is live
pub some_live : (p : Course) (x : WorldState) (c : ℕ) → Asks x c → LiveServe p x → 1 ≤ live_below p.live (length x.clients)
some_live p x c asks serves =
    let one : ◌≡◌ {A = ℕ} (if p.live.client c then 1 else 0) 1 = ap (λ b. if b then 1 else 0) (live_by p x c serves (is_asking-busy (client_at x.clients c).phase asks.asks)) in
    let some = sum_has (length x.clients) c (λ d. if p.live.client d then 1 else 0) asks.client in
    omega arith

-- how often all clients turn, if none enters
turns_by : (laws : Laws) (p : Course) (n s : ℕ) (steps : List Step) (x : WorldState) (more : List Event) → IsSure p x → Serving p x (run_of p.deal steps x) → (run_of p.deal steps x).visible ≡ x.visible ++ more
    → ((d : ℕ) → d < n → entries_of d more ≡ 0) → all_up_to p.deal s n steps x + sum_below (λ d. one_if (asks_at x d)) n ≤ live_below p.live n + 2 * give_ups_in steps
unfolding all_up_to
turns_by laws p n s steps x more r serving visible none =
    let deal = p.deal in
    let z = run_of deal steps x in
    let h : ℕ → ℕ = λ d. if p.live.client d then 1 else 0 in
    let each : (d : ℕ) → d < n → turns_up_to deal s d steps x + one_if (asks_at x d) ≤ h d + 2 * own_give_ups d steps = λ d less.
    let few = up_to_most laws p s d steps x r in
    elim (p.live.client d) as (λ b. p.live.client d ≡ b → turns_up_to deal s d steps x + one_if (asks_at x d) ≤ h d + 2 * own_give_ups d steps) [
      | true ↦ λ alive.
          let one : h d ≡ 1 = ap (λ b. if b then 1 else 0) alive in
          let a = turns_most laws p steps x more r visible d in
          let b = none d less in
          let last = one_most (asks_at z d) in
          omega arith
      | false ↦ λ dead.
          let zero_turns = out_turns laws p d steps x r serving dead in
          let idle : one_if (asks_at x d) ≡ 0 = ap one_if (idle_not_asking (client_at x.clients d).phase (serving.out d dead).0) in
          omega arith
    ] refl in
    let all = sum_below-le n (λ d. turns_up_to deal s d steps x + one_if (asks_at x d)) (λ d. h d + 2 * own_give_ups d steps) each in
    let left_sum = sum_below-add n (λ d. turns_up_to deal s d steps x) (λ d. one_if (asks_at x d)) in
    let right_sum = sum_below-add n h (λ d. 2 * own_give_ups d steps) in
    let twice = sum_below-times n 2 (λ d. own_give_ups d steps) in
    let few = all_give_ups n steps in
    omega arith

-- who enters is live
entered_live : (laws : Laws) (p : Course) (steps : List Step) (x : WorldState) (more : List Event) → IsSure p x → Serving p x (run_of p.deal steps x) → (run_of p.deal steps x).visible ≡ x.visible ++ more → (d : ℕ)
    → 1 ≤ entries_of d more → p.live.client d ≡ true
entered_live laws p steps x more r serving visible d some = by (p.live.client d) refl
  where
    by : (b : Bool) → p.live.client d ≡ b → p.live.client d ≡ true
    by true is = is
    by false dead = (let few = entries_most laws p steps x more r visible d in let none = out_turns laws p d steps x r serving dead in absurd (omega arith))

-- t blocks are enough
pub somebody_by : (laws : Laws) (p : Course) (w : WorldState) (c size t : ℕ) → IsBlock p (length w.clients) size → (rounds : List (List Step)) (more : List Event) → AreOld p w → IsSure p w → Asks w c → AreLiveRounds of_steps p.live p.deal w rounds
    → DoesNotGiveUp c (steps_of rounds) → Serving p w (run_of p.deal (steps_of rounds) w)
    → live_below p.live (length w.clients) + 2 * give_ups_in (steps_of rounds) + late_in p.deal 0 w rounds + olds_of p (length w.voters) w ≤ t → size * t ≤ length rounds
    → (run_of p.deal (steps_of rounds) w).visible ≡ w.visible ++ more → (d : ℕ) × (p.live.client d ≡ true) × (1 ≤ entries_of d more)
somebody_by laws p w c size t is rounds more few r asks fair stays left enough long visible =
    let deal = p.deal in
    let n = length w.clients in
    let m = length w.voters in
    let z = run_of deal (steps_of rounds) w in
    elim (entered_or n more) [
      | inr one ↦ (one.0, entered_live laws p (steps_of rounds) w more r left visible one.0 one.1, one.1)
      | inl none ↦
          let s = (client_at w.clients c).stamp in
          let on = asks_on laws p c (steps_of rounds) w more r visible (none c asks.client) (gives_up_never c (steps_of rounds) stays) asks.asks in
          let turned = blocks_turn laws p c n m s size t is rounds w 0 (record { clients = refl; voters = refl; few = few; sure = r; asks = asks.asks; stamp = refl })
          (product_of size t (length rounds) long) fair left on.1 in
          let most = turns_by laws p n s (steps_of rounds) w more r left visible none in
          let some = sum_has n c (λ d. one_if (asks_at w d)) asks.client in
          let asked : one_if (asks_at w c) ≡ 1 = ap one_if asks.asks in
          absurd (omega arith)
    ]

pub live_somebody : Laws → (live : Live) (w : Planned) (c size : ℕ) → IsBlock (course_of live w) (length w.state.clients) size → (rounds : List (List Step)) (more : List Event) → IsReached w → Asks w.state c → AreLiveRounds of_steps live (dealing_of w.plans) w.state rounds
    → DoesNotGiveUp c (steps_of rounds) → Serving (course_of live w) w.state (run_of (dealing_of w.plans) (steps_of rounds) w.state)
    → size * (live_below live (length w.state.clients) + 2 * give_ups_in (steps_of rounds) + late_in (dealing_of w.plans) 0 w.state rounds) ≤ length rounds
    → (run_of (dealing_of w.plans) (steps_of rounds) w.state).visible ≡ w.state.visible ++ more → (d : ℕ) × (live.client d ≡ true) × (1 ≤ entries_of d more)
live_somebody laws live w c size is rounds more r asks fair stays left long visible =
    let p = course_of live w in
    let none = no_olds p (length w.state.voters) w.state (λ v. refl) in
    somebody_by laws p w.state c size (live_below live (length w.state.clients) + 2 * give_ups_in (steps_of rounds) + late_in (dealing_of w.plans) 0 w.state rounds) is rounds more (λ v. omega arith) (IsSure-reached laws live w r) asks fair stays left
    (omega arith) long visible

-- ---- whoever asked enters

-- the request of the client runs on, all along
pub runs_along : (laws : Laws) (p : Course) (w : WorldState) (c : ℕ) (steps : List Step) (x : WorldState) → IsSure p x → SameAsk (client_at w.clients c) (client_at x.clients c)
    → is_asking (client_at w.clients c).phase ≡ true → turns p.deal c steps x ≡ 0 → Serving p x (run_of p.deal steps x)
    → Along (RunsOn p w c) MovedBy p.deal steps x
runs_along laws p w c [] x r same asking none left = record { reached = r; same = same; left = left_before laws p [] x r left }
runs_along laws p w c (s ∷ steps) x r same asking none left =
    let deal = p.deal in
    let ok = (r []).coherent in
    let y = next deal x s in
    let ry = IsSure-after p x r s in
    let by = MovedBy-step deal x ok.numbered s in
    let kept = no_turn (asks_at x c) (asks_at y c) (let e : turn (asks_at x c) (asks_at y c) ≡ 0 = omega arith in e) in
    let stamp = stamp_stays s x y c by kept in
    let lasts = Lasts-moved laws x y ok (ry []).coherent (Moved-by s x y by) c in
    let later : SameAsk (client_at w.clients c) (client_at y.clients c) = record {
      stamp = stamp ∙ same.stamp;
      asks = kept ∙ same.asks;
      quorum = λ asks. lasts.quorum stamp (kept ∙ same.asks ∙ asks) ∙ same.quorum asks;
    } in (
      record { reached = r; same = same; left = left_before laws p (s ∷ steps) x r left },
      by,
      runs_along laws p w c steps y ry later asking (omega arith) (serving_both laws p (s ∷ []) steps x r left).1,
    )

-- What holds after a fair round r that begins while the client c asks, if c neither enters nor gives up in r
-- and in the steps after it.
pub record AsksAfter (p : Course) (x : WorldState) (c : ℕ) (r rest : List Step) : Type 0 where
  pub later : List Event
  pub shows : (run_of p.deal rest (run_of p.deal r x)).visible ≡ (run_of p.deal r x).visible ++ later
  pub none : entries_of c later ≡ 0
  pub stays : own_give_ups c rest ≡ 0
  pub heeds : Heeds c (run_of p.deal r x)
  pub asks : asks_at (run_of p.deal r x) c ≡ true
  pub turns_not : turns p.deal c rest (run_of p.deal r x) ≡ 0
  pub left : Serving p (run_of p.deal r x) (run_of p.deal rest (run_of p.deal r x))
  pub known : IsKnownEverywhere (run_of p.deal r x) c
  pub runs : StillRuns (run_of p.deal r x) (run_of p.deal rest (run_of p.deal r x)) c

pub asks_after : (laws : Laws) (p : Course) (x : WorldState) (c : ℕ) (r rest : List Step) (more : List Event) → IsSure p x → Heeds c x → Asks x c → IsLiveRound of_steps p.live p.deal x r
    → own_give_ups c (r ++ rest) ≡ 0 → Serving p x (run_of p.deal (r ++ rest) x) → (run_of p.deal (r ++ rest) x).visible ≡ x.visible ++ more → entries_of c more ≡ 0 → AsksAfter p x c r rest
asks_after laws p x c r rest more reached heeded asks fair stays left visible none =
    let deal = p.deal in
    let y = run_of deal r x in
    let ry = IsSure-run p r x reached in
    let heeded_y = kept-by (Heeds c) (Heeds-moved laws c) deal r x (stays_coherent p x reached) heeded in
    let goes = run_then deal r rest x in
    let z = run_of deal rest y in
    let first = shown laws p r x reached in
    let later = shown laws p rest y ry in
    let same : first.0 ++ later.0 ≡ more = append_cancel_left x.visible (first.0 ++ later.0) more
    (sym (append_assoc x.visible first.0 later.0) ∙ ap (λ es. es ++ later.0) (sym first.1) ∙ sym later.1 ∙ ap (λ (u : WorldState). u.visible) (sym goes) ∙ visible) in
    let entered = sym (entries_of-append c first.0 later.0) ∙ ap (entries_of c) same ∙ none in
    let gave = sym (own_give_ups-append c r rest) ∙ stays in
    let none_later : entries_of c later.0 ≡ 0 = omega arith in
    let stays_later : own_give_ups c rest ≡ 0 = omega arith in
    let on_first = asks_on laws p c r x first.0 reached first.1 (let e : entries_of c first.0 ≡ 0 = omega arith in e) (let e : own_give_ups c r ≡ 0 = omega arith in e) asks.asks in
    let on_later = asks_on laws p c rest y later.0 ry later.1 none_later stays_later on_first.0 in
    let serves = serving_both laws p r rest x reached left in
    let left_z = serves.1 in
    let left_y = serves.0 in
    let own : SameAsk (client_at x.clients c) (client_at x.clients c) = record { stamp = refl; asks = refl; quorum = λ _. refl } in
    let along = runs_along laws p x c r x reached own asks.asks on_first.1 left_y in
    let end = (along-last (RunsOn p x c) MovedBy deal r x along).same in
    let known : IsKnownEverywhere y c = record {
      runs = is_asking-busy (client_at y.clients c).phase on_first.0;
      known = λ v member. subst (λ t. IsEntry (voter_at y.voters v) c t) (sym end.stamp)
          (known_after laws p x r c v along fair asks.asks (ap (λ l. has l v) (sym (end.quorum asks.asks)) ∙ member));
    } in
    let runs : StillRuns y z c = record { runs = is_asking-busy (client_at z.clients c).phase on_later.0; same = (none_turned laws p c rest y ry on_later.1).1 } in
    record {
      later = later.0;
      shows = later.1;
      none = none_later;
      stays = stays_later;
      heeds = heeded_y;
      asks = on_first.0;
      turns_not = on_later.1;
      left = left_z;
      known = known;
      runs = runs;
    }
