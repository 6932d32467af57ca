-- whoever asks enters after so many fair rounds: only hasty withdrawals have a price
use Rattle.std.proofs.Common.{◌≡◌, ℕ, zero, suc, ◌+◌, ◌*◌, ◌<◌, ◌≤◌, List, [], ◌∷◌, ◌++◌, length, refl, ap, inl, inr, arith, false, true}
use Rattle.std.proofs.lemmas.Bool.{cases_eq, cases_lt}
use Rattle.numbers.specs.Sums.{sum_below}
use Rattle.world_state.specs.declared.step.Event.{Event}
use Rattle.world_state.specs.declared.step.Step.{Step}
use Rattle.world.specs.Runs.{IsReached, run_of}
use Rattle.world_state.specs.Steps.{Dealing, Planned, WorldState, dealing_of, client_at}
use Rattle.world.specs.Visible.{entries_of}
use Rattle.progress.specs.LiveRounds.{AreLiveRounds, Live, live_below}
use Rattle.progress.specs.Moves.{of_steps}
use Rattle.progress.specs.Patience.{hasty_in}
use Rattle.progress.specs.Rounds.{DoesNotGiveUp, late_in, steps_of}
use Rattle.progress.specs.Rules.{Laws}
use Rattle.world.specs.WayIn.{Asks}
use Rattle.progress.proofs.invariants.Always.{Heeds, heeds}
use Rattle.progress.proofs.overtaking.Behind.{stamp_of}
use Rattle.progress.proofs.block.Blocks.{IsBlock}
use Rattle.progress.proofs.patience.Counted.{all_hasty, own_from, three_turns}
use Rattle.progress.proofs.patience.Hearing.{trails_along}
use Rattle.progress.proofs.invariants.Kept.{IsKept-reached}
use Rattle.progress.proofs.losses.Lasting.{Goes-run, Lasts-run, left_before}
use Rattle.progress.proofs.rounds.Longer.{Grows-run}
use Rattle.progress.proofs.losses.Olds.{AreOld, no_olds, olds_fall, olds_of}
use Rattle.progress.proofs.invariants.Sure.{Course, IsSure, IsSure-reached, IsSure-run, Serving, course_of, live_by}
use Rattle.progress.proofs.block.Tame.{turns_up_to}
use Rattle.progress.proofs.patience.Turns.{gives_up_never}
use Rattle.progress.proofs.patience.Waiting.{AsksAfter, Waits, all_up_to, asks_after, blocks_turn, out_turns, some_live, up_to_most}
use Rattle.std.proofs.Math.Nat.{mul_comm, suc-mul}
use Rattle.std.specs.Prelude.{if◌then◌else◌}
use Rattle.requester.proofs.SoundSteps.{is_asking-busy}

-- ---- turns

sum_three : (n e : ℕ) (h l o : ℕ → ℕ) → e < n → h e ≡ 0 → l e ≡ 1 → ((d : ℕ) → h d ≤ 3 * l d + 2 * o d) → sum_below h n + 3 ≤ 3 * sum_below l n + 2 * sum_below o n
sum_three zero e h l o within own one most = absurd (omega arith)
sum_three (suc n) e h l o within own one most = elim (cases_eq e n) [
  | inl last ↦ (let here : h e ≡ h n = ap h last in let same : l e ≡ l n = ap l last in let rest = all_three n h l o most in omega arith)
  | inr other ↦ (let rest = sum_three n e h l o (omega arith) own one most in let here = most n in omega arith)
]
  where
    all_three : (n : ℕ) (h l o : ℕ → ℕ) → ((d : ℕ) → h d ≤ 3 * l d + 2 * o d) → sum_below h n ≤ 3 * sum_below l n + 2 * sum_below o n
    all_three zero h l o most = omega arith
    all_three (suc n) h l o most = (let rest = all_three n h l o most in let here = most n in omega arith)

few_up_to : (deal : Dealing) (s n e : ℕ) (steps : List Step) (x : WorldState) (l o : ℕ → ℕ) → e < n → turns_up_to deal s e steps x ≡ 0 → l e ≡ 1 → ((d : ℕ) → turns_up_to deal s d steps x ≤ 3 * l d + 2 * o d)
    → all_up_to deal s n steps x + 3 ≤ 3 * sum_below l n + 2 * sum_below o n
unfolding all_up_to
few_up_to deal s n e steps x l o within own one most = sum_three n e (λ d. turns_up_to deal s d steps x) l o within own one most

-- each other live client turns three times at most, and twice more for each hasty withdrawal
turns_after : (laws : Laws) (p : Course) (w : WorldState) (c : ℕ) (r : List Step) (rs : List (List Step)) → IsSure p w → Asks w c → AreLiveRounds of_steps p.live p.deal w (r ∷ rs) → AsksAfter p w c r (steps_of rs)
    → all_up_to p.deal (stamp_of (run_of p.deal r w) c) (length w.clients) (steps_of rs) (run_of p.deal r w) + 3 ≤ 3 * live_below p.live (length w.clients) + 2 * hasty_in p.deal w (r ∷ rs)
turns_after laws p w c r rs sure asks fair a =
    let deal = p.deal in
    let n = length w.clients in
    let y = run_of deal r w in
    let ry = IsSure-run p r w sure in
    let rest = steps_of rs in
    let s = stamp_of y c in
    let trails = trails_along laws p y c rest ry a.heeds a.known a.left a.runs in
    let own = up_to_most laws p s c rest y ry in
    let turns_not = a.turns_not in
    let l : ℕ → ℕ = λ d. if p.live.client d then 1 else 0 in
    let o : ℕ → ℕ = λ d. own_from deal d w w y rs in
    let alive = live_by p y c (left_before laws p rest y ry a.left) (is_asking-busy (client_at y.clients c).phase a.asks) in
    let most : (d : ℕ) → turns_up_to deal s d rest y ≤ 3 * l d + 2 * o d = λ d. elim (cases_eq d c) [
      | inl mine ↦ (let e = ap (λ i. turns_up_to deal s i rest y) mine in omega arith)
      | inr other ↦ elim (p.live.client d) as (λ b. p.live.client d ≡ b → turns_up_to deal s d rest y ≤ 3 * l d + 2 * o d) [
        | true ↦ λ lives.
            let one : l d ≡ 1 = ap (λ b. if b then 1 else 0) lives in
            let three = three_turns laws p y c d other rs w w (omega arith) (Lasts-run laws p r w sure d).stamp trails fair.1 in
            omega arith
        | false ↦ λ dead. (let few = up_to_most laws p s d rest y ry in let none = out_turns laws p d rest y ry a.left dead in omega arith)
      ] refl
    ] in
    let few = few_up_to deal s n c rest y l o asks.client (omega arith) (ap (λ b. if b then 1 else 0) alive) most in
    let hasty = all_hasty deal n w w y rs in
    omega arith

split_total : (b t len : ℕ) → 1 ≤ t → b * t ≤ len → (k : ℕ) × (t ≡ suc k) × (k * b + b ≤ len)
split_total b zero len some most = absurd (omega arith)
split_total b (suc k) len some most = (k, refl, (let turned = mul_comm b (suc k) in let product = suc-mul k b in omega arith))

-- t blocks are enough
pub everybody_by : (laws : Laws) (p : Course) (w : WorldState) (c size t : ℕ) → IsBlock p (length w.clients) size → 1 ≤ size → (rounds : List (List Step)) (more : List Event) → AreOld p w → IsSure p w → Heeds c w → Asks w c → AreLiveRounds of_steps p.live p.deal w rounds
    → DoesNotGiveUp c (steps_of rounds) → Serving p w (run_of p.deal (steps_of rounds) w)
    → 3 * live_below p.live (length w.clients) + 2 * hasty_in p.deal w rounds + late_in p.deal 0 w rounds + olds_of p (length w.voters) w ≤ t → size * t ≤ length rounds
    → (run_of p.deal (steps_of rounds) w).visible ≡ w.visible ++ more → 1 ≤ entries_of c more
everybody_by laws p w c size t is least [] more few r heeded asks fair stays left enough long visible =
    let some = asks.client in
    let alive = some_live p w c asks (left_before laws p [] w r left) in
    let parts = split_total size t 0 (omega arith) long in
    let product = parts.2 in
    absurd (omega arith)
everybody_by laws p w c size t is least (r ∷ rs) more few sure heeded asks fair stays left enough long visible = elim (cases_lt 0 (entries_of c more)) [
  | inl one ↦ omega arith
  | inr none ↦
      let n = length w.clients in
      let m = length w.voters in
      let some = asks.client in
      let alive = some_live p w c asks (left_before laws p (r ++ steps_of rs) w sure left) in
      let y = run_of p.deal r w in
      let parts = split_total size t (length (r ∷ rs)) (omega arith) long in
      let k = parts.0 in
      let total = parts.1 in
      let product = parts.2 in
      let a = asks_after laws p w c r (steps_of rs) more sure heeded asks fair.0 (gives_up_never c (r ++ steps_of rs) stays) left visible (omega arith) in
      let go = Goes-run laws p r w few sure in
      let fewer_olds = olds_fall p m w y go in
      let grows = Grows-run laws p r w sure in
      let waits : Waits p c n m (stamp_of y c) y = record {
        clients = grows.clients;
        voters = grows.voters;
        few = λ v. (let most = few v in let rises = (go.outlasts v).granted in omega arith);
        sure = IsSure-run p r w sure;
        asks = a.asks;
        stamp = refl;
      } in
      let turned = blocks_turn laws p c n m (stamp_of y c) size k is rs y (length w.sent) waits (omega arith) fair.1 a.left a.turns_not in
      let most = turns_after laws p w c r rs sure asks fair a in
      absurd (omega arith)
]

pub live_everybody : Laws → (live : Live) (w : Planned) (c size : ℕ) → IsBlock (course_of live w) (length w.state.clients) size → 1 ≤ size → (rounds : List (List Step)) (more : List Event) → IsReached w → Asks w.state c → AreLiveRounds of_steps live (dealing_of w.plans) w.state rounds
    → DoesNotGiveUp c (steps_of rounds) → Serving (course_of live w) w.state (run_of (dealing_of w.plans) (steps_of rounds) w.state)
    → size * (3 * live_below live (length w.state.clients) + 2 * hasty_in (dealing_of w.plans) w.state rounds + late_in (dealing_of w.plans) 0 w.state rounds) ≤ length rounds
    → (run_of (dealing_of w.plans) (steps_of rounds) w.state).visible ≡ w.state.visible ++ more → 1 ≤ entries_of c more
live_everybody laws live w c size is least rounds more r asks fair stays left long visible =
    let p = course_of live w in
    let none = no_olds p (length w.state.voters) w.state (λ v. refl) in
    everybody_by laws p w.state c size (3 * live_below live (length w.state.clients) + 2 * hasty_in (dealing_of w.plans) w.state rounds + late_in (dealing_of w.plans) 0 w.state rounds) is least rounds more (λ v. omega arith)
    (IsSure-reached laws live w r) (heeds c w.state (IsKept-reached laws w r []).always) asks fair stays left (omega arith) long visible
