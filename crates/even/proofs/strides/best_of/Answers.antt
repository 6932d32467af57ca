use Rattle.std.specs.Prelude.{◌==◌}
use Rattle.std.proofs.Common.{◌≤◌, ◌<◌, ℕ, List, [], ◌∷◌, ◌++◌, length, get_or, filter, map, take, sym, ap, ◌∙◌, subst, inl, inr, arith}
use Rattle.std.specs.Int.{IsGcd}
use Rattle.std.specs.List.{All, range_with_len}
use Rattle.std.proofs.lemmas.List.{take_all, take_more}
use Rattle.std.proofs.Math.Nat.{one-dvd}
use Rattle.numbers.specs.Bounds.{max_cycle}
use Rattle.divisor.specs.Gcd.{gcd_of}
use Rattle.certificate.specs.Certificates.{Weighted, cycle_len}
use Rattle.even.specs.declared.strides.Choice.{Choice}
use Rattle.even.specs.EvenCycles.{IsFair}
use Rattle.even.specs.Slacks.{IsExcess}
use Rattle.even.specs.Strides.{stride_at, strides_tried, with_stride, IsFirstBest}
use Rattle.even.proofs.SlackLemmas.{IsFirstBest-kept, IsFirstBest-next, IsFirstBest-one}
use Rattle.even.proofs.strides.best_of.Goals.{After-deref-stride-items}
use Rattle.even.proofs.strides.best_of.Goals as goal

-- 1 has a divisor in common with no number
one_is_fair : (w : Weighted) → IsFair (with_stride w 1)
one_is_fair w = (one-dvd 1, one-dvd (cycle_len w), λ d a b. a)

-- what is known of the choice that is kept
record IsChoice (w : Weighted) (strides : List ℕ) (choice : Choice) : Type 0 where
  short : choice.stride ≤ max_cycle
  fair : IsFair (with_stride w choice.stride)
  smallest : IsExcess (with_stride w choice.stride) choice.excess
  first : IsFirstBest strides (with_stride w choice.stride)

-- the strides that are tried are fair, and short
strides_fair : (c : After-deref-stride-items) → All (λ s. IsFair (with_stride c.args.weights.now s)) c.deref-stride-items.result.now
strides_fair c =
    subst (λ list. All (λ s. IsGcd s (cycle_len c.args.weights.now) 1) list) (sym c.deref-stride-items.ensures.value)
    (subst (λ len. All (λ s. IsGcd s len 1) c.in_ok-strides.strides.items) c.cycle_len.ensures.value c.in_ok-strides.ensures.fair)

strides_short : (c : After-deref-stride-items) → All (λ s. s ≤ max_cycle) c.deref-stride-items.result.now
strides_short c = subst (λ list. All (λ s. s ≤ max_cycle) list) (sym c.deref-stride-items.ensures.value) c.in_ok-strides.ensures.short

pub tried-requires-clause-fair : goal.tried-requires-clause-fair
tried-requires-clause-fair c = one_is_fair c.args.weights.now

pub loop-stride-init : goal.loop-stride-init
loop-stride-init c =
    let w = c.args.weights.now in
    let best = c.in_ok-best.best in
    let one = c.in_ok-best.ensures.stride in
    record {
      short = omega (arith, one);
      fair = subst (λ s. IsFair (with_stride w s)) (sym one) (one_is_fair w);
      excess = subst (λ s. IsExcess (with_stride w s) best.excess) (sym one) c.in_ok-best.ensures.excess;
      first = subst (λ s. IsFirstBest (1 ∷ []) (with_stride w s)) (sym one) (IsFirstBest-one w 1);
    }

pub tried-requires-in-loop-stride-clause-fair : goal.tried-requires-in-loop-stride-clause-fair
tried-requires-in-loop-stride-clause-fair c =
    strides_fair (goal.at.tried-requires-in-loop-stride-clause-fair c).After-deref-stride-items c.loop-stride.stride-index 0 (omega arith)

pub loop-stride-preserved : goal.loop-stride-preserved
loop-stride-preserved c =
    let w = c.args.weights.now in
    let items = c.deref-stride-items.result.now in
    let i = c.loop-stride.stride-index in
    let at = (goal.at.loop-stride-preserved c).After-deref-stride-items in
    let was = c.loop-stride.invariant in
    let lt : i < length items = omega arith in
    let s = get_or items i 0 in
    let before = 1 ∷ take i items in
    let after = before ++ s ∷ [] in
    let best = c.loop-stride.best in
    let next = c.in_ok-tried.field-0 in
    let is = c.in_ok-tried.ensures.stride in
    let of_next : IsExcess (with_stride w s) next.excess = c.in_ok-tried.ensures.excess in
    let kept_first : best.excess ≤ next.excess → IsChoice w after best = λ le. record {
      short = was.short;
      fair = was.fair;
      smallest = was.excess;
      first = IsFirstBest-kept w before best.stride best.excess s next.excess was.excess of_next le was.first;
    } in
    let next_first : next.excess < best.excess → IsChoice w after next = λ less. record {
      short = omega (arith, is, strides_short at i 0 lt);
      fair = subst (λ x. IsFair (with_stride w x)) (sym is) (strides_fair at i 0 lt);
      smallest = subst (λ x. IsExcess (with_stride w x) next.excess) (sym is) of_next;
      first = subst (λ x. IsFirstBest after (with_stride w x)) (sym is) (IsFirstBest-next w before best.stride best.excess s next.excess was.excess of_next less was.first);
    } in
    let of_kept : IsChoice w after c.better_of-best.result = elim c.better_of-best.ensures.one_of [
      | inl same ↦ subst (λ (x : Choice). IsChoice w after x) (sym same.0) (kept_first same.1)
      | inr same ↦ subst (λ (x : Choice). IsChoice w after x) (sym same.0) (next_first same.1)
    ] in
    record {
      short = of_kept.short;
      fair = of_kept.fair;
      excess = of_kept.smallest;
      first = subst (λ (list : List ℕ). IsFirstBest (1 ∷ list) (with_stride w c.better_of-best.result.stride)) (sym (take_more items i 0 lt)) of_kept.first;
    }

pub returns-clause-first : goal.returns-clause-first
returns-clause-first c =
    let w = c.args.weights.now in
    let items = c.deref-stride-items.result.now in
    let all = take_all c.loop-stride.stride-index items (omega arith)
    ∙ c.deref-stride-items.ensures.value
    ∙ c.in_ok-strides.ensures.value
    ∙ ap (λ len. take (strides_tried len) (filter (λ s. gcd_of s len == 1) (map (stride_at len) (range_with_len 0 len)))) c.cycle_len.ensures.value in
    subst (λ (list : List ℕ). IsFirstBest (1 ∷ list) (with_stride w c.loop-stride.best.stride)) all c.loop-stride.invariant.first
