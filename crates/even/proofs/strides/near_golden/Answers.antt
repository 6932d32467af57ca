use Rattle.std.proofs.Common.{◌≡◌, ◌≤◌, ℕ, Bool, eqb, sym, ap, ◌∙◌, subst, arith}
use Rattle.std.specs.Int.{IsGcd}
use Rattle.std.specs.List.{All}
use Rattle.std.proofs.lemmas.Bool.{eq-eqb, ne_eqb}
use Rattle.std.proofs.lemmas.List.Elements.{All-push}
use Rattle.numbers.specs.Bounds.{max_cycle}
use Rattle.divisor.specs.Gcd.{gcd_of}
use Rattle.even.specs.Strides.{stride_at}
use Rattle.even.proofs.KeptLemmas.{kept_full, kept_more, kept_out}
use Rattle.even.proofs.strides.near_golden.Goals.{then-len-most+then-gcd-eq1+in_ok-push, else-len-most, else-len-most-via-then-len-most+else-gcd-eq1, else-len-most-via-else-len-most}
use Rattle.even.proofs.strides.near_golden.Goals as goal

pub loop-turn-preserved : goal.loop-turn-preserved
loop-turn-preserved c =
    let len = c.args.len in
    let most = c.strides_tried-most.result in
    let turn = c.loop-turn.turn in
    let before = c.loop-turn.strides.items in
    let stride = c.stride_at-stride.result in
    let passes : ℕ → Bool = λ s. eqb (gcd_of s len) 1 in
    let was = c.loop-turn.invariant in
    let at = c.stride_at-stride.ensures.value in
    elim c.if-len-most.branch [
      | then-len-most+then-gcd-eq1+in_ok-push w ↦
          let pushed = ap (λ v. v.items) w.strides-is ∙ w.in_ok-push.ensures.items in
          let one : gcd_of (stride_at len turn) len ≡ 1 = ap (λ s. gcd_of s len) (sym at) ∙ sym w.gcd.ensures.value ∙ w.if-gcd-eq1.true in
          record {
            strides_are = kept_more passes (stride_at len) most turn stride before c.if-len-most.strides.items was.strides_are (omega arith) at (eq-eqb _ 1 one) pushed;
            short = subst (λ items. All (λ s. s ≤ max_cycle) items) (sym pushed)
                (All-push (λ s. s ≤ max_cycle) before stride was.short (omega (arith, c.stride_at-stride.ensures.below, c.requires.short)));
            fair = subst (λ items. All (λ s. IsGcd s len 1) items) (sym pushed)
                (All-push (λ s. IsGcd s len 1) before stride was.fair (subst (λ g. IsGcd stride len g) w.if-gcd-eq1.true w.gcd.ensures.divisor));
          }
      | else-len-most w ↦
          let same = ap (λ v. v.items) w.strides-is in
          record {
            strides_are = same ∙ elim w.else-len-most.branch [
              | else-len-most-via-then-len-most+else-gcd-eq1 v ↦
                  kept_out passes (stride_at len) most turn before was.strides_are
                  (ne_eqb _ 1 (λ one. v.if-gcd-eq1.false (v.gcd.ensures.value ∙ ap (λ s. gcd_of s len) at ∙ one)))
              | else-len-most-via-else-len-most v ↦ kept_full passes (stride_at len) most turn before was.strides_are (omega arith)
            ];
            short = subst (λ items. All (λ s. s ≤ max_cycle) items) (sym same) was.short;
            fair = subst (λ items. All (λ s. IsGcd s len 1) items) (sym same) was.fair;
          }
    ]
