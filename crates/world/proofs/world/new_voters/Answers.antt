use Rattle.std.proofs.Common.{[], ◌∷◌, ◌++◌, sym, ◌∙◌, arith}
use Rattle.std.proofs.lemmas.List.FromFn.{map-range_with_len_more}
use Rattle.voter.specs.Steps.{start}
use Rattle.world.proofs.world.new_voters.Goals as goal

pub loop-v-preserved : goal.loop-v-preserved
loop-v-preserved c =
    c.in_ok-push.ensures.items ∙ (λ i. c.loop-v.invariant i ++ c.new.ensures i ∷ []) ∙ sym (map-range_with_len_more (λ i. start i c.args.limit) 0 c.loop-v.v c.loop-v.v (omega arith))
