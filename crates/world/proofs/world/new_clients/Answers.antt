use Rattle.std.proofs.Common.{[], ◌∷◌, ◌++◌, sym, ◌∙◌, arith}
use Rattle.std.proofs.lemmas.List.FromFn.{map-range_with_len_more}
use Rattle.requester.specs.Steps.{start}
use Rattle.world.proofs.world.new_clients.Goals as goal

pub loop-c-preserved : goal.loop-c-preserved
loop-c-preserved c =
    c.in_ok-push.ensures.items ∙ (λ i. c.loop-c.invariant i ++ c.new.ensures i ∷ []) ∙ sym (map-range_with_len_more (λ i. start i c.args.limit) 0 c.loop-c.c c.loop-c.c (omega arith))
