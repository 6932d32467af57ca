use Rattle.std.proofs.Common.{◌∙◌, ◌++◌, ◌∷◌, [], ap, arith, map, subst, sym, take}
use Rattle.std.specs.List.{AllByRecursion}
use Rattle.std.proofs.lemmas.List.{take_more}
use Rattle.numbers.proofs.Lists.{AllByRecursion-append, map-push}
use Rattle.show_compare.specs.Compare.{AreFigures}
use Rattle.show_compare.proofs.entries.entries_of.Goals as goal

pub loop-candidate-preserved : goal.loop-candidate-preserved
loop-candidate-preserved c =
    let candidates = c.args.candidates.now in
    let k = c.loop-candidate.candidate-index in
    let candidate = c.candidate-item.result in
    let old = c.loop-candidate.entries.items in
    let taken = take_more candidates k candidate (omega arith) ∙ ap (λ x. take k candidates ++ x ∷ []) (sym c.candidate-item.is) in
    record {
      candidates = ap (map (λ e. e.candidate.now)) c.in_ok-push.ensures.items ∙ map-push (λ e. e.candidate.now) old _ ∙ ap (λ xs. xs ++ candidate ∷ []) c.loop-candidate.invariant.candidates
          ∙ sym taken;
      figures = subst (AllByRecursion (λ e. AreFigures e.candidate.now.named e.compared)) (sym c.in_ok-push.ensures.items)
          (AllByRecursion-append (λ e. AreFigures e.candidate.now.named e.compared) old _ c.loop-candidate.invariant.figures (c.in_ok-compared.ensures, tt));
    }
