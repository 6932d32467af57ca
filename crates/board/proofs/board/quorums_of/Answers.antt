use Rattle.std.proofs.Common.{◌≡◌, ◌<◌, ◌+◌, ◌++◌, ◌∷◌, ℕ, List, [], length, take, get_or, sym, ◌∙◌, arith}
use Rattle.std.proofs.lemmas.List.{take_more}
use Rattle.std.proofs.lemmas.Option.{get_or_from_slice_get}
use Rattle.board.proofs.board.quorums_of.Goals as goal

take-push : (quorums sets : List (List ℕ)) (j : ℕ) (set : List ℕ) → sets ≡ take j quorums → set ≡ get_or quorums j [] → j < length quorums → sets ++ set ∷ [] ≡ take (j + 1) quorums
take-push quorums sets j set so_far is inside = (λ i. so_far i ++ is i ∷ []) ∙ sym (take_more quorums j [] inside)

pub loop-j-preserved : goal.loop-j-preserved
loop-j-preserved c =
    let quorums = c.args.coterie.now.quorums in
    let j : ℕ = c.loop-j.j in
    let at = get_or_from_slice_get quorums j c.quorum.result.now [] c.quorum.ensures.value in
    let pushed = c.in_ok-push.ensures.items in
    ◌∙◌ {A = List (List ℕ)} pushed (take-push quorums c.loop-j.quorums.items j c.copy.result c.loop-j.invariant (c.copy.ensures.value ∙ sym at) (omega arith))
