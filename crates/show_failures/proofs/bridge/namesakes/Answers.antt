use Rattle.std.proofs.Common.{◌≡◌, ◌<◌, ◌∙◌, ◌++◌, ◌∷◌, [], ap, ap₂, arith, length, map, slice_get, sym}
use Rattle.show_failures.specs.Names.{voters_named}
use Rattle.show_failures.specs.Bridges.{namesakes}
use Rattle.show_failures.proofs.ListLemmas.{map-take_more}
use Rattle.show_failures.proofs.bridge.namesakes.Goals as goal

pub loop-number-preserved : goal.loop-number-preserved
loop-number-preserved c =
    let first = c.args.first.now in
    let quorums = c.args.second.now.system.quorums in
    let k = c.loop-number.number in
    let q = c.quorum.result.now in
    let at = ap (λ s. slice_get s.quorums k) (sym c.coterie-in-loop-number.ensures.value) ∙ c.quorum.ensures.value in
    let size = ap (λ s. length s.quorums) c.coterie.ensures.value in
    let lt : k < length quorums = omega (arith, c.loop-number-test.true, c.count-count.ensures.value, size) in
    let set : c.voters_named.result ≡ namesakes first c.args.second.now q = c.voters_named.ensures.value ∙ ap (λ t. voters_named first.names (map (λ n. n.now) t)) c.deref.ensures.value
    ∙ ap (voters_named first.names) c.in_ok-names.ensures in
    c.in_ok-push.ensures.items ∙ ap₂ (λ xs x. xs ++ x ∷ []) c.loop-number.invariant set ∙ sym (map-take_more (namesakes first c.args.second.now) quorums k q at lt)
