use Rattle.std.proofs.Common.{◌++◌, ◌∷◌, [], get_or, map, take, ap, sym, ◌∙◌}
use Rattle.std.proofs.lemmas.List.{append_assoc, map-append, take_more}
use Rattle.dealer.specs.declared.receipt.Receipt.{Receipt}
use Rattle.members.specs.Records.{Draw}
use Rattle.members.proofs.RecordLemmas.{All-IsDraw}
use Rattle.members.proofs.close.push_draws.Goals as goal

pub loop-receipt-preserved : goal.loop-receipt-preserved
loop-receipt-preserved g c =
    let none : Receipt = record { ticket = 0; quorum = 0 } in
    let items = c.receipts-receipt-items.result.now in
    let i = c.loop-receipt.receipt-index in
    let item : Receipt = get_or items i none in
    let draw : Receipt → Draw = λ r. (c.client-client.result, r.ticket, r.quorum) in
    let old = c.args.draws.now.items in
    c.in_ok-push.ensures.items
    ∙ ap (λ l. l ++ draw item ∷ []) c.loop-receipt.invariant
    ∙ append_assoc old (map draw (take i items)) (draw item ∷ [])
    ∙ ap (λ l. old ++ l) (sym (ap (map draw) (take_more items i none c.loop-receipt-test.true) ∙ map-append draw (take i items) (item ∷ [])))

pub returns-clause-each : goal.returns-clause-each
returns-clause-each g c = All-IsDraw g.N.ClusterName.cluster c.args.side c.args.member.now c.client-client.ensures.in_range c.receipts-receipt-items.ensures.dealt
