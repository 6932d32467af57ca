use Rattle.std.proofs.Common.{◌+◌, ◌<◌, eqb, get_or, length, take, ap, ◌∙◌, arith}
use Rattle.std.proofs.lemmas.List.{get_or_read, length-map, length-set, length-take, take_all}
use Rattle.std.proofs.lemmas.List.FromFn.{fill_by_all}
use Rattle.std.proofs.lemmas.List.Sums.{count_by-le-length}
use Rattle.numbers.specs.Counts.{times}
use Rattle.dealer.specs.declared.receipt.Receipt.{Receipt}
use Rattle.dealer.specs.Cycles.{quorum_of_ticket}
use Rattle.dealer.specs.Accounts.{quorums_named}
use Rattle.dealer.specs.Offices.{tickets_of}
use Rattle.dealer.proofs.AccountLemmas.{times-more_counts}
use Rattle.dealer.proofs.ReceiptLemmas.{receipt_names}
use Rattle.dealer.proofs.office.counts_of_receipts.Goals as goal

pub index_mut-requires : goal.index_mut-requires
index_mut-requires c =
    let named = receipt_names c.args.cycle.now c.args.receipts.now c.loop-receipt.receipt-index (record { ticket = 0; quorum = 0 }) c.plan.ensures.certificate c.requires (omega arith) in
    omega (arith, named.1, c.loop-receipt.invariant.long, c.loop-receipt.counts.ok.0)

pub overflow_add-index_mut : goal.overflow_add-index_mut
overflow_add-index_mut c =
    let w = c.args.cycle.now in
    let receipts = c.args.receipts.now in
    let i = c.loop-receipt.receipt-index in
    let j = quorum_of_ticket w (get_or (tickets_of receipts) i 0) in
    let before = take i (tickets_of receipts) in
    let named = receipt_names w receipts i (record { ticket = 0; quorum = 0 }) c.plan.ensures.certificate c.requires (omega arith) in
    let inside : (get_or receipts i (record { ticket = 0; quorum = 0 })).quorum < length c.loop-receipt.counts.items = omega (arith, named.1, c.loop-receipt.invariant.long) in
    omega (
      arith,
      get_or_read c.loop-receipt.counts.items _ c.index_mut.result.now inside c.index_mut.ensures.value 0,
      ap (λ j. get_or c.loop-receipt.counts.items j 0) named.0,
      c.loop-receipt.invariant.counted j,
      count_by-le-length (λ k. eqb k j) (quorums_named w before),
      length-map before (quorum_of_ticket w),
      length-take i (tickets_of receipts),
      length-map receipts (λ (r : Receipt). r.ticket),
    )

pub loop-receipt-preserved : goal.loop-receipt-preserved
loop-receipt-preserved c =
    let w = c.args.cycle.now in
    let receipts = c.args.receipts.now in
    let i = c.loop-receipt.receipt-index in
    let counts = c.loop-receipt.counts.items in
    let named = receipt_names w receipts i (record { ticket = 0; quorum = 0 }) c.plan.ensures.certificate c.requires (omega arith) in
    let inside : (get_or receipts i (record { ticket = 0; quorum = 0 })).quorum < length c.loop-receipt.counts.items = omega (arith, named.1, c.loop-receipt.invariant.long) in
    record {
      long = length-set counts _ (c.index_mut.result.now + 1) ∙ c.loop-receipt.invariant.long;
      counted = times-more_counts w (tickets_of receipts) counts i _ c.index_mut.result.now (omega (arith, length-map receipts (λ (r : Receipt). r.ticket)))
          c.loop-receipt.invariant.counted named.0 inside
          (get_or_read counts _ c.index_mut.result.now inside c.index_mut.ensures.value 0);
    }

pub returns : goal.returns
returns c =
    let w = c.args.cycle.now in
    let tickets = tickets_of c.args.receipts.now in
    let all = take_all c.loop-receipt.receipt-index tickets (omega (arith, length-map c.args.receipts.now (λ (r : Receipt). r.ticket))) in
    fill_by_all (λ j. times j (quorums_named w tickets)) c.loop-receipt.counts.items (length w.system.quorums) 0 c.loop-receipt.invariant.long
    (λ j lt. c.loop-receipt.invariant.counted j ∙ ap (λ ts. times j (quorums_named w ts)) all)
