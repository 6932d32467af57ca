use Rattle.std.proofs.Common.{◌≡◌, ◌+◌, ◌<◌, ◌%◌, List, eqb, length, get_or, map, take, sym, ap, ap₂, ◌∙◌, subst, arith}
use Rattle.std.proofs.lemmas.List.{get_or-map, get_or_read, length-map, length-set, length-take, take_all}
use Rattle.std.proofs.lemmas.List.FromFn.{fill_by_all}
use Rattle.std.proofs.lemmas.List.Sums.{count_by-le-length}
use Rattle.numbers.specs.Counts.{times}
use Rattle.certificate.specs.Certificates.{Weighted, cycle_len}
use Rattle.dealer.specs.Cycles.{quorum_of_ticket}
use Rattle.dealer.specs.Accounts.{quorums_named}
use Rattle.dealer.specs.Blocks.{quorums_from, AreInOrder, IsCycleOf, IsPlaceIn}
use Rattle.dealer.specs.declared.rounds.Block.{Block}
use Rattle.dealer.specs.declared.rounds.Listed.{Listed}
use Rattle.dealer.proofs.AccountLemmas.{times-more_counts, ticket_in_range}
use Rattle.dealer.proofs.BlockLemmas.{AreInOrder-blocks}
use Rattle.dealer.proofs.MadeBlocks.{named_in_lists}
use Rattle.dealer.proofs.cycle.Cycle.counts_of_quorums.Goals.{After-index, After-index-in-loop-ticket}
use Rattle.dealer.proofs.cycle.Cycle.counts_of_quorums.Goals as goal

pub place_in-number-requires : goal.place_in-number-requires
place_in-number-requires c =
    let is = c.self.invariant in
    subst AreInOrder (sym c.deref-in-loop-ticket.ensures.value) (AreInOrder-blocks c.self.inside.plan.quorum_weights c.self.inside.blocks.items is.in_blocks is.certificate.some_quorum)

-- the place that is found is in its list, and the list has the ticket's quorum there
place_named : (c : After-index) → (c.place_in-number.result.1 < length c.index.result.now.items)
    × (get_or c.index.result.now.items c.place_in-number.result.1 0
    ≡ quorum_of_ticket c.args.self.now (get_or c.args.tickets.now c.loop-ticket.ticket-index 0))
place_named c =
    let w = c.args.self.now in
    let ticket = get_or c.args.tickets.now c.loop-ticket.ticket-index 0 in
    let blocks = c.self.inside.blocks.items in
    let is = subst (λ (v : Weighted). IsCycleOf v c.self.inside.listed.items blocks) c.self.view_is c.self.invariant in
    let list = c.index.result.now in
    let lists = c.in_ok-lists.lists.items in
    let found = subst (λ (bs : List Block). IsPlaceIn bs (ticket % c.cycle_len.result) c.place_in-number.result) c.deref-in-loop-ticket.ensures.value c.place_in-number.ensures in
    let laid_out = c.in_ok-lists.ensures ∙ ap₂ (λ (qs : List Listed) (bs : List Block). map (λ (b : Block). quorums_from qs b.least) bs) c.deref.ensures.value c.deref-2.ensures.value in
    let at = ap (λ l. l.items) c.index.ensures ∙ sym (get_or-map (λ l. l.items) lists c.place_in-number.result.0 list list.items
    (omega (arith, found.in_range, ap length laid_out, length-map lists (λ l. l.items), length-map blocks (λ (b : Block). quorums_from c.self.inside.listed.items b.least)))) in
    named_in_lists w ticket c.cycle_len.result c.self.inside.listed.items blocks _ c.place_in-number.result list.items is
    (c.cycle_len.ensures.value ∙ ap (λ (v : Weighted). cycle_len v) c.self.view_is) found laid_out at

-- then what is counted is the ticket's quorum, and it has a count
quorum_counted : (c : After-index-in-loop-ticket) → (c.place_in-number.result.1 < length c.index.result.now.items)
    × (get_or c.index.result.now.items c.place_in-number.result.1 0
    ≡ quorum_of_ticket c.args.self.now (get_or c.args.tickets.now c.loop-ticket.ticket-index 0))
    → (c.index-in-loop-ticket.result.now
    ≡ quorum_of_ticket c.args.self.now (get_or c.args.tickets.now c.loop-ticket.ticket-index 0))
    × (c.index-in-loop-ticket.result.now < length c.loop-ticket.counts.items)
quorum_counted c (in_list, at) =
    let w = c.args.self.now in
    let blocks = c.self.inside.blocks.items in
    let is = subst (λ (v : Weighted). IsCycleOf v c.self.inside.listed.items blocks) c.self.view_is c.self.invariant in
    let inside = ticket_in_range w (get_or c.args.tickets.now c.loop-ticket.ticket-index 0) is.certificate in
    let list = c.index.result.now.items in
    let named = get_or_read list c.place_in-number.result.1 _ in_list c.index-in-loop-ticket.ensures 0 ∙ at in
    (named, omega (arith, named, c.loop-ticket.invariant.long, inside))

pub index-requires-in-loop-ticket : goal.index-requires-in-loop-ticket
index-requires-in-loop-ticket c =
    omega (arith, (place_named (goal.at.index-requires-in-loop-ticket c).After-index).0, c.index.result.now.ok.0)

pub index_mut-requires : goal.index_mut-requires
index_mut-requires c =
    let at = goal.at.index_mut-requires c in
    let counted = quorum_counted at.After-index-in-loop-ticket (place_named at.After-index) in
    omega (arith, counted.1, c.loop-ticket.counts.ok.0)

pub overflow_add-index_mut : goal.overflow_add-index_mut
overflow_add-index_mut c =
    let w = c.args.self.now in
    let j = c.index-in-loop-ticket.result.now in
    let before = take c.loop-ticket.ticket-index c.args.tickets.now in
    let at = goal.at.overflow_add-index_mut c in
    let counted = quorum_counted at.After-index-in-loop-ticket (place_named at.After-index) in
    omega (
      arith,
      get_or_read c.loop-ticket.counts.items j c.index_mut.result.now counted.1 c.index_mut.ensures.value 0,
      c.loop-ticket.invariant.counted j,
      count_by-le-length (λ k. eqb k j) (quorums_named w before),
      length-map before (quorum_of_ticket w),
      length-take c.loop-ticket.ticket-index c.args.tickets.now,
    )

pub loop-ticket-preserved : goal.loop-ticket-preserved
loop-ticket-preserved c =
    let at = goal.at.loop-ticket-preserved c in
    let (named, inside) = quorum_counted at.After-index-in-loop-ticket (place_named at.After-index) in
    let j = c.index-in-loop-ticket.result.now in
    let counts = c.loop-ticket.counts.items in
    record {
      long = length-set counts j (c.index_mut.result.now + 1) ∙ c.loop-ticket.invariant.long;
      counted = times-more_counts c.args.self.now c.args.tickets.now counts c.loop-ticket.ticket-index j c.index_mut.result.now (omega arith) c.loop-ticket.invariant.counted named inside
          (get_or_read counts j c.index_mut.result.now inside c.index_mut.ensures.value 0);
    }

pub returns : goal.returns
returns c =
    let w = c.args.self.now in
    let tickets = c.args.tickets.now in
    let all = take_all c.loop-ticket.ticket-index tickets (omega arith) in
    fill_by_all (λ j. times j (quorums_named w tickets)) c.loop-ticket.counts.items (length w.system.quorums) 0 c.loop-ticket.invariant.long
    (λ j lt. c.loop-ticket.invariant.counted j ∙ ap (λ ts. times j (quorums_named w ts)) all)
