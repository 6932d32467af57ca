use Rattle.std.proofs.Common.{◌≡◌, ◌+◌, ◌*◌, ◌≤◌}
use Rattle.numbers.specs.Counts.{greatest_below}
use Rattle.even.specs.Leads.{gains_of, lead_after}
use Rattle.even.proofs.leads.leads_of.Given as goal

abbrev pub invariant-loop-quorum : goal.invariant-loop-quorum
invariant-loop-quorum l = record {
  lead_is : l.lead ≡ lead_after (gains_of l.coterie l.voter l.gain l.order) l.cost l.start l.quorum-index;
  greatest_is : l.greatest ≡ greatest_below (l.quorum-index + 1) (lead_after (gains_of l.coterie l.voter l.gain l.order) l.cost l.start);
  small : l.lead ≤ l.start + 1000000000 * l.quorum-index;
}
