use Rattle.std.proofs.Common.{inl, inr, arith}
use Rattle.world.specs.Restarts.{begin}
use Rattle.leases.proofs.PassLemmas.{Rises, admitted_in_order}
use Rattle.leases.proofs.in_order.passes_in_order_are_admitted.Goals as goal

pub returns : goal.returns
returns c voters clients limit quorums deal visits limits meets deals =
    let rises : Rises deal (begin voters clients limit) = λ before after first second v g n has later.
    elim (c.later_votes_have_greater_numbers.ensures voters clients limit quorums deal before after first second v g n limits meets deals has later) [
      | inl less ↦ omega arith
      | inr same ↦ let number = same.2 in omega arith
    ] in
    admitted_in_order deal (begin voters clients limit) rises visits
