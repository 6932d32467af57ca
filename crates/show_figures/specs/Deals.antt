-- Tickets that are dealt in the even order, or by rounds.
use Rattle.std.specs.Prelude.{◌≡◌, ℕ, None, Some, map}
use Rattle.std.specs.List.{range_with_len}
use Rattle.certificate.specs.Certificates.{Weighted, cycle_len}
use Rattle.even.specs.EvenCycles.{EvenOrder, even_quorum, window}
use Rattle.even.specs.Slacks.{IsSlack}
use Rattle.even.specs.Strides.{IsFirstBest, strides_of}
use Rattle.dealer.specs.Accounts.{account_of}
use Rattle.dealer.specs.Offices.{receipt_of}
use Rattle.dealer.specs.declared.receipt.Receipt.{Receipt}
use Rattle.show_figures.specs.Accounts.{account_of_list}
use Rattle.show_figures.specs.declared.deal.Dealt.{Dealt}
use Rattle.show_figures.specs.declared.deal.Evenness.{Evenness}

-- the receipt of a ticket
abbrev pub even_receipt : EvenOrder → ℕ → Receipt
even_receipt o ticket = record { ticket = ticket; quorum = even_quorum o ticket }

-- The tickets below n, dealt in the even order of the weights, with its stride and its slack. The stride is
-- the first of smallest slack among those that are tried: by the law `even_orders_are_one` of `even`
-- there is one such order.
pub record IsEvenDeal (w : Weighted) (n : ℕ) (d : Dealt) : Type 0 where
  pub order : EvenOrder
  pub weights : order.weights ≡ w
  pub first : IsFirstBest (strides_of (cycle_len w)) order
  pub account : d.account ≡ account_of_list w (window order 0 n)
  pub receipts : d.receipts.items ≡ map (even_receipt order) (range_with_len 0 n)
  pub evenness : Evenness
  pub told : d.evenness ≡ Some evenness
  pub stride : evenness.stride ≡ order.stride
  pub slack : IsSlack order evenness.slack

-- the tickets below n, dealt by rounds
pub record IsRoundsDeal (w : Weighted) (n : ℕ) (d : Dealt) : Type 0 where
  pub account : d.account ≡ account_of w (range_with_len 0 n)
  pub receipts : d.receipts.items ≡ map (receipt_of w) (range_with_len 0 n)
  pub none : d.evenness ≡ None
