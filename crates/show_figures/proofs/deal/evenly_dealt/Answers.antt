use Rattle.std.proofs.Common.{◌∙◌, ap, refl}
use Rattle.certificate.specs.Certificates.{Weighted}
use Rattle.show_figures.specs.Accounts.{account_of_list}
use Rattle.even.specs.EvenCycles.{window}
use Rattle.show_figures.proofs.deal.evenly_dealt.Goals as goal

pub returns-clause-dealt : goal.returns-clause-dealt
returns-clause-dealt c = record {
  order = c.in_ok-cycle.cycle;
  weights = c.in_ok-cycle.ensures.weights;
  first = c.in_ok-cycle.ensures.first;
  account = c.in_ok-account.ensures.value ∙ ap (λ (w : Weighted). account_of_list w (window c.in_ok-cycle.cycle 0 c.args.count)) c.in_ok-cycle.ensures.weights;
  receipts = c.in_ok-receipts.ensures;
  evenness = _;
  told = refl;
  stride = c.stride-stride.ensures.value;
  slack = c.slack-slack.ensures;
}
