use Rattle.std.proofs.Common.{◌↔◌, ◌≡◌, true, subst}
use Rattle.losses.specs.Losses.{KeepTickets}
use Rattle.losses.proofs.BearingLemmas.{BearsLosses-all, all-BearsLosses}
use Rattle.losses.proofs.bearing.bears_losses.Goals as goal

pub returns : goal.returns
returns c =
    let w = c.args.weights.now in
    let f = c.args.most in
    let keep = subst (λ down. (c.keep_tickets.result ≡ true) ↔ KeepTickets w down 0 f) c.empty.ensures c.keep_tickets.ensures.keep in
    (λ e. BearsLosses-all w f (keep.0 e), λ h. keep.1 (all-BearsLosses w f c.keep_tickets.ensures.weights.coterie.few_voters h))
