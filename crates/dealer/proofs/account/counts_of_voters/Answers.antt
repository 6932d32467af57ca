use Rattle.certificate.specs.Loads.{weight_on}
use Rattle.dealer.proofs.AccountLemmas.{values_below-more}
use Rattle.dealer.proofs.account.counts_of_voters.Goals as goal

pub loop-voter-preserved : goal.loop-voter-preserved
loop-voter-preserved c =
    values_below-more c.loop-voter.voter (λ i. weight_on i c.args.coterie.now.quorums c.args.counts.now) c.loop-voter.voters.items c.push.new.self.items c.weight_on.result
    c.loop-voter.invariant c.weight_on.ensures.weight c.in_ok-push.ensures.items
