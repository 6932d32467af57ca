use Rattle.std.proofs.Common.{◌∷◌, [], ap, arith, length}
use Rattle.std.proofs.lemmas.List.{length-append}
use Rattle.quorum_set.specs.Counts.{count_of}
use Rattle.show_figures.proofs.CountLemmas.{values_below-more}
use Rattle.show_figures.proofs.account.counts_of_voters.Goals as goal

pub loop-voter-preserved : goal.loop-voter-preserved
loop-voter-preserved c =
    let before = c.loop-voter.counts.items in
    record {
      so_far = values_below-more c.loop-voter.voter (λ i. count_of c.args.coterie.now i c.args.list.now) before c.push.new.self.items c.count_of_voter.result
          c.loop-voter.invariant.so_far c.count_of_voter.ensures c.in_ok-push.ensures.items;
      long = omega (arith, c.loop-voter.invariant.long, ap length c.in_ok-push.ensures.items, length-append before (c.count_of_voter.result ∷ []));
    }
