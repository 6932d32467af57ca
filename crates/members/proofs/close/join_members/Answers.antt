use Rattle.std.proofs.Common.{◌≡◌, ◌+◌, ◌*◌, ◌<◌, ℕ, length, ap, sym, subst, ◌∙◌, arith}
use Rattle.std.proofs.lemmas.List.{length_push}
use Rattle.clerks.specs.Clerks.{ClerksState, HasShare, names_of, receipts_of}
use Rattle.members.specs.Records.{Pass}
use Rattle.members.proofs.ClerkLemmas.{HasShare-joined_each, receipts_of-joined_each}
use Rattle.members.proofs.RecordLemmas.{All-all_passes_more, all_passes-more, all_receipts-more, share-more}
use Rattle.members.proofs.close.join_members.Goals as goal

pub loop-member-preserved : goal.loop-member-preserved
loop-member-preserved g c =
    let at = c.loop-member in
    let m = c.in-Some.member in
    let joined = c.in_ok-join_member.ensures in
    let long = length_push at.yielded m in
    let quota = g.N.ClusterName.cluster.quota in
    let same : names_of at.clerks ≡ names_of m.clerks = at.invariant.names ∙ c.requires.clerks ∙ sym joined.own in
    record {
      table = c.join_member.ensures.table ∙ at.invariant.table;
      names = c.join_member.ensures.names ∙ at.invariant.names;
      seats = omega (arith, at.invariant.seats, joined.seats, long);
      passes = all_passes-more c.args.root.now.passes at.root.passes c.join_member.new.root.passes at.yielded m at.invariant.passes joined.passes;
      each = All-all_passes_more (λ (p : Pass). p.0 < g.N.ClusterName.cluster.board.clients) at.yielded m at.invariant.each joined.each;
      receipts = λ side. all_receipts-more side (receipts_of c.args.clerks.now side) (receipts_of at.clerks side) (receipts_of c.join_member.new.clerks side) at.yielded m (at.invariant.receipts side)
          (ap (λ (k : ClerksState). receipts_of k side) joined.joined ∙ receipts_of-joined_each at.clerks m.clerks same side);
      share = λ n share.
          let before = n + length at.yielded * quota in
          subst (λ (s : ℕ). HasShare c.join_member.new.clerks s) (share-more n (length at.yielded) _ quota long)
          (subst (λ (k : ClerksState). HasShare k (before + quota)) (sym joined.joined) (HasShare-joined_each at.clerks m.clerks before quota same (at.invariant.share n share) joined.share));
    }
