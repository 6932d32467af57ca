use Rattle.std.proofs.Common.{leb, rules, arith}
use Rattle.std.proofs.lemmas.Bool.{leb-false, leb-true}
use Rattle.std.proofs.lemmas.List.Sorted.{IsPartitionPoint-from_clause, IsPartitionedBy-leb}
use Rattle.even.proofs.places.ended_at.Goals as goal

pub returns-clause-ended : goal.returns-clause-ended
returns-clause-ended c =
    let parted = IsPartitionedBy-leb (λ x. x) c.args.ends.now c.args.place c.requires in
    let point = IsPartitionPoint-from_clause (λ x. leb x c.args.place) _ _ c.partition_point.ensures.partitioned parted (λ a r q k. search rules) in
    λ k below. leb-true _ _ (point.0 k 0 (omega arith) below)

pub returns-clause-later : goal.returns-clause-later
returns-clause-later c =
    let parted = IsPartitionedBy-leb (λ x. x) c.args.ends.now c.args.place c.requires in
    let point = IsPartitionPoint-from_clause (λ x. leb x c.args.place) _ _ c.partition_point.ensures.partitioned parted (λ a r q k. search rules) in
    λ k from below. leb-false _ _ (point.1 k 0 from below)
