use Rattle.std.proofs.Common.{◌≡◌, ℕ, ◌+◌, ◌*◌, ◌++◌, List, length, map, ap, sym, ◌∙◌, subst, arith}
use Rattle.std.proofs.Math.Nat.{mul-le-mul_right}
use Rattle.numbers.specs.Sums.{AreAllBelow}
use Rattle.quorum_set.specs.declared.bridge.Side.{Side}
use Rattle.quorum_set.specs.declared.bridge.Side.TheVariants.{First, Second}
use Rattle.dealer.specs.declared.receipt.Receipt.{Receipt}
use Rattle.dealer.specs.Offices.{tickets_of}
use Rattle.clerks.specs.Clerks.{ClerksState, HasShare, names_of, receipts_of}
use Rattle.members.specs.Clusters.{names_in}
use Rattle.members.specs.Records.{Pass, all_passes, all_receipts}
use Rattle.members.proofs.ClerkLemmas.{AreWhole-HasShare, HasShare-fresh, names_of-fresh, receipts_of-fresh}
use Rattle.members.proofs.cluster.Cluster.join.Goals as goal
use Rattle.members.proofs.cluster.Cluster.join.Goals.{After-close}
use Rattle.members.proofs.cluster.Cluster.join.Given.{Over}

pub end-requires-clause-whole : goal.end-requires-clause-whole
end-requires-clause-whole g c =
    let cluster = g.N.ClusterName.cluster in
    let names = names_in cluster in
    let left = c.into_inner-root.result.no_tickets in
    let clients = cluster.board.clients * cluster.quota in
    let members : ℕ = 0 + length c.args.members.items * cluster.quota in
    AreWhole-HasShare c.self.inside.offices c.join_all.new.clerks names clients members c.self.invariant.offices_are
    (c.in_ok-join_all.ensures.names ∙ ap names_of left ∙ names_of-fresh names 0)
    (c.in_ok-join_all.ensures.share 0 (subst (λ (k : ClerksState). HasShare k 0) (sym left) (HasShare-fresh names 0)))
    (omega (arith, mul-le-mul_right cluster.quota c.requires))

-- the root has the passes of all members
passes : (g : Over) (c : After-close g) → c.join_all.new.root.passes ≡ all_passes c.args.members.items
passes g c = c.in_ok-join_all.ensures.passes
    ∙ ap (λ (l : List Pass). l ++ all_passes c.args.members.items) c.into_inner-root.result.no_passes

pub returns-clause-passes : goal.returns-clause-passes
returns-clause-passes g c = c.in-Ok.ensures.passes ∙ passes g (goal.at.returns-clause-passes g c).After-close

pub returns-clause-once : goal.returns-clause-once
returns-clause-once g c = subst (λ (l : List Pass). AreAllBelow (map (λ p. p.1) l) c.in-Ok.total.register)
    (passes g (goal.at.returns-clause-once g c).After-close) c.in-Ok.ensures.once

pub returns-clause-register : goal.returns-clause-register
returns-clause-register g c = c.in-Ok.ensures.register ∙ ap length (passes g (goal.at.returns-clause-register g c).After-close)

pub returns-clause-tickets : goal.returns-clause-tickets
returns-clause-tickets g c =
    let members = c.args.members.items in
    let left = c.into_inner-root.result.no_tickets in
    let names = names_in g.N.ClusterName.cluster in
    let receipts : (side : Side) → receipts_of c.join_all.new.clerks side ≡ all_receipts side members = λ side.
    c.in_ok-join_all.ensures.receipts side ∙ ap (λ (k : ClerksState). receipts_of k side ++ all_receipts side members) left
    ∙ ap (λ (l : List Receipt). l ++ all_receipts side members) (receipts_of-fresh names 0 side) in
    λ side. elim side as (λ s. AreAllBelow (tickets_of (all_receipts s members)) (length (all_receipts s members))) [
      | First ↦ subst (λ (l : List Receipt). AreAllBelow (tickets_of l) (length l)) (receipts First) c.end.ensures.first
      | Second ↦ subst (λ (l : List Receipt). AreAllBelow (tickets_of l) (length l)) (receipts Second) c.end.ensures.second
    ]
