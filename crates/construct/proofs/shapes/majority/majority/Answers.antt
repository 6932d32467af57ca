use Rattle.std.proofs.Common.{ap, arith, subst, ◌∙◌, Ok}
use Rattle.quorum_set.specs.Coteries.{IsCoterie}
use Rattle.construct.specs.Majority.{majority_at}
use Rattle.construct.proofs.FewLemmas.{gives-made, gives-refused, refuses-by}
use Rattle.construct.proofs.MajorityLemmas.{majority_at-made, majority_is_coterie, majority_made, majority_refused}
use Rattle.construct.proofs.shapes.majority.majority.Goals as goal

pub returns-in_err-quorums-clause-exact : goal.returns-in_err-quorums-clause-exact
returns-in_err-quorums-clause-exact c =
    let n = c.args.voters in
    let fault = c.in_err-quorums.field-0.0 in
    gives-refused c.from_residual.result (majority_at n) fault c.from_residual.ensures.1
    (refuses-by fault (majority_refused n fault (omega arith) (omega arith)) c.in_err-quorums.ensures)

pub coterie_of-requires : goal.coterie_of-requires
coterie_of-requires c =
    let n = c.args.voters in
    subst IsCoterie (majority_made n c.in_ok-quorums.quorums.items c.in_ok-quorums.ensures) (majority_is_coterie n (omega arith) (omega arith))

pub returns-clause-exact : goal.returns-clause-exact
returns-clause-exact c =
    let n = c.args.voters in
    let list = c.in_ok-quorums.quorums.items in
    gives-made c.coterie_of.result (majority_at n) (record { voters = n; quorums = list }) c.coterie_of.ensures
    (majority_at-made n (omega arith) (omega arith) ∙ ap (λ s. Ok s) (majority_made n list c.in_ok-quorums.ensures))
