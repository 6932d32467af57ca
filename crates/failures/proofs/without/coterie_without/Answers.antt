use Rattle.failures.proofs.FailureLemmas.{refused-nothing}
use Rattle.failures.proofs.without.coterie_without.Goals as goal

pub returns-in-Err-clause-none : goal.returns-in-Err-clause-none
returns-in-Err-clause-none c =
    let made = c.of.ensures in
    let refused = c.in-Err.is in
    let voters = c.voters.ensures.value in
    let quorums = c.in_ok-quorums.ensures in
    refused-nothing c.args.coterie.now c.args.failed.now c.in-Err.field-0 c.voters.ensures.coterie cc
