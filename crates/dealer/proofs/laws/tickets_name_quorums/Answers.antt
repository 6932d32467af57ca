use Rattle.std.proofs.Common.{◌%◌, arith}
use Rattle.std.proofs.Math.Nat.{mod-lt}
use Rattle.certificate.specs.Certificates.{cycle_len}
use Rattle.dealer.proofs.CycleLemmas.{cycle_of-lt}
use Rattle.dealer.proofs.laws.tickets_name_quorums.Goals as goal

pub returns : goal.returns
returns c = λ w ticket is.
    let some = is.some_quorum in
    omega (arith, cycle_of-lt w.quorum_weights (ticket % cycle_len w) (mod-lt ticket {m = cycle_len w} some), is.quorums)
