use Rattle.std.proofs.Common.{◌*◌}
use Rattle.certificate.specs.Certificates.{cycle_len}
use Rattle.numbers.proofs.CountLemmas.{length-permuted, times-permuted}
use Rattle.dealer.proofs.laws.tickets_fill_cycles_in_any_order.Goals as goal

pub returns : goal.returns
returns c = λ w k tickets permuted. record {
  in_all = length-permuted (k * cycle_len w) tickets permuted;
  each_once = λ ticket lt. times-permuted (k * cycle_len w) ticket tickets permuted lt;
}
