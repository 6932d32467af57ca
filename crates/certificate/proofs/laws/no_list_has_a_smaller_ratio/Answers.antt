use Rattle.certificate.proofs.Optimal.{IsOptimal-ratio_of}
use Rattle.certificate.proofs.laws.no_list_has_a_smaller_ratio.Goals as goal

pub returns : goal.returns
returns c = IsOptimal-ratio_of
