use Rattle.session_lines.proofs.ControlLemmas.{cut_of_client, cut_of_voter}
use Rattle.session_lines.proofs.laws.control_lines_are_cut.Goals as goal

pub returns : goal.returns
returns c = record { clients = cut_of_client; voters = cut_of_voter }
