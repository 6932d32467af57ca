use Rattle.show_report.proofs.NameLemmas.{plain_names}
use Rattle.show_report.proofs.laws.names_are_plain_in_html.Goals as goal

pub returns : goal.returns
returns c = λ named is. plain_names named.names is.names.named
