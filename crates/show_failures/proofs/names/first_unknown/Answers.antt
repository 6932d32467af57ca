use Rattle.std.proofs.Common.{◌∙◌, not, string_bytes, sym}
use Rattle.coterie_file.specs.Names.{has_name}
use Rattle.coterie_file.proofs.ListLemmas.{position-map}
use Rattle.show_failures.proofs.names.first_unknown.Goals as goal

pub returns : goal.returns
returns c = c.unknown_in.ensures ∙ sym (position-map (λ w. not (has_name c.args.named.now.names w)) string_bytes c.args.words.now)
