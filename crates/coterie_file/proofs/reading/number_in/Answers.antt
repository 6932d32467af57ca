use Rattle.std.proofs.Common.{sym, ◌∙◌}
use Rattle.std.specs.Str.{bytes_eq}
use Rattle.coterie_file.proofs.ListLemmas.{position-map}
use Rattle.coterie_file.proofs.reading.number_in.Goals as goal

pub returns : goal.returns
returns c = c.get_index_of.ensures.index ∙ sym (position-map (λ n. bytes_eq c.args.name.now n) (λ k. k.now) c.args.voters.now.keys)
