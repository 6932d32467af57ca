use Rattle.coterie_file.proofs.ReadingLaws.{coterie_at-describes, describes-coterie_at, named_at}
use Rattle.coterie_file.proofs.laws.texts_read_as_coteries.Goals as goal

pub returns : goal.returns
returns c = record {
  exact = λ text n. (coterie_at-describes text n, describes-coterie_at text n);
  named = named_at;
}
