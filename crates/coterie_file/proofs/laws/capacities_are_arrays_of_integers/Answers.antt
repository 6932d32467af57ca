use Rattle.coterie_file.proofs.IntegerLaws.{numbers_of-integers, integers-numbers_of}
use Rattle.coterie_file.proofs.laws.capacities_are_arrays_of_integers.Goals as goal

pub returns : goal.returns
returns c = λ items capacities all. (numbers_of-integers items capacities all, integers-numbers_of items capacities)
