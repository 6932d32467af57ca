use Rattle.envelope.proofs.PlaceLemmas.{places}
use Rattle.envelope.proofs.laws.names_have_places.Goals as goal

pub returns : goal.returns
returns c text h ignored lines m = places text h ignored lines m
