-- What a header says, as a contract sees it.
use Rattle.envelope.specs.Headers.{Head}
use Rattle.envelope.specs.declared.header.Header.{Header}

abbrev pub head_of : Header → Head
head_of h = record { cluster = h.cluster.now; coterie = h.coterie.now; sender = h.sender; name = h.name.now; level = h.level }
