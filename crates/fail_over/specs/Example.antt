-- Three voters, of which any two are a quorum, and a request that waits for the last one.
use Rattle.std.specs.Prelude.{ℕ, List, [], ◌∷◌}
use Rattle.fail_over.specs.declared.waiting.Waiting.{Waiting}

-- the voters 0 and 1, 1 and 2, and 2 and 0
abbrev pub pairs : List ℕ
pairs = 3 ∷ 6 ∷ 5 ∷ []

-- the sets of one voter
abbrev pub zeroth : ℕ
zeroth = 1

abbrev pub first : ℕ
first = 2

abbrev pub second : ℕ
second = 4

abbrev pub nobody : ℕ
nobody = 0

-- the voters 0 and 2 were asked at 100, and voter 0 gave its vote
abbrev pub waits : Waiting
waits = record { quorum = 5; votes = 1; asked = 100 }
