-- What a record has of one draw and of one pass, and the order of its entries.
use Rattle.std.specs.Prelude.{◌≡◌, ℕ, List, length}
use Rattle.std.specs.List.{range_with_len}

-- a client, the ticket that it drew, and the quorum that the ticket names
abbrev pub Draw : Type 0
Draw = ℕ × ℕ × ℕ

-- a client, and the number by which it passed
abbrev pub Pass : Type 0
Pass = ℕ × ℕ

-- the numbers are 0, 1, 2 and so on, in this order
abbrev pub AreInOrder : List ℕ → Type 0
AreInOrder numbers = numbers ≡ range_with_len 0 (length numbers)
