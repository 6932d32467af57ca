-- Numbers as bytes: eight for each, the lowest first.
use Rattle.std.specs.Prelude.{ℕ, ◌<◌, ◌^◌, List}
use Rattle.std.specs.List.{All, flat_map}
use Rattle.std.specs.Int.{w64, to_le_bytes}

-- the bytes of these numbers
abbrev pub bytes_of : List ℕ → List ℕ
bytes_of words = flat_map (to_le_bytes w64) words

-- each of these numbers fits in 64 bits
abbrev pub FitIn64Bits : List ℕ → Type 0
FitIn64Bits words = All (λ word. word < 2 ^ 64) words
