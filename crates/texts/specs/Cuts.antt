-- Texts that are cut at a byte.
use Rattle.std.specs.Prelude.{ℕ, ◌+◌, ◌==◌, List, take, drop, position, Option, option_map}

-- the bytes before and after the first byte that is the mark, if there is one
abbrev pub cut_at : ℕ → List ℕ → Option (List ℕ × List ℕ)
cut_at mark bytes = option_map (λ place. (take place bytes, drop (place + 1) bytes)) (position (λ b. b == mark) bytes)
