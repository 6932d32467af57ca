-- How long a client waits at most, in fair rounds: the numbers of the laws of `progress`.
use Rattle.std.specs.Prelude.{ℕ, ◌+◌, ◌*◌}

-- The rounds of one block, for n clients. In as many fair rounds, without a late REQUEST, some request begins or
-- ends that is not later than a given one which runs.
abbrev pub block : ℕ → ℕ
block n = n + 8

-- the same of live rounds, while voters are down
abbrev pub live_block : ℕ → ℕ
live_block n = n + 9

-- After so many fair rounds a client that asks has entered: n clients, g withdrawals of others, and no
-- REQUEST comes late.
abbrev pub bound : ℕ → ℕ → ℕ
bound n g = block n * (3 * n + 2 * g)

-- The same if each request runs for two whole rounds before it is given up, however many are.
abbrev pub patient_bound : ℕ → ℕ
patient_bound n = block n * (3 * n)
