-- The bounds of the whole lock. `src/lib.rt` has the same numbers as constants.
use Rattle.std.specs.Prelude.{ℕ, ◌^◌}

-- the most voters of a coterie; voters are numbered from 0
abbrev pub max_voters : ℕ
max_voters = 64

-- the most clients; clients are numbered from 0
abbrev pub max_clients : ℕ
max_clients = 64

-- the most quorums of a coterie; quorums are numbered from 0
abbrev pub max_quorums : ℕ
max_quorums = 4096

-- the most entries of a cycle, and the largest sum of the voters' weights
abbrev pub max_cycle : ℕ
max_cycle = 1000000

-- the highest limit that a voter or a client may have: of its grants, or of its stamps
abbrev pub max_limit : ℕ
max_limit = 2 ^ 62

-- the highest limit in scripts, on boards and in clusters
abbrev pub max_stamp : ℕ
max_stamp = 2 ^ 40

-- the most tickets; as each pass has a ticket, also the highest number of a register
abbrev pub max_tickets : ℕ
max_tickets = 2 ^ 63

-- the most tickets that one command deals
abbrev pub max_dealt : ℕ
max_dealt = 100000

-- the greatest capacity of a voter; the least is 1
abbrev pub max_capacity : ℕ
max_capacity = 1000
