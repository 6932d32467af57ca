-- What a voter keeps of the voter of a place, and what it says to a process that started there.
use Rattle.std.specs.Prelude.{ℕ, ◌==◌, max, nat_lt, Bool, ◌&&◌, ◌||◌, Result, Ok, Err, if◌then◌else◌}
use Rattle.starts.specs.declared.fault.StartFault.{StartFault}
use Rattle.starts.specs.declared.fault.StartFault.TheVariants.{Older, Place}
use Rattle.starts.specs.declared.peer.Peer.{Peer}

-- ---- two that were in a place

-- The second one is the later voter: its state was made again more often.
abbrev pub is_made_later : Peer → Peer → Bool
is_made_later p now = nat_lt p.run now.run

-- The second one is the later process: of a voter that was made again more often, or of as many times, and it started
-- more often.
abbrev pub is_later : Peer → Peer → Bool
is_later p now = is_made_later p now || ((now.run == p.run) && nat_lt p.start now.start)

-- both are one process, if they are of one voter
abbrev pub is_same_process : Peer → Peer → Bool
is_same_process p now = (now.start == p.start) && (now.process == p.process)

-- ---- what is kept

-- the process, with the greater one of both ceilings, and with this note of how its state was saved when it ended
abbrev pub taken : Peer → Peer → ℕ → Peer
taken p now ended = record {
  identity = now.identity;
  run = now.run;
  start = now.start;
  process = now.process;
  ceiling = max now.ceiling p.ceiling;
  ended = ended;
}

-- A process started, where this one is known. It is taken if nobody is known, or if its voter was made again later. It may
-- say so again: then what is known of its end stays. Another voter does not get the place. Of one voter a process is taken
-- that started more often than the one that is known.
abbrev pub meets : Peer → Peer → Result Peer StartFault
meets p now =
    if p.identity == 0 then Ok (taken p now now.ended) else
    if now.identity == p.identity then
    (if is_same_process p now then Ok (taken p now p.ended) else
    if (now.run == p.run) && nat_lt p.start now.start then Ok (taken p now now.ended) else Err Older)
    else if is_made_later p now then Ok (taken p now now.ended) else Err Place

-- the process with the greater one of its ceiling and this one
abbrev pub raised_to : Peer → ℕ → Peer
raised_to p ceiling = record {
  identity = p.identity;
  run = p.run;
  start = p.start;
  process = p.process;
  ceiling = max p.ceiling ceiling;
  ended = p.ended;
}

-- of two that were in a place the later one, with the greater ceiling; the first one, if neither is later
abbrev pub later_of : Peer → Peer → Peer
later_of p q =
    if is_later p q || ((q.run == p.run) && (p.identity == 0)) then raised_to q p.ceiling else raised_to p q.ceiling

-- the voter's state was saved so often when it ended, if it is this process of it
abbrev pub ended_with : Peer → ℕ → ℕ → ℕ → Peer
ended_with p identity start saves =
    if (p.identity == identity) && (p.start == start) then
    record { identity = p.identity; run = p.run; start = p.start; process = p.process; ceiling = p.ceiling; ended = saves }
    else p

-- The last run of this voter is known to have ended, when its state had been saved just so often.
abbrev pub is_clean : Peer → ℕ → ℕ → Bool
is_clean p identity saves = (p.identity == identity) && (nat_lt 0 p.ended && (p.ended == saves))
