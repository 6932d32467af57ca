-- What may come to a voter that keeps a row by these calls.
use Rattle.std.specs.Prelude.{ℕ, Bool, List, [], ◌∷◌, Result, Ok, Err, if◌then◌else◌}
use Rattle.sessions.specs.Rows.{Row, Voter, dropped, is_taken}
use Rattle.session_rows.specs.Calls.{claim_of, close_of, evict_of, learn_of, reserve_of, take_back_of}
use Rattle.session_rows.specs.declared.claim.Bounds.{Bounds}
use Rattle.session_rows.specs.declared.claim.Claim.{Claim}
use Rattle.session_rows.specs.declared.claim.Heard.{Heard}
use Rattle.session_rows.specs.declared.fault.RowFault.{RowFault}

-- a call of a row
pub data Call : Type 0 where
  -- a claim, whether the session that has the number is silent, and bounds
  Claims : Claim → Bool → Bounds → Call
  -- session, epoch, stamp, most
  Reserves : ℕ → ℕ → ℕ → ℕ → Call
  -- session, epoch
  Closes : ℕ → ℕ → Call
  -- session, epoch
  TakesBack : ℕ → ℕ → Call
  Evicts : Call
  -- epoch, stamp
  Drops : ℕ → ℕ → Call
  -- another voter's row, and whose session was heard
  Learns : Row → Heard → Call

-- a refused call changes nothing
abbrev pub row_or : Row → Result Row RowFault → Row
row_or r (Ok after) = after
row_or r (Err fault) = r

-- the row after a call
abbrev pub after_call : Row → Call → Row
after_call r (Claims claim is_silent bounds) = row_or r (claim_of r claim is_silent bounds)
after_call r (Reserves session epoch stamp most) = row_or r (reserve_of r session epoch stamp most)
after_call r (Closes session epoch) = row_or r (close_of r session epoch)
after_call r (TakesBack session epoch) = row_or r (take_back_of r session epoch)
after_call r Evicts = row_or r (evict_of r)
after_call r (Drops epoch stamp) = dropped r epoch stamp
after_call r (Learns other heard) = learn_of r other heard

-- what comes to a voter
pub data Turn : Type 0 where
  -- a call of its row
  Calls : Call → Turn
  -- a REQUEST, which it takes if its row does: session, epoch, stamp
  Requests : ℕ → ℕ → ℕ → Turn
  -- it saves
  Saves : Turn
  -- it crashes, and restarts from what it saved
  Crashes : Turn

abbrev pub after_turn : Voter → Turn → Voter
after_turn v (Calls call) = record { live = after_call v.live call; saved = v.saved; took = v.took; kept = v.kept }
after_turn v (Requests session epoch stamp) = record {
  live = v.live;
  saved = v.saved;
  took = if is_taken v.live session epoch stamp then record { session = session; epoch = epoch; stamp = stamp } ∷ v.took else v.took;
  kept = v.kept;
}
after_turn v Saves = record { live = v.live; saved = v.live; took = v.took; kept = v.took }
after_turn v Crashes = record { live = v.saved; saved = v.saved; took = v.kept; kept = v.kept }

-- the voter after these, in order
abbrev pub after_turns : Voter → List Turn → Voter
after_turns v [] = v
after_turns v (t ∷ ts) = after_turns (after_turn v t) ts
