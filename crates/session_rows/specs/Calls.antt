-- What the calls of a row leave, and why they are refused: the steps of `sessions`, with bounds.
use Rattle.std.specs.Prelude.{ℕ, ◌+◌, ◌-◌, ◌^◌, ◌==◌, nat_lt, min, Bool, false, ◌&&◌, ◌||◌, not, Option, Some, None, is_none, if◌then◌else◌, Result, Ok, Err}
use Rattle.numbers.specs.Bounds.{max_limit}
use Rattle.sessions.specs.Rows.{Row, claimed, closed, dropped, has_number, is_new, reserved, taken_back}
use Rattle.session_rows.specs.declared.claim.Bounds.{Bounds}
use Rattle.session_rows.specs.declared.claim.Claim.{Claim}
use Rattle.session_rows.specs.declared.claim.Heard.{Heard}
use Rattle.session_rows.specs.declared.fault.RowFault.{RowFault}
use Rattle.session_rows.specs.declared.fault.RowFault.TheVariants.{EpochsSpent, FarEpoch, InUse, NotOwner, OldEpoch}

-- the most by which a claim's epoch may be above the row's
abbrev pub most_epochs : ℕ
most_epochs = 2 ^ 20

-- the most stamps that come with a claim
abbrev pub most_claimed : ℕ
most_claimed = 2 ^ 12

-- a number has a row before anybody had it: its epochs and its stamps are above this floor
abbrev pub floor_row : ℕ → ℕ → Row
floor_row epoch stamp = record { epoch = epoch; session = None; base = stamp; reserved = stamp; again = false }

-- the outcome, unless there is a fault
abbrev pub unless : {F G : Type 0} → Option G → F → Result F G
unless None outcome = Ok outcome
unless (Some fault) outcome = Err fault

-- Why a new claim is refused: its epoch may not be claimed, or is too far above the row's, or some session has the
-- number and was heard of late.
abbrev pub claim_fault : Row → ℕ → Bool → ℕ → Option RowFault
claim_fault r epoch is_silent epochs =
    if not (is_new r epoch) then Some OldEpoch
    else if nat_lt (r.epoch + min epochs most_epochs) epoch then Some FarEpoch
    else if is_none r.session || is_silent then None else Some InUse

-- the highest stamp that a session may reserve, if it wants this one
abbrev pub allowed_stamp : ℕ → ℕ → ℕ
allowed_stamp stamp most = min stamp (min most max_limit)

-- a claim that is new: it reserves at once
abbrev pub new_claim : Row → Claim → ℕ → Row
new_claim r claim most =
    reserved (claimed r claim.session claim.epoch) claim.session claim.epoch (allowed_stamp (r.reserved + min claim.stamps most_claimed) most)

-- the row after a claim, which changes nothing if the session has the number already
abbrev pub claim_of : Row → Claim → Bool → Bounds → Result Row RowFault
claim_of r claim is_silent bounds =
    if has_number r claim.session claim.epoch then Ok r
    else unless (claim_fault r claim.epoch is_silent bounds.epochs) (new_claim r claim bounds.stamp)

-- why a session's message changes nothing: the number is not its own
abbrev pub owner_fault : Row → ℕ → ℕ → Option RowFault
owner_fault r session epoch = if has_number r session epoch then None else Some NotOwner

-- the row after a session wants stamps up to this one
abbrev pub reserve_of : Row → ℕ → ℕ → ℕ → ℕ → Result Row RowFault
reserve_of r session epoch stamp most = unless (owner_fault r session epoch) (reserved r session epoch (allowed_stamp stamp most))

-- the row after a session gave its number back
abbrev pub close_of : Row → ℕ → ℕ → Result Row RowFault
close_of r session epoch = unless (owner_fault r session epoch) (closed r session epoch)

-- the row after a session took its claim back
abbrev pub take_back_of : Row → ℕ → ℕ → Result Row RowFault
take_back_of r session epoch = unless (owner_fault r session epoch) (taken_back r session epoch)

-- the row after its session was ended by somebody else: it is nobody's, under the next epoch
abbrev pub evict_of : Row → Result Row RowFault
evict_of r = unless (if nat_lt (r.epoch + 1) (2 ^ 64) then None else Some EpochsSpent) (dropped r (r.epoch + 1) 0)

-- ---- what a voter learns from another voter's row

-- the newest epoch that nobody may claim any more, by the other row, if nobody has the number there
abbrev pub closed_epoch : Row → ℕ
closed_epoch other = if other.again then other.epoch - 1 else other.epoch

-- The other row's number has a session there, if any: it has it here too, above all that was reserved here. If nobody
-- has it, an epoch that may be claimed again there may be claimed here.
abbrev pub followed_by : Row → Row → Option ℕ → Row
followed_by r other None = dropped r (closed_epoch other) other.reserved
followed_by r other (Some session) = reserved (claimed (dropped r 0 other.base) session other.epoch) session other.epoch other.reserved

-- whoever has the number here, this stamp is reserved
abbrev pub raised_by : Row → ℕ → Option ℕ → Row
raised_by r stamp None = dropped r 0 stamp
raised_by r stamp (Some session) = reserved r session r.epoch stamp

-- two sessions have the number
abbrev pub are_two : Option ℕ → Option ℕ → Bool
are_two (Some session) (Some other) = not (session == other)
are_two (Some session) None = false
are_two None other = false

-- the other row's epoch is newer, and its session was heard, or the one here was not
abbrev pub gives_way : Row → Row → Heard → Bool
gives_way r other heard = nat_lt r.epoch other.epoch && (heard.there || not heard.here)

-- two sessions that were heard have the number under one epoch
abbrev pub is_split : Row → Row → Heard → Bool
is_split r other heard = (r.epoch == other.epoch) && (are_two r.session other.session && (heard.here && heard.there))

-- The row after another voter's was learned. It follows a newer one. It is nobody's if two sessions have its
-- epoch. What is reserved there is reserved here.
abbrev pub learn_of : Row → Row → Heard → Row
learn_of r other heard =
    if gives_way r other heard then followed_by r other other.session
    else if is_split r other heard then dropped r r.epoch other.reserved
    else raised_by r other.reserved r.session
