-- The numbers that calls return to C, as in include/qlock.h.
use Rattle.std.specs.Prelude.{ℕ, ℤ, pos, Result, Ok, Err}
use Rattle.fence.specs.declared.fault.FenceFault.{FenceFault}
use Rattle.fence.specs.declared.fault.FenceFault.TheVariants as fence
use Rattle.requester.specs.declared.fault.ClientFault.{ClientFault}
use Rattle.requester.specs.declared.fault.ClientFault.TheVariants as client
use Rattle.session_rows.specs.declared.fault.RowFault.{RowFault}
use Rattle.session_rows.specs.declared.fault.RowFault.TheVariants as row
use Rattle.starts.specs.declared.fault.StartFault.{StartFault}
use Rattle.starts.specs.declared.fault.StartFault.TheVariants as start
use Rattle.blocks.specs.declared.refusal.Refusal.{Refusal}
use Rattle.blocks.specs.declared.refusal.Refusal.TheVariants.{BadArgument, BadState, BadMessage, NoRoom, Busy, NotInside, NotAsking, StampsSpent, GrantsSpent, OlderGrant, NoPass, TurnsSpent, OldEpoch, FarEpoch, InUse, NotOwner, EpochsSpent, Place, Older, TokensSpent}

-- the number of a refusal
abbrev pub number_of : Refusal → ℕ
number_of BadArgument = 1
number_of BadState = 2
number_of BadMessage = 3
number_of NoRoom = 4
number_of Busy = 5
number_of NotInside = 6
number_of NotAsking = 7
number_of StampsSpent = 8
number_of GrantsSpent = 9
number_of OlderGrant = 10
number_of NoPass = 13
number_of TurnsSpent = 14
number_of OldEpoch = 15
number_of FarEpoch = 16
number_of InUse = 17
number_of NotOwner = 18
number_of EpochsSpent = 19
number_of Place = 20
number_of Older = 21
number_of TokensSpent = 22

-- what a call returns that is done
abbrev pub done : ℤ
done = pos 0

-- what a call returns that is refused
abbrev pub refused : Refusal → ℤ
refused refusal = pos (number_of refusal)

-- what a call with this result returns
abbrev pub returned : {A : Type 0} → Result A Refusal → ℤ
returned (Ok x) = done
returned (Err refusal) = refused refusal

-- the refusal of a client's fault
abbrev pub client_refusal : ClientFault → Refusal
client_refusal client.Busy = Busy
client_refusal client.NotInside = NotInside
client_refusal client.NotAsking = NotAsking
client_refusal client.StampsSpent = StampsSpent

-- the refusal of a guard's fault
abbrev pub fence_refusal : FenceFault → Refusal
fence_refusal fence.OlderGrant = OlderGrant
fence_refusal fence.TurnsSpent = TurnsSpent

-- the refusal of a row's fault
abbrev pub row_refusal : RowFault → Refusal
row_refusal row.OldEpoch = OldEpoch
row_refusal row.FarEpoch = FarEpoch
row_refusal row.InUse = InUse
row_refusal row.NotOwner = NotOwner
row_refusal row.EpochsSpent = EpochsSpent

-- the refusal of a process that starts
abbrev pub start_refusal : StartFault → Refusal
start_refusal start.Place = Place
start_refusal start.Older = Older
