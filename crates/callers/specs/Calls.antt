-- The calls of one process for one lock: how many wait, which one has the lock, and what the session has to do for them. Its host keeps
-- those that wait in their order.
use Rattle.std.specs.Prelude.{ℕ, ◌+◌, ◌-◌, ◌^◌, ◌==◌, nat_lt, nat_le, Bool, true, false, ◌&&◌, ◌||◌, not, List, [], ◌∷◌, ◌++◌, Option, Some, None, is_none, is_some, if◌then◌else◌}
use Rattle.callers.specs.declared.calls.Calls.{Calls}
use Rattle.callers.specs.declared.calls.Holder.{Holder}
use Rattle.callers.specs.declared.calls.Next.{Next}
use Rattle.callers.specs.declared.calls.Next.TheVariants.{Nothing, Ask, GiveUp, Leave, Hand, Lose}
use Rattle.callers.specs.declared.calls.Phase.{Phase}
use Rattle.callers.specs.declared.calls.Phase.TheVariants.{Idle, Asking, Inside}
use Rattle.callers.specs.declared.fault.CallFault.{CallFault}
use Rattle.callers.specs.declared.fault.CallFault.TheVariants.{Closed, Held, TooMany}

-- ---- who waits, and who has the lock

-- nobody wants the lock yet, and the session used no stamp above this one
abbrev pub begun : ℕ → Calls
begun used = record { waiting = 0; is_tried = false; holder = None; used = used; is_closed = false }

abbrev pub somebody_waits : Calls → Bool
somebody_waits c = c.is_tried || nat_lt 0 c.waiting

abbrev pub has_lock : Calls → Bool
has_lock c = is_some c.holder

-- the session is inside
abbrev pub is_inside : Phase → Bool
is_inside Idle = false
is_inside Asking = false
is_inside (Inside request) = true

abbrev pub is_idle : Phase → Bool
is_idle Idle = true
is_idle Asking = false
is_idle (Inside request) = false

-- ---- calls come and go

-- as many calls may wait
abbrev pub most : ℕ
most = 2 ^ 64 - 1

-- Why a call is refused. One that only tries is taken only if it is the first, and nobody asks yet.
abbrev pub call_fault : Calls → Phase → Bool → Option CallFault
call_fault c phase tries =
    if c.is_closed then Some Closed
    else if tries then (if not (is_idle phase) || (has_lock c || somebody_waits c) then Some Held else None)
    else if nat_lt c.waiting most then None else Some TooMany

-- one more call waits
abbrev pub one_more : Calls → Bool → Calls
one_more c tries = if tries then record c { is_tried = true } else record c { waiting = c.waiting + 1 }

-- a call comes
abbrev pub wanted : Calls → Phase → Bool → Calls
wanted c phase tries = if is_none (call_fault c phase tries) then one_more c tries else c

-- a call does not wait any more
abbrev pub unwanted : Calls → Bool → Calls
unwanted c tries = if tries then record c { is_tried = false } else record c { waiting = c.waiting - 1 }

-- somebody else has the lock, and that ends a call that only tries
abbrev pub ends_try : Calls → Phase → Bool
ends_try c phase = c.is_tried && not (is_inside phase)

abbrev pub tries_refused : Calls → Phase → Calls
tries_refused c phase = if ends_try c phase then record c { is_tried = false } else c

-- no call waits any more
abbrev pub emptied : Calls → Calls
emptied c = record c { waiting = 0; is_tried = false }

-- and none is taken from now on
abbrev pub closed : Calls → Calls
closed c = record c { waiting = 0; is_tried = false; is_closed = true }

-- ---- the lock goes to a call, and comes back

-- The lock may be handed to a call: the session is inside, by a request under which no call had the lock, no call has it now, some
-- call waits, and the votes count.
abbrev pub may_hand : Calls → Phase → Bool → Bool
may_hand c Idle counts = false
may_hand c Asking counts = false
may_hand c (Inside request) counts = counts && (not (has_lock c) && (somebody_waits c && nat_lt c.used request))

-- a call has the lock under this request
abbrev pub with_holder : Calls → ℕ → Calls
with_holder c request = record c { holder = Some (record { request = request; is_lost = false }); used = request }

-- the lock is handed to the first call that waits
abbrev pub handed_under : Calls → Phase → Calls
handed_under c Idle = c
handed_under c Asking = c
handed_under c (Inside request) = with_holder (unwanted c c.is_tried) request

abbrev pub handed : Calls → Phase → Bool → Calls
handed c phase counts = if may_hand c phase counts then handed_under c phase else c

-- it is under this request that the call has the lock
abbrev pub is_under : Option Holder → ℕ → Bool
is_under None request = false
is_under (Some h) request = h.request == request

-- The session may end its request of this stamp: no call has the lock under it.
abbrev pub may_end : Calls → ℕ → Bool
may_end c request = not (is_under c.holder request)

-- whether a call was told that the lock may be lost
abbrev pub was_lost : Option Holder → Option Bool
was_lost None = None
was_lost (Some h) = Some h.is_lost

-- the call that has the lock under this request gives it back
abbrev pub unlocked : Calls → ℕ → Calls
unlocked c request = if is_under c.holder request then record c { holder = None } else c

abbrev pub lost_of : Calls → ℕ → Option Bool
lost_of c request = if is_under c.holder request then was_lost c.holder else None

-- a call that has the lock, and is told that it may be lost
abbrev pub told_lost : Option Holder → Option Holder
told_lost None = None
told_lost (Some h) = Some (record { request = h.request; is_lost = true })

-- the lock may be lost
abbrev pub lost : Calls → Calls
lost c = record c { holder = told_lost c.holder }

-- a call has the lock that was not told that it may be lost
abbrev pub is_unaware : Option Holder → Bool
is_unaware None = false
is_unaware (Some h) = not h.is_lost

abbrev pub is_new_loss : Calls → Bool
is_new_loss c = is_unaware c.holder

-- ---- what the session has to do

-- What is next while no call has the lock. The lock is asked for once somebody waits. A request is given up or left for which nobody waits,
-- and left if a call had the lock under it, or if a vote of it is doubtful.
abbrev pub next_free : Calls → Phase → Bool → Bool → Next
next_free c Idle counts doubtful = if somebody_waits c then Ask else Nothing
next_free c Asking counts doubtful = if somebody_waits c then Nothing else GiveUp
next_free c (Inside request) counts doubtful =
    if not (somebody_waits c) || nat_le request c.used then Leave
    else if counts then Hand
    else if doubtful then Leave else Nothing

-- What the session has to do next, in this phase: by whether all votes of its quorum count now, and whether one of them is doubtful, as it does
-- not count any more. While a call has the lock there is nothing to do.
abbrev pub next : Calls → Phase → Bool → Bool → Next
next c phase counts doubtful = if has_lock c then Nothing else next_free c phase counts doubtful

-- what it has to do if a vote may be somebody else's, while no call has the lock
abbrev pub spoiled_free : Phase → Next
spoiled_free Idle = Nothing
spoiled_free Asking = GiveUp
spoiled_free (Inside request) = Leave

-- What it has to do if a vote may be somebody else's. A call that has the lock is told, once.
abbrev pub spoiled_of : Option Holder → Phase → Next
spoiled_of None phase = spoiled_free phase
spoiled_of (Some h) phase = if h.is_lost then Nothing else Lose

abbrev pub spoiled : Calls → Phase → Next
spoiled c phase = spoiled_of c.holder phase

-- what is to be done ends the request
abbrev pub ends_request : Next → Bool
ends_request Nothing = false
ends_request Ask = false
ends_request GiveUp = true
ends_request Leave = true
ends_request Hand = false
ends_request Lose = false

-- ---- saved

abbrev pub bool_word : Bool → ℕ
bool_word false = 0
bool_word true = 1

-- the three numbers of a call that may have the lock
abbrev pub holder_words : Option Holder → List ℕ
holder_words None = 0 ∷ 0 ∷ 0 ∷ []
holder_words (Some h) = 1 ∷ h.request ∷ bool_word h.is_lost ∷ []

-- the numbers of the calls
abbrev pub words_of : Calls → List ℕ
words_of c = c.waiting ∷ bool_word c.is_tried ∷ holder_words c.holder ++ c.used ∷ bool_word c.is_closed ∷ []
