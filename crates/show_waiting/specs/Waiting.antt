-- How long a client waits at most, in fair rounds, and the page about it.
use Rattle.std.specs.Prelude.{ℕ, ◌<◌, ◌≤◌, ◌+◌, ◌*◌, ◌-◌, ◌&&◌, Bool, if◌then◌else◌, min, List, [], ◌∷◌, ◌++◌, Option, None, Some, IfSome, codes, decimal, is_none, slice_index_or, unwrap_or}
use Rattle.numbers.specs.Bounds.{max_clients}
use Rattle.world.specs.Waiting.{bound, live_block}
use Rattle.show_waiting.specs.declared.waiting.Waiting.{Waiting}

-- the longest waits in tests without withdrawals and late REQUESTs, in fair rounds, of 1 client, of 2,
-- and so on
abbrev pub longest_waits : List ℕ
longest_waits = 1 ∷ 6 ∷ 9 ∷ 12 ∷ 15 ∷ []

-- n, or the most clients with which tests were made
abbrev pub tested : ℕ → ℕ
tested n = min n 5

-- the longest wait in tests with so many clients
abbrev pub longest_wait : ℕ → ℕ
longest_wait n = slice_index_or longest_waits (tested n - 1) 0

-- the numbers of a question are in range
pub record IsInRange (w : Waiting) : Type 0 where
  pub some : 1 ≤ w.clients
  pub clients : w.clients ≤ max_clients
  pub withdrawals : IfSome w.withdrawals (λ g. g ≤ 1000000)
  pub round : IfSome w.round (λ s. s ≤ 86400)
  pub dead : IfSome w.dead (λ d. d < w.clients)

-- how many others give up: none, if nothing was said
abbrev pub withdrawals_of : Waiting → ℕ
withdrawals_of w = unwrap_or w.withdrawals 0

-- everybody is live
abbrev pub are_all_live : Waiting → Bool
are_all_live w = is_none w.down && is_none w.dead

-- how many clients are live
abbrev pub live_clients : Waiting → ℕ
live_clients w = w.clients - unwrap_or w.dead 0

-- After so many live rounds a live client that asks has entered: n clients, c of them live, g withdrawals of others,
-- and no REQUEST comes late.
abbrev pub live_bound : ℕ → ℕ → ℕ → ℕ
live_bound n c g = live_block n * (3 * c + 2 * g)

-- the bound, for a number of withdrawals
abbrev pub rounds_with : Waiting → ℕ → ℕ
rounds_with w g = if are_all_live w then bound w.clients g else live_bound w.clients (live_clients w) g

-- the bound
abbrev pub rounds_of : Waiting → ℕ
rounds_of w = rounds_with w (withdrawals_of w)

-- the bound if clients are patient: then withdrawals are at no price
abbrev pub patient_rounds : Waiting → ℕ
patient_rounds w = rounds_with w 0

-- what was asked

abbrev pub clients_text : ℕ → List ℕ
clients_text n = codes "clients: " ++ (decimal n ++ codes "\n")

abbrev pub dead_text : Option ℕ → List ℕ
dead_text None = []
dead_text (Some n) = codes "of these clients dead or idle: " ++ (decimal n ++ codes "\n")

abbrev pub down_text : Option ℕ → List ℕ
down_text None = []
down_text (Some n) = codes "voters that are down: " ++ (decimal n ++ codes "\n")

abbrev pub withdrawals_text : Waiting → List ℕ
withdrawals_text w = codes "withdrawals of others while one waits: " ++ (decimal (withdrawals_of w) ++ codes "\n")

abbrev pub head_text : Waiting → List ℕ
head_text w = clients_text w.clients ++ (dead_text w.dead ++ (down_text w.down ++ withdrawals_text w))

-- the bound in fair rounds, and the longest wait in tests
abbrev pub fair_rounds_text : Waiting → List ℕ
fair_rounds_text w =
    codes "rounds until a client that asks is inside: at most " ++ (decimal (rounds_of w)
    ++ (codes " (proved), far above the longest wait in tests: " ++ (decimal (longest_wait w.clients)
    ++ (codes " (clients: " ++ (decimal (tested w.clients) ++ codes ", withdrawals: 0)\n")))))

-- the bound in live rounds
abbrev pub live_rounds_text : Waiting → List ℕ
live_rounds_text w = codes "live rounds until a live client that asks is inside: at most " ++ (decimal (rounds_of w) ++ codes " (proved)\n")

-- the bound in rounds
abbrev pub rounds_text : Waiting → List ℕ
rounds_text w = if are_all_live w then fair_rounds_text w else live_rounds_text w

-- the bound in rounds if clients are patient
abbrev pub patience_text : Waiting → List ℕ
patience_text w =
    codes "rounds if each request runs for two whole rounds before it is given up: at most " ++ (decimal (patient_rounds w)
    ++ codes " (proved), however many give up\n")

-- the same in time, if a round takes so many seconds
abbrev pub bound_in_seconds : Waiting → ℕ → List ℕ
bound_in_seconds w s =
    codes "seconds, if a round takes " ++ (decimal s
    ++ (codes ": at most " ++ (decimal (s * rounds_of w)
    ++ (codes ", and " ++ (decimal (s * patient_rounds w) ++ codes " if each request does that (proved)")))))

-- the longest wait in tests, in time
abbrev pub longest_in_seconds : Waiting → ℕ → List ℕ
longest_in_seconds w s = codes ", far above the longest wait in tests: " ++ decimal (s * longest_wait w.clients)

-- the line about time, if it was said how many seconds a round takes
abbrev pub seconds_text : Waiting → Option ℕ → List ℕ
seconds_text w None = []
seconds_text w (Some s) = bound_in_seconds w s ++ ((if are_all_live w then longest_in_seconds w s else []) ++ codes "\n")

-- what a fair round is, and what the bound takes for granted
abbrev pub fair_premises_text : List ℕ
fair_premises_text =
    codes "In a round everybody is reminded, the messages of the reminders arrive, what is sent "
    ++ (codes "on their arrival arrives too, and whoever was inside at its beginning leaves. All "
    ++ (codes "else may be lost, late or repeated, but no REQUEST arrives later than in the round "
    ++ (codes "after that in which it was sent. Nobody crashes, whoever waits does not give up, and "
    ++ (codes "each voter has a grant left at the end. Timers and the network make the rounds: that "
    ++ codes "they do is not proved.\n"))))

-- what a live round is, and what its bound takes for granted
abbrev pub live_premises_text : List ℕ
live_premises_text =
    codes "In a live round everybody who is live is reminded, what is sent between live ones at a reminder arrives, "
    ++ (codes "and so does what is sent on its arrival. Who of them was inside at its beginning leaves, and who of them "
    ++ (codes "waits for a voter that is down ends the request. A live voter drops the request of a client that is not "
    ++ (codes "live, if that has its vote. Such a client is dead and does nothing, or it is idle and does not ask. All "
    ++ (codes "else may be lost, late or repeated, but no REQUEST arrives later than in the round after that in which "
    ++ (codes "it was sent. Nobody who is live crashes, whoever waits does not give up, and each live voter has a grant "
    ++ codes "left at the end. Timers and the network make the rounds: that they do is not proved.\n")))))

abbrev pub premises_text : Waiting → List ℕ
premises_text w = if are_all_live w then fair_premises_text else live_premises_text

-- the whole page
abbrev pub waiting_text : Waiting → List ℕ
waiting_text w = head_text w ++ (rounds_text w ++ (patience_text w ++ (seconds_text w w.round ++ premises_text w)))
