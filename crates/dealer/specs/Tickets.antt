-- The rule of an office's ticket word, and what the steps on it show.
use Rattle.std.specs.Prelude.{◌≡◌, ℕ, ◌+◌, ◌-◌, ◌<◌, ◌≤◌, List, [], ◌∷◌, ◌++◌, length, slice_index}
use Rattle.std.specs.List.{All, sum_by}
use Rattle.atomic_table.specs.Table.{State, Me, Step}
use Rattle.numbers.specs.Bounds.{max_tickets}
use Rattle.numbers.specs.Sums.{sum_below, AreAllBelow}
use Rattle.certificate.specs.Certificates.{Weighted}
use Rattle.dealer.specs.declared.tickets.Hand.{Hand}
use Rattle.dealer.specs.declared.tickets.Sheet.{Sheet}

-- a clerk's hand: the cycle of its tickets, how many it may still draw, and those that it drew
abbrev pub hand : Weighted → ℕ → List ℕ → Hand
hand cycle rest drawn = record { cycle = cycle; rest = rest; drawn = drawn }

-- There is one word, the next ticket. It and what all clerks may still draw add up to the quota, so
-- it never overflows. The tickets of all clerks, taken together, are the numbers below the word,
-- each once: however numbers are weighed, both have the same sum.
pub record IsDealt (quota : ℕ) (words : List ℕ) (views : List Hand) : Type 0 where
  pub one_word : length words ≡ 1
  pub fits : quota ≤ max_tickets
  pub quota_kept : slice_index words 0 + sum_by (λ v. v.rest) views ≡ quota
  pub each_once : (h : ℕ → ℕ) → sum_by (λ v. sum_by h v.drawn) views ≡ sum_below h (slice_index words 0)

-- what holds of the word and of all clerks, between any two draws
abbrev pub Dealt : Sheet → State (Unit {0}) Hand → Type 0
Dealt sheet s = IsDealt sheet.quota s.words s.views

-- A draw from an office with this quota: the number found is the ticket. It is below the quota and
-- above the seat's earlier tickets. If the seat has the whole quota, it is the number of these.
abbrev pub Draws : ℕ → Step (Unit {0}) → Me (Unit {0}) Hand → ℕ → Me (Unit {0}) Hand → Type 0
Draws quota st m found after =
    (after ≡ (hand m.0.cycle (m.0.rest - 1) (m.0.drawn ++ found ∷ []), m.1))
    × All (λ t. t < found) m.0.drawn × (found < quota)
    × (length m.0.drawn + m.0.rest ≡ quota → found ≡ length m.0.drawn)

-- a read, which changes nothing: a seat may draw no more than 2^63 tickets
abbrev pub Looks : Step (Unit {0}) → Me (Unit {0}) Hand → ℕ → Me (Unit {0}) Hand → Type 0
Looks st m found after = (after ≡ m) × (m.0.rest ≤ max_tickets)

-- two seats in one: what they may draw, and what they drew
abbrev pub join_hands : Hand → Hand → Hand
join_hands v w = hand v.cycle (v.rest + w.rest) (v.drawn ++ w.drawn)

-- what is left of a seat that joined another
abbrev pub empty_hand : Hand
empty_hand = hand (record { system = record { voters = 0; quorums = [] }; capacities = []; quorum_weights = []; voter_weights = [] }) 0 []

-- The end of an office, as a seat sees it. The seat has no more than the quota. If it has all of
-- it, it has all tickets that were drawn.
abbrev pub Ends : Sheet → Hand → Type 0
Ends sheet v =
    (sheet.quota ≤ max_tickets) × (length v.drawn + v.rest ≤ sheet.quota)
    × (length v.drawn + v.rest ≡ sheet.quota → AreAllBelow v.drawn (length v.drawn))
