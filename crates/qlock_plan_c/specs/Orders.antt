-- The two orders of tickets, and the masks of their quorums.
use Rattle.std.specs.Prelude.{◌≡◌, ℕ, List, [], map, slice_index_or}
use Rattle.std.specs.List.{range_with_len}
use Rattle.quorum_set.specs.Words.{word_of}
use Rattle.certificate.specs.Certificates.{Weighted, cycle_len}
use Rattle.dealer.specs.Cycles.{quorum_of_ticket}
use Rattle.even.specs.EvenCycles.{EvenOrder, even_quorum}
use Rattle.even.specs.Strides.{IsFirstBest, strides_of}
use Rattle.qlock_plan_c.specs.declared.order.Order.{Order}
use Rattle.qlock_plan_c.specs.declared.order.Order.TheVariants.{Rounds, Even}

-- the even order of weights: of the strides that are tried, its stride is the first of smallest
-- slack
abbrev pub IsEvenOrder : Weighted → EvenOrder → Type 0
IsEvenOrder w o = (o.weights ≡ w) × IsFirstBest (strides_of (cycle_len w)) o

-- the order with this number: 0 is the cycle of `dealer`, by rounds, and 1 the even order
abbrev pub IsOrder : Weighted → ℕ → Order → Type 0
IsOrder w number (Rounds plan) = (number ≡ 0) × (plan ≡ w)
IsOrder w number (Even o) = (number ≡ 1) × IsEvenOrder w o

-- the weights of an order
abbrev pub plan_of : Order → Weighted
plan_of (Rounds plan) = plan
plan_of (Even o) = o.weights

-- the quorum of a ticket
abbrev pub quorum_by : Order → ℕ → ℕ
quorum_by (Rounds plan) ticket = quorum_of_ticket plan ticket
quorum_by (Even o) ticket = even_quorum o ticket

-- the mask of a quorum: bit i is 1 if voter i is a member
abbrev pub mask_of : Weighted → ℕ → ℕ
mask_of w quorum = word_of (slice_index_or w.system.quorums quorum [])

-- the masks of n tickets in a row, from the first one on
abbrev pub masks_of : Order → ℕ → ℕ → List ℕ
masks_of order first n = map (λ ticket. mask_of (plan_of order) (quorum_by order ticket)) (range_with_len first n)
