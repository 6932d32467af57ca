-- The texts of plans and of weights: lines with a newline at the end of each.
--
--     quorum-plan 2        of weights quorum-weights; 1 in place of 2 if all capacities are 1
--     load P/Q             the load in lowest terms
--     bound P/Q            the bound in lowest terms; a plan has no such line
--     cycle D              the length of a cycle
--     capacity C0 C1 ..    the capacity of each voter; no such line if all are 1
--     quorum A0 A1 ..      the weight of each quorum
--     voter B0 B1 ..       the weight of each voter
--
-- A number has 1 to 7 decimal digits and no leading zero. Those of load and bound have 1 to 10
-- digits, but for the load of a plan of version 1. A capacity is 1 to 1000.
use Rattle.std.specs.Prelude.{◌<◌, ◌≡◌, ℕ, ◌+◌, ◌^◌, Bool, true, false, not, ◌&&◌, ◌==◌, nat_lt, nat_le, if◌then◌else◌, List, [], ◌∷◌, ◌++◌, length, take, drop, map, codes, Option, None, Some, is_some, Result, Ok, Err, option_map, option_and_then}
use Rattle.std.specs.Option.{option_or, ok_or}
use Rattle.std.specs.List.{list_all, slice_split, join_with_byte}
use Rattle.std.specs.Cmp.Lexicographic.{pointwise}
use Rattle.std.specs.Str.{bytes_eq}
use Rattle.std.specs.Str.Parse.{digits_value}
use Rattle.std.specs.Fmt.{decimal}
pub use Rattle.numbers.specs.Results.{◌>>=◌}
use Rattle.numbers.specs.Results.{RefusesUnless, GivesUnless}
use Rattle.numbers.specs.Bounds.{max_capacity}
use Rattle.quorum_set.specs.Capacities.{are_unit}
use Rattle.quorum_set.specs.Coteries.{QuorumSystem}
use Rattle.texts.specs.Cuts.{cut_at}
use Rattle.texts.specs.Lines.{text_of_lines}
use Rattle.certificate.specs.declared.fault.PlanFault.{PlanFault}
use Rattle.certificate.specs.declared.fault.PlanFault.TheVariants.{BadText, WrongBound, WrongCapacity, WrongLoad, WrongCycle, OutOfMemory}
use Rattle.certificate.specs.Bounds.{bound_of}
use Rattle.certificate.specs.Certificates.{Weighted, cycle_len, load_of, sizes_fault, weights_fault, with_weights}

-- the values in the lines of a text; a plan's has no bound, and version 1 has no capacities
pub record Contents : Type 0 where
  pub load : ℕ × ℕ
  pub bound : Option (ℕ × ℕ)
  pub cycle : ℕ
  pub capacities : Option (List ℕ)
  pub quorum_weights : List ℕ
  pub voter_weights : List ℕ

-- the capacities that a text gives, unless all are 1
abbrev pub written_capacities : List ℕ → Option (List ℕ)
written_capacities capacities = if are_unit capacities then None else Some capacities

-- the values in the lines of a text of these weights, with this bound or none
abbrev pub contents_with : Option (ℕ × ℕ) → Weighted → Contents
contents_with bound w =
    record {
      load = load_of w;
      bound = bound;
      cycle = cycle_len w;
      capacities = written_capacities w.capacities;
      quorum_weights = w.quorum_weights;
      voter_weights = w.voter_weights;
    }

-- Format

-- the number has at most this many decimal digits
abbrev pub HasDigits : ℕ → ℕ → Type 0
HasDigits digits n = n < 10 ^ digits

-- the number has 1 to 7 digits
abbrev pub IsShort : ℕ → Type 0
IsShort n = HasDigits 7 n

-- the version of a text with these capacities
abbrev pub version_of : Option (List ℕ) → ℕ
version_of None = 1
version_of (Some capacities) = 2

-- whether a text with this bound, or none, is one of weights; else it is a plan's
abbrev pub is_bounded : Option (ℕ × ℕ) → Bool
is_bounded None = false
is_bounded (Some bound) = true

-- the most digits of a number in the load's line
abbrev pub load_digits : Bool → ℕ → ℕ
load_digits bounded version = if not bounded && version == 1 then 7 else 10

-- the first line, by the version
abbrev pub title_line : Bool → ℕ → List ℕ
title_line bounded version =
    if bounded
    then (if version == 1 then codes "quorum-weights 1" else codes "quorum-weights 2")
    else if version == 1 then codes "quorum-plan 1" else codes "quorum-plan 2"

-- the line of a ratio, after its word; 47 is a slash
abbrev pub ratio_line : List ℕ → ℕ × ℕ → List ℕ
ratio_line word ratio = word ++ (decimal ratio.0 ++ 47 ∷ decimal ratio.1)

-- the line of the bound, if the text has one
abbrev pub bound_lines : Option (ℕ × ℕ) → List (List ℕ)
bound_lines None = []
bound_lines (Some bound) = ratio_line (codes "bound ") bound ∷ []

-- the line of the cycle's length
abbrev pub cycle_line : ℕ → List ℕ
cycle_line n = codes "cycle " ++ decimal n

-- the numbers, with a space between each two
abbrev pub with_spaces : List ℕ → List ℕ
with_spaces numbers = join_with_byte 32 (map decimal numbers)

-- a line of weights, after its word
abbrev pub weights_line : List ℕ → List ℕ → List ℕ
weights_line word weights = word ++ with_spaces weights

-- the line of the capacities, if the text has one
abbrev pub capacity_lines : Option (List ℕ) → List (List ℕ)
capacity_lines None = []
capacity_lines (Some capacities) = weights_line (codes "capacity ") capacities ∷ []

-- the lines of a text
abbrev pub lines_of : Contents → List (List ℕ)
lines_of t =
    title_line (is_bounded t.bound) (version_of t.capacities) ∷ ratio_line (codes "load ") t.load
    ∷ (bound_lines t.bound ++ cycle_line t.cycle
    ∷ (capacity_lines t.capacities
    ++ (weights_line (codes "quorum ") t.quorum_weights ∷ weights_line (codes "voter ") t.voter_weights ∷ [])))

-- a text of these weights, with this bound or none
abbrev pub text_with : Option (ℕ × ℕ) → Weighted → List ℕ
text_with bound w = text_of_lines (lines_of (contents_with bound w))

-- the one text of a plan
abbrev pub plan_text : Weighted → List ℕ
plan_text w = text_with None w

-- the one text of weights
abbrev pub weights_text : Weighted → List ℕ
weights_text w = text_with (Some (bound_of w)) w

-- Reading

-- the number of at most this many digits whose text the bytes are, if there is one
unfoldable pub number_of : ℕ → List ℕ → Option ℕ
number_of digits bytes =
    let n = digits_value 10 bytes in
    if bytes_eq bytes (decimal n) && nat_lt n (10 ^ digits) then Some n else None

-- the numbers of 1 to 7 digits that the words are, if each is one
abbrev pub numbers_of : List (List ℕ) → Option (List ℕ)
numbers_of [] = Some []
numbers_of (word ∷ words) = option_and_then (λ n. option_map (λ ns. n ∷ ns) (numbers_of words)) (number_of 7 word)

-- the rest of the line after this word, if the line begins with it
abbrev pub after_prefix : List ℕ → List ℕ → Option (List ℕ)
after_prefix word line = if bytes_eq (take (length word) line) word then Some (drop (length word) line) else None

-- the version, if the line is a title
abbrev pub read_title : Bool → List ℕ → Option ℕ
read_title bounded line =
    if bytes_eq line (title_line bounded 1) then Some 1 else
    if bytes_eq line (title_line bounded 2) then Some 2 else None

-- the numbers of at most this many digits that the two sides are, if each is one
abbrev pub read_pair : ℕ → List ℕ × List ℕ → Option (ℕ × ℕ)
read_pair digits sides =
    option_and_then (λ p. option_map (λ q. (p, q)) (number_of digits sides.1)) (number_of digits sides.0)

-- the ratio in a line, if it is a line of one after this word, with numbers of at most this many digits
abbrev pub read_ratio : List ℕ → ℕ → List ℕ → Option (ℕ × ℕ)
read_ratio word digits line =
    option_and_then (λ rest. option_and_then (read_pair digits) (cut_at 47 rest)) (after_prefix word line)

-- the cycle's length in a line, if it is the line of one
abbrev pub read_cycle : List ℕ → Option ℕ
read_cycle line = option_and_then (number_of 7) (after_prefix (codes "cycle ") line)

-- the weights in a line, if it is a line of weights after this word
abbrev pub read_numbers : List ℕ → List ℕ → Option (List ℕ)
read_numbers word line = option_and_then (λ rest. numbers_of (slice_split (λ b. b == 32) rest)) (after_prefix word line)

-- whether each number is a capacity
abbrev pub are_in_range : List ℕ → Bool
are_in_range numbers = list_all (λ c. nat_le 1 c && nat_le c max_capacity) numbers

-- whether each number is a capacity, and some is not 1
abbrev pub have_a_line : List ℕ → Bool
have_a_line numbers = are_in_range numbers && not (are_unit numbers)

-- the capacities in a line, if it is a line of capacities, not all of them 1
abbrev pub read_capacities : List ℕ → Option (List ℕ)
read_capacities line =
    option_and_then (λ numbers. if have_a_line numbers then Some numbers else None) (read_numbers (codes "capacity ") line)

-- The value of the line at the front of a text, and the rest of the text. If the line is missing,
-- has no newline at its end, or is not in the format, it is the fault `BadText` with this number.
abbrev pub line_at : {X : Type 0} → ℕ → (List ℕ → Option X) → List ℕ → Result (X × List ℕ) PlanFault
line_at number read text =
    ok_or (option_and_then (λ cut. option_map (λ x. (x, cut.1)) (read cut.0)) (cut_at 10 text)) (BadText number)

-- the bound of a text, behind its second line, and the rest of the text; or the bad line
abbrev pub bound_at : Bool → List ℕ → Result (Option (ℕ × ℕ) × List ℕ) PlanFault
bound_at bounded text =
    if bounded then (line_at 3 (read_ratio (codes "bound ") 10) text >>= λ x. Ok (Some x.0, x.1)) else Ok (None, text)

-- the number of the line of the cycle's length
abbrev pub cycle_place : Bool → ℕ
cycle_place bounded = if bounded then 4 else 3

-- the capacities of a text of this version, behind the line of this number, and the rest of the text;
-- or the bad line
abbrev pub capacities_at : ℕ → ℕ → List ℕ → Result (Option (List ℕ) × List ℕ) PlanFault
capacities_at place version text =
    if version == 1 then Ok (None, text)
    else line_at (place + 1) read_capacities text >>= λ x. Ok (Some x.0, x.1)

-- what follows the line of the cycle's length, or the first bad line up to it
unfoldable pub behind_cycle : Bool → List ℕ → Result (List ℕ) PlanFault
behind_cycle bounded text = do
  title ← line_at 1 (read_title bounded) text
  load ← line_at 2 (read_ratio (codes "load ") (load_digits bounded title.0)) title.1
  bound ← bound_at bounded load.1
  cycle ← line_at (cycle_place bounded) read_cycle bound.1
  Ok cycle.1

-- the values of a text of weights, or of a plan, or its first bad line
unfoldable pub contents_at : Bool → List ℕ → Result Contents PlanFault
contents_at bounded text = do
  title ← line_at 1 (read_title bounded) text
  load ← line_at 2 (read_ratio (codes "load ") (load_digits bounded title.0)) title.1
  bound ← bound_at bounded load.1
  cycle ← line_at (cycle_place bounded) read_cycle bound.1
  capacities ← capacities_at (cycle_place bounded) title.0 cycle.1
  quorums ← line_at (cycle_place bounded + title.0) (read_numbers (codes "quorum ")) capacities.1
  voters ← line_at (cycle_place bounded + title.0 + 1) (read_numbers (codes "voter ")) quorums.1
  if length voters.1 == 0
      then Ok (record {
        load = load.0;
        bound = bound.0;
        cycle = cycle.0;
        capacities = capacities.0;
        quorum_weights = quorums.0;
        voter_weights = voters.0;
      })
      else Err (BadText (cycle_place bounded + title.0 + 2))

-- whether a text begins as one of weights
abbrev pub begins_as_weights : List ℕ → Bool
begins_as_weights text = is_some (after_prefix (codes "quorum-weights ") text)

-- whether two ratios have the same parts
abbrev pub are_same : ℕ × ℕ → ℕ × ℕ → Bool
are_same one other = (one.0 == other.0) && (one.1 == other.1)

-- the fault of the bound that a text gives, if it gives one
abbrev pub bound_fault : Weighted → Option (ℕ × ℕ) → Option PlanFault
bound_fault w None = None
bound_fault w (Some bound) = if not (are_same (bound_of w) bound) then Some WrongBound else None

-- the first fault of the load, the bound and the cycle's length that a text gives for weights
abbrev pub head_fault : Weighted → ℕ × ℕ → Option (ℕ × ℕ) → ℕ → Option PlanFault
head_fault w load bound cycle =
    option_or (if not (are_same (load_of w) load) then Some WrongLoad else None)
    (option_or (bound_fault w bound) (if not (cycle_len w == cycle) then Some WrongCycle else None))

-- the value, or the fault if there is one
abbrev pub unless_fault : Option PlanFault → Weighted → Result Weighted PlanFault
unless_fault None w = Ok w
unless_fault (Some e) w = Err e

-- whether the text gives these capacities
abbrev pub are_given : List ℕ → Option (List ℕ) → Bool
are_given capacities None = are_unit capacities
are_given capacities (Some heard) = pointwise (λ c d. c == d) heard capacities

-- the first fault of the capacities that a text gives
abbrev pub capacities_fault : List ℕ → Contents → Option PlanFault
capacities_fault capacities t = if are_given capacities t.capacities then None else Some WrongCapacity

-- the weights, or the first fault: of the text's capacities, of the weights by `first`, then of its
-- other values
abbrev pub judge : (Weighted → Option PlanFault) → Weighted → Contents → Result Weighted PlanFault
judge first w t =
    unless_fault
    (option_or (capacities_fault w.capacities t) (option_or (first w) (head_fault w t.load t.bound t.cycle)))
    w

-- the plan of a coterie and capacities that the text describes, or the first fault
unfoldable pub plan_at : QuorumSystem → List ℕ → List ℕ → Result Weighted PlanFault
plan_at s capacities text =
    contents_at false text >>= λ t. judge weights_fault (with_weights s capacities t.quorum_weights t.voter_weights) t

-- the weights of a coterie and capacities that the text describes, which is theirs or a plan's, or the
-- first fault
unfoldable pub weights_at : QuorumSystem → List ℕ → List ℕ → Result Weighted PlanFault
weights_at s capacities text =
    if begins_as_weights text
    then (contents_at true text
    >>= λ t. judge sizes_fault (with_weights s capacities t.quorum_weights t.voter_weights) t)
    else plan_at s capacities text

-- the fault is out of memory
abbrev pub is_out_of_memory : PlanFault → Bool
is_out_of_memory OutOfMemory = true
is_out_of_memory fault = false

-- the fault is out of memory, or the wanted result is this fault
abbrev pub Refuses : {Y : Type 0} → PlanFault → Result Y PlanFault → Type 0
Refuses fault wanted = RefusesUnless is_out_of_memory fault wanted

-- the result, mapped by `view`, is the wanted one, unless memory ran out
abbrev pub Gives : {X Y : Type 0} → (X → Y) → Result X PlanFault → Result Y PlanFault → Type 0
Gives view result wanted = GivesUnless is_out_of_memory view result wanted

-- the result, mapped by `view`, is the wanted one, in any case
abbrev pub Answers : {X Y : Type 0} → (X → Y) → Result X PlanFault → Result Y PlanFault → Type 0
Answers view (Ok x) wanted = wanted ≡ Ok (view x)
Answers view (Err e) wanted = wanted ≡ Err e

-- if the first result is a fault, the second is the same fault
abbrev pub RefusesAs : {X Y : Type 0} → Result X PlanFault → Result Y PlanFault → Type 0
RefusesAs (Ok x) answered = Unit {0}
RefusesAs (Err e) answered = answered ≡ Err e

-- the result is the wanted one, unless memory ran out
abbrev pub UnlessOutOfMemory : Result Weighted PlanFault → Result Weighted PlanFault → Type 0
UnlessOutOfMemory answered wanted = Gives (λ w. w) answered wanted
