-- What the calls on quorums return and write. A mask is a number of 64 bits: bit i is 1 if voter i is a
-- member of the quorum.
use Rattle.std.specs.Prelude.{ℕ, ℤ, pos, ◌≡◌, ◌==◌, ◌&&◌, nat_lt, not, Bool, true, false, List, length}
use Rattle.std.specs.List.{list_all, list_any}
use Rattle.numbers.specs.Sets.{meet, members_of, within}
use Rattle.blocks.specs.Numbers.{done, refused}
use Rattle.blocks.specs.declared.refusal.Refusal.TheVariants.{BadArgument}

-- there are masks, and each has a member
abbrev pub are_quorums : List ℕ → Bool
are_quorums masks = not (length masks == 0) && list_all (nat_lt 0) masks

-- all members of some of these quorums are among the voters
abbrev pub has_quorum : List ℕ → ℕ → Bool
has_quorum masks voters = list_any (λ q. within (members_of q) (members_of voters)) masks

-- the quorum has a common member with each of these
abbrev pub meets_all : ℕ → List ℕ → Bool
meets_all q masks = list_all (λ r. meet (members_of q) (members_of r)) masks

-- each of the first quorums has a common member with each of the second
abbrev pub is_bridge : List ℕ → List ℕ → Bool
is_bridge firsts seconds = list_all (λ q. meets_all q seconds) firsts

-- 1 for yes, 0 for no
abbrev pub yes_number : Bool → ℤ
yes_number true = pos 1
yes_number false = pos 0

-- a call asks something of quorums: `allowed` says whether all of them are quorums
pub record SaysOfQuorums (allowed answer : Bool) (yes result : ℤ) : Type 0 where
  pub bad_argument : allowed ≡ false → result ≡ refused BadArgument
  pub says : allowed ≡ true → (result ≡ done) × (yes ≡ yes_number answer)
