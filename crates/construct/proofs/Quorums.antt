-- When a list of sets is a coterie.
use Rattle.std.proofs.Common.{◌≡◌, ℕ, ◌+◌, ◌<◌, ◌≤◌, Bool, true, false, List, [], ◌∷◌, ◌++◌, length, map, suc, sym, refl, ◌∙◌, arith}
use Rattle.std.specs.List.{All, AllPairs, range_with_len}
use Rattle.std.proofs.lemmas.Bool.{true≢false, false_from_ne_true}
use Rattle.std.proofs.lemmas.List.Elements.{All-head, All-tail, All-append}
use Rattle.std.proofs.lemmas.List.Kept.{AllPairs-cons}
use Rattle.std.proofs.lemmas.List.FromFn.{get_or-map-range_with_len, length-map-range_with_len}
use Rattle.numbers.specs.Sets.{has, meet, within, IsSet, set_where}
use Rattle.quorum_set.specs.Coteries.{IsCoterie}
use Rattle.numbers.proofs.SetLemmas.{IsSet-set_where, has-set_where}
use Rattle.numbers.proofs.Meetings.{All-members, meet-from, within-has}
use Rattle.quorum_set.proofs.FaultLaws.{first_fault-IsCoterie}
use Rattle.construct.proofs.SetLemmas.{has-passed}

-- a coterie has no fault
pub ruleset no_fault = (first_fault-IsCoterie)

-- a set with a member, all below n
pub record IsQuorum (n : ℕ) (q : List ℕ) : Type 0 where
  pub set : IsSet q
  pub not_empty : 0 < length q
  pub in_range : All (λ i. i < n) q

-- the sets have a common member, and neither is within the other
pub record IsCrossing (q r : List ℕ) : Type 0 where
  pub meets : meet q r ≡ true
  pub apart : (within q r ≡ false) × (within r q ≡ false)

pub IsCoterie-from : (n : ℕ) (qs : List (List ℕ)) → 0 < n → n ≤ 64 → 0 < length qs → length qs ≤ 4096 → All (IsQuorum n) qs → AllPairs IsCrossing qs → IsCoterie (record { voters = n; quorums = qs })
IsCoterie-from n qs some_voter few_voters some_quorum few_quorums quorums crossing = record {
  some_voter = some_voter;
  few_voters = few_voters;
  some_quorum = some_quorum;
  few_quorums = few_quorums;
  sets = λ k d lt. (quorums k d lt).set;
  not_empty = λ k d lt. (quorums k d lt).not_empty;
  in_range = λ k d lt. (quorums k d lt).in_range;
  meets = λ j k d before lt. (crossing j k d before lt).meets;
  apart = λ j k d before lt. (crossing j k d before lt).apart;
}

-- what a stray member shows
pub not_within : (s t : List ℕ) (i : ℕ) → has s i ≡ true → has t i ≡ false → within s t ≡ false
not_within s t i there missing = false_from_ne_true (within s t) (λ inside. true≢false (sym (within-has s t i inside there) ∙ missing))

-- i is in both, a in q alone and b in r alone
pub IsCrossing-from : (q r : List ℕ) (i a b : ℕ) → has q i ≡ true → has r i ≡ true → has q a ≡ true → has r a ≡ false → has r b ≡ true → has q b ≡ false → IsCrossing q r
IsCrossing-from q r i a b in_q in_r a_in a_out b_in b_out = record { meets = meet-from q r i in_q in_r; apart = (not_within q r a a_in a_out, not_within r q b b_in b_out) }

pub not_empty-from : (s : List ℕ) (i : ℕ) → has s i ≡ true → 0 < length s
not_empty-from [] i there = absurd (true≢false (sym there))
not_empty-from (x ∷ xs) i there = omega arith

-- the numbers that pass are a quorum, where one below 64 does, and only numbers below n
pub IsQuorum-where : (n : ℕ) (p : ℕ → Bool) (i : ℕ) → i < 64 → p i ≡ true → ((v : ℕ) → v < 64 → p v ≡ true → v < n) → IsQuorum n (set_where p)
IsQuorum-where n p i lt passes below = record {
  set = IsSet-set_where p;
  not_empty = not_empty-from (set_where p) i (has-set_where p i lt ∙ passes);
  in_range = All-members (λ v. v < n) (set_where p) (λ v there. below v (has-passed p v there).0 (has-passed p v there).1);
}

-- lists by a function of the place
pub All-range : {X : Type 0} (P : X → Type 0) (f : ℕ → X) (a n : ℕ) → ((j : ℕ) → a ≤ j → j < a + n → P (f j)) → All P (map f (range_with_len a n))
All-range P f a n h k d lt =
    let short : k < n = omega (arith, length-map-range_with_len f a n) in
    rw (get_or-map-range_with_len f a n k (a + k) d short refl) (h (a + k) (omega arith) (omega arith))

pub AllPairs-range : {X : Type 0} (R : X → X → Type 0) (f : ℕ → X) (a n : ℕ) → ((j l : ℕ) → a ≤ j → j < l → l < a + n → R (f j) (f l)) → AllPairs R (map f (range_with_len a n))
AllPairs-range R f a n h i j d before lt =
    let short : j < n = omega (arith, length-map-range_with_len f a n) in
    let shorter : i < n = omega arith in
    rw (get_or-map-range_with_len f a n i (a + i) d shorter refl, get_or-map-range_with_len f a n j (a + j) d short refl)
    (h (a + i) (a + j) (omega arith) (omega arith) (omega arith))

-- lists one after the other
pub AllPairs-append : {X : Type 0} (R : X → X → Type 0) (xs ys : List X) → AllPairs R xs → AllPairs R ys → All (λ x. All (R x) ys) xs → AllPairs R (xs ++ ys)
AllPairs-append R [] ys left right across = right
AllPairs-append R (x ∷ xs) ys left right across =
    AllPairs-cons R x (xs ++ ys)
    (All-append (R x) xs ys (λ j d lt. left 0 (suc j) d (omega arith) (omega arith)) (All-head (λ y. All (R y) ys) x xs across))
    (AllPairs-append R xs ys (λ i j d before lt. left (suc i) (suc j) d (omega arith) (omega arith)) right (All-tail (λ y. All (R y) ys) x xs across))
