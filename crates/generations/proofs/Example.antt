-- that requests by three plans are inside, one after the other
use Rattle.std.proofs.Common.{◌≡◌, ℕ, zero, suc, ◌+◌, ◌<◌, true, false, List, [], ◌∷◌, ◌++◌, length, take, refl, sym, subst, ◌∙◌, arith}
use Rattle.std.specs.Prelude.{nat_lt, slice_index_or}
use Rattle.std.specs.List.{AllByRecursion}
use Rattle.std.proofs.lemmas.Bool.{false≢true}
use Rattle.std.proofs.lemmas.Bool.Decides.{nat_tests}
use Rattle.numbers.specs.Sets.{has, meet}
use Rattle.numbers.proofs.Meetings.{meet-common}
use Rattle.generations.specs.Example.{by_first, by_second, by_third, first_enters, second_enters, third_enters, three_plans}
use Rattle.generations.specs.Exchanges.{AreExchanges, IsInside, IsLeft, all_happen, first_world}
use Rattle.generations.specs.Plans.{HaveCommon, IsSuccession}
use Rattle.generations.proofs.Worlds.{all_of}

-- what holds of each quorum of a list holds of one that is among them
each : (P : List ℕ → Type 0) (qs : List (List ℕ)) → AllByRecursion P qs → (q : List ℕ) → (j : ℕ) → j < length qs → q ≡ slice_index_or qs j [] → P q
each P [] all q j few e = absurd (omega arith)
each P (x ∷ xs) all q zero few e = subst P (sym e) all.0
each P (x ∷ xs) all q (suc j) few e = each P xs all.1 q j (omega arith) e

-- each voter of a quorum is one of six, and each quorum meets each one of the second list
abbrev AllCommon : List (List ℕ) → List (List ℕ) → Type 0
AllCommon firsts seconds = AllByRecursion (λ q. AllByRecursion (λ v. nat_lt v 6 ≡ true) q × AllByRecursion (λ r. meet q r ≡ true) seconds) firsts

common : (firsts seconds : List (List ℕ)) → AllCommon firsts seconds → HaveCommon 6 firsts seconds
common firsts seconds all q r in_q in_r =
    let row = each (λ p. AllByRecursion (λ v. nat_lt v 6 ≡ true) p × AllByRecursion (λ s. meet p s ≡ true) seconds) firsts all q in_q.0 in_q.1 in_q.2 in
    let both = meet-common q r (each (λ s. meet q s ≡ true) seconds row.1 r in_r.0 in_r.1 in_r.2) in
    let few : nat_lt both.0 6 ≡ true = all_of (λ v. nat_lt v 6 ≡ true) q both.0 row.0 both.1 in
    (both.0, grind (arith, nat_tests), both.1, both.2)

none : (count : ℕ) (seconds : List (List ℕ)) → HaveCommon count [] seconds
none count seconds q r in_q in_r = absurd (let few = in_q.1 in omega arith)

one : (n : ℕ) → HaveCommon 6 (three_plans n) (three_plans n)
one zero = common (three_plans 0) (three_plans 0) (((refl, (refl, tt)), (refl, (refl, (refl, tt)))), (((refl, (refl, tt)), (refl, (refl, (refl, tt)))), (((refl, (refl, tt)), (refl, (refl, (refl, tt)))), tt)))
one (suc zero) = common (three_plans 1) (three_plans 1) (((refl, (refl, (refl, (refl, tt)))), (refl, (refl, (refl, tt)))), (((refl, (refl, (refl, (refl, tt)))), (refl, (refl, (refl, tt)))), (((refl, (refl, (refl, (refl, tt)))), (refl, (refl, (refl, tt)))), tt)))
one (suc (suc zero)) = common (three_plans 2) (three_plans 2) (((refl, (refl, tt)), (refl, (refl, (refl, tt)))), (((refl, (refl, tt)), (refl, (refl, (refl, tt)))), (((refl, (refl, tt)), (refl, (refl, (refl, tt)))), tt)))
one (suc (suc (suc n))) = none 6 []

next : (n : ℕ) → HaveCommon 6 (three_plans n) (three_plans (n + 1))
next zero = common (three_plans 0) (three_plans 1) (((refl, (refl, tt)), (refl, (refl, (refl, tt)))), (((refl, (refl, tt)), (refl, (refl, (refl, tt)))), (((refl, (refl, tt)), (refl, (refl, (refl, tt)))), tt)))
next (suc zero) = common (three_plans 1) (three_plans 2) (((refl, (refl, (refl, (refl, tt)))), (refl, (refl, (refl, tt)))), (((refl, (refl, (refl, (refl, tt)))), (refl, (refl, (refl, tt)))), (((refl, (refl, (refl, (refl, tt)))), (refl, (refl, (refl, tt)))), tt)))
next (suc (suc zero)) = common (three_plans 2) [] (((refl, (refl, tt)), tt), (((refl, (refl, tt)), tt), (((refl, (refl, tt)), tt), tt)))
next (suc (suc (suc n))) = none 6 (three_plans (suc (suc (suc n)) + 1))

succession : IsSuccession 6 three_plans
succession = record { few = omega arith; one = one; next = next }

-- a quorum of the first plan, and one of the third
apart : HaveCommon 6 (three_plans 0) (three_plans 2) → ⊥
apart have =
    let m = have (0 ∷ 1 ∷ []) (3 ∷ 4 ∷ []) (0, omega arith, refl) (0, omega arith, refl) in
    let not_in : has (3 ∷ 4 ∷ []) m.0 ≡ false = all_of (λ v. has (3 ∷ 4 ∷ []) v ≡ false) (0 ∷ 1 ∷ []) m.0 (refl, (refl, tt)) m.2 in
    absurd (false≢true (sym not_in ∙ m.3))

-- voters 1, 2, 4 and 5 retired the first plan
four_retired : IsLeft three_plans (all_happen first_world (first_enters ++ (second_enters ++ take 8 third_enters))) 0
four_retired = record { quorum = 1 ∷ 2 ∷ 4 ∷ 5 ∷ []; among = (1, omega arith, refl); retired = (omega arith, (omega arith, (omega arith, (omega arith, tt)))) }

four_retired_still : IsLeft three_plans (all_happen first_world (first_enters ++ (second_enters ++ take 9 third_enters))) 0
four_retired_still = record { quorum = 1 ∷ 2 ∷ 4 ∷ 5 ∷ []; among = (1, omega arith, refl); retired = (omega arith, (omega arith, (omega arith, (omega arith, tt)))) }

exchanges : AreExchanges three_plans first_world (first_enters ++ (second_enters ++ third_enters))
exchanges = (tt, (tt, (tt, (tt, (tt, (tt, (tt, (tt, (tt, (tt, (tt, (tt, (tt, (tt, (tt, (tt, (tt, (tt, (tt, (tt, (tt, (tt, (tt, (tt, (tt, (four_retired, (four_retired_still, (tt, (tt, (tt, (tt, (tt, (tt, tt)))))))))))))))))))))))))))))))))

first_inside : IsInside three_plans (all_happen first_world first_enters) by_first
first_inside = record { quorum = 0 ∷ 1 ∷ []; among = (0, omega arith, refl); votes = (refl, (refl, tt)) }

second_inside : IsInside three_plans (all_happen first_world (first_enters ++ second_enters)) by_second
second_inside = record { quorum = 1 ∷ 2 ∷ 4 ∷ 5 ∷ []; among = (1, omega arith, refl); votes = (refl, (refl, (refl, (refl, tt)))) }

third_inside : IsInside three_plans (all_happen first_world (first_enters ++ (second_enters ++ third_enters))) by_third
third_inside = record { quorum = 4 ∷ 5 ∷ []; among = (1, omega arith, refl); votes = (refl, (refl, tt)) }

pub three_replace : IsSuccession 6 three_plans × (HaveCommon 6 (three_plans 0) (three_plans 2) → ⊥) × AreExchanges three_plans first_world (first_enters ++ (second_enters ++ third_enters))
    × IsInside three_plans (all_happen first_world first_enters) by_first × IsInside three_plans (all_happen first_world (first_enters ++ second_enters)) by_second
    × IsInside three_plans (all_happen first_world (first_enters ++ (second_enters ++ third_enters))) by_third
three_replace = (succession, apart, exchanges, first_inside, second_inside, third_inside)
