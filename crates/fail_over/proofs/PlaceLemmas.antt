-- The first place from a ticket on, around the cycle.
use Rattle.std.proofs.Common.{◌≡◌, ℕ, zero, suc, ◌+◌, ◌%◌, ◌<◌, Bool, true, false, cond, not, ltb, List, [], ◌∷◌, ◌++◌, length, get_or, refl, sym, ap, ap₂, ◌∙◌, inl, inr, arith, Option, Some, None, append_assoc, append-nil, length-append, mod-eq_of_lt}
use Rattle.std.specs.List.{position, position_or_len}
use Rattle.std.specs.Option.{option_map, option_or}
use Rattle.std.proofs.Math.Nat.{mod-add-mod, mod_self}
use Rattle.std.proofs.Math.Seq.{get_or-append_seam}
use Rattle.std.proofs.lemmas.Bool.{cases_lt, lt-ltb, le-ltb}
use Rattle.fail_over.specs.Choices.{first_ticket, place_of, place_without, quorum_of, spares}

-- ---- the first place in a list

one_more : (b : Bool) (n l m : ℕ) → m ≡ l + 1
    → cond (ltb (cond (not b) (1 + n) 0) m) (Some (cond (not b) (1 + n) 0)) None
    ≡ cond b (Some 0) (option_map suc (cond (ltb n l) (Some n) None))
one_more true n l m is = ap (λ t. cond t (Some 0) None) (lt-ltb 0 m (omega arith))
one_more false n l m is =
    elim (cases_lt n l) as (λ _. cond (ltb (1 + n) m) (Some (1 + n)) None ≡ option_map suc (cond (ltb n l) (Some n) None)) [
      | inl lt ↦
          ap (λ t. cond t (Some (1 + n)) None) (lt-ltb (1 + n) m (omega arith))
          ∙ ap Some (omega arith) ∙ sym (ap (λ t. option_map suc (cond t (Some n) None)) (lt-ltb n l lt))
      | inr ge ↦
          ap (λ t. cond t (Some (1 + n)) None) (le-ltb (1 + n) m (omega arith))
          ∙ sym (ap (λ t. option_map suc (cond t (Some n) None)) (le-ltb n l ge))
    ]

position-cons : (p : ℕ → Bool) (x : ℕ) (xs : List ℕ) → position p (x ∷ xs) ≡ cond (p x) (Some 0) (option_map suc (position p xs))
position-cons p x xs = one_more (p x) (position_or_len p xs) (length xs) (length (x ∷ xs)) (omega arith)

-- ---- tickets whose places follow one another

pub next_place : (t l b : ℕ) → t % l ≡ b → b + 1 < l → (t + 1) % l ≡ b + 1
next_place t l b is lt = sym (mod-add-mod t l 1) ∙ ap (λ n. (n + 1) % l) is ∙ mod-eq_of_lt lt

shifted : (a b : ℕ) (o : Option ℕ) → a ≡ b + 1 → option_map (λ i. a + i) o ≡ option_map (λ i. b + i) (option_map suc o)
shifted a b None is = refl
shifted a b (Some i) is = ap Some (omega arith)

from_here : (f : ℕ → ℕ) (ticket b : ℕ) (rest more : Option ℕ) (is : Bool) → f ticket ≡ b
    → option_map f rest ≡ option_map (λ i. b + i) (option_map suc more)
    → option_map f (cond is (Some ticket) rest) ≡ option_map (λ i. b + i) (cond is (Some 0) (option_map suc more))
from_here f ticket b rest more true at later = ap Some (omega arith)
from_here f ticket b rest more false at later = later

-- the first of the tickets of these places, and the first of these places
ahead : (cycle : List ℕ) (voters : ℕ) (before mid after : List ℕ) (ticket : ℕ) → before ++ (mid ++ after) ≡ cycle
    → (0 < length mid → place_of cycle ticket ≡ length before)
    → option_map (place_of cycle) (first_ticket cycle voters ticket (length mid)) ≡ option_map (λ i. length before + i) (position (spares voters) mid)
ahead cycle voters before [] after ticket is at = refl
ahead cycle voters before (q ∷ mid) after ticket is at =
    let some : 0 < length (q ∷ mid) = omega arith in
    let place : place_of cycle ticket ≡ length before = at some in
    let here : quorum_of cycle ticket ≡ q = ap₂ (λ c n. get_or c n 0) (sym is) place ∙ get_or-append_seam before q (mid ++ after) 0 in
    let long : length (before ++ q ∷ []) ≡ length before + 1 = omega (arith, length-append before (q ∷ [])) in
    let later = ahead cycle voters (before ++ q ∷ []) mid after (ticket + 1) (append_assoc before (q ∷ []) (mid ++ after) ∙ is)
    (λ more. next_place ticket (length cycle) (length before) place (omega (arith, ap length is, length-append before ((q ∷ mid) ++ after), length-append (q ∷ mid) after)) ∙ sym long) in
    ap (λ x. option_map (place_of cycle) (cond (spares voters x) (Some ticket) (first_ticket cycle voters (ticket + 1) (length mid)))) here
    ∙ from_here (place_of cycle) ticket (length before) (first_ticket cycle voters (ticket + 1) (length mid)) (position (spares voters) mid) (spares voters q) place
    (later ∙ shifted (length (before ++ q ∷ [])) (length before) (position (spares voters) mid) long)
    ∙ sym (ap (option_map (λ i. length before + i)) (position-cons (spares voters) q mid))

or_later : (b : Bool) (x : ℕ) (o rest more : Option ℕ) → rest ≡ option_or o more → cond b (Some x) rest ≡ option_or (cond b (Some x) o) more
or_later true x o rest more is = refl
or_later false x o rest more is = is

-- n tickets, and then m more
in_turn : (cycle : List ℕ) (voters ticket n m k : ℕ) → k ≡ n + m
    → first_ticket cycle voters ticket k ≡ option_or (first_ticket cycle voters ticket n) (first_ticket cycle voters (ticket + n) m)
in_turn cycle voters ticket zero m k is =
    let same : k ≡ m = omega arith in
    let here : ticket ≡ ticket + zero = omega arith in
    ap₂ (first_ticket cycle voters) here same
in_turn cycle voters ticket (suc n) m zero is = absurd (omega arith)
in_turn cycle voters ticket (suc n) m (suc k) is =
    let turned : (ticket + 1) + n ≡ ticket + suc n = omega arith in
    or_later (spares voters (quorum_of cycle ticket)) ticket (first_ticket cycle voters (ticket + 1) n) (first_ticket cycle voters (ticket + 1) k) (first_ticket cycle voters (ticket + suc n) m)
    (in_turn cycle voters (ticket + 1) n m k (omega arith) ∙ ap (λ t. option_or (first_ticket cycle voters (ticket + 1) n) (first_ticket cycle voters t m)) turned)

map_or : (f : ℕ → ℕ) (o p : Option ℕ) → option_map f (option_or o p) ≡ option_or (option_map f o) (option_map f p)
map_or f None p = refl
map_or f (Some x) p = refl

from_zero : (o : Option ℕ) → option_map (λ i. 0 + i) o ≡ o
from_zero None = refl
from_zero (Some i) = ap Some (omega arith)

-- Around the cycle: the places from the ticket's on, and then those before it.
pub around : (cycle before rest : List ℕ) (voters ticket from : ℕ) → cycle ≡ before ++ rest → length before ≡ from → 0 < length rest
    → place_of cycle ticket ≡ from
    → place_without cycle voters ticket
    ≡ option_or (option_map (λ i. from + i) (position (spares voters) rest)) (position (spares voters) before)
around cycle before rest voters ticket from is long some at =
    let size : length cycle ≡ length before + length rest = ap length is ∙ length-append before rest in
    let last : place_of cycle (ticket + length rest) ≡ 0 =
    sym (mod-add-mod ticket (length cycle) (length rest)) ∙ ap (λ n. n % length cycle) (omega (arith, size, at, long)) ∙ mod_self (length cycle) in
    ap (option_map (place_of cycle)) (in_turn cycle voters ticket (length rest) (length before) (length cycle) (omega arith))
    ∙ map_or (place_of cycle) (first_ticket cycle voters ticket (length rest)) (first_ticket cycle voters (ticket + length rest) (length before))
    ∙ ap₂ option_or
    (ahead cycle voters before rest [] ticket (ap (λ r. before ++ r) (append-nil rest) ∙ sym is) (λ _. at ∙ sym long)
    ∙ ap (λ n. option_map (λ i. n + i) (position (spares voters) rest)) long)
    (ahead cycle voters [] before rest (ticket + length rest) (sym is) (λ _. last) ∙ from_zero (position (spares voters) before))

pub found_further : (cycle before rest : List ℕ) (voters ticket from further : ℕ) → cycle ≡ before ++ rest → length before ≡ from → 0 < length rest
    → position (spares voters) rest ≡ Some further → place_of cycle ticket ≡ from → Some (from + further) ≡ place_without cycle voters ticket
found_further cycle before rest voters ticket from further is long some found at =
    sym (around cycle before rest voters ticket from is long some at
    ∙ ap (λ o. option_or (option_map (λ i. from + i) o) (position (spares voters) before)) found)

pub found_before : (cycle before rest : List ℕ) (voters ticket from : ℕ) → cycle ≡ before ++ rest → length before ≡ from → 0 < length rest
    → position (spares voters) rest ≡ None → place_of cycle ticket ≡ from → position (spares voters) before ≡ place_without cycle voters ticket
found_before cycle before rest voters ticket from is long some found at =
    sym (around cycle before rest voters ticket from is long some at
    ∙ ap (λ o. option_or (option_map (λ i. from + i) o) (position (spares voters) before)) found)
