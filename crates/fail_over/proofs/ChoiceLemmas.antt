-- Whom a session asks, by which voters the quorums have.
use Rattle.std.proofs.Common.{◌≡◌, ℕ, zero, suc, ◌+◌, ◌%◌, ◌<◌, ◌≤◌, ◌⊎◌, Bool, true, false, cond, not, ◌&&◌, ◌||◌, eqb, max, List, [], ◌∷◌, ◌++◌, length, map, get_or, take, drop, refl, sym, ap, ap₂, subst, ◌∙◌, inl, inr, arith, Option, Some, None, append_assoc, append-nil, length-append, mod-eq_of_lt, mod-lt}
use Rattle.std.specs.Prelude.{◌-◌, IsPermutation, bit_or, nat_lt, slice_index}
use Rattle.std.specs.Int.{bit_at}
use Rattle.std.specs.List.{range_with_len}
use Rattle.std.specs.Option.{option_map, option_or}
use Rattle.std.proofs.Math.Nat.{add-mod_right, mod-add-mod, mod_self}
use Rattle.std.proofs.Math.Seq.{get_or-append_seam}
use Rattle.std.proofs.lemmas.Bool.{cases_lt, false≢true, true≢false}
use Rattle.std.proofs.lemmas.Bool.Decides.{nat_tests}
use Rattle.std.proofs.lemmas.List.{get_or_default, length-take-le, map-append, take-append-drop}
use Rattle.std.proofs.lemmas.List.Folds.{Any-from_list_any, list_any_at}
use Rattle.std.proofs.lemmas.List.Sorted.{IsPermutation-append_comm, IsPermutation-refl}
use Rattle.std.proofs.lemmas.Nat.Bits.{bit_at-lt, bit_at_or}
use Rattle.numbers.specs.Sets.{has, meet, members_of}
use Rattle.numbers.proofs.Meetings.{meet-common, meet-from}
use Rattle.numbers.proofs.Options.{and-true}
use Rattle.numbers.proofs.SetLemmas.{has-set_where, has-IsSet_below}
use Rattle.quorum_set.proofs.MaskLemmas.{IsSet-members_of, has_none_above, members_of-zero}
use Rattle.fail_over.proofs.PlaceLemmas.{next_place}
use Rattle.fail_over.specs.Choices.{awaited, either, first_ticket, is_stuck, next_quorum, others_would_do, place_of, place_without, quorum_of, spares, waits_for}
use Rattle.fail_over.specs.Facts.{AllAre, AreIn, Asks, HasNoRoom, HasOne, HasRoom, HasVotesOf, IsHindered, IsIn, IsNotIn, PassesOver, SparesThem, WaitsFor, WouldDo, asked_in_turn, quorum_at}
use Rattle.fail_over.specs.declared.waiting.Waiting.{Waiting}

-- ---- voters of sets

not_true : (b : Bool) → not b ≡ true → b ≡ false
not_true true is = absurd (false≢true is)
not_true false is = refl

not_false : (b : Bool) → not b ≡ false → b ≡ true
not_false true is = refl
not_false false is = absurd (true≢false is)

truth : (b : Bool) → (b ≡ true) ⊎ (b ≡ false)
truth true = inl refl
truth false = inr refl

-- the quorum has none of these voters
pub spares-true : (voters q : ℕ) → spares voters q ≡ true → (v : ℕ) → IsIn q v → IsNotIn voters v
spares-true voters q is v member =
    elim (truth (has (members_of voters) v)) [
      | inl there ↦ absurd (true≢false (sym (meet-from (members_of q) (members_of voters) v member there) ∙ not_true (meet (members_of q) (members_of voters)) is))
      | inr not_there ↦ not_there
    ]

spares-from : (voters q : ℕ) → ((v : ℕ) → IsIn q v → IsNotIn voters v) → spares voters q ≡ true
spares-from voters q none =
    elim (truth (meet (members_of q) (members_of voters))) as (λ _. spares voters q ≡ true) [
      | inl holds ↦ let at = meet-common (members_of q) (members_of voters) holds in absurd (true≢false (sym at.2 ∙ none at.0 at.1))
      | inr lacks ↦ ap not lacks
    ]

spares-false : (voters q : ℕ) → spares voters q ≡ false → (v : ℕ) × IsIn q v × IsIn voters v
spares-false voters q is = meet-common (members_of q) (members_of voters) (not_false (meet (members_of q) (members_of voters)) is)

one_of_two : (a b : ℕ) → a < 2 → b < 2 → eqb (max a b) 1 ≡ (eqb a 1 || eqb b 1)
one_of_two zero zero la lb = refl
one_of_two zero (suc zero) la lb = refl
one_of_two (suc zero) zero la lb = refl
one_of_two (suc zero) (suc zero) la lb = refl
one_of_two zero (suc (suc b)) la lb = absurd (omega arith)
one_of_two (suc zero) (suc (suc b)) la lb = absurd (omega arith)
one_of_two (suc (suc a)) b la lb = absurd (omega arith)

has-word : (m v : ℕ) → v < 64 → has (members_of m) v ≡ eqb (bit_at m v) 1
has-word m v lt = has-set_where (λ j. eqb (bit_at m j) 1) v lt

-- the voters of either set
has-either : (a b v : ℕ) → has (members_of (either a b)) v ≡ (has (members_of a) v || has (members_of b) v)
has-either a b v =
    elim (cases_lt v 64) as (λ _. has (members_of (either a b)) v ≡ (has (members_of a) v || has (members_of b) v)) [
      | inl lt ↦
          has-word (bit_or a b) v lt ∙ ap (λ n. eqb n 1) (bit_at_or a b v) ∙ one_of_two (bit_at a v) (bit_at b v) (bit_at-lt a v) (bit_at-lt b v)
          ∙ sym (ap₂ (λ x y. x || y) (has-word a v lt) (has-word b v lt))
      | inr ge ↦
          has_none_above (either a b) v ge ∙ sym (ap₂ (λ x y. x || y) (has_none_above a v ge) (has_none_above b v ge))
    ]

neither : (a b : Bool) → (a || b) ≡ false → (a ≡ false) × (b ≡ false)
neither true b is = absurd (true≢false is)
neither false b is = (refl, is)

one_at_least : (a b : Bool) → (a || b) ≡ true → (a ≡ true) ⊎ (b ≡ true)
one_at_least true b is = inl refl
one_at_least false b is = inr is

none_of_two : (a b : Bool) → a ≡ false → b ≡ false → (a || b) ≡ false
none_of_two a b one two = ap₂ (λ x y. x || y) one two

pub would_do-true : (avoided full q : ℕ) → spares (either avoided full) q ≡ true → WouldDo avoided full q
would_do-true avoided full q is v member =
    neither (has (members_of avoided) v) (has (members_of full) v) (sym (has-either avoided full v) ∙ spares-true (either avoided full) q is v member)

would_do-from : (avoided full q : ℕ) → WouldDo avoided full q → spares (either avoided full) q ≡ true
would_do-from avoided full q would =
    spares-from (either avoided full) q (λ v member. has-either avoided full v
    ∙ none_of_two (has (members_of avoided) v) (has (members_of full) v) (would v member).0 (would v member).1)

hindered-from : (avoided full q : ℕ) → spares (either avoided full) q ≡ false → IsHindered avoided full q
hindered-from avoided full q is =
    let at = spares-false (either avoided full) q is in
    (at.0, at.1, one_at_least (has (members_of avoided) at.0) (has (members_of full) at.0) (sym (has-either avoided full at.0) ∙ at.2))

in_either : (avoided full v : ℕ) → IsIn avoided v ⊎ IsIn full v → has (members_of (either avoided full)) v ≡ false → ⊥
in_either avoided full v is none =
    let both = neither (has (members_of avoided) v) (has (members_of full) v) (sym (has-either avoided full v) ∙ none) in
    elim is [
      | inl one ↦ true≢false (sym one ∙ both.0)
      | inr two ↦ true≢false (sym two ∙ both.1)
    ]

hindered-false : (avoided full q : ℕ) → IsHindered avoided full q → spares (either avoided full) q ≡ false
hindered-false avoided full q at =
    elim (truth (spares (either avoided full) q)) [
      | inl holds ↦ absurd (in_either avoided full at.0 at.2 (spares-true (either avoided full) q holds at.0 at.1))
      | inr lacks ↦ lacks
    ]

no_room-false : (full q : ℕ) → HasNoRoom full q → spares full q ≡ false
no_room-false full q at =
    elim (truth (spares full q)) [
      | inl holds ↦ absurd (true≢false (sym at.2 ∙ spares-true full q holds at.0 at.1))
      | inr lacks ↦ lacks
    ]

-- ---- the first ticket

-- so many tickets are passed over
abbrev Found : List ℕ → ℕ → ℕ → ℕ → ℕ → Type 0
Found cycle voters ticket n found =
    (k : ℕ) × (k < n) × (found ≡ ticket + k) × (spares voters (quorum_of cycle found) ≡ true)
    × ((i : ℕ) → i < k → spares voters (quorum_of cycle (ticket + i)) ≡ false)

first-Some : (cycle : List ℕ) (voters ticket n found : ℕ) → first_ticket cycle voters ticket n ≡ Some found → Found cycle voters ticket n found
first-Some cycle voters ticket zero found is = cc
first-Some cycle voters ticket (suc n) found is =
    elim (spares voters (quorum_of cycle ticket)) as (λ b. spares voters (quorum_of cycle ticket) ≡ b → cond b (Some ticket) (first_ticket cycle voters (ticket + 1) n) ≡ Some found → Found cycle voters ticket (suc n) found) [
      | true ↦ λ here one.
          let same : ticket ≡ found = cc in
          (0, (omega arith), (omega arith), ap (λ t. spares voters (quorum_of cycle t)) (sym same) ∙ here, λ i lt. absurd (omega arith))
      | false ↦ λ lacks later.
          let rest = first-Some cycle voters (ticket + 1) n found later in
          (rest.0 + 1, (omega (arith, rest.1)), (omega (arith, rest.2)), rest.3, λ i lt. before i (rest.0) lt lacks rest.4)
    ] refl is
  where
    before : (i k : ℕ) → i < k + 1 → spares voters (quorum_of cycle ticket) ≡ false → ((j : ℕ) → j < k → spares voters (quorum_of cycle ((ticket + 1) + j)) ≡ false)
        → spares voters (quorum_of cycle (ticket + i)) ≡ false
    before zero k lt here later = let same : ticket + 0 ≡ ticket = omega arith in ap (λ t. spares voters (quorum_of cycle t)) same ∙ here
    before (suc i) k lt here later =
        let same : ticket + suc i ≡ (ticket + 1) + i = omega arith in
        ap (λ t. spares voters (quorum_of cycle t)) same ∙ later i (omega arith)

first-None : (cycle : List ℕ) (voters ticket n : ℕ) → first_ticket cycle voters ticket n ≡ None → (i : ℕ) → i < n → spares voters (quorum_of cycle (ticket + i)) ≡ false
first-None cycle voters ticket zero is i lt = absurd (omega arith)
first-None cycle voters ticket (suc n) is i lt =
    elim (spares voters (quorum_of cycle ticket)) as (λ b. spares voters (quorum_of cycle ticket) ≡ b → cond b (Some ticket) (first_ticket cycle voters (ticket + 1) n) ≡ None → spares voters (quorum_of cycle (ticket + i)) ≡ false) [
      | true ↦ λ here none. cc
      | false ↦ λ lacks later. at i lt lacks (first-None cycle voters (ticket + 1) n later)
    ] refl is
  where
    at : (i : ℕ) → i < suc n → spares voters (quorum_of cycle ticket) ≡ false → ((j : ℕ) → j < n → spares voters (quorum_of cycle ((ticket + 1) + j)) ≡ false)
        → spares voters (quorum_of cycle (ticket + i)) ≡ false
    at zero lt here later = let same : ticket + 0 ≡ ticket = omega arith in ap (λ t. spares voters (quorum_of cycle t)) same ∙ here
    at (suc i) lt here later =
        let same : ticket + suc i ≡ (ticket + 1) + i = omega arith in
        ap (λ t. spares voters (quorum_of cycle t)) same ∙ later i (omega arith)

-- each place is that of a ticket, less than a cycle further on
ticket_of : (ticket l p : ℕ) → p < l → (i : ℕ) × (i < l) × ((ticket + i) % l ≡ p)
ticket_of ticket l p lt =
    let f = ticket % l in
    let low : f < l = mod-lt ticket (omega arith) in
    elim (cases_lt p f) as (λ _. (i : ℕ) × (i < l) × ((ticket + i) % l ≡ p)) [
      | inl less ↦
          ((p + l) - f, (omega arith), sym (mod-add-mod ticket l ((p + l) - f)) ∙ ap (λ n. n % l) (omega arith) ∙ add-mod_right p l ∙ mod-eq_of_lt lt)
      | inr more ↦
          (p - f, (omega arith), sym (mod-add-mod ticket l (p - f)) ∙ ap (λ n. n % l) (omega arith) ∙ mod-eq_of_lt lt)
    ]

-- ---- the place without some voters

abbrev At : List ℕ → ℕ → ℕ → ℕ → Type 0
At cycle voters ticket place =
    (k : ℕ) × (k < length cycle) × (place ≡ place_of cycle (ticket + k)) × (spares voters (slice_index cycle place) ≡ true)
    × ((i : ℕ) → i < k → spares voters (quorum_of cycle (ticket + i)) ≡ false)

without-Some : (cycle : List ℕ) (voters ticket place : ℕ) → place_without cycle voters ticket ≡ Some place → At cycle voters ticket place
without-Some cycle voters ticket place is =
    elim (first_ticket cycle voters ticket (length cycle)) as (λ o. first_ticket cycle voters ticket (length cycle) ≡ o → option_map (place_of cycle) o ≡ Some place → At cycle voters ticket place) [
      | None ↦ λ e none. cc
      | Some found ↦ λ e some.
          let same : place_of cycle found ≡ place = cc in
          let f = first-Some cycle voters ticket (length cycle) found e in
          (f.0, f.1, sym same ∙ ap (place_of cycle) f.2, ap (λ p. spares voters (slice_index cycle p)) (sym same) ∙ f.3, f.4)
    ] refl is

without-None : (cycle : List ℕ) (voters ticket : ℕ) → place_without cycle voters ticket ≡ None → (p : ℕ) → p < length cycle → spares voters (slice_index cycle p) ≡ false
without-None cycle voters ticket is p lt =
    elim (first_ticket cycle voters ticket (length cycle)) as (λ o. first_ticket cycle voters ticket (length cycle) ≡ o → option_map (place_of cycle) o ≡ None → spares voters (slice_index cycle p) ≡ false) [
      | None ↦ λ e none.
          let t = ticket_of ticket (length cycle) p lt in
          ap (λ n. spares voters (slice_index cycle n)) (sym t.2) ∙ first-None cycle voters ticket (length cycle) e t.0 t.1
      | Some found ↦ λ e some. cc
    ] refl is

-- if some quorum has none of these voters, it is found
without-is : (cycle : List ℕ) (voters ticket p : ℕ) → p < length cycle → spares voters (slice_index cycle p) ≡ true → (place : ℕ) × (place_without cycle voters ticket ≡ Some place)
without-is cycle voters ticket p lt is =
    elim (place_without cycle voters ticket) as (λ o. place_without cycle voters ticket ≡ o → (place : ℕ) × (o ≡ Some place)) [
      | None ↦ λ e. absurd (true≢false (sym is ∙ without-None cycle voters ticket e p lt))
      | Some place ↦ λ e. (place, refl)
    ] refl

-- if each has one, none is
without-none : (cycle : List ℕ) (voters ticket : ℕ) → ((p : ℕ) → p < length cycle → spares voters (slice_index cycle p) ≡ false) → place_without cycle voters ticket ≡ None
without-none cycle voters ticket each =
    elim (place_without cycle voters ticket) as (λ o. place_without cycle voters ticket ≡ o → o ≡ None) [
      | None ↦ λ e. refl
      | Some place ↦ λ e.
          let at = without-Some cycle voters ticket place e in
          absurd (true≢false (sym at.3 ∙ each place (in_cycle cycle ticket place at)))
    ] refl
  where
    in_cycle : (cycle : List ℕ) (ticket place : ℕ) → At cycle voters ticket place → place < length cycle
    in_cycle cycle ticket place at = let low : place_of cycle (ticket + at.0) < length cycle = mod-lt (ticket + at.0) (omega (arith, at.1)) in omega (arith, at.2, low)

pub is_in_cycle : (cycle : List ℕ) (voters ticket place : ℕ) → At cycle voters ticket place → place < length cycle
is_in_cycle cycle voters ticket place at = let low : place_of cycle (ticket + at.0) < length cycle = mod-lt (ticket + at.0) (omega (arith, at.1)) in omega (arith, at.2, low)

-- ---- whom a session asks

-- the first choice, or the second one if there is none
abbrev Chosen : List ℕ → ℕ → ℕ → ℕ → ℕ → Type 0
Chosen cycle ticket avoided full place =
    At cycle (either avoided full) ticket place
    ⊎ (At cycle full ticket place × ((p : ℕ) → p < length cycle → spares (either avoided full) (slice_index cycle p) ≡ false))

chosen : (cycle : List ℕ) (ticket avoided full place : ℕ) → next_quorum cycle ticket avoided full ≡ Some place → Chosen cycle ticket avoided full place
chosen cycle ticket avoided full place is =
    elim (place_without cycle (either avoided full) ticket) as (λ o. place_without cycle (either avoided full) ticket ≡ o → option_or o (place_without cycle full ticket) ≡ Some place → Chosen cycle ticket avoided full place) [
      | None ↦ λ e second. inr (without-Some cycle full ticket place second, without-None cycle (either avoided full) ticket e)
      | Some x ↦ λ e one. inl (without-Some cycle (either avoided full) ticket place (e ∙ one))
    ] refl is

pub answers : (cycle : List ℕ) (ticket avoided full : ℕ) → HasOne (WouldDo avoided full) cycle → Asks (WouldDo avoided full) cycle (next_quorum cycle ticket avoided full)
answers cycle ticket avoided full one =
    let found = without-is cycle (either avoided full) ticket one.0 one.1 (would_do-from avoided full (slice_index cycle one.0) one.2) in
    let at = without-Some cycle (either avoided full) ticket found.0 found.1 in
    record {
      place = found.0;
      is_asked = ap (λ o. option_or o (place_without cycle full ticket)) found.1;
      is_in_cycle = is_in_cycle cycle (either avoided full) ticket found.0 at;
      is_so = would_do-true avoided full (slice_index cycle found.0) at.3;
    }

has_room : (cycle : List ℕ) (ticket avoided full place : ℕ) → Chosen cycle ticket avoided full place → (place < length cycle) × HasRoom full (slice_index cycle place)
has_room cycle ticket avoided full place (inl at) =
    (is_in_cycle cycle (either avoided full) ticket place at, λ v member. (would_do-true avoided full (slice_index cycle place) at.3 v member).1)
has_room cycle ticket avoided full place (inr at) =
    (is_in_cycle cycle full ticket place at.0, spares-true full (slice_index cycle place) at.0.3)

pub asks_with_room : (cycle : List ℕ) (ticket avoided full : ℕ) → HasOne (HasRoom full) cycle → Asks (HasRoom full) cycle (next_quorum cycle ticket avoided full)
asks_with_room cycle ticket avoided full one =
    let second = without-is cycle full ticket one.0 one.1 (spares-from full (slice_index cycle one.0) one.2) in
    elim (next_quorum cycle ticket avoided full) as (λ o. next_quorum cycle ticket avoided full ≡ o → Asks (HasRoom full) cycle o) [
      | None ↦ λ e. absurd (never (place_without cycle (either avoided full) ticket) (place_without cycle full ticket) second.0 second.1 e)
      | Some place ↦ λ e.
          let is = has_room cycle ticket avoided full place (chosen cycle ticket avoided full place e) in
          record { place = place; is_asked = refl; is_in_cycle = is.0; is_so = is.1 }
    ] refl
  where
    never : (o p : Option ℕ) (x : ℕ) → p ≡ Some x → option_or o p ≡ None → ⊥
    never None p x is e = cc
    never (Some y) p x is e = cc

pub asks_nobody : (cycle : List ℕ) (ticket avoided full : ℕ) → AllAre (HasNoRoom full) cycle → next_quorum cycle ticket avoided full ≡ None
asks_nobody cycle ticket avoided full each =
    ap₂ option_or
    (without-none cycle (either avoided full) ticket (λ p lt. hindered-false avoided full (slice_index cycle p) ((each p lt).0, (each p lt).1, inr (each p lt).2)))
    (without-none cycle full ticket (λ p lt. no_room-false full (slice_index cycle p) (each p lt)))

-- ---- tickets that are passed over

pub passes_hindered : (cycle : List ℕ) (ticket avoided full place : ℕ) → next_quorum cycle ticket avoided full ≡ Some place → PassesOver (IsHindered avoided full) cycle ticket place
passes_hindered cycle ticket avoided full place is =
    elim (chosen cycle ticket avoided full place is) [
      | inl at ↦ record {
        tickets = at.0;
        is_once = at.1;
        is_at = at.2;
        each = λ i lt. hindered-from avoided full (quorum_of cycle (ticket + i)) (at.4 i lt);
      }
      | inr at ↦ record {
        tickets = at.0.0;
        is_once = at.0.1;
        is_at = at.0.2;
        each = λ i lt. let one = spares-false full (quorum_of cycle (ticket + i)) (at.0.4 i lt) in (one.0, one.1, inr one.2);
      }
    ]

pub passes_full : (cycle : List ℕ) (ticket avoided full place : ℕ) → AllAre (IsHindered avoided full) cycle → next_quorum cycle ticket avoided full ≡ Some place → PassesOver (HasNoRoom full) cycle ticket place
passes_full cycle ticket avoided full place each is =
    elim (chosen cycle ticket avoided full place is) [
      | inl at ↦ absurd (true≢false (sym at.3 ∙ hindered-false avoided full (slice_index cycle place) (each place (is_in_cycle cycle (either avoided full) ticket place at))))
      | inr at ↦ record {
        tickets = at.0.0;
        is_once = at.0.1;
        is_at = at.0.2;
        each = λ i lt. spares-false full (quorum_of cycle (ticket + i)) (at.0.4 i lt);
      }
    ]

-- ---- the plan

-- a ticket gets its own quorum if that has none of these voters
own_place : (cycle : List ℕ) (voters ticket n : ℕ) → 0 < n → spares voters (quorum_of cycle ticket) ≡ true → first_ticket cycle voters ticket n ≡ Some ticket
own_place cycle voters ticket zero some is = absurd (omega arith)
own_place cycle voters ticket (suc n) some is = ap (λ b. cond b (Some ticket) (first_ticket cycle voters (ticket + 1) n)) is

pub gets_its_own : (cycle : List ℕ) (ticket avoided full : ℕ) → 0 < length cycle → WouldDo avoided full (quorum_of cycle ticket)
    → next_quorum cycle ticket avoided full ≡ Some (place_of cycle ticket)
gets_its_own cycle ticket avoided full some would =
    ap (λ o. option_or (option_map (place_of cycle) o) (place_without cycle full ticket))
    (own_place cycle (either avoided full) ticket (length cycle) some (would_do-from avoided full (quorum_of cycle ticket) would))

pub all_get_their_own : (cycle : List ℕ) (ticket : ℕ) → 0 < length cycle → next_quorum cycle ticket 0 0 ≡ Some (place_of cycle ticket)
all_get_their_own cycle ticket some = gets_its_own cycle ticket 0 0 some (λ v member. (not_in_zero v, not_in_zero v))
  where
    not_in_zero : (v : ℕ) → has (members_of 0) v ≡ false
    not_in_zero v = ap (λ s. has s v) members_of-zero

in_order : (cycle before mid after : List ℕ) (ticket : ℕ) → before ++ (mid ++ after) ≡ cycle → (0 < length mid → place_of cycle ticket ≡ length before)
    → map (quorum_of cycle) (range_with_len ticket (length mid)) ≡ mid
in_order cycle before [] after ticket is at = refl
in_order cycle before (q ∷ mid) after ticket is at =
    let some : 0 < length (q ∷ mid) = omega arith in
    let place : place_of cycle ticket ≡ length before = at some in
    let here : quorum_of cycle ticket ≡ q = ap₂ (λ c n. get_or c n 0) (sym is) place ∙ get_or-append_seam before q (mid ++ after) 0 in
    let long : length (before ++ q ∷ []) ≡ length before + 1 = omega (arith, length-append before (q ∷ [])) in
    ap₂ (λ x xs. x ∷ xs) here
    (in_order cycle (before ++ q ∷ []) mid after (ticket + 1) (append_assoc before (q ∷ []) (mid ++ after) ∙ is)
    (λ more. next_place ticket (length cycle) (length before) place (omega (arith, ap length is, length-append before ((q ∷ mid) ++ after), length-append (q ∷ mid) after)) ∙ sym long))

two_ranges : (a n m k : ℕ) → k ≡ n + m → range_with_len a k ≡ range_with_len a n ++ range_with_len (a + n) m
two_ranges a zero m k is =
    let same : k ≡ m = omega arith in
    let here : a ≡ a + zero = omega arith in
    ap₂ range_with_len here same
two_ranges a (suc n) m zero is = absurd (omega arith)
two_ranges a (suc n) m (suc k) is =
    let turned : (a + 1) + n ≡ a + suc n = omega arith in
    ap (λ l. a ∷ l) (two_ranges (a + 1) n m k (omega arith) ∙ ap (λ t. range_with_len (a + 1) n ++ range_with_len t m) turned)

-- a cycle from any ticket on has the quorums from the ticket's place on, and then those before it
turned_around : (cycle before rest : List ℕ) (ticket : ℕ) → before ++ rest ≡ cycle → length before ≡ place_of cycle ticket → 0 < length rest
    → map (quorum_of cycle) (range_with_len ticket (length cycle)) ≡ rest ++ before
turned_around cycle before rest ticket is long some =
    let size : length cycle ≡ length before + length rest = ap length (sym is) ∙ length-append before rest in
    let last : place_of cycle (ticket + length rest) ≡ 0 =
    sym (mod-add-mod ticket (length cycle) (length rest)) ∙ ap (λ n. n % length cycle) (omega (arith, size, long)) ∙ mod_self (length cycle) in
    ap (map (quorum_of cycle)) (two_ranges ticket (length rest) (length before) (length cycle) (omega arith))
    ∙ map-append (quorum_of cycle) (range_with_len ticket (length rest)) (range_with_len (ticket + length rest) (length before))
    ∙ ap₂ (λ x y. x ++ y)
    (in_order cycle before rest [] ticket (ap (λ r. before ++ r) (append-nil rest) ∙ is) (λ _. sym long))
    (in_order cycle [] before rest (ticket + length rest) is (λ _. last))

-- a whole cycle of tickets, each with its own quorum
whole_turn : (cycle : List ℕ) (ticket : ℕ) → 0 < length cycle → IsPermutation (map (quorum_of cycle) (range_with_len ticket (length cycle))) cycle
whole_turn cycle ticket some =
    let low : place_of cycle ticket < length cycle = mod-lt ticket some in
    let front : length (take (place_of cycle ticket) cycle) ≡ place_of cycle ticket = length-take-le (place_of cycle ticket) cycle (omega (arith, low)) in
    let both = take-append-drop (place_of cycle ticket) cycle in
    let before = take (place_of cycle ticket) cycle in
    let rest = drop (place_of cycle ticket) cycle in
    let turned = turned_around cycle before rest ticket both front (omega (arith, ap length both, length-append before rest, front, low)) in
    subst (λ l. IsPermutation l cycle) (sym turned) (subst (λ l. IsPermutation (rest ++ before) l) both (IsPermutation-append_comm rest before))

same_in_turn : (f g : ℕ → ℕ) (a n : ℕ) → ((t : ℕ) → f t ≡ g t) → map f (range_with_len a n) ≡ map g (range_with_len a n)
same_in_turn f g a zero same = refl
same_in_turn f g a (suc n) same = ap₂ (λ x xs. x ∷ xs) (same a) (same_in_turn f g (a + 1) n same)

pub whole_cycle : (cycle : List ℕ) (ticket : ℕ) → IsPermutation (asked_in_turn cycle 0 0 ticket (length cycle)) cycle
whole_cycle [] ticket = IsPermutation-refl []
whole_cycle (q ∷ qs) ticket =
    let some : 0 < length (q ∷ qs) = omega arith in
    subst (λ l. IsPermutation l (q ∷ qs))
    (sym (same_in_turn (λ t. quorum_at (q ∷ qs) (next_quorum (q ∷ qs) t 0 0)) (quorum_of (q ∷ qs)) ticket (length (q ∷ qs))
    (λ t. ap (quorum_at (q ∷ qs)) (all_get_their_own (q ∷ qs) t some))))
    (whole_turn (q ∷ qs) ticket some)

-- ---- requests that wait

waits-true : (w : Waiting) (avoided : ℕ) → meet (awaited w) (members_of avoided) ≡ true → (v : ℕ) × WaitsFor w v × IsIn avoided v
waits-true w avoided is =
    let at = meet-common (awaited w) (members_of avoided) is in
    let low : at.0 < 64 = has-IsSet_below (members_of avoided) at.0 (IsSet-members_of avoided) at.2 in
    let both = and-true (has (members_of w.quorum) at.0) (not (has (members_of w.votes) at.0))
    (sym (has-set_where (λ v. has (members_of w.quorum) v && not (has (members_of w.votes) v)) at.0 low) ∙ at.1) in
    (at.0, (both.0, not_true (has (members_of w.votes) at.0) both.1), at.2)

waits-false : (w : Waiting) (avoided : ℕ) → meet (awaited w) (members_of avoided) ≡ false → HasVotesOf w avoided
waits-false w avoided is v member there =
    elim (truth (has (members_of w.votes) v)) [
      | inl holds ↦ holds
      | inr lacks ↦
          let low : v < 64 = has-IsSet_below (members_of avoided) v (IsSet-members_of avoided) there in
          let awaits : has (awaited w) v ≡ true =
          has-set_where (λ u. has (members_of w.quorum) u && not (has (members_of w.votes) u)) v low ∙ ap₂ (λ x y. x && not y) member lacks in
          absurd (true≢false (sym (meet-from (awaited w) (members_of avoided) v awaits there) ∙ is))
    ]

others-false : (quorums : List ℕ) (avoided full : ℕ) → others_would_do quorums avoided full ≡ false → AllAre (IsHindered avoided full) quorums
others-false quorums avoided full is p lt =
    elim (truth (spares (either avoided full) (slice_index quorums p))) [
      | inl holds ↦ absurd (true≢false (sym (list_any_at (spares (either avoided full)) quorums p 0 lt holds) ∙ is))
      | inr lacks ↦ hindered-from avoided full (slice_index quorums p) lacks
    ]

others-true : (quorums : List ℕ) (avoided full : ℕ) → others_would_do quorums avoided full ≡ true → HasOne (WouldDo avoided full) quorums
others-true quorums avoided full is =
    let found = Any-from_list_any (spares (either avoided full)) quorums is in (
      found.0,
      found.2,
      would_do-true avoided full (slice_index quorums found.0)
          (ap (spares (either avoided full)) (get_or_default quorums found.0 0 found.1 found.2 ∙ found.3) ∙ found.4),
    )

not_both : (a b : Bool) → (a && b) ≡ false → (a ≡ false) ⊎ (b ≡ false)
not_both true b is = inr is
not_both false b is = inl refl

pub goes_on : (quorums : List ℕ) (w : Waiting) (avoided full : ℕ) → waits_for quorums w avoided full ≡ false → HasVotesOf w avoided ⊎ AllAre (IsHindered avoided full) quorums
goes_on quorums w avoided full is =
    elim (not_both (meet (awaited w) (members_of avoided)) (others_would_do quorums avoided full) is) [
      | inl one ↦ inl (waits-false w avoided one)
      | inr two ↦ inr (others-false quorums avoided full two)
    ]

pub not_stuck : (quorums : List ℕ) (w : Waiting) (avoided full now most : ℕ) → is_stuck quorums w avoided full now most ≡ false
    → (now ≤ w.asked + most) ⊎ (HasVotesOf w avoided ⊎ AllAre (IsHindered avoided full) quorums)
not_stuck quorums w avoided full now most is =
    elim (not_both (nat_lt most (now - w.asked)) (waits_for quorums w avoided full) is) [
      | inl one ↦ inl (grind (arith, nat_tests))
      | inr two ↦ inr (goes_on quorums w avoided full two)
    ]

pub waits_for_one : (quorums : List ℕ) (w : Waiting) (avoided full : ℕ) → waits_for quorums w avoided full ≡ true → (v : ℕ) × WaitsFor w v × IsIn avoided v
waits_for_one quorums w avoided full is = waits-true w avoided (and-true (meet (awaited w) (members_of avoided)) (others_would_do quorums avoided full) is).0

pub stuck_parts : (quorums : List ℕ) (w : Waiting) (avoided full now most : ℕ) → is_stuck quorums w avoided full now most ≡ true
    → (w.asked + most < now) × (waits_for quorums w avoided full ≡ true)
stuck_parts quorums w avoided full now most is =
    let both = and-true (nat_lt most (now - w.asked)) (waits_for quorums w avoided full) is in
    (grind (arith, nat_tests), both.1)

pub asks_others : (quorums cycle : List ℕ) (w : Waiting) (ticket avoided full : ℕ) → AreIn quorums cycle → waits_for quorums w avoided full ≡ true
    → Asks (SparesThem w avoided full) cycle (next_quorum cycle ticket avoided full)
asks_others quorums cycle w ticket avoided full are is =
    let one = others-true quorums avoided full (and-true (meet (awaited w) (members_of avoided)) (others_would_do quorums avoided full) is).1 in
    let there = are one.0 one.1 in
    let asks = answers cycle ticket avoided full (there.0, there.1, subst (WouldDo avoided full) (sym there.2) one.2) in
    record {
      place = asks.place;
      is_asked = asks.is_asked;
      is_in_cycle = asks.is_in_cycle;
      is_so = (asks.is_so, λ v waits there. spared v there (slice_index cycle asks.place) asks.is_so);
    }
  where
    spared : (v : ℕ) → IsIn avoided v → (q : ℕ) → WouldDo avoided full q → IsNotIn q v
    spared v there q would =
        elim (truth (has (members_of q) v)) [
          | inl holds ↦ absurd (true≢false (sym there ∙ (would v holds).0))
          | inr lacks ↦ lacks
        ]
