-- Each step on the ticket word keeps its rule, and what a seat knows at the end.
use Rattle.std.proofs.Common.{◌≡◌, ℕ, ◌+◌, ◌-◌, ◌%◌, ◌^◌, ◌<◌, ◌≤◌, List, [], ◌∷◌, ◌++◌, length, set, sym, ap, ◌∙◌, refl, subst, arith, length-set, get_or-set_same}
use Rattle.std.specs.Prelude.{slice_index}
use Rattle.std.specs.List.{All, sum_by}
use Rattle.std.proofs.lemmas.List.Sums.{sum_by_push, sum_by-append}
use mathlib.Core.Option.{none, some}
use lib.ListN.{get_elem?}
use Rattle.atomic_table.specs.Table.{State, Me, step, keeps, Allows, Splits, Joins, Final, Seen}
use Rattle.atomic_table.proofs.Lists.{set_again}
use Rattle.numbers.specs.Sums.{sum_below}
use Rattle.numbers.proofs.SumLemmas.{AreAllBelow-from_sums, weight_past, sum_by-set_elem, elem-le-sum_by, sum_by-alone, sum_by-add, sum_below-next, sum_below-weight_past, All-from_weight_past}
use Rattle.numbers.proofs.SumsBelow.{sum_below-one, sum_by-one}
use Rattle.dealer.specs.declared.tickets.Hand.{Hand}
use Rattle.dealer.specs.declared.tickets.Sheet.{Sheet}
use Rattle.dealer.specs.Tickets.{hand, IsDealt, Dealt, Draws, Looks, join_hands, empty_hand, Ends}

abbrev TableState : Type 0
TableState = State (Unit {0}) Hand

-- what all seats drew and may still draw is the quota
shares_sum : (quota : ℕ) (s : TableState) → IsDealt quota s.words s.views → sum_by (λ (u : Hand). length u.drawn + u.rest) s.views ≡ quota
shares_sum quota s r =
    let ones : sum_by (λ (u : Hand). sum_by (λ _. 1) u.drawn) s.views ≡ slice_index s.words 0 = r.each_once (λ _. 1) ∙ sum_below-one (slice_index s.words 0) in
    let same : sum_by (λ (u : Hand). length u.drawn) s.views ≡ slice_index s.words 0 = subst (λ (f : Hand → ℕ). sum_by f s.views ≡ slice_index s.words 0) (λ i u. sum_by-one u.drawn i) ones in
    let both = sum_by-add (λ (u : Hand). length u.drawn) (λ (u : Hand). u.rest) s.views in
    let whole = r.quota_kept in
    omega arith

share_within : (quota : ℕ) (s : TableState) → IsDealt quota s.words s.views → (id : ℕ) (v : Hand) → get_elem? s.views id ≡ some v → length v.drawn + v.rest ≤ quota
share_within quota s r id v at = omega (arith, elem-le-sum_by (λ (u : Hand). length u.drawn + u.rest) s.views id v at, shares_sum quota s r)

-- where a seat has the whole quota, its tickets are all that were drawn
weighs_all : (quota : ℕ) (s : TableState) → IsDealt quota s.words s.views → (id : ℕ) (v : Hand) → get_elem? s.views id ≡ some v → length v.drawn + v.rest ≡ quota
    → (h : ℕ → ℕ) → sum_by h v.drawn ≡ sum_below h (slice_index s.words 0)
weighs_all quota s r id v at all h =
    sym (sum_by-alone (λ (u : Hand). sum_by h u.drawn) (λ (u : Hand). length u.drawn + u.rest) (λ u no_share. empty_sum u.drawn (omega arith)) s.views id v at (shares_sum quota s r ∙ sym all))
    ∙ r.each_once h
  where
    empty_sum : (l : List ℕ) → length l ≡ 0 → sum_by h l ≡ 0
    empty_sum [] e = refl
    empty_sum (x ∷ xs) e = absurd (omega arith)

count_all : (quota : ℕ) (s : TableState) → IsDealt quota s.words s.views → (id : ℕ) (v : Hand) → get_elem? s.views id ≡ some v → length v.drawn + v.rest ≡ quota
    → slice_index s.words 0 ≡ length v.drawn
count_all quota s r id v at all =
    sym (sum_below-one (slice_index s.words 0)) ∙ sym (weighs_all quota s r id v at all (λ _. 1)) ∙ sum_by-one v.drawn

-- each ticket of a seat is below the word
drawn_below : (quota : ℕ) (s : TableState) → IsDealt quota s.words s.views → (id : ℕ) (v : Hand) → get_elem? s.views id ≡ some v → All (λ t. t < slice_index s.words 0) v.drawn
drawn_below quota s r id v at =
    let n : ℕ = slice_index s.words 0 in
    All-from_weight_past n v.drawn (omega (arith, elem-le-sum_by (λ (u : Hand). sum_by (weight_past n) u.drawn) s.views id v at, r.each_once (weight_past n), sum_below-weight_past n n (omega arith)))

-- a draw
pub Draws-allowed : (sheet : Sheet) (slots id : ℕ) (me : Me (Unit {0}) Hand) → 0 < me.0.rest
    → Allows (Dealt sheet) slots id me 0 (λ n. (n + 1) % 2 ^ 64) (Draws sheet.quota (step slots 0 1 0 none) me)
Draws-allowed sheet slots id me some_rest s r _ at _ =
    let n : ℕ = slice_index s.words 0 in
    let v = me.0 in
    let w : Hand = hand v.cycle (v.rest - 1) (v.drawn ++ n ∷ []) in
    let rests = sum_by-set_elem (λ (u : Hand). u.rest) s.views id v w at in
    let within = elem-le-sum_by (λ (u : Hand). u.rest) s.views id v at in
    let whole = r.quota_kept in
    let fits = r.fits in
    let next : (n + 1) % 2 ^ 64 ≡ n + 1 = omega arith in
    let words : slice_index (set s.words 0 (n + 1)) 0 ≡ n + 1 = get_or-set_same s.words 0 (n + 1) 0 (omega (arith, r.one_word)) in
    let kept : IsDealt sheet.quota (set s.words 0 (n + 1)) (set s.views id w) = record {
      one_word = length-set s.words 0 (n + 1) ∙ r.one_word;
      fits = r.fits;
      quota_kept = rw words (omega arith);
      each_once = λ h. rw words (omega (arith, sum_by-set_elem (λ (u : Hand). sum_by h u.drawn) s.views id v w at, r.each_once h, sum_below-next h n, sum_by_push h v.drawn n));
    } in (
      w,
      keeps,
      tt,
      subst (λ (k : ℕ). IsDealt sheet.quota (set s.words 0 k) (set s.views id w)) (sym next) kept,
      (refl, drawn_below sheet.quota s r id v at, omega arith, count_all sheet.quota s r id v at),
    )

-- the word stays, and so does each view
IsDealt-unmoved : (s : TableState) (quota : ℕ) → IsDealt quota s.words s.views → (id : ℕ) (me : Me (Unit {0}) Hand) → get_elem? s.views id ≡ some me.0
    → IsDealt quota (set s.words 0 (slice_index s.words 0)) (set s.views id me.0)
IsDealt-unmoved s quota r id me at =
    let same = set_again s.views id me.0 at in
    let words : slice_index (set s.words 0 (slice_index s.words 0)) 0 ≡ slice_index s.words 0 = get_or-set_same s.words 0 (slice_index s.words 0) 0 (omega (arith, r.one_word)) in
    record {
      one_word = length-set s.words 0 (slice_index s.words 0) ∙ r.one_word;
      fits = r.fits;
      quota_kept = rw (words, same) r.quota_kept;
      each_once = λ h. rw (words, same) (r.each_once h);
    }

pub Looks-allowed : (sheet : Sheet) (slots id : ℕ) (me : Me (Unit {0}) Hand) → Allows (Dealt sheet) slots id me 0 (λ n. n) (Looks (step slots 0 0 0 none) me)
Looks-allowed sheet slots id me s r _ at _ =
    let within = elem-le-sum_by (λ (u : Hand). u.rest) s.views id me.0 at in
    let whole = r.quota_kept in
    let fits = r.fits in
    (me.0, keeps, tt, IsDealt-unmoved s sheet.quota r id me at, (refl, omega arith))

pub Dealt-splits : (sheet : Sheet) (id : ℕ) (v : Hand) (amount : ℕ) → amount ≤ v.rest
    → Splits (Dealt sheet) id v (hand v.cycle (v.rest - amount) v.drawn) (hand v.cycle amount [])
Dealt-splits sheet id v amount enough s r at =
    let left : Hand = hand v.cycle (v.rest - amount) v.drawn in
    let right : Hand = hand v.cycle amount [] in
    let rests = sum_by-set_elem (λ (u : Hand). u.rest) s.views id v left at in
    let more = sum_by_push (λ (u : Hand). u.rest) (set s.views id left) right in
    let whole = r.quota_kept in
    record {
      one_word = r.one_word;
      fits = r.fits;
      quota_kept = omega arith;
      each_once = λ h. omega (arith, sum_by-set_elem (λ (u : Hand). sum_by h u.drawn) s.views id v left at, sum_by_push (λ (u : Hand). sum_by h u.drawn) (set s.views id left) right, r.each_once h);
    }

pub Dealt-joins : (sheet : Sheet) (id : ℕ) (v : Hand) (other : ℕ) (w : Hand) → Joins (Dealt sheet) id v other w (join_hands v w) empty_hand
Dealt-joins sheet id v other w s r at apart there =
    let both = join_hands v w in
    let rests = sum_by-set_elem (λ (u : Hand). u.rest) s.views id v both at in
    let spent = sum_by-set_elem (λ (u : Hand). u.rest) (set s.views id both) other w empty_hand there in
    let whole = r.quota_kept in
    record {
      one_word = r.one_word;
      fits = r.fits;
      quota_kept = omega arith;
      each_once = λ h. omega (
        arith,
        sum_by-set_elem (λ (u : Hand). sum_by h u.drawn) s.views id v both at,
        sum_by-set_elem (λ (u : Hand). sum_by h u.drawn)
            (set s.views id both) other w empty_hand there,
        sum_by-append h v.drawn w.drawn,
        r.each_once h,
      );
    }

-- what a seat knows of a table that ended
pub Ends-from_final : (sheet : Sheet) (id : ℕ) (v : Hand) (words : List ℕ) (slots : List (Unit {0})) → Final (Seen (Dealt sheet) id v) words slots → Ends sheet v
Ends-from_final sheet id v words slots final =
    let s = final.0 in
    let r = final.1.0 in
    let at = final.1.1 in (
      r.fits,
      share_within sheet.quota s r id v at,
      λ all. AreAllBelow-from_sums v.drawn (length v.drawn)
          (λ h. weighs_all sheet.quota s r id v at all h ∙ ap (sum_below h) (count_all sheet.quota s r id v at all)),
    )
