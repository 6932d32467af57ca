-- A new board keeps the rule, and what a closed board's words and its root's seat say.
use Rattle.std.proofs.Common.{◌≡◌, inl, ℕ, zero, suc, ◌+◌, ◌^◌, ◌<◌, ◌≤◌, map, List, [], ◌∷◌, length, get_or, replicate, refl, sym, ap, ◌∙◌, subst, arith}
use Rattle.std.specs.Prelude.{slice_index}
use Rattle.std.specs.List.{sum_by}
use Rattle.std.proofs.lemmas.List.Sums.{sum_by-cons}
use Rattle.std.proofs.lemmas.List.{length-replicate, get_or-replicate, get_or_past}
use mathlib.Core.Option.{some, some-injective, some-ne-none}
use lib.ListN.{get_elem?}
use Rattle.atomic_table.specs.Table.{Final, Seen}
use Rattle.numbers.specs.Sums.{sum_below, AreAllBelow}
use Rattle.numbers.proofs.SumLemmas.{elem-le-sum_by, sum_by-alone_at, AreAllBelow-from_sums}
use Rattle.board.specs.declared.table.View.{View}
use Rattle.board.specs.Seats.{Setting}
use Rattle.board.specs.Words.{taken_word, is}
use Rattle.board.specs.Rule.{presence, holds_vote, IsVote, IsReading, IsKept, Kept}
use Rattle.board.specs.Views.{root_view}
use Rattle.board.proofs.Words.{is-apart, is-next}
use Rattle.board.proofs.Giving.{none_held}

-- all votes are free at the start
pub IsKept-start : (sheet : Setting) → sheet.voters ≤ 64 → sheet.clients ≤ 64 → sheet.limit ≤ 2 ^ 63 → IsKept sheet (replicate (sheet.voters + 1) 0) (root_view sheet.voters sheet.clients ∷ [])
IsKept-start sheet few_voters few_clients small =
    let n : ℕ = sheet.voters in
    let root = root_view n sheet.clients in
    let words : List ℕ = replicate (n + 1) 0 in
    let zero_at : (k : ℕ) → k < n + 1 → slice_index words k ≡ 0 = λ k lt. get_or-replicate (n + 1) k 0 0 lt in
    let only : (F : View → Type 0) → F root → (i : ℕ) (z : View) → get_elem? (root ∷ []) i ≡ some z → F z = λ F of i z e. only_one F root of i z e in
    record {
      long = length-replicate (n + 1) 0;
      votes = λ v inside. subst (λ (w : ℕ). IsVote v w (root ∷ [])) (sym (zero_at v (omega arith))) record {
        shape = inl refl;
        current = λ name. let one : slice_index root.voters v ≡ 1 = get_or-replicate 64 v 1 0 (omega arith) in
            let is_one : is (slice_index root.voters v) (name + 1) ≡ is 0 name = ap (λ (k : ℕ). is k (name + 1)) one ∙ is-next 0 name in
            omega (arith, sum_by-cons (presence v name) root []);
        held = λ name large. omega (
          arith,
          sum_by-cons (holds_vote v name) root [],
          none_held v name root (omega arith) (get_or_past [] v 0 (omega arith)) large,
          is-apart 0 (taken_word name) (λ e. omega arith),
        );
      };
      readings = only (IsReading sheet (slice_index words n)) tt;
      passes = λ h. let none_yet : sum_below h (slice_index words n) ≡ 0 = ap (sum_below h) (zero_at n (omega arith)) in omega (arith, sum_by-cons (λ (z : View). sum_by h z.passes) root []);
      parts = omega (arith, sum_by-cons (λ (z : View). z.parts) root []);
      idle = only (λ z. z.parts ≡ 0 → z.passes ≡ []) (λ _. refl);
      client = only (λ z. z.client < 64) (omega arith);
      limit = omega (arith, zero_at n (omega arith));
      small = small;
      few = omega arith;
    }
  where
    only_one : (F : View → Type 0) (root : View) → F root → (i : ℕ) (z : View) → get_elem? (root ∷ []) i ≡ some z → F z
    only_one F root of zero z e = subst F (some-injective root z e) of
    only_one F root of (suc i) z e = absurd (some-ne-none z (sym e))

-- the seat that stands for all has all pass numbers, and the register is their number
pub passes-at_close : (sheet : Setting) (id : ℕ) (u : View) (words : List ℕ) (slots : List (Unit {0})) → Final (Seen (Kept sheet) id u) words slots → u.parts ≡ sheet.voters + sheet.clients + 1
    → (h : ℕ → ℕ) → sum_by h u.passes ≡ sum_below h (slice_index words sheet.voters)
passes-at_close sheet id u words slots f all h =
    let s = f.0 in
    let r = f.1.0 in
    let at = f.1.1 in
    sym (sum_by-alone_at (λ (z : View). sum_by h z.passes) (λ (z : View). z.parts) s.views (λ i z e none. ap (sum_by h) (r.idle i z e none)) id u at (r.parts ∙ sym all))
    ∙ r.passes h ∙ ap (λ (l : List ℕ). sum_below h (slice_index l sheet.voters)) f.2

pub closed_parts : (sheet : Setting) (id : ℕ) (u : View) (words : List ℕ) (slots : List (Unit {0})) → Final (Seen (Kept sheet) id u) words slots → (u.parts ≤ sheet.voters + sheet.clients + 1)
    × (length words ≡ sheet.voters + 1)
closed_parts sheet id u words slots f = (omega (arith, elem-le-sum_by (λ (z : View). z.parts) f.0.views id u f.1.1, f.1.0.parts), ap length (sym f.2) ∙ f.1.0.long)

pub get_or-get_elem : (l : List ℕ) (i x : ℕ) → get_elem? l i ≡ some x → get_or l i 0 ≡ x
get_or-get_elem [] i x e = absurd (some-ne-none x (sym e))
get_or-get_elem (y ∷ ys) zero x e = some-injective y x e
get_or-get_elem (y ∷ ys) (suc i) x e = get_or-get_elem ys i x e

-- the numbers of all passes are those below the register, and the register is how many they are
pub register-at_close : (sheet : Setting) (id : ℕ) (u : View) (words : List ℕ) (slots : List (Unit {0})) (register : ℕ) (kept : List (ℕ × ℕ)) → Final (Seen (Kept sheet) id u) words slots
    → u.parts ≡ sheet.voters + sheet.clients + 1 → get_elem? words sheet.voters ≡ some register → u.passes ≡ map (λ p. p.1) kept
    → (register ≡ length kept) × AreAllBelow (map (λ p. p.1) kept) register
register-at_close sheet id u words slots register kept f all at is =
    let reads : slice_index words sheet.voters ≡ register = get_or-get_elem words sheet.voters register at in
    let each : (h : ℕ → ℕ) → sum_by h (map (λ p. p.1) kept) ≡ sum_below h register = λ h. ap (sum_by h) (sym is) ∙ passes-at_close sheet id u words slots f all h ∙ ap (sum_below h) reads in
    let all = AreAllBelow-from_sums (map (λ p. p.1) kept) register each in
    (sym all.in_all ∙ length_numbers kept, all)
  where
    length_numbers : (l : List (ℕ × ℕ)) → length (map (λ (p : ℕ × ℕ). p.1) l) ≡ length l
    length_numbers [] = refl
    length_numbers (p ∷ ps) = ap suc (length_numbers ps)
