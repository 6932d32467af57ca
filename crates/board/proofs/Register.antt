-- Steps on the register keep the rule, and two seats can't both be inside.
use Rattle.std.proofs.Common.{◌≡◌, ◌≢◌, ℕ, ◌+◌, ◌-◌, ◌<◌, ◌≤◌, List, [], ◌∷◌, ◌++◌, length, set, Some, None, refl, sym, ap, ◌∙◌, subst, arith, length-set, get_or-set_same, get_or-set_other}
use Rattle.std.specs.Prelude.{slice_index, All, Option}
use Rattle.std.specs.List.{sum_by}
use Rattle.std.proofs.lemmas.List.Sums.{sum_by_push}
use mathlib.Core.Option.{none, some}
use lib.ListN.{get_elem?}
use Rattle.atomic_table.specs.Table.{step, keeps, Allows}
use Rattle.numbers.specs.Sums.{sum_below}
use Rattle.numbers.proofs.SumLemmas.{sum_by-set_elem, elem-le-sum_by, two-le-sum_by, sum_below-next, sum_below-weight_past, All-from_weight_past, weight_past}
use Rattle.board.specs.declared.table.View.{View}
use Rattle.board.specs.Seats.{Setting}
use Rattle.quorum_set.specs.Meetings.{Meet, AllMeet}
use Rattle.board.specs.Quorums.{quorum_at, HoldsAll}
use Rattle.board.specs.Words.{name_of, taken_word, is}
use Rattle.board.specs.Rule.{holds_vote, IsVote, IsReading, IsKept, Kept}
use Rattle.board.specs.Moves.{Mine, Read, Wrote, Counted}
use Rattle.numbers.proofs.Members.{All-has}
use Rattle.board.proofs.Words.{is-same}
use Rattle.board.proofs.Votes.{TableState, each-set_view, IsVote-same, IsVote-holds, IsKept-unmoved}

-- a step on the register, by a seat that keeps its part and its votes
register_step : (sheet : Setting) (s : TableState) → Kept sheet s → (id : ℕ) (u w : View) → get_elem? s.views id ≡ some u → (x : ℕ)
    → w.voters ≡ u.voters → w.held ≡ u.held → w.client ≡ u.client → w.parts ≡ u.parts
    → ((i : ℕ) (z : View) → get_elem? (set s.views id w) i ≡ some z → IsReading sheet x z)
    → ((h : ℕ → ℕ) → sum_by h w.passes + sum_below h (slice_index s.words sheet.voters) ≡ sum_by h u.passes + sum_below h x)
    → (w.parts ≡ 0 → w.passes ≡ []) → x ≤ sheet.limit
    → IsKept sheet (set s.words sheet.voters x) (set s.views id w)
register_step sheet s r id u w at x voters held client parts readings passes idle limit =
    let n : ℕ = sheet.voters in
    let register : slice_index (set s.words n x) n ≡ x = get_or-set_same s.words n x 0 (omega (arith, r.long)) in
    record {
      long = length-set s.words n x ∙ r.long;
      votes = λ k in_range. subst (λ (y : ℕ). IsVote k y (set s.views id w)) (sym (get_or-set_other s.words n k x 0 (λ e. omega arith)))
          (IsVote-same k (slice_index s.words k) s.views (r.votes k in_range) id u w at (ap (λ (l : List ℕ). slice_index l k) voters) (λ i. name_of (client i) (slice_index (held i) k)));
      readings = subst (λ (y : ℕ). (i : ℕ) (z : View) → get_elem? (set s.views id w) i ≡ some z → IsReading sheet y z) (sym register) readings;
      passes = λ h.
          let whole : sum_by (λ (z : View). sum_by h z.passes) (set s.views id w) ≡ sum_below h x = omega
          (arith, sum_by-set_elem (λ (z : View). sum_by h z.passes) s.views id u w at, r.passes h, passes h) in
          whole ∙ ap (sum_below h) (sym register);
      parts = omega (arith, sum_by-set_elem (λ (z : View). z.parts) s.views id u w at, r.parts);
      idle = each-set_view (λ z. z.parts ≡ 0 → z.passes ≡ []) s.views id w (λ i z _ e. r.idle i z e) idle;
      client = each-set_view (λ z. z.client < 64) s.views id w (λ i z _ e. r.client i z e) (omega (arith, r.client id u at, client));
      limit = subst (λ (y : ℕ). y ≤ sheet.limit) (sym register) limit;
      small = r.small;
      few = r.few;
    }

-- the numbers that a seat keeps are below the register
kept_below : (sheet : Setting) (s : TableState) → Kept sheet s → (id : ℕ) (u : View) → get_elem? s.views id ≡ some u → All (λ x. x < slice_index s.words sheet.voters) u.passes
kept_below sheet s r id u at =
    let n : ℕ = slice_index s.words sheet.voters in
    All-from_weight_past n u.passes (omega (arith, elem-le-sum_by (λ (z : View). sum_by (weight_past n) z.passes) s.views id u at, r.passes (weight_past n), sum_below-weight_past n n (omega arith)))

pub Read-allowed : (sheet : Setting) (slots id : ℕ) (me : Mine) (word j : ℕ) → word ≡ sheet.voters → j < length sheet.quorums → HoldsAll (quorum_at sheet.quorums j) me.0.held
    → Allows (Kept sheet) slots id me word (λ n. n) (Read j (step slots word 0 0 none) me)
Read-allowed sheet slots id me word j is_register inside holds s r _ at _ =
    let x : ℕ = slice_index s.words word in
    let n : ℕ = sheet.voters in
    let u = me.0 in
    let w : View = record u { reading = Some (j, x) } in
    let same : x ≡ slice_index s.words n = ap (slice_index s.words) is_register in
    let kept : IsKept sheet (set s.words n x) (set s.views id w) = register_step sheet s r id u w at x refl refl refl refl
    (each-set_view (IsReading sheet x) s.views id w (λ i z _ e. subst (λ (y : ℕ). IsReading sheet y z) (sym same) (r.readings i z e)) (inside, holds, refl))
    (λ h. ap (λ (y : ℕ). sum_by h u.passes + sum_below h y) (sym same))
    (r.idle id u at)
    (omega (arith, r.limit)) in (
      w,
      keeps,
      tt,
      subst (λ (y : ℕ). IsKept sheet (set s.words y x) (set s.views id w)) (sym is_register) kept,
      (refl, subst (λ (y : ℕ). All (λ t. t < y) u.passes) (sym same) (kept_below sheet s r id u at), omega (arith, r.limit, r.small)),
    )

-- two seats don't hold one vote
pub IsVote-one_holds : (v word : ℕ) (views : List View) → IsVote v word views → (i j : ℕ) (u z : View) → i ≢ j → get_elem? views i ≡ some u → get_elem? views j ≡ some z
    → slice_index u.held v ≢ 0 → slice_index z.held v ≢ 0 → ⊥
IsVote-one_holds v word views vote i j u z apart at at' mine theirs =
    let a : ℕ = name_of u.client (slice_index u.held v) in
    let b : ℕ = name_of z.client (slice_index z.held v) in
    let says : word ≡ taken_word a = IsVote-holds v word views vote i u at mine in
    let says' : word ≡ taken_word b = IsVote-holds v word views vote j z at' theirs in
    let one : holds_vote v a u ≡ 1 = is-same a a refl in
    let two : holds_vote v a z ≡ 1 = is-same b a (omega arith) in
    let most : is word (taken_word a) ≡ 1 = is-same word (taken_word a) says in
    omega (arith, two-le-sum_by (holds_vote v a) views i j u z apart at at', vote.held a (omega arith))

-- two seats can't both hold quorums that meet
pub HoldsAll-not_both : (sheet : Setting) (s : TableState) → Kept sheet s → (i j : ℕ) (u z : View) → i ≢ j → get_elem? s.views i ≡ some u → get_elem? s.views j ≡ some z
    → (p q : List ℕ) → Meet sheet.voters p q → HoldsAll p u.held → HoldsAll q z.held → ⊥
HoldsAll-not_both sheet s r i j u z apart at at' p q meet holds holds' =
    let v : ℕ = meet.0 in
    let mine : slice_index u.held v ≢ 0 = All-has (λ (k : ℕ). slice_index u.held k ≢ 0) p v meet.2 holds in
    let theirs : slice_index z.held v ≢ 0 = All-has (λ (k : ℕ). slice_index z.held k ≢ 0) q v meet.3 holds' in
    IsVote-one_holds v (slice_index s.words v) s.views (r.votes v meet.1) i j u z apart at at' mine theirs

-- a seat whose reading counts is the only one
other_reading : (sheet : Setting) (s : TableState) → Kept sheet s → AllMeet sheet.voters sheet.quorums → (id i : ℕ) (u z : View) → i ≢ id → get_elem? s.views id ≡ some u → get_elem? s.views i ≡ some z
    → (j : ℕ) → j < length sheet.quorums → HoldsAll (quorum_at sheet.quorums j) u.held
    → (x y : ℕ) (reading : Option (ℕ × ℕ)) → IsReading sheet x (record z { reading = reading }) → IsReading sheet y (record z { reading = reading })
other_reading sheet s r meet id i u z apart at at' j inside holds x y None h = tt
other_reading sheet s r meet id i u z apart at at' j inside holds x y (Some t) h =
    absurd (HoldsAll-not_both sheet s r id i u z (λ e. apart (sym e)) at at' (quorum_at sheet.quorums j) (quorum_at sheet.quorums t.0) (meet j t.0 inside h.0) holds h.1)

pub Wrote-allowed : (sheet : Setting) (slots id : ℕ) (me : Mine) (word j x : ℕ) → word ≡ sheet.voters → AllMeet sheet.voters sheet.quorums → me.0.parts ≡ 1 → me.0.reading ≡ Some (j, x)
    → x ≢ sheet.limit
    → Allows (Kept sheet) slots id me word (λ _. x + 1) (λ _. Wrote (step slots word (x + 1) 0 none) me (x + 1))
Wrote-allowed sheet slots id me word j x is_register meet part read below s r _ at _ =
    let n : ℕ = sheet.voters in
    let u = me.0 in
    let w : View = record u { reading = None; passes = u.passes ++ (x + 1 - 1) ∷ [] } in
    let mine : IsReading sheet (slice_index s.words n) (record u { reading = Some (j, x) }) = subst
    (λ (o : Option (ℕ × ℕ)). IsReading sheet (slice_index s.words n) (record u { reading = o })) read (r.readings id u at) in
    let is : x ≡ slice_index s.words n = mine.2 in
    let kept : IsKept sheet (set s.words n (x + 1)) (set s.views id w) = register_step sheet s r id u w at (x + 1) refl refl refl refl
    (each-set_view (IsReading sheet (x + 1)) s.views id w (λ i z apart e. other_reading sheet s r meet id i u z apart at e j mine.0 mine.1 (slice_index s.words n)
    (x + 1) z.reading (r.readings i z e)) tt)
    (λ h. let a : sum_below h (slice_index s.words n) ≡ sum_below h x = ap (sum_below h) (sym is) in
    let b : h (x + 1 - 1) ≡ h x = ap h (omega arith) in
    omega (arith, sum_by_push h u.passes (x + 1 - 1), sum_below-next h x))
    (λ none. absurd (omega arith))
    (omega (arith, r.limit)) in (
      w,
      keeps,
      tt,
      subst (λ (y : ℕ). IsKept sheet (set s.words y (x + 1)) (set s.views id w)) (sym is_register) kept,
      refl,
    )

pub Counted-allowed : (sheet : Setting) (slots id : ℕ) (me : Mine) → Allows (Kept sheet) slots id me 0 (λ n. n) (Counted (step slots 0 0 0 none) me)
Counted-allowed sheet slots id me s r _ at _ = (
  me.0,
  keeps,
  tt,
  IsKept-unmoved sheet s r id me.0 at 0,
  (refl, omega (arith, elem-le-sum_by (λ (z : View). z.parts) s.views id me.0 at, r.parts, r.few)),
)
