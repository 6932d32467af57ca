-- Steps on the word of one voter's vote keep the rule.
use Rattle.std.proofs.Common.{◌≡◌, ◌≢◌, ◌⊎◌, inl, inr, ⊎_elim, ℕ, ◌+◌, ◌^◌, ◌/◌, ◌%◌, ◌<◌, ◌≤◌, eqb, List, [], length, set, get_or, Some, None, refl, sym, ap, ◌∙◌, subst, arith}
use Rattle.std.proofs.Common.{length-set, get_or-set_same, get_or-set_other, eq-eqb, ne_eqb}
use Rattle.std.specs.Prelude.{slice_index, Option}
use Rattle.std.specs.List.{sum_by}
use Rattle.std.proofs.lemmas.List.{set-get_or}
use mathlib.Core.Option.{none, some}
use mathlib.Core.Logic.{dite}
use native.Mathlib.Decide.{ℕ_discrete}
use lib.ListN.{get_elem?}
use prog.Atomic.{either}
use Rattle.atomic_table.specs.Table.{State, step, keeps, Allows}
use Rattle.atomic_table.proofs.Lists.{at_set, set_again}
use Rattle.numbers.specs.Sums.{sum_below}
use Rattle.numbers.proofs.SumLemmas.{sum_by-set_elem, elem-le-sum_by}
use Rattle.board.specs.declared.table.View.{View}
use Rattle.board.specs.Seats.{Setting}
use Rattle.board.specs.Quorums.{quorum_at, HoldsAll}
use Rattle.board.specs.declared.vote.Vote.{Vote}
use Rattle.board.specs.declared.vote.Vote.TheVariants.{Offered, Returned}
use Rattle.board.specs.Words.{name_of, offered_word, taken_word, returned_word, word_of, IsSettledFrom, is}
use Rattle.board.specs.Roots.{IsCurrent}
use Rattle.board.specs.Views.{voter_view}
use Rattle.board.proofs.VoterFields.{length-voter_view, slice_index-voter_view}
use Rattle.board.specs.Rule.{presence, holds_vote, IsVote, IsReading, IsKept, Kept}
use Rattle.board.specs.Moves.{Mine, Granted, Settled, Took, GaveBack}
use Rattle.board.proofs.Words.{is-same, is-apart, is-one, is-next, is-taken_word, offered_word-name, taken_word-name, returned_word-name, offered_word-not_taken, returned_word-not_taken, free-not_taken}

abbrev pub TableState : Type 0
TableState = State (Unit {0}) View

-- a fact about each view, after one has changed
pub each-set_view : (F : View → Type 0) (views : List View) (id : ℕ) (w : View) → ((i : ℕ) (u : View) → i ≢ id → get_elem? views i ≡ some u → F u) → F w
    → (i : ℕ) (u : View) → get_elem? (set views id w) i ≡ some u → F u
each-set_view F views id w others mine i u e = ⊎_elim (λ (x : (i ≡ id) × (w ≡ u)). subst F x.1 mine) (λ (x : (i ≢ id) × (get_elem? views i ≡ some u)). others i u x.0 x.1) (at_set views id i w u e)

-- what the word says where a seat stands for its voter
pub IsVote-presence : (v word : ℕ) (views : List View) → IsVote v word views → (id : ℕ) (u : View) → get_elem? views id ≡ some u → (name : ℕ) → slice_index u.voters v ≡ name + 1 → word / 4 ≡ name
IsVote-presence v word views r id u at name here =
    let one = is-same (slice_index u.voters v) (name + 1) here in
    is-one (word / 4) name (omega (arith, elem-le-sum_by (presence v name) views id u at, r.current name))

-- what the word says where a seat holds its vote
pub IsVote-holds : (v word : ℕ) (views : List View) → IsVote v word views → (id : ℕ) (u : View) → get_elem? views id ≡ some u → slice_index u.held v ≢ 0
    → word ≡ taken_word (name_of u.client (slice_index u.held v))
IsVote-holds v word views r id u at here =
    let name : ℕ = name_of u.client (slice_index u.held v) in
    let one = is-same name name refl in
    is-one word (taken_word name) (omega (arith, elem-le-sum_by (holds_vote v name) views id u at, r.held name (omega arith)))

-- one word with its name's state changes with one view
vote_after : (v word x : ℕ) (views : List View) → IsVote v word views → (id : ℕ) (u w : View) → get_elem? views id ≡ some u
    → ((x ≡ 0) ⊎ ((64 ≤ x / 4) × (1 ≤ x % 4)))
    → ((name : ℕ) → is (word / 4) name + presence v name w ≡ is (x / 4) name + presence v name u)
    → ((name : ℕ) → 64 ≤ name → is word (taken_word name) + holds_vote v name w ≡ is x (taken_word name) + holds_vote v name u)
    → IsVote v x (set views id w)
vote_after v word x views r id u w at shape current held = record {
  shape = shape;
  current = λ name. omega (arith, sum_by-set_elem (presence v name) views id u w at, r.current name, current name);
  held = λ name large. omega (arith, sum_by-set_elem (holds_vote v name) views id u w at, r.held name large, held name large);
}

-- a word that stays, where the seat is to it as before
pub IsVote-same : (v word : ℕ) (views : List View) → IsVote v word views → (id : ℕ) (u w : View) → get_elem? views id ≡ some u
    → slice_index w.voters v ≡ slice_index u.voters v → name_of w.client (slice_index w.held v) ≡ name_of u.client (slice_index u.held v)
    → IsVote v word (set views id w)
IsVote-same v word views r id u w at voters held =
    vote_after v word word views r id u w at r.shape
    (λ name. ap (λ (k : ℕ). is (word / 4) name + is k (name + 1)) voters)
    (λ name large. ap (λ (k : ℕ). is word (taken_word name) + is k name) held)

-- a step on the word of v, by a seat that keeps its part and its passes
vote_step : (sheet : Setting) (s : TableState) → Kept sheet s → (id : ℕ) (u w : View) → get_elem? s.views id ≡ some u → (v x : ℕ) → v < sheet.voters
    → ((k : ℕ) → k ≢ v → (slice_index w.voters k ≡ slice_index u.voters k) × (name_of w.client (slice_index w.held k) ≡ name_of u.client (slice_index u.held k)))
    → IsVote v x (set s.views id w) → w.client ≡ u.client → w.parts ≡ u.parts → w.passes ≡ u.passes → IsReading sheet (slice_index s.words sheet.voters) w
    → IsKept sheet (set s.words v x) (set s.views id w)
vote_step sheet s r id u w at v x inside others mine client parts passes reading =
    let n : ℕ = sheet.voters in
    let register : slice_index (set s.words v x) n ≡ slice_index s.words n = get_or-set_other s.words v n x 0 (λ e. omega arith) in
    record {
      long = length-set s.words v x ∙ r.long;
      votes = λ k in_range. dite (ℕ_discrete k v)
          (λ e. subst (λ (j : ℕ). IsVote j (slice_index (set s.words v x) j) (set s.views id w)) (sym e)
          (subst (λ (y : ℕ). IsVote v y (set s.views id w)) (sym (get_or-set_same s.words v x 0 (omega (arith, r.long)))) mine))
          (λ other. subst (λ (y : ℕ). IsVote k y (set s.views id w)) (sym (get_or-set_other s.words v k x 0 other))
          (IsVote-same k (slice_index s.words k) s.views (r.votes k in_range) id u w at (others k other).0 (others k other).1));
      readings = subst (λ (y : ℕ). (i : ℕ) (z : View) → get_elem? (set s.views id w) i ≡ some z → IsReading sheet y z) (sym register)
          (each-set_view (IsReading sheet (slice_index s.words n)) s.views id w (λ i z _ e. r.readings i z e) reading);
      passes = λ h.
          let same : sum_by h w.passes ≡ sum_by h u.passes = ap (sum_by h) passes in
          let whole : sum_by (λ (z : View). sum_by h z.passes) (set s.views id w) ≡ sum_below h (slice_index s.words n) = omega
          (arith, sum_by-set_elem (λ (z : View). sum_by h z.passes) s.views id u w at, r.passes h) in
          whole ∙ ap (sum_below h) (sym register);
      parts = omega (arith, sum_by-set_elem (λ (z : View). z.parts) s.views id u w at, r.parts);
      idle = each-set_view (λ z. z.parts ≡ 0 → z.passes ≡ []) s.views id w (λ i z _ e. r.idle i z e) (λ alone. passes ∙ r.idle id u at (sym parts ∙ alone));
      client = each-set_view (λ z. z.client < 64) s.views id w (λ i z _ e. r.client i z e) (omega (arith, r.client id u at, client));
      limit = subst (λ (y : ℕ). y ≤ sheet.limit) (sym register) r.limit;
      small = r.small;
      few = r.few;
    }

-- nothing changes
pub IsKept-unmoved : (sheet : Setting) (s : TableState) → Kept sheet s → (id : ℕ) (u : View) → get_elem? s.views id ≡ some u → (i : ℕ)
    → IsKept sheet (set s.words i (slice_index s.words i)) (set s.views id u)
IsKept-unmoved sheet s r id u at i = subst (λ (y : List ℕ × List View). IsKept sheet y.0 y.1) (λ j. (sym (set-get_or s.words i 0) j, sym (set_again s.views id u at) j)) r

free_word : (v word : ℕ) (views : List View) → IsVote v word views → word / 4 ≡ 0 → word ≡ 0
free_word v word views r free = ⊎_elim (λ e. e) (λ (named : (64 ≤ word / 4) × (1 ≤ word % 4)). absurd (omega arith)) r.shape

pub Granted-allowed : (sheet : Setting) (slots id : ℕ) (me : Mine) (v name : ℕ) → v < sheet.voters → 64 ≤ name → v < length me.0.voters → slice_index me.0.voters v ≡ 1
    → Allows (Kept sheet) slots id me v (λ _. offered_word name) (Granted (step slots v (offered_word name) 0 none) me)
Granted-allowed sheet slots id me v name inside large room mine s r _ at _ =
    let u = me.0 in
    let w : View = record u { voters = set u.voters v (offered_word name / 4 + 1) } in
    let word : ℕ = slice_index s.words v in
    let vote = r.votes v inside in
    let free : word ≡ 0 = free_word v word s.views vote (IsVote-presence v word s.views vote id u at 0 mine) in
    let now : slice_index w.voters v ≡ name + 1 = get_or-set_same u.voters v (offered_word name / 4 + 1) 0 room ∙ ap (λ (k : ℕ). k + 1) (offered_word-name name) in
    let after : IsVote v (offered_word name) (set s.views id w) = vote_after v word (offered_word name) s.views vote id u w at (inr (omega arith, omega arith))
    (λ k. let a : is (slice_index w.voters v) (k + 1) ≡ is name k = ap (λ (y : ℕ). is y (k + 1)) now ∙ is-next name k in
    let b : is (slice_index u.voters v) (k + 1) ≡ is 0 k = ap (λ (y : ℕ). is y (k + 1)) mine ∙ is-next 0 k in
    let c : is (word / 4) k ≡ is 0 k = ap (λ (y : ℕ). is (y / 4) k) free in
    let d : is (offered_word name / 4) k ≡ is name k = ap (λ (y : ℕ). is y k) (offered_word-name name) in
    omega arith)
    (λ k _. let a : is word (taken_word k) ≡ 0 = ap (λ (y : ℕ). is y (taken_word k)) free ∙ free-not_taken k in omega (arith, offered_word-not_taken name k)) in (
      w,
      keeps,
      tt,
      vote_step sheet s r id u w at v (offered_word name) inside (λ k other. (get_or-set_other u.voters v k (offered_word name / 4 + 1) 0 other, refl)) after refl refl refl (r.readings id u at),
      (free, ap offered_word (sym (offered_word-name name)), refl),
    )

-- the same by the word
pub Granted-allowed_by_word : (sheet : Setting) (slots id : ℕ) (me : Mine) (v name word : ℕ) → v < sheet.voters → 64 ≤ name → v < length me.0.voters → slice_index me.0.voters v ≡ 1
    → word ≡ offered_word name
    → Allows (Kept sheet) slots id me v (λ _. word) (Granted (step slots v word 0 none) me)
Granted-allowed_by_word sheet slots id me v name word inside large room mine is_word =
    subst (λ (x : ℕ). Allows (Kept sheet) slots id me v (λ _. x) (Granted (step slots v x 0 none) me)) (sym is_word) (Granted-allowed sheet slots id me v name inside large room mine)

-- a step that changes the word only where it is `old`
module _ (sheet : Setting) (slots id : ℕ) (me : Mine) (v old new : ℕ) (w : View) where
  abbrev Then : ℕ → Mine → Type 0
  Then found m = (found ≡ old → m ≡ (w, me.1)) × (found ≢ old → m ≡ me)

  swapped : ((s : TableState) → Kept sheet s → get_elem? s.views id ≡ some me.0 → slice_index s.words v ≡ old → IsKept sheet (set s.words v new) (set s.views id w))
      → Allows (Kept sheet) slots id me v (λ n. either (eqb n old) new n) Then
  swapped hit s r _ at _ = let n : ℕ = slice_index s.words v in dite (ℕ_discrete n old)
      (λ e. (
        w,
        keeps,
        tt,
        subst (λ b. IsKept sheet (set s.words v (either b new n)) (set s.views id w)) (sym (eq-eqb n old e)) (hit s r at e),
        ((λ _. refl), λ other. absurd (other e)),
      ))
      (λ other. (
        me.0,
        keeps,
        tt,
        subst (λ b. IsKept sheet (set s.words v (either b new n)) (set s.views id me.0)) (sym (ne_eqb n old other)) (IsKept-unmoved sheet s r id me.0 at v),
        ((λ e. absurd (other e)), λ _. refl),
      ))

-- what follows from what a step shows is shown by it too
Allows-weaken : (sheet : Setting) (slots id : ℕ) (me : Mine) (v : ℕ) (f : ℕ → ℕ) (then more : ℕ → Mine → Type 0) → ((found : ℕ) (m : Mine) → then found m → more found m)
    → Allows (Kept sheet) slots id me v f then → Allows (Kept sheet) slots id me v f more
Allows-weaken sheet slots id me v f then more follow allowed s r long at small =
    let x = allowed s r long at small in (x.0, x.1, x.2, x.3, follow _ _ x.4)

-- a grant ends, where its word is offered or returned
pub Settled-allowed : (sheet : Setting) (slots id : ℕ) (me : Mine) (v name old : ℕ) → v < sheet.voters → 64 ≤ name → v < length me.0.voters → slice_index me.0.voters v ≡ name + 1
    → ((old ≡ offered_word name) ⊎ (old ≡ returned_word name))
    → Allows (Kept sheet) slots id me v (λ n. either (eqb n old) 0 n) (Settled (step slots v old 0 none) me)
Settled-allowed sheet slots id me v name old inside large room mine which =
    let u = me.0 in
    let w : View = record u { voters = set u.voters v 1 } in
    let named : old / 4 ≡ name = ⊎_elim (λ (e : old ≡ offered_word name). ap (λ (y : ℕ). y / 4) e ∙ offered_word-name name) (λ (e : old ≡ returned_word name). ap (λ (y : ℕ). y / 4) e ∙ returned_word-name name) which in
    let none_taken : (k : ℕ) → is old (taken_word k) ≡ 0 = λ k. ⊎_elim (λ (e : old ≡ offered_word name). ap (λ (y : ℕ). is y (taken_word k)) e ∙ offered_word-not_taken name k)
    (λ (e : old ≡ returned_word name). ap (λ (y : ℕ). is y (taken_word k)) e ∙ returned_word-not_taken name k) which in
    let now : slice_index w.voters v ≡ 1 = get_or-set_same u.voters v 1 0 room in
    let f : ℕ → ℕ = λ n. either (eqb n old) 0 n in
    let known : slice_index u.voters v ≡ old / 4 + 1 = mine ∙ ap (λ (y : ℕ). y + 1) (sym named) in
    let state : (old ≡ offered_word (old / 4)) ⊎ (old ≡ returned_word (old / 4)) = ⊎_elim (λ (e : old ≡ offered_word name). inl (e ∙ ap offered_word (sym named)))
    (λ (e : old ≡ returned_word name). inr (e ∙ ap returned_word (sym named))) which in
    Allows-weaken sheet slots id me v f (Then sheet slots id me v old 0 w) (Settled (step slots v old 0 none) me) (λ found m h. (known, state, refl, h.0, h.1)) (swapped sheet slots id me v old 0 w
    (λ s r at e.
    let word : ℕ = slice_index s.words v in
    let vote = r.votes v inside in
    let after : IsVote v 0 (set s.views id w) = vote_after v word 0 s.views vote id u w at (inl refl)
    (λ k. let a : is (slice_index w.voters v) (k + 1) ≡ is 0 k = ap (λ (y : ℕ). is y (k + 1)) now ∙ is-next 0 k in
    let b : is (slice_index u.voters v) (k + 1) ≡ is name k = ap (λ (y : ℕ). is y (k + 1)) mine ∙ is-next name k in
    let c : is (word / 4) k ≡ is name k = ap (λ (y : ℕ). is y k) (ap (λ (y : ℕ). y / 4) e ∙ named) in
    omega arith)
    (λ k _. let a : is word (taken_word k) ≡ 0 = ap (λ (y : ℕ). is y (taken_word k)) e ∙ none_taken k in omega (arith, free-not_taken k)) in
    vote_step sheet s r id u w at v 0 inside (λ k other. (get_or-set_other u.voters v k 1 0 other, refl)) after refl refl refl (r.readings id u at)))

-- the same by the state and its word, for the seat of the voter
pub Settled-allowed_by_vote : (sheet : Setting) (slots id : ℕ) (me : Mine) (v : ℕ) (vote : Vote) (old new : ℕ) → v < sheet.voters → v < 64
    → IsSettledFrom vote (λ current. (me ≡ (voter_view v (Some current), [])) × IsCurrent (Some current) (2 ^ 40))
    → old ≡ word_of vote → new ≡ 0
    → Allows (Kept sheet) slots id me v (λ n. either (eqb n old) new n) (Settled (step slots v old new none) me)
Settled-allowed_by_vote sheet slots id me v (Offered client grant) old new inside few known is_old is_new =
    subst (λ (k : ℕ). Allows (Kept sheet) slots id me v (λ n. either (eqb n old) k n) (Settled (step slots v old k none) me)) (sym is_new)
    (Settled-allowed sheet slots id me v (name_of client grant) old inside (omega arith) (length-voter_view me v (Some (client, grant)) known.0 few)
    (slice_index-voter_view me v (Some (client, grant)) known.0 few) (inl is_old))
Settled-allowed_by_vote sheet slots id me v (Returned client grant) old new inside few known is_old is_new =
    subst (λ (k : ℕ). Allows (Kept sheet) slots id me v (λ n. either (eqb n old) k n) (Settled (step slots v old k none) me)) (sym is_new)
    (Settled-allowed sheet slots id me v (name_of client grant) old inside (omega arith) (length-voter_view me v (Some (client, grant)) known.0 few)
    (slice_index-voter_view me v (Some (client, grant)) known.0 few) (inr is_old))
Settled-allowed_by_vote sheet slots id me v vote old new inside few known is_old is_new = absurd known

-- a reading stays where one more vote is held
more_held : (q held : List ℕ) (v g : ℕ) → v < length held → g ≢ 0 → HoldsAll q held → HoldsAll q (set held v g)
more_held q held v g room some_grant h k d lt = dite (ℕ_discrete (get_or q k d) v)
    (λ e z. some_grant (sym (ap (slice_index (set held v g)) e ∙ get_or-set_same held v g 0 room) ∙ z))
    (λ other z. h k d lt (sym (get_or-set_other held v (get_or q k d) g 0 other) ∙ z))

reading_more : (sheet : Setting) (register : ℕ) (reading : Option (ℕ × ℕ)) (u : View) (v g : ℕ) → v < length u.held → g ≢ 0
    → IsReading sheet register (record u { reading = reading }) → IsReading sheet register (record u { reading = reading; held = set u.held v g })
reading_more sheet register None u v g room some_grant h = tt
reading_more sheet register (Some r) u v g room some_grant h = (h.0, more_held (quorum_at sheet.quorums r.0) u.held v g room some_grant h.1, h.2)

pub Took-allowed : (sheet : Setting) (slots id : ℕ) (me : Mine) (v grant : ℕ) → v < sheet.voters → 1 ≤ grant → me.0.client < 64 → v < length me.0.held → slice_index me.0.held v ≡ 0
    → Allows (Kept sheet) slots id me v (λ n. either (eqb n (offered_word (name_of me.0.client grant))) (taken_word (name_of me.0.client grant)) n)
    (Took (step slots v (offered_word (name_of me.0.client grant)) (taken_word (name_of me.0.client grant)) none) me)
Took-allowed sheet slots id me v grant inside large client room mine =
    let u = me.0 in
    let name : ℕ = name_of u.client grant in
    let w : View = record u { held = set u.held v (offered_word name / 256) } in
    let is_grant : offered_word name / 256 ≡ grant = omega arith in
    let now : slice_index w.held v ≡ grant = get_or-set_same u.held v (offered_word name / 256) 0 room ∙ is_grant in
    let f : ℕ → ℕ = λ n. either (eqb n (offered_word name)) (taken_word name) n in
    let named : name ≡ name_of u.client (offered_word name / 256) = ap (name_of u.client) (sym is_grant) in
    Allows-weaken sheet slots id me v f (Then sheet slots id me v (offered_word name) (taken_word name) w) (Took (step slots v (offered_word name) (taken_word name) none) me)
    (λ found m h. (ap offered_word named, ap taken_word named, h.0, h.1)) (swapped sheet slots id me v (offered_word name) (taken_word name) w
    (λ s r at e.
    let word : ℕ = slice_index s.words v in
    let vote = r.votes v inside in
    let after : IsVote v (taken_word name) (set s.views id w) = vote_after v word (taken_word name) s.views vote id u w at (inr (omega arith, omega arith))
    (λ k. let c : is (word / 4) k ≡ is name k = ap (λ (y : ℕ). is y k) (ap (λ (y : ℕ). y / 4) e ∙ offered_word-name name) in
    let d : is (taken_word name / 4) k ≡ is name k = ap (λ (y : ℕ). is y k) (taken_word-name name) in
    omega arith)
    (λ k wide. let a : is word (taken_word k) ≡ 0 = ap (λ (y : ℕ). is y (taken_word k)) e ∙ offered_word-not_taken name k in
    let b : is (name_of w.client (slice_index w.held v)) k ≡ is name k = ap (λ (y : ℕ). is (name_of u.client y) k) now in
    let c : is (name_of u.client (slice_index u.held v)) k ≡ 0 = is-apart (name_of u.client (slice_index u.held v)) k (λ z. omega arith) in
    omega (arith, is-taken_word name k)) in
    vote_step sheet s r id u w at v (taken_word name) inside (λ k other. (refl, ap (name_of u.client) (get_or-set_other u.held v k (offered_word name / 256) 0 other))) after refl refl refl
    (reading_more sheet (slice_index s.words sheet.voters) u.reading u v (offered_word name / 256) room (λ z. omega arith) (r.readings id u at))))

pub GaveBack-allowed : (sheet : Setting) (slots id : ℕ) (me : Mine) (v new : ℕ) → v < sheet.voters → me.0.client < 64 → v < length me.0.held → slice_index me.0.held v ≢ 0
    → new ≡ returned_word (name_of me.0.client (slice_index me.0.held v))
    → Allows (Kept sheet) slots id me v (λ _. new) (GaveBack (step slots v new 0 none) me)
GaveBack-allowed sheet slots id me v new inside client room mine which s r _ at _ =
    let u = me.0 in
    let name : ℕ = name_of u.client (slice_index u.held v) in
    let w : View = record u { held = set u.held v 0; reading = None } in
    let word : ℕ = slice_index s.words v in
    let vote = r.votes v inside in
    let e : word ≡ taken_word name = IsVote-holds v word s.views vote id u at mine in
    let now : slice_index w.held v ≡ 0 = get_or-set_same u.held v 0 0 room in
    let after : IsVote v new (set s.views id w) = vote_after v word new s.views vote id u w at (inr (omega arith, omega arith))
    (λ k. let c : is (word / 4) k ≡ is name k = ap (λ (y : ℕ). is y k) (ap (λ (y : ℕ). y / 4) e ∙ taken_word-name name) in
    let d : is (new / 4) k ≡ is name k = ap (λ (y : ℕ). is y k) (ap (λ (y : ℕ). y / 4) which ∙ returned_word-name name) in
    omega arith)
    (λ k wide. let a : is word (taken_word k) ≡ is name k = ap (λ (y : ℕ). is y (taken_word k)) e ∙ is-taken_word name k in
    let b : is (name_of w.client (slice_index w.held v)) k ≡ 0 = is-apart (name_of w.client (slice_index w.held v)) k (λ z. omega arith) in
    let c : is new (taken_word k) ≡ 0 = ap (λ (y : ℕ). is y (taken_word k)) which ∙ returned_word-not_taken name k in
    omega arith) in (
      w,
      keeps,
      tt,
      vote_step sheet s r id u w at v new inside (λ k other. (refl, ap (name_of u.client) (get_or-set_other u.held v k 0 0 other))) after refl refl refl tt,
      (e, which, refl),
    )

-- the same by the words
pub Took-allowed_by_words : (sheet : Setting) (slots id : ℕ) (me : Mine) (v grant old new : ℕ) → v < sheet.voters → 1 ≤ grant → me.0.client < 64 → v < length me.0.held → slice_index me.0.held v ≡ 0
    → old ≡ offered_word (name_of me.0.client grant) → new ≡ taken_word (name_of me.0.client grant)
    → Allows (Kept sheet) slots id me v (λ n. either (eqb n old) new n) (Took (step slots v old new none) me)
Took-allowed_by_words sheet slots id me v grant old new inside large client room mine is_old is_new =
    let name : ℕ = name_of me.0.client grant in
    subst (λ (k : ℕ). Allows (Kept sheet) slots id me v (λ n. either (eqb n k) new n) (Took (step slots v k new none) me)) (sym is_old)
    (subst (λ (k : ℕ). Allows (Kept sheet) slots id me v (λ n. either (eqb n (offered_word name)) k n) (Took (step slots v (offered_word name) k none) me)) (sym is_new)
    (Took-allowed sheet slots id me v grant inside large client room mine))
