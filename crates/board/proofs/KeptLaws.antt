-- What the rule means: from sums over all seats to facts about each.
use Rattle.std.proofs.Common.{◌≡◌, ◌⊎◌, inl, inr, ⊎_elim, ℕ, zero, suc, ◌+◌, ◌-◌, ◌/◌, ◌%◌, ◌<◌, ◌≤◌, List, [], ◌∷◌, length, refl, ◌∙◌, subst, arith, Some}
use Rattle.std.specs.Prelude.{slice_index, flat_map, Option, ◌↔◌}
use Rattle.std.specs.List.{sum_by}
use Rattle.std.proofs.lemmas.List.Sums.{sum_by-cons, sum_by-append}
use mathlib.Core.Logic.{dite}
use mathlib.Core.Option.{some}
use native.Mathlib.Decide.{ℕ_discrete, dec_le}
use lib.ListN.{get_elem?}
use Rattle.board.specs.declared.table.View.{View}
use Rattle.board.specs.Seats.{Setting}
use Rattle.board.specs.Quorums.{quorum_at, HoldsAll}
use Rattle.board.specs.Words.{name_of, offered_word, taken_word, returned_word, is}
use Rattle.board.specs.Rule.{presence, holds_vote, IsVote, IsReading, Kept}
use Rattle.board.specs.VotesKept.{IsWordOf, OneSeatHas, Holds, KeepsVotes}
use Rattle.board.proofs.Words.{is-same, is-one}
use Rattle.board.proofs.Votes.{TableState, IsVote-presence, IsVote-holds}
use Rattle.board.proofs.Register.{IsVote-one_holds}
use Rattle.board.proofs.Giving.{IsVote-one_has}
use Rattle.numbers.proofs.SumLemmas.{AreAllBelow-from_sums}

-- where a sum is not 0, one of the list counts
counts_some : {A : Type 0} (f : A → ℕ) (l : List A) → 1 ≤ sum_by f l → (i : ℕ) × (u : A) × (get_elem? l i ≡ some u) × (1 ≤ f u)
counts_some f [] some_counts = absurd (omega arith)
counts_some f (x ∷ xs) some_counts = here_or_later (dec_le 1 (f x)) (λ later. counts_some f xs later)
  where
    here_or_later : Dec (1 ≤ f x) → (1 ≤ sum_by f xs → (i : ℕ) × (u : _) × (get_elem? xs i ≡ some u) × (1 ≤ f u)) → (i : ℕ) × (u : _) × (get_elem? (x ∷ xs) i ≡ some u) × (1 ≤ f u)
    here_or_later (yes here) others = (zero, x, refl, here)
    here_or_later (no none_here) others = let later = others (omega (arith, sum_by-cons f x xs)) in (suc later.0, later.1, later.2, later.3)

-- one seat alone stands for each voter
present_alone : (v word : ℕ) (views : List View) → IsVote v word views → OneSeatHas v views
present_alone v word views r =
    let name : ℕ = word / 4 in
    let most : is name name ≡ 1 = is-same name name refl in
    let found = counts_some (presence v name) views (omega (arith, r.current name)) in
    let here : slice_index found.1.voters v ≡ name + 1 = is-one (slice_index found.1.voters v) (name + 1) found.3 in (
      found.0,
      found.1,
      found.2,
      (λ none. omega arith),
      λ k w at other. dite (ℕ_discrete k found.0) (λ same. same)
          (λ apart. absurd (IsVote-one_has v word views r k found.0 w found.1 apart at found.2 (slice_index w.voters v - 1) name (omega arith) here)),
    )

-- what the word says, by the name that it has
state_of : (name word : ℕ) → word / 4 ≡ name → 1 ≤ word % 4 → (word ≡ offered_word name) ⊎ (word ≡ taken_word name) ⊎ (word ≡ returned_word name)
state_of name word named some_state = state (dec_le (word % 4) 1) (dec_le (word % 4) 2)
  where
    state : Dec (word % 4 ≤ 1) → Dec (word % 4 ≤ 2) → (word ≡ offered_word name) ⊎ (word ≡ taken_word name) ⊎ (word ≡ returned_word name)
    state (yes first) _ = inl (omega (arith, named, some_state))
    state (no later) (yes second) = inr (inl (omega (arith, named, some_state, later)))
    state (no later) (no third) = inr (inr (omega (arith, named, some_state, third)))

word_of : (v word : ℕ) (views : List View) → IsVote v word views → (name : ℕ) → word / 4 ≡ name → IsWordOf name word
word_of v word views r zero named = ⊎_elim (λ e. e) (λ (x : (64 ≤ word / 4) × (1 ≤ word % 4)). absurd (omega arith)) r.shape
word_of v word views r (suc n) named = ⊎_elim (λ (e : word ≡ 0). absurd (omega (arith, named))) (λ (x : (64 ≤ word / 4) × (1 ≤ word % 4)). state_of (suc n) word named x.1) r.shape

-- a vote is held by a client and a grant if and only if the word says so
holds_as_said : (v c g word : ℕ) (views : List View) → IsVote v word views → ((i : ℕ) (u : View) → get_elem? views i ≡ some u → u.client < 64) → c < 64 → 1 ≤ g
    → Holds views c v g ↔ (word ≡ taken_word (name_of c g))
holds_as_said v c g word views r clients few some_grant = (
  λ (x : Holds views c v g).
      let here = IsVote-holds v word views r x.0 x.1 x.2 (λ e. let g_is = x.4 in omega arith) in
      here ∙ (λ i. taken_word (name_of (x.3 i) (x.4 i))),
  λ said.
      let name : ℕ = name_of c g in
      let most : is word (taken_word name) ≡ 1 = is-same word (taken_word name) said in
      let found = counts_some (holds_vote v name) views (omega (arith, r.held name (omega arith))) in
      let named : name_of found.1.client (slice_index found.1.held v) ≡ name = is-one (name_of found.1.client (slice_index found.1.held v)) name found.3 in
      let client = clients found.0 found.1 found.2 in
      (found.0, found.1, found.2, omega arith, omega arith),
)

sum_flat : {A : Type 0} (h : ℕ → ℕ) (f : A → List ℕ) (l : List A) → sum_by h (flat_map f l) ≡ sum_by (λ u. sum_by h (f u)) l
sum_flat h f [] = refl
sum_flat h f (x ∷ xs) = omega (arith, sum_by-append h (f x) (flat_map f xs), sum_flat h f xs, sum_by-cons (λ u. sum_by h (f u)) x xs)

reading_is : (sheet : Setting) (register j x : ℕ) (u : View) → IsReading sheet register u → u.reading ≡ Some (j, x) → (j < length sheet.quorums) × HoldsAll (quorum_at sheet.quorums j) u.held
    × (x ≡ register)
reading_is sheet register j x u r is = subst (λ (o : Option (ℕ × ℕ)). IsReading sheet register (record u { reading = o })) is r

pub KeepsVotes-Kept : (sheet : Setting) (s : TableState) → Kept sheet s → KeepsVotes sheet s.words s.views
KeepsVotes-Kept sheet s r = record {
  one_has = λ v inside. present_alone v (slice_index s.words v) s.views (r.votes v inside);
  granted = λ v name i u inside at knows. let vote = r.votes v inside in word_of v (slice_index s.words v) s.views vote name (IsVote-presence v (slice_index s.words v) s.views vote i u at name knows);
  held = λ v c g inside few some_grant. holds_as_said v c g (slice_index s.words v) s.views (r.votes v inside) r.client few some_grant;
  one_holds = λ v i k u w inside at at' holds holds'. dite (ℕ_discrete i k) (λ same. same)
      (λ apart. absurd (IsVote-one_holds v (slice_index s.words v) s.views (r.votes v inside) i k u w apart at at' holds holds'));
  readings = λ i j x u at is. reading_is sheet (slice_index s.words sheet.voters) j x u (r.readings i u at) is;
  passes = AreAllBelow-from_sums _ _ (λ h. sum_flat h (λ (u : View). u.passes) s.views ∙ r.passes h);
}
