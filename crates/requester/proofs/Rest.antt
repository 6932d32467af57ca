-- Giving back the votes that are marked, one at a time.
use Rattle.std.proofs.Common.{◌≡◌, ◌≢◌, ℕ, Bool, true, false, cond, List, [], ◌∷◌, ◌++◌, filter, refl, sym, ap, ◌∙◌, arith, eqb, ◌<◌}
use Rattle.std.specs.List.{AllByRecursion}
use Rattle.std.proofs.lemmas.Bool.Decides.{nat_tests}
use Rattle.numbers.specs.Sets.{has}
use Rattle.requester.specs.declared.state.ClientState.{ClientState}
use Rattle.requester.specs.Words.{holds, is_inquired, without_voter}
use Rattle.requester.specs.Steps.{relinquish, relinquish_if, relinquish_each, relinquish_marked, relinquish_marked_if, relinquish_inquired}
use Rattle.requester.proofs.Giving.{moves-relinquish}
use Rattle.requester.proofs.Members.{has-without_voter-other}

filter-without_voter : (s t : ClientState) (v : ℕ) (vs : List ℕ) → t.inquired ≡ without_voter s.inquired v → AllByRecursion (λ u. u < 64) vs → AllByRecursion (λ u. eqb v u ≡ false) vs
    → filter (is_inquired t) vs ≡ filter (is_inquired s) vs
filter-without_voter s t v [] same below h = refl
filter-without_voter s t v (u ∷ us) same below h =
    let other : u ≢ v = grind (arith, nat_tests) in
    let mark : is_inquired t u ≡ is_inquired s u = ap (λ (marked : List ℕ). has marked u) same ∙ has-without_voter-other s.inquired v u below.0 other in
    let rest = filter-without_voter s t v us same below.1 h.1 in
    λ i. cond (mark i) (u ∷ rest i) (rest i)

filter-relinquish_if : (b : Bool) (s : ClientState) (v : ℕ) (vs : List ℕ) → AllByRecursion (λ u. u < 64) vs → AllByRecursion (λ u. eqb v u ≡ false) vs
    → filter (is_inquired (relinquish_if b s v).state) vs ≡ filter (is_inquired s) vs
filter-relinquish_if false s v vs below h = refl
filter-relinquish_if true s v vs below h = filter-without_voter s (relinquish_if true s v).state v vs refl below h

filter-relinquish : (s : ClientState) (v : ℕ) (vs : List ℕ) → AllByRecursion (λ u. u < 64) vs → AllByRecursion (λ u. eqb v u ≡ false) vs
    → filter (is_inquired (relinquish s v).state) vs ≡ filter (is_inquired s) vs
unfolding relinquish
filter-relinquish s v vs below h = filter-relinquish_if (holds s v) s v vs below h

pub relinquish_inquired-cons_state : (s : ClientState) (v : ℕ) (vs : List ℕ) → AllByRecursion (λ u. u < 64) vs → AllByRecursion (λ u. eqb v u ≡ false) vs
    → (relinquish_inquired s (v ∷ vs)).state ≡ (relinquish_inquired (relinquish_marked s v).state vs).state
relinquish_inquired-cons_state s v vs below h =
    let F = filter (is_inquired s) vs in
    elim (is_inquired s v) as (λ b. (relinquish_each s (cond b (v ∷ F) F)).state ≡ (relinquish_inquired (relinquish_marked_if b s v).state vs).state) [
      | true ↦ ap (λ G. (relinquish_each (relinquish s v).state G).state) (sym (filter-relinquish s v vs below h))
      | false ↦ refl
    ]

pub relinquish_inquired-cons_out : (s : ClientState) (v : ℕ) (vs : List ℕ) → AllByRecursion (λ u. u < 64) vs → AllByRecursion (λ u. eqb v u ≡ false) vs
    → (relinquish_inquired s (v ∷ vs)).out ≡ (relinquish_marked s v).out ++ (relinquish_inquired (relinquish_marked s v).state vs).out
relinquish_inquired-cons_out s v vs below h =
    let F = filter (is_inquired s) vs in
    elim (is_inquired s v) as (λ b. (relinquish_each s (cond b (v ∷ F) F)).out ≡ (relinquish_marked_if b s v).out ++ (relinquish_inquired (relinquish_marked_if b s v).state vs).out) [
      | true ↦ ap (λ G. (relinquish s v).out ++ (relinquish_each (relinquish s v).state G).out) (sym (filter-relinquish s v vs below h))
      | false ↦ refl
    ]

quorum-relinquish_marked_if : (b : Bool) (s : ClientState) (v : ℕ) → (relinquish_marked_if b s v).state.quorum ≡ s.quorum
quorum-relinquish_marked_if false s v = refl
quorum-relinquish_marked_if true s v = ap (λ (z : ClientState). z.quorum) (moves-relinquish s v).rest

pub quorum-relinquish_marked : (s : ClientState) (v : ℕ) → (relinquish_marked s v).state.quorum ≡ s.quorum
quorum-relinquish_marked s v = quorum-relinquish_marked_if (is_inquired s v) s v
