-- A client as numbers.
use Rattle.std.proofs.Common.{◌≡◌, ℕ, get_or, zero, suc, ◌+◌, ◌^◌, ◌<◌, ◌≤◌, Bool, true, false, ◌&&◌, ◌||◌, not, cond, eqb, ltb, List, [], ◌∷◌, ◌++◌, length, take, drop}
use Rattle.std.proofs.Common.{refl, sym, ap, subst, ◌∙◌, arith, length-append}
use Rattle.std.specs.Prelude.{nat_lt}
use Rattle.std.specs.Int.{bit_at}
use Rattle.std.specs.List.{AllByRecursion}
use Rattle.std.proofs.lemmas.Bool.{and_parts, false≢true, leb-true, ltb-true, not-true}
use Rattle.std.proofs.lemmas.Bool.Decides.{nat_tests}
use Rattle.std.proofs.lemmas.List.{drop_more, take_all, take_at, drop_at}
use Rattle.std.proofs.lemmas.List.Sums.{sum_by-append}
use Rattle.numbers.specs.Sets.{has, numbers_from, set_where, members_of, IsSet}
use Rattle.numbers.proofs.SetLemmas.{Ascends-unique, IsSet-set_where, has-IsSet_below, has-above, is_set_where}
use Rattle.quorum_set.specs.Words.{word_of, word_of-members_of, numbers_from-more}
use Rattle.requester.specs.declared.state.ClientState.{ClientState}
use Rattle.requester.specs.declared.state.Phase.TheVariants.{Idle}
use Rattle.requester.specs.Saved.{HasSets, IsKept, has_sound_numbers, head_words, phase_word, is_vote_sound, least_client, words_of}
use Rattle.requester.specs.Soundness.{HasPlaces, IsSound}
use Rattle.requester.specs.Words.{held_of, holds, is_covered, is_idle, is_inquired, is_inside, is_relinquished, last_of, members}
use Rattle.requester.proofs.Members.{get_or-some_below}
use Rattle.requester.proofs.SoundSteps.{IsSound-clear_votes}

-- ---- a set from its bits

-- the bits below n of the set of the numbers that pass
abbrev low_bits : ℕ → (ℕ → Bool) → ℕ
low_bits n p = word_of (numbers_from 0 n p)

one_bit : (b : Bool) (n : ℕ) → word_of (cond b (n ∷ []) []) ≡ cond b (2 ^ n) 0
one_bit true n = omega arith
one_bit false n = refl

low_bits-more : (n : ℕ) (p : ℕ → Bool) → low_bits (n + 1) p ≡ low_bits n p + cond (p n) (2 ^ n) 0
low_bits-more n p =
    let zero_first : 0 + n ≡ n = omega arith in
    ap word_of (numbers_from-more 0 n p) ∙ sum_by-append (λ i. 2 ^ i) (numbers_from 0 n p) (cond (p (0 + n)) ((0 + n) ∷ []) [])
    ∙ ap (λ k. low_bits n p + word_of (cond (p k) (k ∷ []) [])) zero_first ∙ ap (λ k. low_bits n p + k) (one_bit (p n) n)

add_one : (n : ℕ) → suc n ≡ n + 1
add_one n = omega arith

low_bits-suc : (n : ℕ) (p : ℕ → Bool) → low_bits (suc n) p ≡ low_bits n p + cond (p n) (2 ^ n) 0
low_bits-suc n p = ap (λ k. low_bits k p) (add_one n) ∙ low_bits-more n p

double : (n : ℕ) → 2 ^ suc n ≡ 2 ^ n + 2 ^ n
double n = omega arith

at_most : (b : Bool) (k : ℕ) → cond b k 0 ≤ k
at_most true k = omega arith
at_most false k = omega arith

low_bits-below : (n : ℕ) (p : ℕ → Bool) → low_bits n p < 2 ^ n
low_bits-below zero p = omega arith
low_bits-below (suc n) p = omega (arith, low_bits-suc n p, low_bits-below n p, double n, at_most (p n) (2 ^ n))

same_top : (a b : Bool) (x y k : ℕ) → x < k → y < k → x + cond a k 0 ≡ y + cond b k 0 → (a ≡ b) × (x ≡ y)
same_top true true x y k lx ly e = (refl, omega arith)
same_top false false x y k lx ly e = (refl, omega arith)
same_top a b x y k lx ly e = absurd (omega arith)

same_bits : (n : ℕ) (p q : ℕ → Bool) → low_bits n p ≡ low_bits n q → (i : ℕ) → i < n → p i ≡ q i
same_bits zero p q e i lt = absurd (omega arith)
same_bits (suc n) p q e i lt =
    let top = same_top (p n) (q n) (low_bits n p) (low_bits n q) (2 ^ n) (low_bits-below n p) (low_bits-below n q)
    (sym (low_bits-suc n p) ∙ e ∙ low_bits-suc n q) in
    elim (eqb i n) as (λ b. eqb i n ≡ b → p i ≡ q i) [
      | true ↦ λ t. let same : i ≡ n = grind (arith, nat_tests) in ap p same ∙ top.0 ∙ ap q (sym same)
      | false ↦ λ t. same_bits n p q top.1 i (grind (arith, nat_tests))
    ] refl

-- two sets with the same bits are the same
same_sets : (s t : List ℕ) → IsSet s → IsSet t → word_of s ≡ word_of t → s ≡ t
unfolding set_where
same_sets s t hs ht e =
    let s_is : s ≡ set_where (has s) = is_set_where s (has s) hs (λ i _. refl) in
    let t_is : t ≡ set_where (has t) = is_set_where t (has t) ht (λ i _. refl) in
    let bits : low_bits 64 (has s) ≡ low_bits 64 (has t) = sym (ap word_of s_is) ∙ e ∙ ap word_of t_is in
    Ascends-unique 0 64 s t hs ht (λ i. elim (ltb i 64) as (λ b. ltb i 64 ≡ b → has s i ≡ has t i) [
      | true ↦ λ l. same_bits 64 (has s) (has t) bits i (grind (arith, nat_tests))
      | false ↦ λ l. has-above 0 64 s i hs (grind (arith, nat_tests)) ∙ sym (has-above 0 64 t i ht (grind (arith, nat_tests)))
    ] refl)

pub set_again : (word : ℕ) (r s : List ℕ) → r ≡ members_of word → IsSet r → word < 2 ^ 64 → IsSet s → word ≡ word_of s → r ≡ s
set_again word r s is set fits hs e = same_sets r s set hs (ap word_of is ∙ word_of-members_of word fits ∙ e)

-- ---- the bits of a list's members

pub word_of-below : (s : List ℕ) → IsSet s → word_of s < 2 ^ 64
unfolding set_where
word_of-below s h = subst (λ (t : List ℕ). word_of t < 2 ^ 64) (sym (is_set_where s (has s) h (λ i _. refl))) (low_bits-below 64 (has s))

-- the bits of the members so far, and of those that are left, are those of all
pub record Gathered (items rest : List ℕ) (bits : ℕ) : Type 0 where
  pub small : AllByRecursion (λ v. v < 64) rest
  pub whole : bits + word_of rest ≡ word_of items

pub Gathered-more : (items : List ℕ) (bits i : ℕ) → i < length items → Gathered items (drop i items) bits
    → (get_or items i 0 < 64) × (bits + 2 ^ get_or items i 0 ≤ word_of items) × Gathered items (drop (i + 1) items) (bits + 2 ^ get_or items i 0)
Gathered-more items bits i lt g =
    let next = subst (λ (r : List ℕ). Gathered items r bits) (drop_more items i 0 lt) g in
    let sum : word_of (get_or items i 0 ∷ drop (i + 1) items) ≡ word_of (get_or items i 0 ∷ []) + word_of (drop (i + 1) items) = sum_by-append (λ k. 2 ^ k) (get_or items i 0 ∷ []) (drop (i + 1) items) in
    let one : word_of (get_or items i 0 ∷ []) ≡ 2 ^ get_or items i 0 = one_bit true (get_or items i 0) in
    let whole : bits + 2 ^ get_or items i 0 + word_of (drop (i + 1) items) ≡ word_of items = omega (arith, next.whole, sum, one) in
    (next.small.0, omega (arith, whole), record { small = next.small.1; whole = whole })

-- ---- soundness from what restoring checks

pub implied : (a b : Bool) → (not a || b) ≡ true → a ≡ true → b ≡ true
implied true b e t = e
implied false b e t = absurd (false≢true t)

held_below : (x : ClientState) (v : ℕ) → HasPlaces x → holds x v ≡ true → v < 64
held_below x v places is = let below = get_or-some_below x.held v is in let len = places.held in omega arith

busy_numbers : (idle : Bool) (s n : ℕ) → (idle || (nat_lt 0 s && nat_lt 0 n)) ≡ true → idle ≡ false → (1 ≤ s) × (1 ≤ n)
busy_numbers true s n e t = absurd (false≢true (sym t))
busy_numbers false s n e t = (grind (arith, nat_tests), grind (arith, nat_tests))

four : (a b c d e : Bool) → (a && (b && (c && (d && e)))) ≡ true → (a ≡ true) × (b ≡ true) × (c ≡ true) × (d ≡ true) × (e ≡ true)
four true true true true true h = (refl, refl, refl, refl, refl)
four a b c d e h = absurd (false≢true h)

pub IsSound-from : (x : ClientState) → x.id < 64 → HasPlaces x → IsSet (members x) → HasSets x → has_sound_numbers x ≡ true
    → (is_inside x.phase ≡ true → is_covered x ≡ true) → ((v : ℕ) → v < 64 → is_vote_sound x v ≡ true) → IsSound x
IsSound-from x id places quorum sets numbers covered votes =
    let n = four _ _ _ _ _ numbers in
    let busy_has = busy_numbers (is_idle x.phase) x.stamp (length (members x)) n.4 in
    record {
      id = id;
      some = leb-true _ _ n.0;
      limit = leb-true _ _ n.1;
      places = places;
      stamp = leb-true _ _ n.2;
      clock = leb-true _ _ n.3;
      stamped = λ busy. (busy_has busy).0;
      quorum = quorum;
      asked = λ busy. (busy_has busy).1;
      held = λ v is.
          let well = and_parts _ _ (implied (holds x v) _ (and_parts _ _ (votes v (held_below x v places is))).0 is) in
          let rest = and_parts _ _ well.1 in
          record { busy = not-true _ well.0; member = rest.0; fresh = ltb-true (last_of x v) (held_of x v) rest.1 };
      inside = covered;
      inquired = λ v is. implied (is_inquired x v) _ (and_parts _ _ (and_parts _ _ (votes v (has-IsSet_below x.inquired v sets.inquired is))).1).0 is;
      relinquished = λ v is.
          ltb-true 0 (last_of x v) (implied (is_relinquished x v) _ (and_parts _ _ (and_parts _ _ (votes v (has-IsSet_below x.relinquished v sets.relinquished is))).1).1 is);
    }

-- ---- all numbers

length-head_words : (x : ClientState) → length (head_words x) ≡ 10
length-head_words x = refl

pub length-words_of : (x : ClientState) → IsKept x → length (words_of x) ≡ 138
unfolding words_of
length-words_of x kept =
    let a = length-append (head_words x) (x.held ++ x.last) in
    let b = length-append x.held x.last in
    omega (arith, length-head_words x, kept.sound.places.held, kept.sound.places.last)

-- the client that these numbers are read as
pub record ReadClient (words : List ℕ) (x : ClientState) : Type 0 where
  pub id : get_or words 1 0 ≡ x.id
  pub limit : get_or words 2 0 ≡ x.limit
  pub clock : get_or words 3 0 ≡ x.clock
  pub phase : get_or words 4 0 ≡ phase_word x.phase
  pub stamp : get_or words 5 0 ≡ x.stamp
  pub quorum : get_or words 6 0 ≡ word_of (members x)
  pub failed : get_or words 7 0 ≡ word_of x.failed
  pub relinquished : get_or words 8 0 ≡ word_of x.relinquished
  pub inquired : get_or words 9 0 ≡ word_of x.inquired
  pub held : take 64 (drop 10 words) ≡ x.held
  pub last : take 64 (drop 74 words) ≡ x.last

pub Read-words_of : (x : ClientState) (words : List ℕ) → IsKept x → words ≡ words_of x → ReadClient words x
unfolding words_of
Read-words_of x words kept is =
    let places = kept.sound.places in
    record {
      id = ap (λ l. get_or l 1 0) is;
      limit = ap (λ l. get_or l 2 0) is;
      clock = ap (λ l. get_or l 3 0) is;
      phase = ap (λ l. get_or l 4 0) is;
      stamp = ap (λ l. get_or l 5 0) is;
      quorum = ap (λ l. get_or l 6 0) is;
      failed = ap (λ l. get_or l 7 0) is;
      relinquished = ap (λ l. get_or l 8 0) is;
      inquired = ap (λ l. get_or l 9 0) is;
      held = ap (λ l. take 64 (drop 10 l)) is ∙ take_at x.held x.last 64 places.held;
      last = ap (λ l. take 64 (drop 74 l)) is ∙ ap (take 64) (drop_at x.held x.last 64 places.held) ∙ take_all 64 x.last (omega (arith, places.last));
    }

-- ---- the least of a client

pub least_is_sound : (x : ClientState) → IsSound x → IsSound (least_client x)
least_is_sound x s = IsSound-clear_votes (least_client x) Idle refl s.id s.some s.limit refl s.stamp s.clock tt (λ busy. absurd (false≢true (sym busy)))

-- a set with bits is a set
pub set_by_bits : (m : ℕ) (s : List ℕ) → members_of m ≡ s → IsSet s
set_by_bits m s is = subst IsSet is (IsSet-set_where (λ i. eqb (bit_at m i) 1))
