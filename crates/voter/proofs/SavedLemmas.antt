-- a voter as numbers
use Rattle.std.proofs.Common.{◌≡◌, ℕ, ◌+◌, ◌<◌, ◌≤◌, Bool, true, false, cond, List, [], ◌∷◌, ◌++◌, length, take, drop, get_or, Option, Some, None, refl, sym, ap, ◌∙◌, arith, eqb, ltb}
use Rattle.std.proofs.Common.{append_assoc, length-append}
use Rattle.std.specs.Prelude.{slice_index, unwrap_or, zero, suc, not, is_some, IsTrue}
use Rattle.std.specs.Ordering.{nat_cmp}
use Rattle.std.specs.FinMap.{get, insert, empty, get-empty}
use Rattle.std.proofs.lemmas.Bool.Decides.{nat_tests}
use Rattle.std.proofs.lemmas.List.{get_or_past, take_all, take_at, drop_at}
use Rattle.std.proofs.lemmas.List.FromFn.{get_or-map-range_with_len, length-map-range_with_len}
use Rattle.std.proofs.lemmas.Bool.{false≢true}
use Rattle.std.proofs.lemmas.Option.{none-some, same_Some}
use Rattle.message.specs.declared.request.Request.{Request}
use Rattle.voter.specs.declared.state.Grant.{Grant}
use Rattle.voter.specs.declared.state.VoterState.{VoterState}
use Rattle.voter.specs.Waiting.{Waiting, front, waiting_words}
use Rattle.voter.specs.Saved.{IsKept, grant_words, head_words, stamp_of_word, truth_word, words_of}
use Rattle.voter.proofs.Front.{front-none, get-no_front}
use Rattle.voter.proofs.Queues.{Waiting-same}
use Rattle.voter.proofs.Soundness.{get-inserted}

-- ---- the queue from its numbers

-- the first n clients have these requests, and no other has one
abbrev pub Fills : Waiting → (ℕ → Option ℕ) → ℕ → Type 0
Fills w f n = (c : ℕ) → get w c ≡ cond (ltb c n) (f c) None

one_more : (c n : ℕ) (o p : Option ℕ) → (c ≡ n → o ≡ p) → cond (eqb c n) o (cond (ltb c n) p None) ≡ cond (ltb c (n + 1)) p None
one_more c n o p same = elim (eqb c n) as (λ b. eqb c n ≡ b → cond b o (cond (ltb c n) p None) ≡ cond (ltb c (n + 1)) p None) [
  | true ↦ λ e. let here : c ≡ n = grind (arith, nat_tests) in let t : ltb c (n + 1) ≡ true = grind (arith, nat_tests) in rw t (same here)
  | false ↦ λ e. let t : ltb c (n + 1) ≡ ltb c n = grind (arith, nat_tests) in rw t refl
] refl

none_there : (c n : ℕ) (o : Option ℕ) → (c ≡ n → o ≡ None) → o ≡ cond (eqb c n) None o
none_there c n o none = elim (eqb c n) as (λ b. eqb c n ≡ b → o ≡ cond b None o) [ true ↦ λ e. none (grind (arith, nat_tests)) | false ↦ λ e. refl ] refl

get-added : (w u : Waiting) (n s c : ℕ) → get w n ≡ None → (0 < s → u ≡ insert w n s) → (s ≡ 0 → u ≡ w) → get u c ≡ cond (eqb c n) (stamp_of_word s) (get w c)
get-added w u n zero c first some none = ap (λ v. get v c) (none refl) ∙ none_there c n (get w c) (λ e. ap (get w) e ∙ first)
get-added w u n (suc s) c first some none = ap (λ v. get v c) (some (omega arith)) ∙ get-inserted w n (suc s) c

pub Fills-start : (f : ℕ → Option ℕ) → Fills empty f 0
Fills-start f c = get-empty nat_cmp c ∙ (let t : ltb c 0 ≡ false = grind (arith, nat_tests) in rw t refl)

pub Fills-first : (w : Waiting) (f : ℕ → Option ℕ) (n : ℕ) → Fills w f n → get w n ≡ None
Fills-first w f n h = h n ∙ (let t : ltb n n ≡ false = grind (arith, nat_tests) in rw t refl)

pub Fills-step : (w u : Waiting) (words : List ℕ) (n s : ℕ) → Fills w (λ c. stamp_of_word (slice_index words c)) n → s ≡ slice_index words n
    → (0 < s → u ≡ insert w n s) → (s ≡ 0 → u ≡ w) → Fills u (λ c. stamp_of_word (slice_index words c)) (n + 1)
Fills-step w u words n s h is some none c =
    get-added w u n s c (Fills-first w (λ k. stamp_of_word (slice_index words k)) n h) some none ∙ ap (cond (eqb c n) (stamp_of_word s)) (h c)
    ∙ one_more c n (stamp_of_word s) (stamp_of_word (slice_index words c)) (λ e. ap stamp_of_word (is ∙ ap (slice_index words) (sym e)))

none_of : (o : Option Request) (b : Bool) → is_some o ≡ not b → IsTrue b → o ≡ None
none_of None b e t = refl
none_of (Some r) b e t = absurd (false≢true (sym (e ∙ ap not t)))

pub nobody_waits : (w : Waiting) (o p : Option Request) (b : Bool) → o ≡ front w → p ≡ o → is_some p ≡ not b → IsTrue b → (c : ℕ) → get w c ≡ None
nobody_waits w o p b is same e t c = get-no_front w (sym is ∙ sym same ∙ none_of p b e t) c

-- ---- and back

pub is_none_in_front : (w : Waiting) (p : Option Request) (b : Bool) → p ≡ front w → is_some p ≡ not b → ((c : ℕ) → get w c ≡ None) → IsTrue b
is_none_in_front w p true is e none = refl
is_none_in_front w p false is e none = absurd (false≢true (sym (ap is_some (is ∙ front-none w none)) ∙ e))

length-grant_words : (o : Option Grant) → length (grant_words o) ≡ 4
length-grant_words None = refl
length-grant_words (Some g) = refl

length-head_words : (v : VoterState) → length (head_words v) ≡ 10
length-head_words v = omega (arith, length-grant_words v.held)

length-waiting_words : (w : Waiting) → length (waiting_words w) ≡ 64
length-waiting_words w = length-map-range_with_len (λ c. unwrap_or (get w c) 0) 0 64

pub length-words_of : (v : VoterState) → IsKept v → length (words_of v) ≡ 138
unfolding words_of
length-words_of v kept =
    let a = length-append (head_words v) (waiting_words v.waiting ++ v.finished) in
    let b = length-append (waiting_words v.waiting) v.finished in
    omega (arith, length-head_words v, length-waiting_words v.waiting, kept.places)

stamp_again : (o : Option ℕ) → ((s : ℕ) → o ≡ Some s → 1 ≤ s) → stamp_of_word (unwrap_or o 0) ≡ o
stamp_again (Some zero) h = absurd (let most = h zero refl in omega arith)
stamp_again o h = refl

pub same_queue : (w q : Waiting) (ws : List ℕ) → ws ≡ waiting_words w → ((c s : ℕ) → get w c ≡ Some s → 1 ≤ s) → ((c : ℕ) → 64 ≤ c → get w c ≡ None)
    → ((c : ℕ) → get q c ≡ stamp_of_word (slice_index ws c)) → q ≡ w
same_queue w q ws is stamped few read = Waiting-same q w (λ c. read c ∙ elim (ltb c 64) as (λ b. ltb c 64 ≡ b → stamp_of_word (slice_index ws c) ≡ get w c) [
  | true ↦ λ e.
      let within : c < 64 = grind (arith, nat_tests) in
      ap (λ l. stamp_of_word (slice_index l c)) is ∙ ap stamp_of_word (get_or-map-range_with_len (λ k. unwrap_or (get w k) 0) 0 64 c c 0 within (omega arith)) ∙ stamp_again (get w c) (stamped c)
  | false ↦ λ e.
      let past : 64 ≤ c = grind (arith, nat_tests) in
      let beyond : length ws ≤ c = (let len = ap (λ (l : List ℕ). length l) is ∙ length-waiting_words w in omega arith) in
      ap stamp_of_word (get_or_past ws c 0 beyond) ∙ sym (few c past)
] refl)

pub stamp_of_some : (n s : ℕ) → stamp_of_word n ≡ Some s → 1 ≤ s
stamp_of_some zero s is = absurd (none-some s is)
stamp_of_some (suc n) s is = let same = same_Some (suc n) s is in omega arith

-- ---- the numbers of a voter, one by one

four : (o : Option Grant) (rest : List ℕ)
    → get_or (grant_words o ++ rest) 0 0 ∷ get_or (grant_words o ++ rest) 1 0 ∷ get_or (grant_words o ++ rest) 2 0 ∷ get_or (grant_words o ++ rest) 3 0 ∷ [] ≡ grant_words o
four None rest = refl
four (Some g) rest = refl

truth : (b : Bool) → eqb (truth_word b) 1 ≡ b
truth true = refl
truth false = refl

-- the voter that these numbers are read as
pub record ReadVoter (words : List ℕ) (v : VoterState) : Type 0 where
  pub id : get_or words 1 0 ≡ v.id
  pub limit : get_or words 2 0 ≡ v.limit
  pub granted : get_or words 3 0 ≡ v.granted
  pub seen : get_or words 4 0 ≡ v.seen
  pub inquiring : eqb (get_or words 5 0) 1 ≡ v.inquiring
  pub held : get_or words 6 0 ∷ get_or words 7 0 ∷ get_or words 8 0 ∷ get_or words 9 0 ∷ [] ≡ grant_words v.held
  pub waiting : take 64 (drop 10 words) ≡ waiting_words v.waiting
  pub finished : take 64 (drop 74 words) ≡ v.finished

pub Read-words_of : (v : VoterState) (words : List ℕ) → IsKept v → words ≡ words_of v → ReadVoter words v
unfolding words_of
Read-words_of v words kept is =
    let head = head_words v in
    let lists = waiting_words v.waiting ++ v.finished in
    record {
      id = ap (λ l. get_or l 1 0) is;
      limit = ap (λ l. get_or l 2 0) is;
      granted = ap (λ l. get_or l 3 0) is;
      seen = ap (λ l. get_or l 4 0) is;
      inquiring = ap (λ l. eqb (get_or l 5 0) 1) is ∙ truth v.inquiring;
      held = ap (λ l. get_or l 6 0 ∷ get_or l 7 0 ∷ get_or l 8 0 ∷ get_or l 9 0 ∷ []) is ∙ four v.held lists;
      waiting = ap (λ l. take 64 (drop 10 l)) is ∙ ap (take 64) (drop_at head lists 10 (length-head_words v)) ∙ take_at (waiting_words v.waiting) v.finished 64 (length-waiting_words v.waiting);
      finished = ap (λ l. take 64 (drop 74 l)) (is ∙ sym (append_assoc head (waiting_words v.waiting) v.finished))
          ∙ ap (take 64) (drop_at (head ++ waiting_words v.waiting) v.finished 74 (length-append head (waiting_words v.waiting) ∙ omega (arith, length-head_words v, length-waiting_words v.waiting)))
          ∙ take_all 64 v.finished (omega (arith, kept.places));
    }
