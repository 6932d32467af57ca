-- requests kept in order, as a map
use Rattle.std.proofs.Common.{◌≡◌, ◌≢◌, ℕ, ◌+◌, suc, ◌<◌, Bool, true, false, cond, List, [], ◌∷◌, length, map, Option, Some, None, refl, sym, ap, inl, inr, ◌∙◌, arith, eqb}
use Rattle.std.specs.Ordering.{nat_cmp, eq_by_cmp}
use Rattle.std.specs.Prelude.{not, ◌||◌, slice_get, is_some}
use Rattle.std.specs.List.{AllByRecursion, insert, position_or_len, IsDistinct, list_any}
use Rattle.std.proofs.lemmas.Map.Steps.{length-le_from_distinct_below}
use Rattle.std.proofs.lemmas.Map.Keys.{IsDistinct-cons}
use Rattle.std.proofs.lemmas.List.{length-map}
use Rattle.std.proofs.lemmas.Bool.{false≢true}
use Rattle.std.specs.Cmp.{nat_cmp_total}
use Rattle.std.specs.FinMap as fin
use Rattle.std.specs.FinMap.{get, get-from_entries, same_map, nat_cmp-IsAntisymmetric}
use Rattle.std.specs.FinMap.Entries.{find}
use Rattle.std.proofs.lemmas.Bool.Decides.{nat_tests}
use Rattle.std.proofs.lemmas.Option.{none-some}
use Rattle.message.specs.declared.request.Request.{Request}
use Rattle.message.specs.Requests.{precedes}
use Rattle.voter.specs.Waiting.{Waiting, front, entry, waiting_of, Follows, IsQueue, without}
use Rattle.voter.proofs.Front.{eq_by_cmp-nat, find-head, front-is, front-none, front-some, precedes-once, precedes-not_self, precedes-trans, cond_eqb-Some}

-- the stamp of the first request of a client
abbrev pub stamp_in : ℕ → List Request → Option ℕ
stamp_in c [] = None
stamp_in c (r ∷ rs) = cond (eqb c r.client) (Some r.stamp) (stamp_in c rs)

find_stamp : (c : ℕ) (rs : List Request) → find nat_cmp c (map entry rs) ≡ stamp_in c rs
find_stamp c [] = refl
find_stamp c (r ∷ rs) = find-head c (entry r) (map entry rs) ∙ ap (cond (eqb c r.client) (Some r.stamp)) (find_stamp c rs)

pub get-waiting_of : (rs : List Request) (c : ℕ) → get (waiting_of rs) c ≡ stamp_in c rs
unfolding waiting_of
get-waiting_of rs c = get-from_entries nat_cmp_total (map entry rs) c ∙ find_stamp c rs

pub Waiting-same : (w u : Waiting) → ((c : ℕ) → get w c ≡ get u c) → w ≡ u
Waiting-same w u h = same_map nat_cmp_total nat_cmp-IsAntisymmetric w u h

-- ---- the front

later_ones : (r : Request) (c s : ℕ) (rs : List Request) → AllByRecursion (Follows r) rs → stamp_in c rs ≡ Some s → precedes (record { stamp = s; client = c }) r ≡ false
later_ones r c s [] h is = absurd (none-some s is)
later_ones r c s (q ∷ rs) h is =
    elim (cond_eqb-Some c q.client s q.stamp _ is) [
      | inl here ↦ precedes-once r (record { stamp = s; client = c }) (rw (here.0, here.1) h.0.later)
      | inr later ↦ later_ones r c s rs h.1 later
    ]

pub front-head : (r : Request) (rs : List Request) → IsQueue (r ∷ rs) → front (waiting_of (r ∷ rs)) ≡ Some r
front-head r rs h = front-is (waiting_of (r ∷ rs)) r
    (get-waiting_of (r ∷ rs) r.client ∙ grind (arith, nat_tests))
    (λ c s is. elim (cond_eqb-Some c r.client s r.stamp _ (sym (get-waiting_of (r ∷ rs) c) ∙ is)) [
      | inl here ↦ rw (here.0, here.1) (precedes-not_self r)
      | inr later ↦ later_ones r c s rs h.1 later
    ])

pub front-empty : front (waiting_of []) ≡ None
front-empty = front-none (waiting_of []) (λ c. get-waiting_of [] c)

pub front-waiting_of : (rs : List Request) → IsQueue rs → front (waiting_of rs) ≡ slice_get rs 0
front-waiting_of [] h = front-empty
front-waiting_of (r ∷ rs) h = front-head r rs h

-- ---- a client leaves

without_cases : (c q k s : ℕ) (o p : Option ℕ) → o ≡ cond (eqb q c) None p → cond (not (eqb k c)) (cond (eqb q k) (Some s) o) o ≡ cond (eqb q c) None (cond (eqb q k) (Some s) p)
without_cases c q k s o p e = grind (arith, nat_tests)

stamp_choice : (q : ℕ) (b : Bool) (r : Request) (rs : List Request) → stamp_in q (cond b (r ∷ rs) rs) ≡ cond b (cond (eqb q r.client) (Some r.stamp) (stamp_in q rs)) (stamp_in q rs)
stamp_choice q true r rs = refl
stamp_choice q false r rs = refl

stamp_without : (c q : ℕ) (rs : List Request) → stamp_in q (without c rs) ≡ cond (eqb q c) None (stamp_in q rs)
stamp_without c q [] = grind (arith, nat_tests)
stamp_without c q (r ∷ rs) = stamp_choice q (not (eqb r.client c)) r (without c rs) ∙ without_cases c q r.client r.stamp _ _ (stamp_without c q rs)

pub waiting_of-without : (c : ℕ) (rs : List Request) → waiting_of (without c rs) ≡ fin.remove (waiting_of rs) c
waiting_of-without c rs = Waiting-same _ _ (λ q. get-waiting_of (without c rs) q ∙ stamp_without c q rs
    ∙ sym (fin.get-remove nat_cmp_total (waiting_of rs) c q ∙ ap (λ b. cond b None (get (waiting_of rs) q)) (eq_by_cmp-nat q c) ∙ ap (cond (eqb q c) None) (get-waiting_of rs q)))

all_without : (P : Request → Type 0) (c : ℕ) (rs : List Request) → AllByRecursion P rs → AllByRecursion P (without c rs)
all_without P c [] h = tt
all_without P c (r ∷ rs) h = elim (not (eqb r.client c)) as (λ b. AllByRecursion P (cond b (r ∷ without c rs) (without c rs))) [
  | true ↦ (h.0, all_without P c rs h.1)
  | false ↦ all_without P c rs h.1
]

pub IsQueue-without : (c : ℕ) (rs : List Request) → IsQueue rs → IsQueue (without c rs)
IsQueue-without c [] h = tt
IsQueue-without c (r ∷ rs) h = elim (not (eqb r.client c)) as (λ b. IsQueue (cond b (r ∷ without c rs) (without c rs))) [
  | true ↦ (h.0, all_without (Follows r) c rs h.1, IsQueue-without c rs h.2)
  | false ↦ IsQueue-without c rs h.2
]

-- ---- a request comes in its place

abbrev pub placed : Request → List Request → List Request
placed r [] = r ∷ []
placed r (q ∷ rs) = cond (precedes q r) (q ∷ placed r rs) (r ∷ q ∷ rs)

one-add : (n : ℕ) → 1 + n ≡ suc n
one-add n = omega arith

pub insert-placed : (r : Request) (rs : List Request) → insert rs (position_or_len (λ q. not (precedes q r)) rs) r ≡ placed r rs
insert-placed r [] = refl
insert-placed r (q ∷ rs) = elim (precedes q r) as (λ b. insert (q ∷ rs) (cond (not (not b)) (1 + position_or_len (λ p. not (precedes p r)) rs) 0) r ≡ cond b (q ∷ placed r rs) (r ∷ q ∷ rs)) [
  | true ↦ ap (λ n. insert (q ∷ rs) n r) (one-add (position_or_len (λ p. not (precedes p r)) rs)) ∙ ap (λ (xs : List Request). q ∷ xs) (insert-placed r rs)
  | false ↦ refl
]

stamp_placed_choice : (c : ℕ) (b : Bool) (xs ys : List Request) → stamp_in c (cond b xs ys) ≡ cond b (stamp_in c xs) (stamp_in c ys)
stamp_placed_choice c true xs ys = refl
stamp_placed_choice c false xs ys = refl

placed_cases : (c k s l t : ℕ) (b : Bool) (o p : Option ℕ) → k ≢ l → p ≡ cond (eqb c k) (Some s) o
    → cond b (cond (eqb c l) (Some t) p) (cond (eqb c k) (Some s) (cond (eqb c l) (Some t) o)) ≡ cond (eqb c k) (Some s) (cond (eqb c l) (Some t) o)
placed_cases c k s l t b o p ne e = grind (arith, nat_tests)

-- the client of r is none of these
abbrev pub IsNewClient : Request → List Request → Type 0
IsNewClient r rs = AllByRecursion (λ q. r.client ≢ q.client) rs

stamp_placed : (r : Request) (c : ℕ) (rs : List Request) → IsNewClient r rs → stamp_in c (placed r rs) ≡ cond (eqb c r.client) (Some r.stamp) (stamp_in c rs)
stamp_placed r c [] h = refl
stamp_placed r c (q ∷ rs) h = stamp_placed_choice c (precedes q r) (q ∷ placed r rs) (r ∷ q ∷ rs)
    ∙ placed_cases c r.client r.stamp q.client q.stamp (precedes q r) _ _ h.0 (stamp_placed r c rs h.1)

pub waiting_of-placed : (r : Request) (rs : List Request) → IsNewClient r rs → waiting_of (placed r rs) ≡ fin.insert (waiting_of rs) r.client r.stamp
waiting_of-placed r rs h = Waiting-same _ _ (λ q. get-waiting_of (placed r rs) q ∙ stamp_placed r q rs h
    ∙ sym (fin.get-insert nat_cmp_total (waiting_of rs) r.client r.stamp q ∙ ap (λ b. cond b (Some r.stamp) (get (waiting_of rs) q)) (eq_by_cmp-nat q r.client)
    ∙ ap (cond (eqb q r.client) (Some r.stamp)) (get-waiting_of rs q)))

follows_placed : (q r : Request) (rs : List Request) → Follows q r → AllByRecursion (Follows q) rs → AllByRecursion (Follows q) (placed r rs)
follows_placed q r [] f h = (f, tt)
follows_placed q r (p ∷ rs) f h = elim (precedes p r) as (λ b. AllByRecursion (Follows q) (cond b (p ∷ placed r rs) (r ∷ p ∷ rs))) [
  | true ↦ (h.0, follows_placed q r rs f h.1)
  | false ↦ (f, (h.0, h.1))
]

-- what is not before r, and is another client's, is after it
precedes-from_not_before : (q r : Request) → r.client ≢ q.client → precedes q r ≡ false → precedes r q ≡ true
precedes-from_not_before q r ne h = grind (arith, nat_tests)

follows_all : (q r : Request) (rs : List Request) → precedes r q ≡ true → AllByRecursion (Follows q) rs → IsNewClient r rs → AllByRecursion (Follows r) rs
follows_all q r [] before h new = tt
follows_all q r (p ∷ rs) before h new = (record { later = precedes-trans r q p before h.0.later; other = new.0 }, follows_all q r rs before h.1 new.1)

pub IsQueue-placed : (r : Request) (rs : List Request) → r.client < 64 → IsNewClient r rs → IsQueue rs → IsQueue (placed r rs)
IsQueue-placed r [] small new h = (small, tt, tt)
IsQueue-placed r (q ∷ rs) small new h = elim (precedes q r) as (λ b. precedes q r ≡ b → IsQueue (cond b (q ∷ placed r rs) (r ∷ q ∷ rs))) [
  | true ↦ λ e. (h.0, follows_placed q r rs (record { later = e; other = λ s. new.0 (sym s) }) h.1, IsQueue-placed r rs small new.1 h.2)
  | false ↦ λ e. (small, (record { later = precedes-from_not_before q r new.0 e; other = new.0 }, follows_all q r rs (precedes-from_not_before q r new.0 e) h.1 new.1), h)
] refl

is_new_step : (k c : ℕ) → eqb k c ≡ false → c ≢ k
is_new_step k c e = grind (arith, nat_tests)

pub IsNew-without : (r : Request) (rs : List Request) → IsNewClient r (without r.client rs)
IsNew-without r [] = tt
IsNew-without r (q ∷ rs) = elim (eqb q.client r.client) as (λ b. eqb q.client r.client ≡ b → IsNewClient r (cond (not b) (q ∷ without r.client rs) (without r.client rs))) [
  | true ↦ λ e. IsNew-without r rs
  | false ↦ λ e. (is_new_step q.client r.client e, IsNew-without r rs)
] refl

found_head : (c k t : ℕ) (o : Option ℕ) → cond (eqb c k) (Some t) o ≡ None → (c ≢ k) × (o ≡ None)
found_head c k t o e = grind (arith, nat_tests)

-- a client without a request is the client of none of these
new_of : (r : Request) (rs : List Request) → stamp_in r.client rs ≡ None → IsNewClient r rs
new_of r [] e = tt
new_of r (q ∷ rs) e = let h = found_head r.client q.client q.stamp _ e in (h.0, new_of r rs h.1)

pub IsNew-from_get : (r : Request) (rs : List Request) → get (waiting_of rs) r.client ≡ None → IsNewClient r rs
IsNew-from_get r rs e = new_of r rs (sym (get-waiting_of rs r.client) ∙ e)

-- ---- how many can wait

clients : List Request → List ℕ
clients rs = map (λ r. r.client) rs

all_apart : (r : Request) (rs : List Request) → AllByRecursion (Follows r) rs → AllByRecursion (λ c. eqb r.client c ≡ false) (clients rs)
unfolding clients
all_apart r [] h = tt
all_apart r (q ∷ rs) h = (let ne = h.0.other in grind (arith, nat_tests), all_apart r rs h.1)

IsDistinct-clients : (rs : List Request) → IsQueue rs → IsDistinct eqb (clients rs)
unfolding clients IsDistinct
IsDistinct-clients [] h = tt
IsDistinct-clients (r ∷ rs) h = IsDistinct-cons eqb r.client (clients rs) (all_apart r rs h.1) (IsDistinct-clients rs h.2)

new_apart : (r : Request) (rs : List Request) → IsNewClient r rs → AllByRecursion (λ c. eqb r.client c ≡ false) (clients rs)
unfolding clients
new_apart r [] h = tt
new_apart r (q ∷ rs) h = (let ne = h.0 in grind (arith, nat_tests), new_apart r rs h.1)

small_clients : (rs : List Request) → IsQueue rs → (q : ℕ) → list_any (eqb q) (clients rs) ≡ true → q < 64
unfolding clients
small_clients [] h q e = absurd (false≢true e)
small_clients (r ∷ rs) h q e = elim (eqb q r.client) as (λ b. eqb q r.client ≡ b → (b || list_any (eqb q) (clients rs)) ≡ true → q < 64) [
  | true ↦ λ t _. let small = h.0 in grind (arith, nat_tests)
  | false ↦ λ _ rest. small_clients rs h.2 q rest
] refl e

small_with : (r : Request) (rs : List Request) → r.client < 64 → IsQueue rs → (q : ℕ) → list_any (eqb q) (r.client ∷ clients rs) ≡ true → q < 64
small_with r rs small h q e = elim (eqb q r.client) as (λ b. eqb q r.client ≡ b → (b || list_any (eqb q) (clients rs)) ≡ true → q < 64) [
  | true ↦ λ t _. grind (arith, nat_tests)
  | false ↦ λ _ rest. small_clients rs h q rest
] refl e

pub length-IsQueue : (r : Request) (rs : List Request) → r.client < 64 → IsNewClient r rs → IsQueue rs → length rs < 64
unfolding clients
length-IsQueue r rs small new h =
    let most = length-le_from_distinct_below (r.client ∷ clients rs) 64 (IsDistinct-cons eqb r.client (clients rs) (new_apart r rs new) (IsDistinct-clients rs h)) (small_with r rs small h) in
    omega (arith, length-map rs (λ (r : Request). r.client))

pub waiting_of-none : waiting_of [] ≡ fin.empty
unfolding waiting_of
waiting_of-none = refl

removed_first : (c q s : ℕ) (o : Option ℕ) → cond (eqb q c) (Some s) (cond (eqb q c) None o) ≡ cond (eqb q c) (Some s) o
removed_first c q s o = grind (arith, nat_tests)

pub insert_removed : (w : Waiting) (c s : ℕ) → fin.insert (fin.remove w c) c s ≡ fin.insert w c s
insert_removed w c s = Waiting-same _ _ (λ q. fin.get-insert nat_cmp_total (fin.remove w c) c s q ∙ ap (cond (eq_by_cmp nat_cmp q c) (Some s)) (fin.get-remove nat_cmp_total w c q)
    ∙ ap (λ b. cond b (Some s) (cond b None (get w q))) (eq_by_cmp-nat q c) ∙ removed_first c q s (get w q)
    ∙ sym (fin.get-insert nat_cmp_total w c s q ∙ ap (λ b. cond b (Some s) (get w q)) (eq_by_cmp-nat q c)))

pub get_removed : (w : Waiting) (c : ℕ) → get (fin.remove w c) c ≡ None
get_removed w c = fin.get-remove nat_cmp_total w c c ∙ ap (λ b. cond b None (get w c)) (eq_by_cmp-nat c c) ∙ grind (arith, nat_tests)

pub front-insert : (w : Waiting) (c s : ℕ) → is_some (front (fin.insert w c s)) ≡ true
front-insert w c s = front-some (fin.insert w c s) c s (fin.get-insert nat_cmp_total w c s c ∙ ap (λ b. cond b (Some s) (get w c)) (eq_by_cmp-nat c c) ∙ grind (arith, nat_tests))
