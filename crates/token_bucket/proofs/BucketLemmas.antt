-- how much a bucket gives, and when it is full
use Rattle.std.proofs.Common.{◌≡◌, ℕ, ◌<◌, ◌≤◌, ◌+◌, ◌-◌, ◌*◌, Bool, true, false, List, [], ◌∷◌, refl, ap, ◌∙◌, subst, arith}
use Rattle.std.specs.Prelude.{◌/◌, ◌&&◌, nat_le, max, if◌then◌else◌, Ok}
use Rattle.std.proofs.Math.Nat.{mul-add, mul-le-mul_left, div-mul-le_self, mul-div_cancel, min-le_left, min-le_right, min-eq_left}
use Rattle.std.proofs.lemmas.Bool.Decides.{nat_tests}
use Rattle.token_bucket.specs.Buckets.{Bucket, IsSound, begun, billion, emptied, left, level_at, spend_of, spent}
use Rattle.token_bucket.specs.Spendings.{Spending, after_all, is_done, spent_between, time_of}

-- ---- one spending

-- what a spending that is done takes is there, and what is there came since
record IsStep (b : Bucket) (s : Spending) : Type 0 where
  pub some : s.tokens * billion ≤ level_at b s.now
  pub few : level_at b s.now ≤ b.most * billion
  pub came : level_at b s.now ≤ b.level + b.rate * (time_of b s - b.at)
  pub later : b.at ≤ time_of b s

step_is : (b : Bucket) (s : Spending) → is_done b s ≡ true → IsStep b s
step_is b s is =
    let below : s.tokens ≤ left b s.now = grind (arith, nat_tests) in
    let whole = div-mul-le_self (level_at b s.now) billion in
    let since : s.now - b.at ≡ time_of b s - b.at = omega arith in
    let gained = ap (λ k. b.rate * k) since in
    let came = min-le_right (b.most * billion) (b.level + b.rate * (s.now - b.at)) in
    record {
      some = omega arith;
      few = min-le_left (b.most * billion) (b.level + b.rate * (s.now - b.at));
      came = omega arith;
      later = omega arith;
    }

spent_sound : (b : Bucket) (s : Spending) → IsSound (spent b s.now s.tokens)
spent_sound b s = let few = min-le_left (b.most * billion) (b.level + b.rate * (s.now - b.at)) in omega arith

pub begun_sound : (rate most now : ℕ) → IsSound (begun rate most now)
begun_sound rate most now = omega arith

-- what is gained from a to t and from t to z is gained from a to z
gained_parts : (rate a t z : ℕ) → a ≤ t → t ≤ z → rate * (z - a) ≡ rate * (t - a) + rate * (z - t)
gained_parts rate a t z early late = ap (λ k. rate * k) (let whole : z - a ≡ (t - a) + (z - t) = omega arith in whole) ∙ mul-add rate (t - a) (z - t)

-- ---- how much a call counts

counts_few : (p : Bool) (n : ℕ) → (if p then n else 0) ≤ n
counts_few true n = omega arith
counts_few false n = omega arith

counts_none : (p q : Bool) (n : ℕ) → q ≡ false → (if p && q then n else 0) ≡ 0
counts_none true q n is = rw is refl
counts_none false q n is = refl

-- ---- all calls up to a time

-- nothing counts up to a time before the last spending
none_late : (from to : ℕ) (b : Bucket) (ss : List Spending) → to < b.at → spent_between from to b ss ≡ 0
none_late from to b [] late = refl
none_late from to b (s ∷ ss) late =
    elim (is_done b s) as (λ d. is_done b s ≡ d
    → (if d && (nat_le from (time_of b s) && nat_le (time_of b s) to) then s.tokens else 0) + spent_between from to (if d then spent b s.now s.tokens else b) ss ≡ 0) [
      | true ↦ λ e.
          let after_it : to < time_of b s = omega arith in
          let none = counts_none (nat_le from (time_of b s)) (nat_le (time_of b s) to) s.tokens (grind (arith, nat_tests)) in
          let rest = none_late from to (spent b s.now s.tokens) ss after_it in
          omega arith
      | false ↦ λ e. (let rest = none_late from to b ss late in omega arith)
    ] refl

-- what counts up to a time was there, or came since
within : (from to : ℕ) (b : Bucket) (ss : List Spending) → b.at ≤ to → spent_between from to b ss * billion ≤ b.level + b.rate * (to - b.at)
within from to b [] early = omega arith
within from to b (s ∷ ss) early =
    elim (is_done b s) as (λ d. is_done b s ≡ d
    → ((if d && (nat_le from (time_of b s) && nat_le (time_of b s) to) then s.tokens else 0) + spent_between from to (if d then spent b s.now s.tokens else b) ss) * billion
    ≤ b.level + b.rate * (to - b.at)) [
      | true ↦ λ e. elim (nat_le (time_of b s) to) as (λ q. nat_le (time_of b s) to ≡ q
          → ((if nat_le from (time_of b s) && q then s.tokens else 0) + spent_between from to (spent b s.now s.tokens) ss) * billion ≤ b.level + b.rate * (to - b.at)) [
            | true ↦ λ f.
                let t : time_of b s ≤ to = grind (arith, nat_tests) in
                let step = step_is b s e in
                let some = step.some in
                let came = step.came in
                let few = counts_few (nat_le from (time_of b s) && true) s.tokens in
                let whole = gained_parts b.rate b.at (time_of b s) to step.later t in
                let rest = within from to (spent b s.now s.tokens) ss t in
                omega arith
            | false ↦ λ f.
                let t : to < time_of b s = grind (arith, nat_tests) in
                let none = counts_none (nat_le from (time_of b s)) false s.tokens refl in
                let rest = none_late from to (spent b s.now s.tokens) ss t in
                omega arith
          ] refl
      | false ↦ λ e. (let rest = within from to b ss early in omega arith)
    ] refl

-- ---- all calls between two times

-- of a bucket whose last spending is no earlier than the first time
bounded_now : (from to : ℕ) (b : Bucket) (ss : List Spending) → IsSound b → from ≤ b.at → spent_between from to b ss * billion ≤ b.most * billion + b.rate * (to - from)
bounded_now from to b ss sound since = elim (nat_le b.at to) as (λ q. nat_le b.at to ≡ q → spent_between from to b ss * billion ≤ b.most * billion + b.rate * (to - from)) [
  | true ↦ λ e.
      let all = within from to b ss (let early : b.at ≤ to = grind (arith, nat_tests) in early) in
      let shorter : to - b.at ≤ to - from = omega arith in
      let less = mul-le-mul_left b.rate shorter in
      omega arith
  | false ↦ λ e. (let none = none_late from to b ss (let late : to < b.at = grind (arith, nat_tests) in late) in omega arith)
] refl

-- a call that counts no earlier than the first time, and all after it
bounded_from : (from to : ℕ) (b : Bucket) (s : Spending) (ss : List Spending) → IsStep b s → from ≤ time_of b s
    → ((if nat_le from (time_of b s) && nat_le (time_of b s) to then s.tokens else 0) + spent_between from to (spent b s.now s.tokens) ss) * billion
    ≤ b.most * billion + b.rate * (to - from)
bounded_from from to b s ss step since = elim (nat_le (time_of b s) to) as (λ q. nat_le (time_of b s) to ≡ q
    → ((if nat_le from (time_of b s) && q then s.tokens else 0) + spent_between from to (spent b s.now s.tokens) ss) * billion ≤ b.most * billion + b.rate * (to - from)) [
      | true ↦ λ e.
          let t : time_of b s ≤ to = grind (arith, nat_tests) in
          let some = step.some in
          let full = step.few in
          let few = counts_few (nat_le from (time_of b s) && true) s.tokens in
          let rest = within from to (spent b s.now s.tokens) ss t in
          let shorter : to - time_of b s ≤ to - from = omega arith in
          let less = mul-le-mul_left b.rate shorter in
          omega arith
      | false ↦ λ e.
          let t : to < time_of b s = grind (arith, nat_tests) in
          let none = counts_none (nat_le from (time_of b s)) false s.tokens refl in
          let rest = none_late from to (spent b s.now s.tokens) ss t in
          omega arith
    ] refl

pub bounded : (from to : ℕ) (b : Bucket) (ss : List Spending) → IsSound b → spent_between from to b ss * billion ≤ b.most * billion + b.rate * (to - from)
bounded from to b [] sound = omega arith
bounded from to b (s ∷ ss) sound =
    elim (is_done b s) as (λ d. is_done b s ≡ d
    → ((if d && (nat_le from (time_of b s) && nat_le (time_of b s) to) then s.tokens else 0) + spent_between from to (if d then spent b s.now s.tokens else b) ss) * billion
    ≤ b.most * billion + b.rate * (to - from)) [
      | true ↦ λ e. elim (nat_le from (time_of b s)) as (λ p. nat_le from (time_of b s) ≡ p
          → ((if p && nat_le (time_of b s) to then s.tokens else 0) + spent_between from to (spent b s.now s.tokens) ss) * billion ≤ b.most * billion + b.rate * (to - from)) [
            | true ↦ λ f.
                let since : from ≤ time_of b s = grind (arith, nat_tests) in
                let one = bounded_from from to b s ss (step_is b s e) since in
                rw f at one
            | false ↦ λ f. (let rest = bounded from to (spent b s.now s.tokens) ss (spent_sound b s) in omega arith)
          ] refl
      | false ↦ λ e. (let rest = bounded from to b ss sound in omega arith)
    ] refl

-- ---- a bucket after any calls

record Keeps (b c : Bucket) : Type 0 where
  pub sound : IsSound c
  pub same_rate : c.rate ≡ b.rate
  pub same_most : c.most ≡ b.most

all_keep : (b : Bucket) (ss : List Spending) → IsSound b → Keeps b (after_all b ss)
all_keep b [] sound = record { sound = sound; same_rate = refl; same_most = refl }
all_keep b (s ∷ ss) sound = elim (is_done b s) as (λ d. Keeps b (after_all (if d then spent b s.now s.tokens else b) ss)) [
  | true ↦ (let rest = all_keep (spent b s.now s.tokens) ss (spent_sound b s) in record { sound = rest.sound; same_rate = rest.same_rate; same_most = rest.same_most })
  | false ↦ all_keep b ss sound
]

full_level : (b : Bucket) (now : ℕ) → b.most * billion ≤ b.rate * (now - b.at) → level_at b now ≡ b.most * billion
full_level b now waited = min-eq_left (let all : b.most * billion ≤ b.level + b.rate * (now - b.at) = omega arith in all)

full_left : (b : Bucket) (now : ℕ) → b.most * billion ≤ b.rate * (now - b.at) → left b now ≡ b.most
full_left b now waited = ap (λ l. l / billion) (full_level b now waited) ∙ mul-div_cancel b.most (omega arith)

full_spend : (b : Bucket) (now : ℕ) → b.most * billion ≤ b.rate * (now - b.at) → spend_of b now b.most ≡ Ok (emptied b now)
full_spend b now waited =
    let fits : nat_le b.most (left b now) ≡ true = (let all = full_left b now waited in grind (arith, nat_tests)) in
    let none : level_at b now - b.most * billion ≡ 0 = (let all = full_level b now waited in omega arith) in
    rw fits (ap (λ l. Ok (record { rate = b.rate; most = b.most; level = l; at = max now b.at })) none)

abbrev led_to : ℕ → ℕ → ℕ → List Spending → Bucket
led_to rate most begin calls = after_all (begun rate most begin) calls

pub fills : (rate most begin now : ℕ) (calls : List Spending) → most * billion ≤ rate * (now - (led_to rate most begin calls).at) → left (led_to rate most begin calls) now ≡ most
fills rate most begin now calls waited =
    let keeps = all_keep (begun rate most begin) calls (begun_sound rate most begin) in
    full_left (led_to rate most begin calls) now (rw (keeps.same_rate, keeps.same_most) waited) ∙ keeps.same_most

pub spends : (rate most begin now : ℕ) (calls : List Spending) → most * billion ≤ rate * (now - (led_to rate most begin calls).at)
    → spend_of (led_to rate most begin calls) now most ≡ Ok (emptied (led_to rate most begin calls) now)
spends rate most begin now calls waited =
    let keeps = all_keep (begun rate most begin) calls (begun_sound rate most begin) in
    let same : (led_to rate most begin calls).most ≡ most = keeps.same_most in
    let one = full_spend (led_to rate most begin calls) now (rw (keeps.same_rate, keeps.same_most) waited) in
    subst (λ m. spend_of (led_to rate most begin calls) now m ≡ Ok (emptied (led_to rate most begin calls) now)) same one

-- when tokens were last taken there is what was left then
pub left_then : (b : Bucket) → IsSound b → left b b.at ≡ b.level / billion
left_then b sound =
    let none = ap (λ k. b.rate * k) (let same : b.at - b.at ≡ 0 = omega arith in same) in
    let zero : b.rate * 0 ≡ 0 = omega arith in
    let same : level_at b b.at ≡ b.level = omega arith in
    ap (λ l. l / billion) same
