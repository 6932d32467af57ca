-- Sets of voters that are down, voter by voter.
use Rattle.std.proofs.Common.{◌≡◌, ℕ, ◌+◌, ◌<◌, ◌≤◌, Bool, true, false, not, cond, eqb, ◌||◌, List, [], ◌∷◌, ◌++◌, length, get_or, sum, sym, refl, ap, ap₂, subst, ◌∙◌, arith}
use Rattle.std.specs.List.{All}
use Rattle.std.proofs.Common.{inl, inr}
use Rattle.std.proofs.lemmas.Bool.{cases_lt, eq-eqb, eqb-true, ne_eqb}
use Rattle.std.proofs.lemmas.List.{append-nil}
use Rattle.std.proofs.lemmas.List.Elements.{All-cons, All-nil}
use Rattle.numbers.specs.Sets.{has, meet, Ascends, IsSet}
use Rattle.numbers.proofs.Meetings.{meet-common, meet-from}
use Rattle.numbers.proofs.SetLemmas.{Ascends-all_below, has-above, has-append}
use Rattle.certificate.specs.Certificates.{Weighted}
use Rattle.failures.specs.Failures.{Bears}
use Rattle.losses.specs.Losses.{BearsLosses, KeepTickets, KeepsTicket, each_left}

-- tests that pass in the same cases
both_ways : (a b : Bool) → (a ≡ true → b ≡ true) → (b ≡ true → a ≡ true) → a ≡ b
both_ways true b there back = sym (there refl)
both_ways false true there back = back refl
both_ways false false there back = refl

-- the same members
module _ (p q : List ℕ) (same : (i : ℕ) → has p i ≡ has q i) where
  meet-same : (s : List ℕ) → meet p s ≡ meet q s
  meet-same s = both_ways (meet p s) (meet q s)
      (λ e. let found = meet-common p s e in meet-from q s found.0 (sym (same found.0) ∙ found.1) found.2)
      (λ e. let found = meet-common q s e in meet-from p s found.0 (same found.0 ∙ found.1) found.2)

  each_left-same : (qs : List (List ℕ)) (ws : List ℕ) → each_left p qs ws ≡ each_left q qs ws
  each_left-same [] ws = refl
  each_left-same (s ∷ qs) [] = refl
  each_left-same (s ∷ qs) (a ∷ ws) = ap₂ (λ (b : Bool) (rest : List ℕ). cond (not b) a 0 ∷ rest) (meet-same s) (each_left-same qs ws)

  pub KeepsTicket-same : (w : Weighted) → KeepsTicket w p → KeepsTicket w q
  KeepsTicket-same w keeps left =
      let own : Bears w.system.quorums p = (left.0, left.1, meet-same (get_or w.system.quorums left.0 []) ∙ left.2) in
      subst (λ l. 0 < sum l) (each_left-same w.system.quorums w.quorum_weights) (keeps own)

-- one of several tests, in another order
moved : (a b c : Bool) → (a || b) || c ≡ b || (a || c)
moved true true c = refl
moved true false c = refl
moved false b c = refl

-- one voter more, in front or in the set
module _ (more down : List ℕ) (v : ℕ) (lt : v < 64) (set : IsSet more) (before : IsSet down)
    (members : (i : ℕ) → i < 64 → has more i ≡ (eqb i v || has down i)) where
  one_more : (i : ℕ) → has more i ≡ (eqb v i || has down i)
  one_more i =
      elim (cases_lt i 64) [
        | inl below ↦ members i below ∙ ap (λ b. b || has down i) (turned i v)
        | inr above ↦ has-above 0 64 more i set above ∙ sym (ap₂ (λ a b. a || b) (ne_eqb v i (λ is. absurd (omega arith))) (has-above 0 64 down i before above))
      ]
    where
      turned : (i v : ℕ) → eqb i v ≡ eqb v i
      turned i v = both_ways (eqb i v) (eqb v i) (λ e. eq-eqb v i (sym (eqb-true i v e))) (λ e. eq-eqb i v (sym (eqb-true v i e)))

  front : (ys : List ℕ) (i : ℕ) → has ((v ∷ ys) ++ down) i ≡ has (ys ++ more) i
  front ys i =
      has-append (v ∷ ys) down i ∙ moved (eqb v i) (has ys i) (has down i)
      ∙ ap (λ b. has ys i || b) (sym (one_more i)) ∙ sym (has-append ys more i)

  pub KeepsTicket-front : (w : Weighted) (ys : List ℕ) → KeepsTicket w (ys ++ more) → KeepsTicket w ((v ∷ ys) ++ down)
  KeepsTicket-front w ys = KeepsTicket-same (ys ++ more) ((v ∷ ys) ++ down) (λ i. sym (front ys i)) w

  pub KeepsTicket-set : (w : Weighted) (ys : List ℕ) → KeepsTicket w ((v ∷ ys) ++ down) → KeepsTicket w (ys ++ more)
  KeepsTicket-set w ys = KeepsTicket-same ((v ∷ ys) ++ down) (ys ++ more) (front ys) w

-- The sets with one of these voters as their first one have been looked at.
abbrev pub AreKept : Weighted → List ℕ → ℕ → ℕ → ℕ → Type 0
AreKept w down first last more =
    (x : ℕ) (ys : List ℕ) → first ≤ x → x < last → Ascends (x + 1) w.system.voters ys → length ys < more → KeepsTicket w ((x ∷ ys) ++ down)

pub KeepTickets-all : (w : Weighted) (down : List ℕ) (first last more : ℕ) → w.system.voters ≤ last → KeepsTicket w down → AreKept w down first last more → KeepTickets w down first more
KeepTickets-all w down first last more end own kept [] up few = own
KeepTickets-all w down first last more end own kept (x ∷ ys) up few = kept x ys up.0 (omega (arith, up.1, end)) up.2 (omega (arith, few))

pub KeepTickets-none : (w : Weighted) (down : List ℕ) (first : ℕ) → KeepsTicket w down → KeepTickets w down first 0
KeepTickets-none w down first own [] up few = own
KeepTickets-none w down first own (x ∷ ys) up few = absurd (omega (arith, few))

-- All sets of voters

Ascends-higher : (low a b : ℕ) (s : List ℕ) → a ≤ b → Ascends low a s → Ascends low b s
Ascends-higher low a b [] le up = up
Ascends-higher low a b (x ∷ xs) le up = (up.0, omega (arith, up.1, le), Ascends-higher (x + 1) a b xs le up.2)

All-Ascends : (low n : ℕ) (s : List ℕ) → Ascends low n s → All (λ i. i < n) s
All-Ascends low n [] up = All-nil (λ i. i < n)
All-Ascends low n (x ∷ xs) up = All-cons (λ i. i < n) x xs up.1 (All-Ascends (x + 1) n xs up.2)

pub BearsLosses-all : (w : Weighted) (f : ℕ) → KeepTickets w [] 0 f → BearsLosses f w
BearsLosses-all w f kept down set voters few =
    subst (KeepsTicket w) (append-nil down) (kept down (Ascends-all_below 0 64 w.system.voters down set voters) few)

pub all-BearsLosses : (w : Weighted) (f : ℕ) → w.system.voters ≤ 64 → BearsLosses f w → KeepTickets w [] 0 f
all-BearsLosses w f small bears others up few =
    subst (KeepsTicket w) (sym (append-nil others))
    (bears others (Ascends-higher 0 w.system.voters 64 others small up) (All-Ascends 0 w.system.voters others up) few)
