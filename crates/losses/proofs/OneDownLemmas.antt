-- The worst of what losses leave, with one voter more.
use Rattle.std.proofs.Common.{◌≡◌, ℕ, ◌+◌, ◌*◌, ◌<◌, false, eqb, ◌||◌, List, [], ◌∷◌, sym, refl, subst, ap, ◌∙◌, inl, inr, arith}
use Rattle.std.proofs.lemmas.Bool.{cases_eq, eq-eqb, ne_eqb, cases_lt}
use Rattle.std.proofs.Math.Nat.{mul-pos}
use Rattle.divisor.proofs.GcdLemmas.{lowest_terms-some}
use Rattle.numbers.specs.Sets.{has, IsSet}
use Rattle.numbers.proofs.SetLemmas.{Ascends-unique, has-above}
use Rattle.certificate.specs.Certificates.{Weighted, AreWeights, cycle_count}
use Rattle.certificate.specs.Ratios.{IsAtMost, greater_of}
use Rattle.certificate.proofs.RatioLemmas.{IsAtMost-trans, greater_of-cases, greatest_ratio-some}
use Rattle.failures.specs.Failures.{Bears}
use Rattle.losses.specs.Losses.{load_left, ratio_left, tickets_left, weights_left}
use Rattle.losses.specs.Worst.{IsWorstBelow, IsWorstLoad, Leaves}
use Rattle.losses.specs.declared.one_down.OneDown.TheVariants.{Load}

-- the load that is left has a divisor
pub load_left-some : (w : Weighted) (down : List ℕ) → AreWeights w → 0 < tickets_left down w → 0 < (load_left down w).1
load_left-some w down h left =
    let some = greatest_ratio-some w.system.voters w.capacities (cycle_count (weights_left down w)) h.capacities in
    lowest_terms-some (ratio_left down w).0 ((ratio_left down w).1 * tickets_left down w) (mul-pos some left)

module _ (w : Weighted) (n : ℕ) where
  -- what holds below n and at n holds below n + 1
  below : (P : ℕ → Type 0) → ((i : ℕ) → i < n → P i) → P n → (i : ℕ) → i < n + 1 → P i
  below P before at i lt =
      elim (cases_eq i n) as (λ _. P i) [
        | inl is ↦ subst P (sym is) at
        | inr off ↦ before i (omega arith)
      ]

  -- the worse of two loads
  pub worse-load : (other own : ℕ × ℕ) → AreWeights w → IsWorstBelow n w (Load other) → Leaves w n (Load own) → IsWorstBelow (n + 1) w (Load (greater_of other own))
  worse-load other own h before last =
      let pos_own : 0 < own.1 = subst (λ r. 0 < r.1) (sym last.1) (load_left-some w (n ∷ []) h last.0.ticket) in
      let found = before.reached in
      let pos_other : 0 < other.1 = subst (λ r. 0 < r.1) (sym found.2.1) (load_left-some w (found.0 ∷ []) h found.2.0.ticket) in
      let tickets = below (λ i. Bears w.system.quorums (i ∷ []) → 0 < tickets_left (i ∷ []) w) before.tickets (λ left. last.0.ticket) in
      elim (greater_of-cases other own) as (λ _. IsWorstLoad (n + 1) w (greater_of other own)) [
        | inl second ↦ subst (IsWorstLoad (n + 1) w) (sym second.0) (record {
          tickets = tickets;
          most = below (λ i. Bears w.system.quorums (i ∷ []) → IsAtMost (load_left (i ∷ []) w) own)
              (λ i lt left. IsAtMost-trans (load_left (i ∷ []) w) other own pos_other (before.most i lt left) second.1)
              (λ left. subst (λ r. IsAtMost r own) last.1 (omega arith));
          reached = (n, omega arith, last);
        })
        | inr first ↦ subst (IsWorstLoad (n + 1) w) (sym first.0) (record {
          tickets = tickets;
          most = below (λ i. Bears w.system.quorums (i ∷ []) → IsAtMost (load_left (i ∷ []) w) other) before.most
              (λ left. subst (λ r. IsAtMost r other) last.1 first.1);
          reached = (found.0, omega (arith, found.1), found.2);
        })
      ]

-- the set of one number
pub one_alone : (s : List ℕ) (v : ℕ) → v < 64 → IsSet s → ((i : ℕ) → i < 64 → has s i ≡ (eqb i v || has [] i)) → s ≡ v ∷ []
one_alone s v lt set members =
    Ascends-unique 0 64 s (v ∷ []) set (omega arith, lt, tt) (λ i.
    elim (cases_lt i 64) as (λ _. has s i ≡ has (v ∷ []) i) [
      | inl below ↦
          elim (cases_eq i v) as (λ _. has s i ≡ has (v ∷ []) i) [
            | inl at ↦ members i below ∙ ap (λ b. b || false) (eq-eqb i v at) ∙ sym (ap (λ b. b || false) (eq-eqb v i (sym at)))
            | inr off ↦ members i below ∙ ap (λ b. b || false) (ne_eqb i v off) ∙ sym (ap (λ b. b || false) (ne_eqb v i (λ at. off (sym at))))
          ]
      | inr above ↦ has-above 0 64 s i set above ∙ sym (ap (λ b. b || false) (ne_eqb v i (λ at. absurd (omega (arith, at, lt, above)))))
    ])
