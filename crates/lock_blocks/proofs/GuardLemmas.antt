-- What a guard returns and writes, by what it saw and the pass that it is shown.
use Rattle.std.proofs.Common.{◌≡◌, ℕ, ◌∷◌, List, Result, Ok, Err, refl, sym, ap, subst}
use Rattle.std.specs.Prelude.{◌+◌, ◌^◌, ◌<◌, ◌≤◌, ℤ}
use Rattle.std.proofs.lemmas.List.FromFn.{fill_by_all}
use Rattle.fence.specs.Passes.{Admits, HasGrant, Refuses, SeesAlso, highest_with}
use Rattle.fence.specs.Turns.{Raises, RaisesNone}
use Rattle.fence.specs.declared.fault.FenceFault.{FenceFault}
use Rattle.fence.specs.declared.fault.FenceFault.TheVariants as faults
use Rattle.lock_blocks.specs.Bytes.{AreGrants, IsGuard}
use Rattle.lock_blocks.specs.FenceSteps.{AdmitsPass, FenceAdmits, seen_with}
use Rattle.blocks.specs.Numbers.{done, fence_refusal, refused}
use Rattle.lock_blocks.proofs.StateLemmas.{length_grants, length_guard}

-- what `Fence::admit` ensures of its result
pub record Admitted (seen pass : List ℕ) (last : ℕ) (result : Result ℕ FenceFault) : Type 0 where
  pub older : Refuses seen pass → result ≡ Err faults.OlderGrant
  pub again : Admits seen pass → RaisesNone seen pass → result ≡ Ok last
  pub next : Admits seen pass → Raises seen pass → last + 1 < 2 ^ 64 → result ≡ Ok (last + 1)
  pub spent : Admits seen pass → Raises seen pass → 2 ^ 64 ≤ last + 1 → result ≡ Err faults.TurnsSpent

-- the same of the grants that the pass is made of, and of a result that is known
pub admitted-as : (seen shown pass : List ℕ) (last : ℕ) (result known : Result ℕ FenceFault) → pass ≡ shown → result ≡ known → Admitted seen pass last result → Admitted seen shown last known
admitted-as seen shown pass last result known same is does =
    subst (λ (r : Result ℕ FenceFault). Admitted seen shown last r) is (subst (λ (p : List ℕ). Admitted seen p last result) same does)

err_of : (e f : FenceFault) → ◌≡◌ {A = Result ℕ FenceFault} (Err e) (Err f) → e ≡ f
err_of e f is = cc

ok_of : (m n : ℕ) → ◌≡◌ {A = Result ℕ FenceFault} (Ok m) (Ok n) → m ≡ n
ok_of m n is = cc

not_ok : (e : FenceFault) (n : ℕ) → ◌≡◌ {A = Result ℕ FenceFault} (Err e) (Ok n) → ⊥
not_ok e n is = cc

-- a refused pass
pub refuses : (seen pass after : List ℕ) (last turn : ℕ) (fault : FenceFault) → Admitted seen pass last (Err fault) → AdmitsPass seen pass after last turn (refused (fence_refusal fault))
refuses seen pass after last turn fault is = record {
  older = λ h. ap (λ f. refused (fence_refusal f)) (err_of fault faults.OlderGrant (is.older h));
  again = λ a n. absurd (not_ok fault last (is.again a n));
  next = λ a r room. absurd (not_ok fault (last + 1) (is.next a r room));
  spent = λ a r full. ap (λ f. refused (fence_refusal f)) (err_of fault faults.TurnsSpent (is.spent a r full));
}

-- an admitted pass
pub admits : (seen pass after later : List ℕ) (last turn : ℕ) → Admitted seen pass last (Ok turn) → SeesAlso seen pass later → IsGuard after later turn → AdmitsPass seen pass after last turn done
admits seen pass after later last turn is sees guard =
    let all : later ≡ seen_with seen pass = fill_by_all (highest_with seen pass) later 64 0 guard.places (λ v few. sees v few) in
    let now : (n : ℕ) → turn ≡ n → IsGuard after (seen_with seen pass) n = λ n same. subst (λ (k : ℕ). IsGuard after (seen_with seen pass) k) same (subst (λ (l : List ℕ). IsGuard after l turn) all guard) in
    record {
      older = λ h. absurd (not_ok faults.OlderGrant turn (sym (is.older h)));
      again = λ a n. (let same = ok_of turn last (is.again a n) in (refl, same, now last same));
      next = λ a r room. (let same = ok_of turn (last + 1) (is.next a r room) in (refl, same, now (last + 1) same));
      spent = λ a r full. absurd (not_ok faults.TurnsSpent turn (sym (is.spent a r full)));
    }

module _ (before shown after : List ℕ) (turn : ℕ) where
  pub admits-pass : (seen pass : List ℕ) (last : ℕ) (result : ℤ) → IsGuard before seen last → ((s : List ℕ) (l : ℕ) → IsGuard before s l → l ∷ s ≡ last ∷ seen)
      → AreGrants shown pass → ((others : List ℕ) → AreGrants shown others → others ≡ pass) → HasGrant pass → AdmitsPass seen pass after last turn result → FenceAdmits before shown after turn result
  admits-pass seen pass last result is one are only some does = record {
    no_guard = λ no. absurd (no (length_guard before seen last is));
    no_grants = λ _ no. absurd (no (length_grants shown pass are));
    no_pass = λ s p l _ given none. absurd (none (subst HasGrant (sym (only p given)) some));
    admits = λ s p l was given _.
        let both = one s l was in
        let same_last : l ≡ last = cc in
        let same_seen : s ≡ seen = cc in
        subst (λ (k : List ℕ). AdmitsPass k p after l turn result) (sym same_seen)
        (subst (λ (k : ℕ). AdmitsPass seen p after k turn result) (sym same_last)
        (subst (λ (k : List ℕ). AdmitsPass seen k after last turn result) (sym (only p given)) does));
  }
