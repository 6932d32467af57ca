-- How a member waits.
use Rattle.std.proofs.Common.{◌≡◌, inl, inr, ◌⊎◌, ℕ, zero, suc, ◌+◌, ◌/◌, ◌^◌, ◌<◌, ◌≤◌, Bool, true, false, refl, ap, ◌∙◌, min, nat_le, arith}
use Rattle.std.proofs.lemmas.Bool.Decides.{nat_tests}
use Rattle.members.specs.Losses.{LosesAtLeast}
use Rattle.cluster.specs.declared.patience.Step.{Step}
use Rattle.cluster.specs.declared.patience.Step.TheVariants.{Look, Yield, Sleep, Remind}
use Rattle.cluster.specs.Patience.{PatienceState, Waited, with_yield}

some_up_to : (k : ℕ) → k ≤ 5 → 0 < 32 / 2 ^ k
some_up_to zero few = omega arith
some_up_to (suc zero) few = omega arith
some_up_to (suc (suc zero)) few = omega arith
some_up_to (suc (suc (suc zero))) few = omega arith
some_up_to (suc (suc (suc (suc zero)))) few = omega arith
some_up_to (suc (suc (suc (suc (suc zero))))) few = omega arith
some_up_to (suc (suc (suc (suc (suc (suc k)))))) few = absurd (omega (arith, few))

pub some_looks : (reminders least : ℕ) → least ≡ min reminders 5 → 0 < 32 / 2 ^ least
some_looks reminders least is = some_up_to least (omega (arith, is))

pub starved_test : (a b : ℕ) → nat_le a b ≡ true → a ≤ b
starved_test a b is = grind (arith, nat_tests)

-- A wait

starved-with_yield : (long : Bool) (p : PatienceState) → (with_yield long p).starved ≡ p.starved
starved-with_yield true p = refl
starved-with_yield false p = refl

yielded_starved : (p after : PatienceState) → (after ≡ with_yield true p) ⊎ (after ≡ with_yield false p) → after.starved ≡ p.starved
yielded_starved p after (inl e) = ap (λ (x : PatienceState). x.starved) e ∙ starved-with_yield true p
yielded_starved p after (inr e) = ap (λ (x : PatienceState). x.starved) e ∙ starved-with_yield false p

-- no loss is forgotten
pub lost-Waited : (s : Step) (p after : PatienceState) (lost now : ℕ) → Waited s p after lost now → lost ≤ now
lost-Waited Look p after lost now w = omega (arith, w.1)
lost-Waited Yield p after lost now w = omega (arith, w.1)
lost-Waited Sleep p after lost now w = omega (arith, w.1)
lost-Waited Remind p after lost now (inl w) = w.1.0
lost-Waited Remind p after lost now (inr w) = w.1

-- the reminders that found no memory are at most one more
pub starved-Waited : (s : Step) (p after : PatienceState) (lost now : ℕ) → Waited s p after lost now → after.starved ≤ p.starved + 1
starved-Waited Look p after lost now w = omega (arith, ap (λ (x : PatienceState). x.starved) w.0)
starved-Waited Yield p after lost now w = omega (arith, yielded_starved p after w.0)
starved-Waited Sleep p after lost now w = omega (arith, ap (λ (x : PatienceState). x.starved) w.0)
starved-Waited Remind p after lost now (inl w) = omega (arith, ap (λ (x : PatienceState). x.starved) w.0)
starved-Waited Remind p after lost now (inr w) = omega (arith, ap (λ (x : PatienceState). x.starved) w.0)

-- each of them lost a message
pub LosesAtLeast-Waited : (s : Step) (p after : PatienceState) (start lost now : ℕ) → Waited s p after lost now → LosesAtLeast p.starved start lost → LosesAtLeast after.starved start now
LosesAtLeast-Waited Look p after start lost now w before = (omega (arith, w.1, before.0), omega (arith, w.1, before.1, ap (λ (x : PatienceState). x.starved) w.0))
LosesAtLeast-Waited Yield p after start lost now w before = (omega (arith, w.1, before.0), omega (arith, w.1, before.1, yielded_starved p after w.0))
LosesAtLeast-Waited Sleep p after start lost now w before = (omega (arith, w.1, before.0), omega (arith, w.1, before.1, ap (λ (x : PatienceState). x.starved) w.0))
LosesAtLeast-Waited Remind p after start lost now (inl w) before =
    (omega (arith, w.1.0, before.0), omega (arith, w.1.0, w.1.1, before.0, before.1, ap (λ (x : PatienceState). x.starved) w.0))
LosesAtLeast-Waited Remind p after start lost now (inr w) before = (omega (arith, w.1, before.0), omega (arith, w.1, before.0, ap (λ (x : PatienceState). x.starved) w.0))
