use Rattle.std.proofs.Common.{◌≡◌, ℕ, ◌<◌, ◌≤◌, List, subst, inl, inr, arith}
use Rattle.std.specs.Prelude.{nat_le, true}
use Rattle.std.proofs.lemmas.Bool.Decides.{nat_tests}
use Rattle.passes.specs.Sessions.{WasUsedBefore}
use Rattle.sessions.specs.Rows.{IsOneOf, Use}
use Rattle.sessions.specs.Tables.{all_happen, start}
use Rattle.passes.proofs.laws.numbers_are_given_on.Goals as goal

-- such a stamp is at most a clock that is at or above each that was used before
few : (uses : List Use) (epoch clock stamp : ℕ) → ((u : Use) → IsOneOf u uses → u.epoch < epoch → u.stamp ≤ clock) → WasUsedBefore uses epoch stamp → stamp ≤ clock
few uses epoch clock stamp above was = elim was [
  | inl none ↦ omega arith
  | inr used ↦ subst (λ (s : ℕ). s ≤ clock) used.2 (above used.0 used.1 used.3)
]

tests : (stamp saved clock limit : ℕ) → stamp ≤ clock → clock ≤ limit → saved ≤ clock → (nat_le stamp clock ≡ true) × (nat_le clock limit ≡ true) × (nat_le saved clock ≡ true)
tests stamp saved clock limit a b c = (grind (arith, nat_tests), grind (arith, nat_tests), grind (arith, nat_tests))

pub returns : goal.returns
returns c rows quorums events quorum session epoch clock p meet may among begun live saved limit =
    let uses = (all_happen (start rows) events).uses in
    let above : ((u : Use) → IsOneOf u uses → u.epoch < epoch → u.stamp ≤ clock) = λ u one before. c.sessions_begin_above.ensures rows quorums events quorum session epoch clock u meet may among begun one before in
    let a = few uses epoch clock p.live.stamp above live in
    let b = few uses epoch clock p.saved.stamp above saved in
    let t = tests p.live.stamp p.saved.stamp clock p.live.limit a limit b in
    rw t.0 (rw t.1 t.2)
