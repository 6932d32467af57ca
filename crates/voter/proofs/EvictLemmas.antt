-- a grant that is let go
use Rattle.std.proofs.Common.{◌≡◌, ℕ, true, false, cond, eqb, Option, Some, None, ap, ◌∙◌, arith}
use Rattle.std.proofs.lemmas.Bool.Decides.{nat_tests}
use Rattle.voter.specs.declared.state.Grant.{Grant}
use Rattle.voter.specs.declared.state.VoterState.{VoterState}
use Rattle.voter.specs.Leases.{evict, evict_held, release_of}
use Rattle.voter.specs.Steps.{no_reply, step}

evict-by : (v : VoterState) (o : Option Grant) (n : ℕ) → v.held ≡ o → evict v n ≡ evict_held o v n
evict-by v o n is = ap (λ (h : Option Grant). evict_held h v n) is

pub evict-current : (v : VoterState) (g : Grant) (n : ℕ) → v.held ≡ Some g → g.grant ≡ n → evict v n ≡ step v (release_of v g)
evict-current v g n is same =
    let e : eqb g.grant n ≡ true = grind (arith, nat_tests) in
    evict-by v (Some g) n is ∙ ap (λ b. cond b (step v (release_of v g)) (Some (no_reply v))) e

pub evict-other : (v : VoterState) (g : Grant) (n : ℕ) → v.held ≡ Some g → (g.grant ≡ n → ⊥) → evict v n ≡ Some (no_reply v)
evict-other v g n is other =
    let e : eqb g.grant n ≡ false = grind (arith, nat_tests) in
    evict-by v (Some g) n is ∙ ap (λ b. cond b (step v (release_of v g)) (Some (no_reply v))) e

pub evict-none : (v : VoterState) (n : ℕ) → v.held ≡ None → evict v n ≡ Some (no_reply v)
evict-none v n is = evict-by v None n is
