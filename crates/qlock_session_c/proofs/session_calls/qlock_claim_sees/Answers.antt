use Rattle.std.proofs.Common.{◌∙◌, ℤ, subst, sym, w32}
use Rattle.std.proofs.lemmas.Int.{to_z-of_z}
use Rattle.claims.specs.Claims.{saw}
use Rattle.session_blocks.specs.SessionSteps.{ClaimBecomes}
use Rattle.qlock_session_c.proofs.session_calls.qlock_claim_sees.Goals as goal

pub returns-clause-sees : goal.returns-clause-sees
returns-clause-sees c =
    subst (λ (r : ℤ). ClaimBecomes (λ d. saw d c.args.epoch) c.args.claim.now c.sees.new.claim r)
    (sym (to_z-of_z w32 c.number_of.result (record { sfits = c.number_of.type_inv }) ∙ c.number_of.ensures.number)) c.sees.ensures.sees
