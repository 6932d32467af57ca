use Rattle.std.proofs.Common.{◌∙◌, ℤ, subst, sym, w32}
use Rattle.std.proofs.lemmas.Int.{to_z-of_z}
use Rattle.vote_leases.specs.Leases.{given_back}
use Rattle.session_blocks.specs.SessionSteps.{VoteBecomes}
use Rattle.qlock_session_c.proofs.session_calls.qlock_vote_gives_back.Goals as goal

pub returns-clause-gives : goal.returns-clause-gives
returns-clause-gives c =
    subst (λ (r : ℤ). VoteBecomes (λ v. given_back v c.args.number) c.args.vote.now c.gives_back.new.vote r)
    (sym (to_z-of_z w32 c.number_of.result (record { sfits = c.number_of.type_inv }) ∙ c.number_of.ensures.number)) c.gives_back.ensures.gives
