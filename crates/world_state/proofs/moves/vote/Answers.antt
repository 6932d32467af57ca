use Rattle.std.proofs.Common.{◌≡◌, ap, sym, ◌∙◌, refl, get_or, Some, None, []}
use Rattle.std.specs.Prelude.{OnOk}
use Rattle.voter.specs.declared.fault.VoterFault.{VoterFault}
use Rattle.voter.specs.declared.state.VoterState.{VoterState}
use Rattle.voter.specs.Steps.{start, step}
use Rattle.world_state.specs.Steps.{voter_at}
use Rattle.world_state.proofs.Items.{moved_at, others_at, refused_at, seen_at}
use Rattle.world_state.proofs.moves.vote.Goals as goal

pub take_into-requires-clause-voter : goal.take_into-requires-clause-voter
unfolding voter_at
take_into-requires-clause-voter c =
    sym c.requires.id ∙ ap (λ (a : VoterState). a.id) (seen_at (start 0 1) (λ a. a ≡ get_or c.args.voters.now c.from.result c.index-voters-from.result) c.args.voters.now
    c.from.result c.args.message.now.voter
    c.index-voters-from.result c.from.ensures c.requires.voter c.index-voters-from.is refl)

pub returns-clause-taken : goal.returns-clause-taken
unfolding voter_at
returns-clause-taken c =
    moved_at (start 0 1) (λ a b. OnOk c.take_into.result (step a c.args.message.now ≡ Some (record { replies = c.take_into.new.replies.items; state = b })))
    c.args.voters.now c.from.result c.args.message.now.voter c.index-voters-from.result c.take_into.new.self c.from.ensures c.requires.voter c.index-voters-from.is c.take_into.ensures.taken

pub returns-clause-refused : goal.returns-clause-refused
unfolding voter_at
returns-clause-refused c =
    refused_at (start 0 1) (λ (a : VoterState) (fault : VoterFault). step a c.args.message.now ≡ None) (c.take_into.new.replies.items ≡ []) c.take_into.result
    c.args.voters.now c.from.result c.args.message.now.voter c.index-voters-from.result c.take_into.new.self c.from.ensures c.requires.voter c.index-voters-from.is c.take_into.ensures.refused

pub returns-clause-others : goal.returns-clause-others
unfolding voter_at
returns-clause-others c = others_at (start 0 1) c.args.voters.now c.from.result c.args.message.now.voter c.take_into.new.self c.from.ensures c.requires.voter
