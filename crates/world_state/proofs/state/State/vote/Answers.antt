use Rattle.std.proofs.Common.{◌≡◌, ◌++◌, List, Err, subst, refl, ap, map, ◌∙◌}
use Rattle.std.specs.Prelude.{MatchBool}
use Rattle.std.specs.Vec.{with_items}
use Rattle.message.specs.declared.message.ToClient.{ToClient}
use Rattle.message.specs.declared.message.Message.{Message}
use Rattle.message.specs.declared.message.Message.TheVariants as kinds
use Rattle.voter.specs.declared.fault.VoterFault.{VoterFault}
use Rattle.voter.specs.declared.fault.VoterFault.TheVariants.{GrantsSpent}
use Rattle.voter.specs.declared.state.Effect.{Effect}
use Rattle.voter.specs.declared.state.VoterState.{VoterState}
use Rattle.world_state.specs.declared.fault.WorldFault.TheVariants as faults
use Rattle.world_state.specs.States.{contents_of}
use Rattle.world_state.proofs.Acts.{vote-not_voted, vote-Ok, vote-without_room, with_items-items}
use Rattle.world_state.proofs.Refused.{refuses}
use Rattle.world_state.proofs.state.State.vote.Goals as goal

-- there is one fault of voters
spent : (fault : VoterFault) → GrantsSpent ≡ fault
spent GrantsSpent = refl

pub returns-then-not-room : goal.returns-then-not-room
returns-then-not-room c = (
  vote-without_room (contents_of c.args.self.now) c.deref.result.now c.voter_of-voter.result.now c.args.message.now c.without_room_at.result c.deref.ensures.value c.voter_of-voter.ensures
      (subst (λ (e : Effect). MatchBool e.refused (c.without_room_at.result ≡ faults.Voter GrantsSpent) (c.without_room_at.result ≡ faults.OutOfMemory)) c.effect.ensures
      c.without_room_at.ensures),
  refl,
)

pub returns-in-Ok : goal.returns-in-Ok
returns-in-Ok c =
    let voters = (with_items c.args.self.now.voters c.vote.new.voters).items in
    vote-Ok (contents_of c.args.self.now) c.deref_mut.result.now c.vote.new.voters voters c.args.message.now c.vote.new.replies.items c.len.result _ c.deref_mut.ensures.value
    c.in-Ok.ensures.taken c.in-Ok.ensures.others (with_items-items c.args.self.now.voters c.deref_mut.result.now c.vote.new.voters c.args.message.now.voter _
    c.deref_mut.ensures.value c.in-Ok.ensures.others)
    c.len.ensures.value
    (ap (λ (l : List Message). record (contents_of c.args.self.now) { voters = voters; sent = l })
    (c.send_to_clients.ensures ∙ ap (λ (l : List ToClient). c.args.self.now.sent.items ++ map kinds.ToClient l) c.as_slice.ensures.value))

pub returns-in-Err : goal.returns-in-Err
returns-in-Err c = (
  refuses _ _ (vote-not_voted (contents_of c.args.self.now) c.deref_mut.result.now c.args.message.now c.deref_mut.ensures.value c.in-Err.ensures.refused.0
      ∙ ap (λ (fault : VoterFault). Err (faults.Voter fault)) (spent c.in-Err.fault)),
  ap (λ (l : List VoterState). record (contents_of c.args.self.now) { voters = l })
      (with_items-items c.args.self.now.voters c.deref_mut.result.now c.vote.new.voters c.args.message.now.voter _ c.deref_mut.ensures.value c.in-Err.ensures.others
      ∙ c.in-Err.ensures.refused.1 ∙ c.deref_mut.ensures.value),
)
