use Rattle.std.proofs.Common.{◌≡◌, ◌∙◌, ◌++◌, ◌∷◌, [], ℕ, List, Vec, String, Global, ap, ap₂, sym, arith, map, take, get_or, string_bytes}
use Rattle.std.proofs.lemmas.List.{take_more}
use Rattle.coterie_file.specs.Reading.{quorum_of}
use Rattle.numbers.proofs.Lists.{map-push}
use Rattle.coterie_file.proofs.reading.sets_of.Goals as goal

pub loop-members-preserved : goal.loop-members-preserved
loop-members-preserved c =
    let quorums = c.args.quorums.now in
    let i = c.loop-members.members-index in
    let members = c.members-item.result in
    let set_in : Vec (String Global) Global → List ℕ = λ q. quorum_of (map (λ k. k.now) c.args.voters.now.keys) (map string_bytes q.items) in
    let made : c.set_of.result ≡ set_in (get_or quorums i members) =
    c.set_of.ensures ∙ ap (λ ms. quorum_of (map (λ k. k.now) c.args.voters.now.keys) (map string_bytes ms)) c.as_slice.ensures.value ∙ ap set_in c.members-item.is in
    c.in_ok-push.ensures.items ∙ ap₂ (λ sets set. sets ++ set ∷ []) c.loop-members.invariant made
    ∙ sym (ap (map set_in) (take_more quorums i members (omega arith)) ∙ map-push set_in (take i quorums) (get_or quorums i members))
