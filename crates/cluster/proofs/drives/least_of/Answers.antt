use Rattle.std.proofs.Common.{◌++◌, ◌∷◌, [], List, sym, ap, ◌∙◌, subst, take}
use Rattle.std.proofs.lemmas.List.{take_all, take_more}
use Rattle.cluster.specs.Drives.{IsLeastOf}
use Rattle.members.specs.Members.{MemberState}
use Rattle.cluster.proofs.drives.least_of.Goals as goal

pub loop-member-preserved : goal.loop-member-preserved
loop-member-preserved g c =
    let i = c.loop-member.member-index in
    let members = c.args.members.now in
    let item = c.member-item.result in
    let whole = ap (λ (m : MemberState). take i members ++ m ∷ []) c.member-item.is ∙ sym (take_more members i item c.loop-member-test.true) in
    subst (λ (l : List MemberState). IsLeastOf l c.least_with-least.result) whole (c.least_with-least.ensures (take i members) c.loop-member.invariant)

pub returns : goal.returns
returns g c =
    let i = c.loop-member.member-index in
    subst (λ (l : List MemberState). IsLeastOf l c.loop-member.least) (take_all i c.args.members.now c.loop-member-test.false) c.loop-member.invariant
