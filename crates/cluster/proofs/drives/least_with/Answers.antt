use Rattle.std.proofs.Common.{◌++◌, ◌∷◌, [], ◌∙◌, sym, subst, arith}
use Rattle.cluster.specs.Drives.{IsLeastOf}
use Rattle.cluster.proofs.LeastLemmas.{IfSome-fact, IsLeast-first, IsLeast-later, IsLeast-smaller, IsLeastOf-fine}
use Rattle.cluster.proofs.drives.least_with.Goals as goal

pub returns-in_default : goal.returns-in_default
returns-in_default g c = λ members is. IsLeastOf-fine members c.args.member.now c.args.least (sym c.fault.ensures ∙ c.in_default.is) is

pub returns-in-None : goal.returns-in-None
returns-in-None g c = λ members is.
    IsLeast-first members c.args.member.now c.client.result c.in-Some.fault c.client.ensures.value (sym c.fault.ensures ∙ c.in-Some.is) (subst (IsLeastOf members) c.in-None.is is)

pub returns-in-Some-least : goal.returns-in-Some-least
returns-in-Some-least g c = λ members is.
    let least = c.in-Some-least in
    IsLeast-smaller members c.args.member.now c.client.result least.client c.in-Some.fault least.field-0-1 c.client.ensures.value (sym c.fault.ensures ∙ c.in-Some.is)
    (omega (arith, c.if-client.true, c.client.ensures.value, c.client-in-Some-least.ensures.value)) (subst (IsLeastOf members) least.is is)

pub returns-in-Some-2 : goal.returns-in-Some-2
returns-in-Some-2 g c = λ members is.
    let least = c.in-Some-least in
    let m = c.args.member.now in
    subst (IsLeastOf (members ++ m ∷ [])) (sym least.is)
    (IsLeast-later members m least.client least.field-0-1 (subst (IsLeastOf members) least.is is)
    (IfSome-fact m.fault (omega (arith, c.if-client.false, c.client-in-Some-least.ensures.value))))
