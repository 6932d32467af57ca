use Rattle.std.proofs.Common.{arith, rules}
use Rattle.numbers.specs.Sets.{IsSet}
use Rattle.quorum_set.proofs.MaskLemmas.{IsSet-members_of, length-taken, members_of-taken_more, members_of-taken_all}
use Rattle.quorum_set.proofs.qset.QSet.members.Goals as goal

pub push-requires : goal.push-requires
push-requires c =
    let set : IsSet c.args.self.now = rw (← c.self.view_is) (IsSet-members_of c.self.inside.bits) in
    (search rules, length-taken c.taking.members.items c.args.self.now c.taking.rest (omega arith) (search rules) set c.taking.invariant)

pub taking-preserved : goal.taking-preserved
taking-preserved c = rw c.push.ensures.items (members_of-taken_more c.taking.members.items c.args.self.now c.taking.rest (omega arith) (search rules) c.taking.invariant)

pub returns-clause-value : goal.returns-clause-value
returns-clause-value c = members_of-taken_all c.taking.members.items c.args.self.now c.taking.rest (omega arith) c.taking.invariant

pub returns-clause-set : goal.returns-clause-set
returns-clause-set c = rw (← c.self.view_is) (IsSet-members_of c.self.inside.bits)
