use Rattle.std.proofs.Common.{◌≡◌, ◌*◌, ℕ, List, length, map, ap, subst, ◌∙◌}
use Rattle.quorum_set.specs.Capacities.{are_unit}
use Rattle.certificate.specs.Certificates.{Weighted, busiest_count, cycle_len}
use Rattle.dealer.specs.Accounts.{IsLeastBusiest, IsLeastRatio, IsWholeCycles, ratio_of_cycles}
use Rattle.run_outcome.specs.Entries.{Draw}
use Rattle.replay.specs.Records.{IsFound, IsSoundRecord, draws_on, entries_on, tickets_of}
use Rattle.replay.proofs.SoundLemmas.{IsFirstFault-IsFound, IsSoundRecord-no_fault, IsWholeCycles-tickets}
use Rattle.replay.proofs.check.check_record.Goals.{After-account}
use Rattle.replay.proofs.check.check_record.Goals as goal

pub returns-in-Some-clause-accepted : goal.returns-in-Some-clause-accepted
returns-in-Some-clause-accepted c = λ sound.
    IsSoundRecord-no_fault c.args.plan.now (entries_on c.args.side c.args.run.now) c.in-Some.fault sound
    (IsFirstFault-IsFound c.args.plan.now (entries_on c.args.side c.args.run.now) c.in-Some.fault
    (subst (λ (w : Weighted). IsFound w (entries_on c.args.side c.args.run.now) c.in-Some.fault) c.in-Ok.ensures.cycle c.in-Some.ensures))

pub returns-in-Some-clause-fault : goal.returns-in-Some-clause-fault
returns-in-Some-clause-fault c =
    IsFirstFault-IsFound c.args.plan.now (entries_on c.args.side c.args.run.now) c.in-Some.fault
    (subst (λ (w : Weighted). IsFound w (entries_on c.args.side c.args.run.now) c.in-Some.fault) c.in-Ok.ensures.cycle c.in-Some.ensures)

-- the tickets fill k cycles of the plan
whole : (c : After-account) (k : ℕ) → length (draws_on c.args.side c.args.run.now) ≡ k * cycle_len c.args.plan.now → IsWholeCycles c.in-Ok.cycle k c.deref-2.result.now
whole c k long =
    let plan = c.args.plan.now in
    let are = c.deref-2.ensures.value ∙ c.in_ok-tickets-2.ensures ∙ ap (λ (ds : List Draw). tickets_of ds) c.draws_on-2.ensures in
    let sound : IsSoundRecord plan (entries_on c.args.side c.args.run.now) = subst
    (λ (w : Weighted). IsSoundRecord w (entries_on c.args.side c.args.run.now)) c.in-Ok.ensures.cycle c.in_default.ensures in
    IsWholeCycles-tickets c.in-Ok.cycle plan (draws_on c.args.side c.args.run.now) c.deref-2.result.now k c.in-Ok.ensures.cycle are sound.tickets long

pub returns-clause-shares : goal.returns-clause-shares
returns-clause-shares c = λ k long.
    let fills = whole (goal.at.returns-clause-shares c).After-account k long in
    subst (λ (w : Weighted). c.in_ok-account.account.quorums ≡ map {A = ℕ} {B = ℕ} (λ weight. k * weight) w.quorum_weights) c.in-Ok.ensures.cycle (c.in_ok-account.ensures.shares k fills)

pub returns-clause-even : goal.returns-clause-even
returns-clause-even c = λ k long.
    let fills = whole (goal.at.returns-clause-even c).After-account k long in
    subst (λ (w : Weighted). c.in_ok-account.account.busiest ≡ k * busiest_count w) c.in-Ok.ensures.cycle (c.in_ok-account.ensures.even k fills)

pub returns-clause-ratio : goal.returns-clause-ratio
returns-clause-ratio c = λ k long.
    let fills = whole (goal.at.returns-clause-ratio c).After-account k long in
    subst (λ (w : Weighted). c.in_ok-account.account.ratio ≡ ratio_of_cycles w k) c.in-Ok.ensures.cycle (c.in_ok-account.ensures.ratio k fills)

pub returns-clause-least_ratio : goal.returns-clause-least_ratio
returns-clause-least_ratio c = λ k long.
    let fills = whole (goal.at.returns-clause-least_ratio c).After-account k long in
    subst (λ (w : Weighted). IsLeastRatio w c.in_ok-account.account.drawn c.in_ok-account.account.ratio) c.in-Ok.ensures.cycle (c.in_ok-account.ensures.least_ratio k fills)

pub returns-clause-least : goal.returns-clause-least
returns-clause-least c = λ k units long.
    let fills = whole (goal.at.returns-clause-least c).After-account k long in
    let given = ap (λ (w : Weighted). are_unit w.capacities) c.in-Ok.ensures.cycle ∙ units in
    subst (λ (w : Weighted). IsLeastBusiest w c.in_ok-account.account.drawn c.in_ok-account.account.busiest) c.in-Ok.ensures.cycle (c.in_ok-account.ensures.least k given fills)
