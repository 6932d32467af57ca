use Rattle.std.proofs.Common.{ap, subst, sym, ◌∙◌, ◌≤◌}
use Rattle.lease_clock.specs.Clocks.{Clock, from_number, lost}
use Rattle.lease_clock.proofs.ClockLemmas.{found_sound}
use Rattle.lease_clock.proofs.clock.LeaseClock.returns.Goals as goal

pub lost-requires : goal.lost-requires
lost-requires c =
    let found = found_sound _ c.args.number _ _ c.self.invariant (ap (from_number c.args.number) (sym c.as_slice.ensures.value) ∙ c.in-Some.ensures.found) in
    subst (λ (d : Clock). d.back.left ≤ c.in-Some.found.marker.left) c.self.view_is found.left

pub invariant_of-self : goal.invariant_of-self
invariant_of-self c =
    let found = found_sound _ c.args.number _ _ c.self.invariant (ap (from_number c.args.number) (sym c.as_slice.ensures.value) ∙ c.in-Some.ensures.found) in
    let is = c.lost.ensures ∙ ap (λ (d : Clock). lost d c.in-Some.found.marker) (sym c.self.view_is) in
    rw is found.sound
