use Rattle.std.proofs.Common.{length, refl, arith}
use Rattle.progress.specs.LiveRounds.{everybody}
use Rattle.progress.proofs.losses.Olds.{no_olds}
use Rattle.progress.proofs.invariants.Sure.{IsSure-reached, course_of}
use Rattle.progress.proofs.rounds.WaysIn.{alone_gets_in}
use Rattle.progress.proofs.laws.who_asks_alone_gets_in.Goals as goal

pub returns : goal.returns
returns c w client reached asks left =
    let laws = c.worlds_keep_their_rules.ensures in
    let p = course_of everybody w in
    let none = no_olds p (length w.state.voters) w.state (λ v. refl) in
    alone_gets_in laws p w.state client 1 (λ c. refl) (λ v. refl) (λ v. omega arith) (IsSure-reached laws everybody w reached) asks (omega arith) left
