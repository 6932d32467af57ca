use Rattle.std.proofs.Common.{List, length}
use Rattle.world_state.specs.Steps.{Dealing, WorldState}
use Rattle.progress.proofs.losses.Olds.{olds_most}
use Rattle.progress.proofs.shade.Shaded.{Runs, lets_everybody_in, lets_somebody_in, moves_somebody}
use Rattle.progress.proofs.invariants.Sure.{Course}
use Rattle.progress.specs.LiveRounds.{AreGone, AreLiveRounds, HasGrantsThere, Live, SparesLive}
use Rattle.progress.specs.Moves.{Move, moved, moves_of, of_moves}
use Rattle.leases.proofs.Resumed.{Relies, relies}
use Rattle.leases.proofs.again.rounds_come_back.Goals as goal

runs : (live : Live) (deal : Dealing) (w : WorldState) (rounds : List (List Move)) (g : Relies live deal w (moves_of rounds)) → AreLiveRounds of_moves live deal w rounds → AreGone live deal w (moves_of rounds)
    → SparesLive live deal w (moves_of rounds) → HasGrantsThere live 1 (moved deal (moves_of rounds) w) → Runs (record { deal = deal; old = g.old; live = live }) w rounds
runs live deal w rounds g fair gone spares left = record {
  was = g.covers.was;
  others = g.covers.others;
  base = g.covers.base;
  under = g.covers.under;
  passed = g.covers.passed;
  rests = g.covers.rests;
  few = g.covers.few;
  sure = g.covers.sure;
  live = fair;
  gone = gone;
  spares = spares;
  left = left;
}

pub returns-clause-moved : goal.returns-clause-moved
returns-clause-moved c live deal w client rounds r lives asks fair late gone spares left =
    let g = relies c.worlds_keep_their_rules.ensures c.parts_keep_their_rules.ensures.clients c.parts_keep_their_rules.ensures.voters live deal w (moves_of rounds) r in
    let p : Course = record { deal = deal; old = g.old; live = live } in
    moves_somebody c.worlds_keep_their_rules.ensures p w client (length w.voters) rounds (runs live deal w rounds g fair gone spares left) (olds_most p (length w.voters)) lives asks late

pub returns-clause-somebody : goal.returns-clause-somebody
returns-clause-somebody c live deal w client rounds more r lives asks fair stays gone spares left =
    let g = relies c.worlds_keep_their_rules.ensures c.parts_keep_their_rules.ensures.clients c.parts_keep_their_rules.ensures.voters live deal w (moves_of rounds) r in
    let p : Course = record { deal = deal; old = g.old; live = live } in
    lets_somebody_in c.worlds_keep_their_rules.ensures p w client (length w.voters) rounds more (runs live deal w rounds g fair gone spares left) (olds_most p (length w.voters)) lives asks stays

pub returns-clause-everybody : goal.returns-clause-everybody
unfolding runs
returns-clause-everybody c live deal w client rounds more r lives asks fair stays gone spares left =
    let g = relies c.worlds_keep_their_rules.ensures c.parts_keep_their_rules.ensures.clients c.parts_keep_their_rules.ensures.voters live deal w (moves_of rounds) r in
    let p : Course = record { deal = deal; old = g.old; live = live } in
    lets_everybody_in c.worlds_keep_their_rules.ensures p w client (length w.voters) rounds more (runs live deal w rounds g fair gone spares left) (olds_most p (length w.voters)) lives (g.covers.heeded client lives) asks stays
