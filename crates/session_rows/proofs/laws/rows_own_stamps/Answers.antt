use Rattle.std.proofs.Common.{subst}
use Rattle.sessions.specs.Rows.{AreOnce, Voter, begin}
use Rattle.session_rows.proofs.Deeds.{turns_lead}
use Rattle.session_rows.proofs.laws.rows_own_stamps.Goals as goal

pub returns : goal.returns
returns c row turns =
    let leads = turns_lead (begin row) turns in
    subst (λ (v : Voter). AreOnce v.took) leads.there (c.voters_own_stamps.ensures row leads.deeds)
