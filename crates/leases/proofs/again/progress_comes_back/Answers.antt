use Rattle.std.proofs.Common.{◌+◌, length, refl, arith}
use Rattle.progress.proofs.overtaking.Counting.{nobody_overtakes}
use Rattle.progress.proofs.run.Exchanges.{comes_back, goes_on}
use Rattle.progress.proofs.losses.Olds.{olds_most}
use Rattle.progress.proofs.invariants.Sure.{Course}
use Rattle.progress.specs.LiveRounds.{everybody}
use Rattle.progress.proofs.rounds.WaysIn.{alone_gets_in, everybody_gets_in, somebody_gets_in}
use Rattle.leases.proofs.Resumed.{kept_again, resumes}
use Rattle.leases.proofs.again.progress_comes_back.Goals as goal

pub returns-clause-overtaken : goal.returns-clause-overtaken
returns-clause-overtaken c deal w client other steps more r = nobody_overtakes c.worlds_keep_their_rules.ensures deal w client other steps more
    (kept_again c.worlds_keep_their_rules.ensures c.parts_keep_their_rules.ensures.clients c.parts_keep_their_rules.ensures.voters deal w r)

pub returns-clause-lost : goal.returns-clause-lost
returns-clause-lost c deal w voter grant r = comes_back c.worlds_keep_their_rules.ensures deal w voter grant
    (kept_again c.worlds_keep_their_rules.ensures c.parts_keep_their_rules.ensures.clients c.parts_keep_their_rules.ensures.voters deal w r)

pub returns-clause-returned : goal.returns-clause-returned
returns-clause-returned c deal w voter grant r = goes_on c.worlds_keep_their_rules.ensures deal w voter grant
    (kept_again c.worlds_keep_their_rules.ensures c.parts_keep_their_rules.ensures.clients c.parts_keep_their_rules.ensures.voters deal w r)

pub returns-clause-alone : goal.returns-clause-alone
returns-clause-alone c deal w client r asks left =
    let again = resumes c.worlds_keep_their_rules.ensures c.parts_keep_their_rules.ensures.clients c.parts_keep_their_rules.ensures.voters deal w r in
    let p : Course = record { deal = deal; old = again.old; live = everybody } in
    let most = olds_most p (length w.voters) w in
    alone_gets_in c.worlds_keep_their_rules.ensures p w client (length w.voters + 1) (λ d. refl) (λ v. refl) again.few again.sure asks (omega arith) left

pub returns-clause-somebody : goal.returns-clause-somebody
returns-clause-somebody c deal w client r asks free left =
    let again = resumes c.worlds_keep_their_rules.ensures c.parts_keep_their_rules.ensures.clients c.parts_keep_their_rules.ensures.voters deal w r in
    let p : Course = record { deal = deal; old = again.old; live = everybody } in
    let most = olds_most p (length w.voters) w in
    somebody_gets_in c.worlds_keep_their_rules.ensures p w client (length w.voters + 1) (λ d. refl) (λ v. refl) again.few again.sure asks free (omega arith) left

pub returns-clause-everybody : goal.returns-clause-everybody
returns-clause-everybody c deal w client r asks left =
    let again = resumes c.worlds_keep_their_rules.ensures c.parts_keep_their_rules.ensures.clients c.parts_keep_their_rules.ensures.voters deal w r in
    let p : Course = record { deal = deal; old = again.old; live = everybody } in
    let most = olds_most p (length w.voters) w in
    everybody_gets_in c.worlds_keep_their_rules.ensures p w client (length w.clients + length w.voters) (λ d. refl) (λ v. refl) again.few again.sure asks (omega arith) left
