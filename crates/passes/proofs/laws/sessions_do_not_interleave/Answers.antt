use Rattle.std.specs.Prelude.{ℕ, take}
use Rattle.passes.proofs.Requests.{may_until, shows_pass}
use Rattle.passes.proofs.Served.{rows_of, runs_on, served_by, told_given}
use Rattle.passes.specs.Grants.{Gave, IsPass}
use Rattle.passes.specs.Requests.{IsRun, Show, WasInside, shown}
use Rattle.passes.specs.Served.{Told, voters_of}
use Rattle.passes.proofs.laws.sessions_do_not_interleave.Goals as goal

pub returns : goal.returns
returns c count quorums voting lock limit session runs seen shows coterie limits new are own ins admitted =
    let voters = voters_of voting lock limit in
    let run : ((k : ℕ) → IsRun quorums (Gave voters) (runs k)) = λ k. runs_on quorums (Told voting lock (session k)) (Gave voters) (runs k)
    (λ v client stamp grant told. told_given c.processes_may_leave_saves_out.ensures.given_out voting lock limit new (session k) v client stamp grant told) (are k) in
    let show : ((w : Show) → WasInside runs w → IsPass quorums (Told voting lock (session w.process)) (shown runs w)) = λ w inside.
    shows_pass c.parts_keep_their_rules.ensures.clients quorums (Told voting lock (session w.process)) (runs w.process).first (take w.moment (runs w.process).deeds)
    (are w.process).idle (may_until quorums (Told voting lock (session w.process)) (runs w.process) (are w.process) w.moment) inside in
    c.processes_do_not_interleave.ensures count quorums voters runs seen shows coterie limits run
    (c.sessions_use_own_stamps.ensures count quorums voters (rows_of voting lock) session runs coterie run
    (served_by c.processes_may_leave_saves_out.ensures.asked quorums voting lock session runs (λ v. (new v).begins) (λ v. (new v).may) show own)) ins admitted
