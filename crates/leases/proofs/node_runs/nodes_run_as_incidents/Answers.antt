use Rattle.std.proofs.Common.{sym, subst}
use Rattle.leases.specs.NodeRuns.{HasVoter, saved_after}
use Rattle.leases.proofs.NodeRunLemmas.{node_leads, node_orderly}
use Rattle.world.specs.Restarts.{Saved}
use Rattle.leases.proofs.node_runs.nodes_run_as_incidents.Goals as goal

pub returns : goal.returns
returns c =
    let laws = c.parts_keep_their_rules.ensures.voters in
    record {
      led = λ deal s places y events may. (node_leads laws ⊥ deal s places y events may (λ no. absurd no)).led;
      goes_on = λ deal s places y events may.
          let ends = node_leads laws ⊥ deal s places y events may (λ no. absurd no) in
          subst (λ (t : Saved). HasVoter t y.id (saved_after y events)) (sym ends.led) ends.has;
      lawful = λ deal s places y events may was. (node_leads laws (Unit {0}) deal s places y events may (λ _. was)).lawful tt;
      orderly = node_orderly;
    }
