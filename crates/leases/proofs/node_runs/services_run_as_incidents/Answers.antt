use Rattle.std.proofs.Common.{refl}
use Rattle.leases.proofs.ServiceLemmas.{begin_served, left_served, limited_served, reborn_served, skipped_served, episodes_lawful, episodes_led, episodes_orderly}
use Rattle.leases.proofs.node_runs.services_run_as_incidents.Goals as goal

pub returns : goal.returns
returns c =
    let laws = c.parts_keep_their_rules.ensures.voters in
    record {
      first = begin_served;
      stays = left_served;
      limited = λ deal s v limit served. limited_served s v limit _ refl served;
      skipped = λ deal s v above served. skipped_served s v above _ refl served;
      reborn = λ deal s v above served. reborn_served s v above _ served;
      led = λ deal s episodes served may. episodes_led laws deal episodes s served may;
      lawful = λ deal s episodes served may lawful. episodes_lawful laws deal episodes s served may lawful;
      orderly = λ deal s episodes served may orderly. episodes_orderly laws deal episodes s served may orderly;
    }
