-- Runs of a plan's lock: the record of one in which each client made the same number of passes.
use Rattle.std.specs.Prelude.{◌≡◌, ℕ, ◌*◌, ◌<◌, ◌==◌, Bool, true, [], length, map}
use Rattle.std.specs.List.{All, count_by}
use Rattle.certificate.specs.Certificates.{Weighted}
use Rattle.run_outcome.specs.Entries.{AreInOrder}
use Rattle.run_outcome.specs.declared.record.RunRecord.{RunRecord}
use Rattle.replay.specs.Records.{IsSoundRecord, entries_of}

-- The record of a run in which each of `clients` clients made `passes` passes:
-- - It is sound for the plan: its tickets, their quorums, its pass numbers and its register.
-- - Tickets and numbers are in order.
-- - Each client has a ticket and a pass number for each of its passes.
-- - It has no draws of a second plan.
pub record IsRun (plan : Weighted) (clients passes : ℕ) (r : RunRecord) : Type 0 where
  pub sound : IsSoundRecord plan (entries_of r)
  pub tickets : AreInOrder (map (λ d. d.1) r.draws.items)
  pub numbers : AreInOrder (map (λ p. p.1) r.passes.items)
  pub drawn : length r.draws.items ≡ clients * passes
  pub one_plan : r.draws2.items ≡ []
  pub register : r.register ≡ clients * passes
  pub each_draw : All (λ d. (d.0 < clients) × (d.2 < length plan.system.quorums)) r.draws.items
  pub each_pass : All (λ p. p.0 < clients) r.passes.items
  pub draws_of_each : (c : ℕ) → c < clients → count_by (λ d. d.0 == c) r.draws.items ≡ passes
  pub passes_of_each : (c : ℕ) → c < clients → count_by (λ p. p.0 == c) r.passes.items ≡ passes

-- each of the first `clients` clients is let pass
abbrev pub AreLet : (ℕ → Bool) → ℕ → Type 0
AreLet lets clients = (client : ℕ) → client < clients → lets client ≡ true
