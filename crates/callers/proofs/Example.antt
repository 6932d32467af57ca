-- the votes in the example
use Rattle.std.proofs.Common.{◌≡◌, ℕ, ◌+◌, false, List, [], ◌∷◌, ◌++◌, Some, ap, ◌∙◌}
use Rattle.std.proofs.lemmas.Option.{same_Some}
use Rattle.working.specs.Events.{World}
use Rattle.callers.specs.Worlds.{AllAsTold, Caller, CallerStep, caller_after, caller_then, world_then}
use Rattle.callers.specs.declared.calls.Holder.{Holder}

abbrev holder_under : ℕ → Holder
holder_under request = record { request = request; is_lost = false }

-- it is this request under which the call has the lock
pub is_one : (first request : ℕ) (h : Holder) → Some (holder_under first) ≡ Some h → h.request ≡ request → first ≡ request
is_one first request h has is = ap (λ (x : Holder). x.request) (same_Some (holder_under first) h has) ∙ is

-- ---- steps after steps

abbrev pub world_then_all : ℕ → ℕ → World → List CallerStep → World
world_then_all ttl span w [] = w
world_then_all ttl span w (s ∷ steps) = world_then_all ttl span (world_then ttl span w s) steps

pub true_then : (ttl lease span me : ℕ) (quorums : List (List ℕ)) (w : World) (o : Caller) (steps rest : List CallerStep) → AllAsTold ttl lease span me quorums w o steps
    → AllAsTold ttl lease span me quorums (world_then_all ttl span w steps) (caller_after ttl lease span me w o steps) rest
    → AllAsTold ttl lease span me quorums w o (steps ++ rest)
true_then ttl lease span me quorums w o [] rest first later = later
true_then ttl lease span me quorums w o (s ∷ steps) rest first later =
    (first.0, true_then ttl lease span me quorums (world_then ttl span w s) (caller_then lease me w o s) steps rest first.1 later)
