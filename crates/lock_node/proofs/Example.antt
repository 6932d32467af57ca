-- a new voter
use Rattle.std.proofs.Common.{ℕ, inl, inr, refl, sym, ◌∙◌}
use Rattle.std.specs.FinMap.{get-empty}
use Rattle.std.proofs.lemmas.Option.{none-some}
use Rattle.voter.specs.Steps.{start}
use Rattle.voter.specs.VoterContract.{IsEntry}
use Rattle.lock_node.specs.Example.{new_voter}
use Rattle.lock_node.specs.Locks.{Begins}

nobody : (id limit client stamp : ℕ) → IsEntry (start id limit) client stamp → ⊥
nobody id limit client stamp at = elim at [
  | inl has ↦ none-some has.0 has.1
  | inr waits ↦ none-some stamp (sym (get-empty _ client) ∙ waits)
]

pub begins : (id limit : ℕ) → Begins (new_voter id limit)
begins id limit = record { rows = λ number. refl; nobody = λ lock client stamp at. nobody id limit client stamp at; saved = λ lock. refl; waits = refl }
