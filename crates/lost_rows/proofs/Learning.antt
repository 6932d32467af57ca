-- what rows keep that learn others one after the other
use Rattle.std.proofs.Common.{List, [], ◌∷◌, sym, subst, inl, inr}
use Rattle.session_rows.specs.declared.claim.Heard.{Heard}
use Rattle.sessions.specs.Rows.{IsOneOf, Row}
use Rattle.lost_rows.specs.Relearned.{Learned, all_relearned, relearned}
use Rattle.lost_rows.specs.Spent.{Keeps}

pub first_kept : ((r other : Row) (heard : Heard) → Keeps r (relearned r other heard)) → (r : Row) (rows : List Learned) → Keeps r (all_relearned r rows)
first_kept keeps r [] = λ session epoch stamp spent. spent
first_kept keeps r (x ∷ xs) = λ session epoch stamp spent.
    first_kept keeps (relearned r x.row x.heard) xs session epoch stamp (keeps r x.row x.heard session epoch stamp spent)

pub each_kept : ((r other : Row) (heard : Heard) → Keeps r (relearned r other heard))
    → ((r other : Row) (heard : Heard) → Keeps other (relearned r other heard))
    → (r : Row) (rows : List Learned) (one : Learned) → IsOneOf one rows → Keeps one.row (all_relearned r rows)
each_kept keeps learns r [] one among = absurd among
each_kept keeps learns r (x ∷ xs) one among = elim among [
  | inl e ↦ subst (λ (o : Learned). Keeps o.row (all_relearned r (x ∷ xs))) (sym e)
      (λ session epoch stamp spent. first_kept keeps (relearned r x.row x.heard) xs session epoch stamp (learns r x.row x.heard session epoch stamp spent))
  | inr rest ↦ each_kept keeps learns (relearned r x.row x.heard) xs one rest
]
