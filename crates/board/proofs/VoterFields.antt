-- What the seat of a voter knows, before and after a step.
use Rattle.std.proofs.Common.{◌≡◌, ℕ, ◌+◌, ◌^◌, ◌<◌, List, [], Some, None, length, set, refl, ap, ◌∙◌, arith, length-set, get_or-set_same}
use Rattle.std.specs.Prelude.{slice_index, Option}
use Rattle.std.proofs.lemmas.List.{set-set, length-replicate}
use Rattle.board.specs.declared.vote.Vote.{Vote}
use Rattle.board.specs.declared.vote.Vote.TheVariants.{Offered, Returned}
use Rattle.board.specs.Moves.{Mine}
use Rattle.board.specs.Roots.{IsCurrent}
use Rattle.board.specs.Words.{nobody, IsSettledFrom}
use Rattle.board.specs.Views.{voter_view, current_name}

pub length-voter_view : (m : Mine) (v : ℕ) (current : Option (ℕ × ℕ)) → m ≡ (voter_view v current, []) → v < 64 → v < length m.0.voters
length-voter_view m v current e few =
    let long : length m.0.voters ≡ length (set nobody v (current_name current + 1)) = ap (λ (x : Mine). length x.0.voters) e in
    omega (arith, length-set nobody v (current_name current + 1), length-replicate {A = ℕ} 64 0)

pub slice_index-voter_view : (m : Mine) (v : ℕ) (current : Option (ℕ × ℕ)) → m ≡ (voter_view v current, []) → v < 64 → slice_index m.0.voters v ≡ current_name current + 1
slice_index-voter_view m v current e few = ap (λ (x : Mine). slice_index x.0.voters v) e ∙ get_or-set_same nobody v (current_name current + 1) 0 (omega (arith, length-replicate {A = ℕ} 64 0))

pub set-voter_view : (m n : Mine) (v k : ℕ) (current next : Option (ℕ × ℕ)) → m ≡ (voter_view v current, []) → n ≡ (record m.0 { voters = set m.0.voters v k }, m.1) → k ≡ current_name next + 1
    → n ≡ (voter_view v next, [])
set-voter_view m n v k current next e step same =
    step ∙ ap (λ (x : Mine). (record x.0 { voters = set x.0.voters v k }, x.1)) e
    ∙ ap (λ (l : List ℕ). (record (voter_view v next) { voters = l }, [])) (set-set nobody v (current_name current + 1) k ∙ ap (set nobody v) same)

-- a grant in one of the states from which a voter settles has ended
pub set-settled_view : (m n : Mine) (v : ℕ) (vote : Vote) → IsSettledFrom vote (λ current. (m ≡ (voter_view v (Some current), [])) × IsCurrent (Some current) (2 ^ 40))
    → n ≡ (record m.0 { voters = set m.0.voters v 1 }, m.1) → n ≡ (voter_view v None, [])
set-settled_view m n v (Offered client grant) known step = set-voter_view m n v 1 (Some (client, grant)) None known.0 step refl
set-settled_view m n v (Returned client grant) known step = set-voter_view m n v 1 (Some (client, grant)) None known.0 step refl
set-settled_view m n v vote known step = absurd known
