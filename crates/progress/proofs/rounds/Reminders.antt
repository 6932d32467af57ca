-- reminders in longer lists of moves, and reminders of steps as those of moves
use Rattle.std.proofs.Common.{◌≡◌, ℕ, ◌≤◌, List, [], ◌∷◌, ◌++◌, length, map, refl, sym, ap, subst, ◌∙◌, append_assoc}
use Rattle.std.specs.Prelude.{slice_get}
use Rattle.std.specs.List.{Contains}
use Rattle.std.proofs.lemmas.List.{map-append}
use Rattle.std.proofs.lemmas.List.Elements.{Contains-append_left, Contains-append_right}
use Rattle.world_state.specs.declared.step.Step.{Step}
use Rattle.world_state.specs.declared.step.Step.TheVariants.{Deliver}
use Rattle.world.specs.Runs.{run_of}
use Rattle.world_state.specs.Steps.{Dealing, WorldState}
use Rattle.progress.specs.LiveRounds.{IsAnswered, IsReminded, Live, is_between}
use Rattle.progress.specs.Moves.{Goes, Kind, moved, of_moves, of_steps}
use Rattle.progress.proofs.run.Along.{contains_split, next}
use Rattle.progress.proofs.rounds.Longer.{contains_here}

-- ---- longer lists

-- moves of this kind are made one after the other
abbrev pub InOrder : {M : Type 0} → Kind M → Type 0
InOrder {M} kind = (deal : Dealing) (a b : List M) (w : WorldState) → kind.run deal (a ++ b) w ≡ kind.run deal b (kind.run deal a w)

pub answered_then : {M : Type 0} (kind : Kind M) (live : Live) (deal : Dealing) (w : WorldState) (moves rest : List M) (k : ℕ) → IsAnswered kind live deal w moves k → IsAnswered kind live deal w (moves ++ rest) k
answered_then kind live deal w moves rest k a = record {
  first = a.first;
  rest = a.rest ++ rest;
  split = ap (λ l. l ++ rest) a.split ∙ append_assoc a.first (kind.goes (Deliver k) ∷ a.rest) rest;
  answers = λ j least between. Contains-append_left a.rest rest (kind.goes (Deliver j)) (a.answers j least between);
}

-- the world after moves before these, and one of these
goes_on : {M : Type 0} (kind : Kind M) → InOrder kind → (deal : Dealing) (w : WorldState) (before first : List M) (m : M)
    → kind.run deal ((before ++ first) ++ m ∷ []) w ≡ kind.run deal (first ++ m ∷ []) (kind.run deal before w)
goes_on kind order deal w before first m = ap (λ l. kind.run deal l w) (append_assoc before first (m ∷ [])) ∙ order deal before (first ++ m ∷ []) w

pub answered_before : {M : Type 0} (kind : Kind M) → InOrder kind → (live : Live) (deal : Dealing) (w : WorldState) (before moves : List M) (k : ℕ) → IsAnswered kind live deal (kind.run deal before w) moves k
    → IsAnswered kind live deal w (before ++ moves) k
answered_before kind order live deal w before moves k a =
    let goes = goes_on kind order deal w before a.first (kind.goes (Deliver k)) in
    record {
      first = before ++ a.first;
      rest = a.rest;
      split = ap (λ l. before ++ l) a.split ∙ sym (append_assoc before a.first (kind.goes (Deliver k) ∷ a.rest));
      answers = λ j least between. a.answers j (subst (λ (u : WorldState). length u.sent ≤ j) (order deal before a.first w) least) (ap (λ (u : WorldState). is_between live (slice_get u.sent j)) (sym goes) ∙ between);
    }

pub answered_more : {M : Type 0} (kind : Kind M) → InOrder kind → (live : Live) (deal : Dealing) (w : WorldState) (before moves rest : List M) (k : ℕ) → IsAnswered kind live deal (kind.run deal before w) moves k
    → IsAnswered kind live deal w (before ++ (moves ++ rest)) k
answered_more kind order live deal w before moves rest k a =
    answered_before kind order live deal w before (moves ++ rest) k (answered_then kind live deal (kind.run deal before w) moves rest k a)

pub reminded_more : {M : Type 0} (kind : Kind M) → InOrder kind → (live : Live) (deal : Dealing) (w : WorldState) (before moves rest : List M) (s : Step) → IsReminded kind live deal (kind.run deal before w) moves s
    → IsReminded kind live deal w (before ++ (moves ++ rest)) s
reminded_more kind order live deal w before moves rest s a =
    let goes = goes_on kind order deal w before a.first (kind.goes s) in
    record {
      first = before ++ a.first;
      rest = a.rest ++ rest;
      split = ap (λ l. before ++ (l ++ rest)) a.split ∙ ap (λ l. before ++ l) (append_assoc a.first (kind.goes s ∷ a.rest) rest) ∙ sym (append_assoc before a.first (kind.goes s ∷ (a.rest ++ rest)));
      arrive = λ k least between. subst (λ (u : WorldState). IsAnswered kind live deal u (a.rest ++ rest) k) (sym goes) (answered_then kind live deal _ a.rest rest k
          (a.arrive k (subst (λ (u : WorldState). length u.sent ≤ k) (order deal before a.first w) least) (ap (λ (u : WorldState). is_between live (slice_get u.sent k)) (sym goes) ∙ between)));
    }

-- ---- steps as moves

pub moved_steps : (deal : Dealing) (steps : List Step) (w : WorldState) → moved deal (map Goes steps) w ≡ run_of deal steps w
moved_steps deal [] w = refl
moved_steps deal (s ∷ steps) w = moved_steps deal steps (next deal w s)

pub goes_in : (steps : List Step) (s : Step) → Contains steps s → Contains (map Goes steps) (Goes s)
goes_in steps s there =
    let parts = contains_split steps s there in
    subst (λ l. Contains l (Goes s)) (sym (ap (map Goes) parts.2 ∙ map-append Goes parts.0 (s ∷ parts.1)))
    (Contains-append_right (map Goes parts.0) (Goes s ∷ map Goes parts.1) (Goes s) (contains_here (Goes s) (Goes s) (map Goes parts.1) refl))

moved_one : (deal : Dealing) (first : List Step) (s : Step) (w : WorldState) → moved deal (map Goes first ++ Goes s ∷ []) w ≡ run_of deal (first ++ s ∷ []) w
moved_one deal first s w = ap (λ l. moved deal l w) (sym (map-append Goes first (s ∷ []))) ∙ moved_steps deal (first ++ s ∷ []) w

pub answered_goes : (live : Live) (deal : Dealing) (w : WorldState) (steps : List Step) (k : ℕ) → IsAnswered of_steps live deal w steps k → IsAnswered of_moves live deal w (map Goes steps) k
answered_goes live deal w steps k a = record {
  first = map Goes a.first;
  rest = map Goes a.rest;
  split = ap (map Goes) a.split ∙ map-append Goes a.first (Deliver k ∷ a.rest);
  answers = λ j least between. goes_in a.rest (Deliver j) (a.answers j (subst (λ (u : WorldState). length u.sent ≤ j) (moved_steps deal a.first w) least)
      (ap (λ (u : WorldState). is_between live (slice_get u.sent j)) (sym (moved_one deal a.first (Deliver k) w)) ∙ between));
}

pub reminded_goes : (live : Live) (deal : Dealing) (w : WorldState) (steps : List Step) (s : Step) → IsReminded of_steps live deal w steps s → IsReminded of_moves live deal w (map Goes steps) s
reminded_goes live deal w steps s a = record {
  first = map Goes a.first;
  rest = map Goes a.rest;
  split = ap (map Goes) a.split ∙ map-append Goes a.first (s ∷ a.rest);
  arrive = λ k least between. subst (λ (u : WorldState). IsAnswered of_moves live deal u (map Goes a.rest) k) (sym (moved_one deal a.first s w)) (answered_goes live deal _ a.rest k
      (a.arrive k (subst (λ (u : WorldState). length u.sent ≤ k) (moved_steps deal a.first w) least) (ap (λ (u : WorldState). is_between live (slice_get u.sent k)) (sym (moved_one deal a.first s w)) ∙ between)));
}
