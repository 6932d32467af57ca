use Rattle.std.proofs.Common.{◌≡◌, ◌<◌, ◌++◌, ◌∷◌, [], List, ℕ, map, length, sym, ap, ◌∙◌, arith, append_assoc, append-nil}
use Rattle.std.specs.List.{All}
use Rattle.std.proofs.lemmas.List.Elements.{All-head, All-tail}
use Rattle.itertools.specs.Odometer.{ways}
use Rattle.itertools.specs.Pool.{ascending_low, ascending_high, combination_left}
use Rattle.numbers.specs.Sets.{has, IsSet, set_where}
use Rattle.construct.specs.Majority.{sets_from}
use Rattle.construct.proofs.FewLemmas.{few-is, few-length, few-same, lists-refused, refuses-by}
use Rattle.construct.proofs.MajorityLemmas.{All-IsChoice, IsChoice-sets_from, IsSet-sets_from}
use Rattle.construct.proofs.Combinations.{many-begun, members_are_moved, moved, set_where-has, sets_from-places, ways-sets_from}
use Rattle.construct.proofs.lists.sets_of.Goals as goal

pub loop-members-init : goal.loop-members-init
loop-members-init c =
    let low = c.args.low in
    let n = c.args.n in
    let k = c.args.size in
    let made = c.in_ok-members-items.members-items in
    let made_by = c.in_ok-members-items.ensures in
    let left : combination_left made ≡ sets_from 0 n k =
    made_by.left ∙ ap (λ m. ways ascending_low (ascending_high m k) k []) made_by.room ∙ ways-sets_from k n k n [] (omega arith) (omega arith) in
    let all = IsChoice-sets_from 0 n k in
    rw c.into_iter-members-iterator.ensures.into_iter_gives
    (record {
      pool = made_by.pool;
      together = ap (λ xs. xs ++ map (moved low) (combination_left made)) c.new-sets.ensures.items ∙ ap (map (moved low)) left ∙ sets_from-places low n k;
      below = rw left (λ j d lt. All-IsChoice n k _ (all j d lt));
      few = omega (arith, ap length c.new-sets.ensures.items);
    })

pub returns-in_err-push_set : goal.returns-in_err-push_set
returns-in_err-push_set c =
    let low = c.args.low in
    let whole = sets_from low c.args.n c.args.size in
    let fault = c.in_err-push_set.field-0.0 in
    let step = rw c.in_ok-members.was at c.in-Some.ensures.steps in
    let (same, (ds, left, clones)) = step in
    let made = c.loop-members.sets.items in
    let rest = map (moved low) (combination_left c.next.new.self) in
    let is : made ++ moved low ds ∷ rest ≡ whole = ap (λ sets. made ++ map (moved low) sets) (sym left) ∙ c.loop-members.invariant.together in
    lists-refused c.from_residual-in_err-push_set.result whole fault c.from_residual-in_err-push_set.ensures.1
    (refuses-by fault (many-begun made rest whole c.set_of.result (moved low ds) fault is) c.in_err-push_set.ensures)

pub loop-members-preserved : goal.loop-members-preserved
loop-members-preserved c =
    let low = c.args.low in
    let n = c.args.n in
    let step = rw c.in_ok-members.was at c.in-Some.ensures.steps in
    let (same, (ds, left, clones)) = step in
    let made = c.loop-members.sets.items in
    let rest = combination_left c.next.new.self in
    let is : made ++ moved low ds ∷ map (moved low) rest ≡ sets_from low n c.args.size = ap (λ sets. made ++ map (moved low) sets) (sym left) ∙ c.loop-members.invariant.together in
    let below : All (λ s. All (λ i. i < n) s) (ds ∷ rest) = rw left at c.loop-members.invariant.below in
    let all_sets : All IsSet (made ++ moved low ds ∷ map (moved low) rest) = rw is (IsSet-sets_from low n c.args.size c.requires) in
    let set = All-middle made (moved low ds) (map (moved low) rest) all_sets in
    let within = All-head (λ s. All (λ i. i < n) s) ds rest below in
    let members : c.in_ok-members.field-0.items ≡ moved low ds =
    members_are_moved _ low n c.loop-members.members-iterator.pool.items ds c.in_ok-members.field-0.items (λ x y e. e) c.loop-members.invariant.pool within clones in
    let pushed : c.push_set.new.sets.items ≡ made ++ moved low ds ∷ [] =
    sym (few-is (made ++ c.set_of.result ∷ []) c.push_set.new.sets.items c.in_ok-push_set.ensures).0
    ∙ ap (λ s. made ++ s ∷ [])
    (c.set_of.ensures ∙ ap (λ s. set_where (has s)) (c.deref.ensures.value ∙ members) ∙ set_where-has (moved low ds) set) in
    record {
      pool = sym same ∙ c.loop-members.invariant.pool;
      together = ap (λ xs. xs ++ map (moved low) rest) pushed ∙ append_assoc made (moved low ds ∷ []) (map (moved low) rest) ∙ is;
      below = All-tail (λ s. All (λ i. i < n) s) ds rest below;
      few = few-length (made ++ c.set_of.result ∷ []) c.push_set.new.sets.items c.in_ok-push_set.ensures;
    }
  where
    All-middle : (xs : List (List ℕ)) (s : List ℕ) (ys : List (List ℕ)) → All IsSet (xs ++ s ∷ ys) → IsSet s
    All-middle [] s ys all = All-head IsSet s ys all
    All-middle (x ∷ xs) s ys all = All-middle xs s ys (All-tail IsSet x (xs ++ s ∷ ys) all)

pub returns : goal.returns
returns c =
    let low = c.args.low in
    let made = c.loop-members.sets.items in
    let is : made ≡ sets_from low c.args.n c.args.size =
    sym (append-nil made) ∙ ap (λ sets. made ++ map (moved low) sets) (sym c.in-None.ensures.steps.1) ∙ c.loop-members.invariant.together in
    few-same (sets_from low c.args.n c.args.size) made is c.loop-members.invariant.few
