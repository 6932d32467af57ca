use Rattle.std.proofs.Common.{ℕ, ◌+◌, Bool, [], arith, cond, get_or, take}
use Rattle.std.proofs.lemmas.List.{length-take}
use Rattle.std.proofs.lemmas.List.Sums.{count_by-le-length, sum_by_more}
use Rattle.numbers.specs.Sets.{has}
use Rattle.show_figures.proofs.account.count_of_voter.Goals as goal

pub overflow_add-count : goal.overflow_add-count
overflow_add-count c =
    let list = c.args.list.now in
    let i = c.loop-quorum.quorum-index in
    let uses : ℕ → Bool = λ j. has (get_or c.args.coterie.now.quorums j []) c.args.voter in
    omega (
      arith,
      c.use_of-count.ensures,
      sum_by_more (λ j. cond {A = ℕ} (uses j) 1 0) list i 0 (omega arith),
      count_by-le-length uses (take (i + 1) list),
      length-take (i + 1) list,
    )

pub loop-quorum-preserved : goal.loop-quorum-preserved
loop-quorum-preserved c =
    let list = c.args.list.now in
    let uses : ℕ → Bool = λ j. has (get_or c.args.coterie.now.quorums j []) c.args.voter in
    omega (arith, c.use_of-count.ensures, sum_by_more (λ j. cond {A = ℕ} (uses j) 1 0) list c.loop-quorum.quorum-index 0 (omega arith))
