use Rattle.std.proofs.Common.{◌≡◌, length, ◌+◌, ◌<◌, ℕ, true, false, get_or, List, [], ◌∷◌, sym, ap, ◌∙◌, subst, arith}
use Rattle.std.proofs.lemmas.List.{length-replicate}
use Rattle.std.proofs.lemmas.Bool.{ltb-true}
use Rattle.atomic_table.specs.Table.{Me}
use Rattle.atomic_table.specs.Seated.{TableId}
use Rattle.board.specs.declared.table.View.{View}
use Rattle.board.specs.Roots.{IsRoot}
use Rattle.board.specs.Rule.{IsKept}
use Rattle.board.specs.Seats.{Setting}
use Rattle.board.specs.Views.{root_view}
use Rattle.board.proofs.Ends.{IsKept-start}
use Rattle.board.proofs.RootFields.{IsRoot-fresh}
use Rattle.board.proofs.board.Board.over.Goals as goal

pub of_words-requires : goal.of_words-requires
of_words-requires c =
    let setting : Setting = record { voters = c.args.voters; quorums = c.args.quorums.items; clients = c.args.clients; limit = c.args.limit } in
    let is = c.as_slice.ensures.value ∙ c.in_ok-words.ensures in
    subst (λ l. IsKept setting l (root_view c.args.voters c.args.clients ∷ [])) (sym is)
    (IsKept-start setting c.requires.few_voters c.requires.few_clients c.requires.limit)

pub invariant_of-board : goal.invariant_of-board
invariant_of-board c =
    let made = c.in_ok-table.ensures in
    let long : length c.as_slice.result.now ≡ c.args.voters + 1 = ap length (c.as_slice.ensures.value ∙ c.in_ok-words.ensures) ∙ length-replicate (c.args.voters + 1) 0 in
    record {
      same_sheet = made.5;
      words = made.0 ∙ long;
      no_slots = made.1;
      some_limit = c.requires.some_number;
      limit = c.requires.limit;
      some_client = c.requires.some_client;
      few_clients = c.requires.few_clients;
      some_voter = c.requires.some_voter;
      few_voters = c.requires.few_voters;
      meet = c.requires.meet;
      few_firsts = c.requires.firsts;
      few_quorums = c.requires.few_quorums;
    }

pub invariant_of-root : goal.invariant_of-root
invariant_of-root c =
    let made = c.in_ok-table.ensures in
    let clients : c.from.result ≡ c.args.clients = c.from.ensures in
    let view = root_view c.args.voters c.args.clients in
    let long : length c.as_slice.result.now ≡ c.args.voters + 1 = ap length (c.as_slice.ensures.value ∙ c.in_ok-words.ensures) ∙ length-replicate (c.args.voters + 1) 0 in
    let on_below : (v : ℕ) → get_or c.first.result v false ≡ true → v < c.args.voters = λ v on. ltb-true v c.args.voters (sym (c.first.ensures.first v) ∙ on) in
    record {
      no_slots = ap (λ (m : Me (Unit {0}) View). m.1) made.4;
      root = subst (λ (x : View × List (ℕ × ℕ)). IsRoot x.0 (c.args.voters + c.from.result) c.first.result c.first-2.result x.1)
          (λ i. (sym (ap (λ (m : Me (Unit {0}) View). m.0) made.4) i, sym c.new.ensures.items i))
          (IsRoot-fresh c.args.voters c.args.clients (c.args.voters + c.from.result) c.first.result c.first-2.result
          (omega arith)
          (omega (arith, c.first.ensures.sum, c.first-2.ensures.sum, c.from-2.ensures))
          (λ v on. omega (arith, on_below v on, c.requires.few_voters)));
      on_table = λ v on. omega (arith, on_below v on, made.0, ap (λ (z : TableId). z.words) made.2);
    }
