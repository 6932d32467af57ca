use Rattle.std.proofs.Common.{◌≡◌, ◌++◌, ◌∷◌, [], ◌∙◌, ap, arith}
use Rattle.std.specs.Prelude.{string_bytes}
use Rattle.plan_texts.proofs.Written.{with_spaces-first, with_spaces-next}
use Rattle.plan_texts.proofs.writing.with_spaces.Goals as goal
use Rattle.plan_texts.proofs.writing.with_spaces.Goals.{then-k-gt0+in_ok-push, else-k-gt0}

pub loop-k-preserved : goal.loop-k-preserved
loop-k-preserved c =
    elim c.if-k-gt0.branch [
      | then-k-gt0+in_ok-push w ↦
          let said = w.in_ok-push.ensures in
          let push : string_bytes w.push.new.self ≡ string_bytes c.loop-k.text ++ 32 ∷ [] = said.bytes ∙ ap (λ t. string_bytes c.loop-k.text ++ t) (said.ascii (omega arith)) in
          with_spaces-next (string_bytes c.write.new.self) (string_bytes c.if-k-gt0.text) (string_bytes w.push.new.self) (string_bytes c.loop-k.text) c.args.numbers.now c.loop-k.k w.if-k-gt0.true
          (omega arith) c.in_ok-write.ensures.bytes (ap string_bytes w.text-is) push c.loop-k.invariant
      | else-k-gt0 w ↦ with_spaces-first _ _ _ c.args.numbers.now c.loop-k.k w.if-k-gt0.false (omega arith) c.in_ok-write.ensures.bytes (ap string_bytes w.text-is) c.loop-k.invariant
    ]
