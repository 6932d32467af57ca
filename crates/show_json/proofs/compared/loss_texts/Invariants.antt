use Rattle.std.proofs.Common.{◌≡◌, map, string_bytes, take}
use Rattle.show_json.specs.Compared.{loss_text}
use Rattle.show_json.proofs.compared.loss_texts.Given as goal

-- the losses so far
abbrev pub invariant-loop-loss : goal.invariant-loop-loss
invariant-loop-loss l = map string_bytes l.texts.items ≡ map (loss_text l.named) (take l.loss-index l.losses)
