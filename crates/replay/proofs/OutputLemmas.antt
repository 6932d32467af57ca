-- Texts that are written line by line.
use Rattle.std.proofs.Common.{◌≡◌, ℕ, ◌+◌, List, ◌∷◌, ◌++◌, Some, drop, slice_get, sym, ap, ◌∙◌, append_assoc}
use Rattle.std.proofs.lemmas.List.{drop_more}
use Rattle.std.proofs.lemmas.Option.{get_or_from_slice_get, slice_get_within}
use Rattle.message.specs.declared.message.Message.{Message}
use Rattle.replay.specs.Outputs.{sent_line, sent_lines}

-- the line of one more message
pub sent_line-next : (sent : List Message) (n : ℕ) (m : Message) (written more whole : List ℕ) → slice_get sent n ≡ Some m → more ≡ written ++ sent_line n m → written
    ++ sent_lines n (drop n sent) ≡ whole
    → more ++ sent_lines (n + 1) (drop (n + 1) sent) ≡ whole
sent_line-next sent n m written more whole here pushed left =
    let rest = sent_lines (n + 1) (drop (n + 1) sent) in
    let at : drop n sent ≡ m ∷ drop (n + 1) sent = drop_more sent n m (slice_get_within sent n m here) ∙ ap (λ (x : Message). x ∷ drop (n + 1) sent) (get_or_from_slice_get sent n m m here) in
    ap (λ (t : List ℕ). t ++ rest) pushed ∙ append_assoc written (sent_line n m) rest ∙ ap (λ (ms : List Message). written ++ sent_lines n ms) (sym at) ∙ left
