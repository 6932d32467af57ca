use Rattle.std.proofs.Common.{◌≡◌, length, ap, ◌∙◌}
use Rattle.quorum_set.specs.Coteries.{QuorumSystem}
use Rattle.show_failures.specs.Used.{used_system}
use Rattle.show_failures.proofs.resilience.push_used.Goals as goal

pub returns : goal.returns
returns c =
    let used : c.count-count.result ≡ length (used_system c.args.weights.now).quorums = c.count-count.ensures.value ∙ ap (λ (s : QuorumSystem). length s.quorums) c.requires in
    let all : c.count-all.result ≡ length c.args.weights.now.system.quorums = c.count-all.ensures.value ∙ ap (λ (s : QuorumSystem). length s.quorums) c.coterie.ensures.value in
    rw (← used, ← all, ← c.owner_words-owner.ensures) c.write.ensures.bytes
