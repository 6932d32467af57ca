use Rattle.std.specs.Prelude.{codes}
use Rattle.envelope.specs.Headers.{level_words, sender_words}
use Rattle.envelope.proofs.LineLemmas.{built}
use Rattle.envelope.proofs.writing.header_line.Goals as goal

pub returns : goal.returns
returns c =
    let h = c.args.header.now in
    built c.new-text.result.items c.push.new.text.items c.push_word.new.text.items c.push_word-2.new.text.items c.push_sender.new.text.items
    c.push_level.new.text.items c.push-2.new.self.items (codes "qlock2") h.cluster.now h.coterie.now (sender_words h.sender h.name.now) (level_words h.level)
    c.new-text.ensures c.push.ensures.bytes c.push_word.ensures.bytes c.push_word-2.ensures.bytes c.push_sender.ensures.bytes c.push_level.ensures.bytes
    c.push-2.ensures.items
