use Rattle.std.proofs.Common.{◌∷◌, [], refl, rules}
use Rattle.std.specs.Prelude.{codes}
use Rattle.envelope.specs.Headers.{level_words, sender_words}
use Rattle.envelope.proofs.HeadLemmas.{same_head}
use Rattle.envelope.proofs.LevelLemmas.{IsBorder-level}
use Rattle.envelope.proofs.SenderLemmas.{IsBorder-sender}
use Rattle.line_words.specs.Lines.{spaced}
use Rattle.line_words.proofs.TestLemmas.{fails}
use Rattle.envelope.proofs.reading.header.Goals as goal

pub returns-then-not-is-clause-read : goal.returns-then-not-is-clause-read
returns-then-not-is-clause-read c h rest fits others e =
    let tail = spaced (sender_words h.sender h.name) (spaced (level_words h.level) rest) in
    let start = c.cut.ensures.read (codes "qlock2") (spaced (h.cluster ∷ h.coterie ∷ []) tail) (search rules) refl e in
    fails c.is.result c.is.ensures c.if-not-is.true start.0

pub returns-in_default-sender-clause-read : goal.returns-in_default-sender-clause-read
returns-in_default-sender-clause-read c h rest fits others e =
    let last = spaced (level_words h.level) rest in
    let tail = spaced (sender_words h.sender h.name) last in
    let start = c.cut.ensures.read (codes "qlock2") (spaced (h.cluster ∷ h.coterie ∷ []) tail) (search rules) refl e in
    let first = c.in-Some.ensures.read h.cluster (spaced (h.coterie ∷ []) tail) fits.cluster refl start.1 in
    let second = c.in-Some-name.ensures.read h.coterie tail fits.coterie (IsBorder-sender h.sender h.name last) first.1 in
    c.in_default-sender.ensures.read h.sender h.name last fits.numbers fits.name (IsBorder-level h.level rest others) second.1

pub returns-in_default-level-clause-read : goal.returns-in_default-level-clause-read
returns-in_default-level-clause-read c h rest fits others e =
    let last = spaced (level_words h.level) rest in
    let tail = spaced (sender_words h.sender h.name) last in
    let start = c.cut.ensures.read (codes "qlock2") (spaced (h.cluster ∷ h.coterie ∷ []) tail) (search rules) refl e in
    let first = c.in-Some.ensures.read h.cluster (spaced (h.coterie ∷ []) tail) fits.cluster refl start.1 in
    let second = c.in-Some-name.ensures.read h.coterie tail fits.coterie (IsBorder-sender h.sender h.name last) first.1 in
    let third = c.in-Some-sender.ensures.read h.sender h.name last fits.numbers fits.name (IsBorder-level h.level rest others) second.1 in
    c.in_default-level.ensures.read h.level rest fits.level others third.2

pub returns-then-not-are_ignored-clause-read : goal.returns-then-not-are_ignored-clause-read
returns-then-not-are_ignored-clause-read c h rest fits others e =
    let last = spaced (level_words h.level) rest in
    let tail = spaced (sender_words h.sender h.name) last in
    let start = c.cut.ensures.read (codes "qlock2") (spaced (h.cluster ∷ h.coterie ∷ []) tail) (search rules) refl e in
    let first = c.in-Some.ensures.read h.cluster (spaced (h.coterie ∷ []) tail) fits.cluster refl start.1 in
    let second = c.in-Some-name.ensures.read h.coterie tail fits.coterie (IsBorder-sender h.sender h.name last) first.1 in
    let third = c.in-Some-sender.ensures.read h.sender h.name last fits.numbers fits.name (IsBorder-level h.level rest others) second.1 in
    let fourth = c.in-Some-level.ensures.read h.level rest fits.level others third.2 in
    fails c.are_ignored.result c.are_ignored.ensures c.if-not-are_ignored.true (rw fourth.1 others)

pub returns-clause-read : goal.returns-clause-read
returns-clause-read c h rest fits others e =
    let last = spaced (level_words h.level) rest in
    let tail = spaced (sender_words h.sender h.name) last in
    let start = c.cut.ensures.read (codes "qlock2") (spaced (h.cluster ∷ h.coterie ∷ []) tail) (search rules) refl e in
    let first = c.in-Some.ensures.read h.cluster (spaced (h.coterie ∷ []) tail) fits.cluster refl start.1 in
    let second = c.in-Some-name.ensures.read h.coterie tail fits.coterie (IsBorder-sender h.sender h.name last) first.1 in
    let third = c.in-Some-sender.ensures.read h.sender h.name last fits.numbers fits.name (IsBorder-level h.level rest others) second.1 in
    let fourth = c.in-Some-level.ensures.read h.level rest fits.level others third.2 in (
      same_head h c.in-Some.cluster.now c.in-Some-name.coterie.now c.in-Some-sender.name.now c.in-Some-sender.sender c.in-Some-level.level first.0 second.0
          third.0 third.1 fourth.0,
      fourth.1,
    )
