use Rattle.std.proofs.Common.{◌∙◌, arith, mod-eq_of_lt}
use Rattle.requester.proofs.SavedLemmas.{Read-words_of}
use Rattle.requester.proofs.saved.client_of.Goals as goal

pub returns-clause-read : goal.returns-clause-read
returns-clause-read c = λ x kept is.
    let r = Read-words_of x c.args.words.now kept is in
    let sound = kept.sound in
    let sets = kept.sets in
    let number = mod-eq_of_lt (let e = r.id in let below = sound.id in omega arith) ∙ r.id in
    let phase = c.phase_of.ensures x.phase r.phase in
    let quorum = c.members.ensures.value ∙ c.set_of.ensures.read x.quorum.items sound.quorum r.quorum in
    let failed = c.set_of-2.ensures.read x.failed sets.failed r.failed in
    let relinquished = c.set_of-3.ensures.read x.relinquished sets.relinquished r.relinquished in
    let inquired = c.set_of-4.ensures.read x.inquired sets.inquired r.inquired in
    let held = c.copy_from_slice.ensures.after ∙ r.held in
    let last = c.copy_from_slice-2.ensures.after ∙ r.last in
    λ i. record {
      id = number i;
      limit = r.limit i;
      clock = r.clock i;
      phase = phase i;
      stamp = r.stamp i;
      quorum = record { items = quorum i };
      held = held i;
      last = last i;
      failed = failed i;
      relinquished = relinquished i;
      inquired = inquired i;
    }
