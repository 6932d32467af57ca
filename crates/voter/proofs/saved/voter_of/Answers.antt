use Rattle.std.proofs.Common.{◌∙◌, arith, sym}
use Rattle.voter.proofs.SavedLemmas.{Read-words_of, same_queue, stamp_of_some}
use Rattle.voter.proofs.saved.voter_of.Goals as goal

pub returns-clause-stamped : goal.returns-clause-stamped
returns-clause-stamped c = λ k s is. stamp_of_some _ s (sym (c.queue_of.ensures k) ∙ is)

pub returns-clause-read : goal.returns-clause-read
returns-clause-read c = λ v kept is.
    let r = Read-words_of v c.args.words.now kept is in
    let number = c.number_of.ensures.read (let e = r.id in let below = kept.id in omega arith) ∙ r.id in
    let vote = c.grant_of.ensures v.held kept.holder r.held in
    let queue = same_queue v.waiting c.queue_of.result _ r.waiting kept.stamped kept.few c.queue_of.ensures in
    let stamps = c.copy_from_slice.ensures.after ∙ r.finished in
    λ i. record {
      id = number i;
      limit = r.limit i;
      held = vote i;
      inquiring = r.inquiring i;
      waiting = queue i;
      finished = stamps i;
      granted = r.granted i;
      seen = r.seen i;
    }
