use Rattle.even.proofs.WindowLemmas.{IsGreatestLead-rounds}
use Rattle.even.proofs.leads.greatest_lead.Goals as goal

pub returns : goal.returns
returns c =
    IsGreatestLead-rounds c.args.coterie.now c.args.voter c.args.gain c.args.cost c.args.order.now c.leads_of-start.result.0 c.leads_of-greatest.result.1
    c.requires.some c.requires.whole c.leads_of-start.ensures.last c.leads_of-greatest.ensures.greatest
