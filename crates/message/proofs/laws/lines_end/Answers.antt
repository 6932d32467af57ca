use Rattle.message.proofs.laws.lines_end.Goals as goal

pub returns : goal.returns
returns c m n more hm hn e = c.lines_are_read_in_one_way.ensures.end m n more hm hn e
