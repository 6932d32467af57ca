use Rattle.std.proofs.Common.{[], ◌∷◌}
use Rattle.envelope.proofs.LineLemmas.{head_short}
use Rattle.envelope.proofs.laws.headers_fit.Goals as goal

pub returns : goal.returns
returns c h fits = head_short h (10 ∷ []) fits
