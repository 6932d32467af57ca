use Rattle.std.proofs.Common.{nat_cmp, refl}
use Rattle.std.specs.FinMap.{get-empty}
use Rattle.voter.proofs.KeptLemmas.{least_is_sound}
use Rattle.quiet_time.proofs.laws.voters_that_forget_begin.Goals as goal

pub returns : goal.returns
returns c v sound = record { sound = least_is_sound v sound; nobody = λ client. get-empty nat_cmp client; nothing = refl }
