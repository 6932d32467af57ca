-- One plan, or two between which a plan is exchanged while clients run.
use Rattle.std.specs.Prelude.{Option, None, Some, IfSome}
use Rattle.certificate.specs.Certificates.{Weighted, IsCertificate}
use Rattle.quorum_set.specs.Bridges.{Bridged, IsBridge}

-- the plan in use first, and the one that it may be exchanged for
pub record PlanPair : Type 0 where
  pub first : Weighted
  pub second : Option Weighted

-- this plan alone
abbrev pub single : Weighted → PlanPair
single w = record { first = w; second = None }

-- both plans
abbrev pub both : Weighted → Weighted → PlanPair
both w v = record { first = w; second = Some v }

-- the coteries of two plans
abbrev pub coteries_of : Weighted → Weighted → Bridged
coteries_of w v = record { first = w.system; second = v.system }

-- each plan meets its certificate, and there is a bridge from the first plan's coterie to the second's
pub record ArePlans (p : PlanPair) : Type 0 where
  pub first : IsCertificate p.first
  pub second : IfSome p.second (λ v. IsCertificate v × IsBridge (coteries_of p.first v))
