use Rattle.std.proofs.Common.{length, ap}
use Rattle.std.proofs.iter.runs.Sources.{from_front, as_is}
use Rattle.std.specs.Iterator.{YieldsFirst}
use Rattle.fifo.specs.Held.{to_come}
use Rattle.fifo.proofs.Queue.iter.Goals as goal

pub returns-clause-runs : goal.returns-clause-runs
returns-clause-runs g c p seen = as_is p (to_come p.from) (from_front (YieldsFirst to_come) (λ x. x) to_come (λ s t none. ap length none.0) (λ s x t first. first) p seen)
