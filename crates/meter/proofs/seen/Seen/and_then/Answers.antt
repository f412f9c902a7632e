use Rattle.std.proofs.Common.{refl}
use Rattle.meter.proofs.seen.Seen.and_then.Goals as goal

pub returns-in-Memory : goal.returns-in-Memory
returns-in-Memory g c = rw c.in-Memory.is (_, c.step.ensures, refl)
