use Rattle.std.proofs.Common.{◌≡◌, true, rules, arith}
use Rattle.meter.specs.Counters.{within}
use Rattle.meter.specs.Few.{spread-few}
use Rattle.meter.specs.Radix.{number-below}
use Rattle.meter.proofs.return_meter.ReturnMeter.rank.Goals as goal

pub overflow_add-result : goal.overflow_add-result
overflow_add-result c =
    let m = c.args.self.now in
    let few = spread-few m.limits m.few.0 m.few.1 in
    let fits : within m.limits c.in-Memory.counters ≡ true = search rules in
    let below = number-below m.limits c.in-Memory.counters fits in
    omega arith
