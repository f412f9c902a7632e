use Rattle.std.proofs.Common.{◌≡◌, ◌+◌, true, leb, ◌∙◌, arith}
use Rattle.meter.specs.Counters.{within, number}
use Rattle.meter.specs.Radix.{number-below}
use Rattle.meter.specs.declared.seen.Seen.TheVariants.{Memory}
use Rattle.meter.proofs.Order.{compared_rank, ordered_by_first}
use Rattle.meter.proofs.return_meter.ReturnMeterMeter.at_most.Goals as goal

pub returns-clause-value : goal.returns-clause-value
returns-clause-value c =
    let ns = c.args.self.now.limits in
    let cs = c.args.x.content in
    let ds = c.args.y.content in
    let both : c.seen.result ≡ Memory cs → c.seen-2.result ≡ Memory ds → within ns cs ≡ true → within ns ds ≡ true → c.le.result ≡ leb (number ns cs + 1) (number ns ds + 1) = λ e f w v. (rw (e, f) at c.le.ensures) ∙ compared_rank ns cs ds w v in
    let below = number-below ns cs in
    let below' = number-below ns ds in
    grind arith

pub returns-clause-order : goal.returns-clause-order
returns-clause-order c = ordered_by_first c.args.self.now.limits c.args.x c.args.y c.le.result (returns-clause-value c)
