use Rattle.std.proofs.Common.{◌≡◌, ◌+◌, ◌*◌, ap, eqb, rules, arith}
use Rattle.board.specs.Spot.{how_many}
use Rattle.meter.specs.Counters.{total}
use Rattle.meter.specs.Return.{limits_on}
use Rattle.board.proofs.FromFn.{map-from_fn}
use Rattle.meter.proofs.Limits.{limits_few}
use Rattle.meter.proofs.return_meter.ReturnMeter.counted_on.Goals as goal

pub invariant_of-result : goal.invariant_of-result
invariant_of-result g c =
    let b = g.B.Board.meaning c.args.board.now in
    let all : c.from_fn.result ≡ limits_on b = map-from_fn _ (λ j. how_many (λ s. eqb s.label (2 * j + 1)) b) _ (λ i y q k. search rules) _ 8 0 c.from_fn.ensures.items in
    let sums = ap total all in
    let few = limits_few b in
    let most = (g.B.Board.fair c.args.board.now).most in
    record { few = (c.from_fn.ensures.items.long, omega arith) }

pub returns : goal.returns
returns g c =
    let b = g.B.Board.meaning c.args.board.now in
    map-from_fn _ (λ j. how_many (λ s. eqb s.label (2 * j + 1)) b) _ (λ i y q k. search rules) _ 8 0 c.from_fn.ensures.items
