use Rattle.std.proofs.Common.{◌+◌, ◌^◌, rules, arith}
use Rattle.std.proofs.lemmas.Iterator.{YieldsList-from_slice, YieldsList-from_map}
use Rattle.meter.specs.Few.{spread-few}
use Rattle.meter.specs.Radix.{spread-some}
use Rattle.meter.proofs.Spread.{product-fits, product-is}
use Rattle.meter.proofs.return_meter.ReturnMeter.memories.Goals as goal

pub product-requires-clause-fits : goal.product-requires-clause-fits
product-requires-clause-fits c =
    let m = c.args.self.now in
    let few = spread-few m.limits m.few.0 m.few.1 in
    product-fits m.limits (YieldsList-from_map _ (λ n. n + 1) (YieldsList-from_slice m.limits cc) c.map-counts.ensures.closure (λ x r q k. search rules)) (2 ^ 64) (omega arith)

pub returns-clause-value : goal.returns-clause-value
returns-clause-value c =
    let ns = c.args.self.now.limits in
    product-is ns (YieldsList-from_map _ (λ n. n + 1) (YieldsList-from_slice ns cc) c.map-counts.ensures.closure (λ x r q k. search rules)) c.product.result c.product.ensures.ran

pub returns-clause-few : goal.returns-clause-few
returns-clause-few c =
    let m = c.args.self.now in
    let value = returns-clause-value c in
    let some = spread-some m.limits in
    let few = spread-few m.limits m.few.0 m.few.1 in
    (omega arith, omega arith)
