use Rattle.std.proofs.Common.{arith}
use Rattle.std.proofs.lemmas.Grind.{common_steps}
use Rattle.meter.specs.Marked.{gauge_of}
use Rattle.meter.specs.Return.{return_scale}
use Rattle.meter.specs.ReturnLaws.{return-laws}
use Rattle.meter.proofs.Adjoint.{adjoint-at}
use Rattle.meter.proofs.return_meter.ReturnMeterMeter.up.Goals as goal

pub returns-clause-value : goal.returns-clause-value
returns-clause-value c = grind (arith, common_steps)

pub returns-clause-adjoint : goal.returns-clause-adjoint
returns-clause-adjoint c =
    let m = c.args.self.now in
    adjoint-at (gauge_of (return_scale m.limits)) (return-laws m.limits m.few.0 m.few.1) c.into.result c.args.x c.args.label (returns-clause-value c)
