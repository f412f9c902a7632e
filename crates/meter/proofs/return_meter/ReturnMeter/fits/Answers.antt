use Rattle.std.proofs.Common.{ℕ, leb, ◌∙◌, rules, tests}
use Rattle.std.proofs.lemmas.Iterator.Search.{all_from_yields_List}
use Rattle.meter.proofs.Pairs.{pairs-given, within-zip}
use Rattle.meter.proofs.return_meter.ReturnMeter.fits.Goals as goal

pub returns : goal.returns
returns c =
    let ns = c.args.self.now.limits in
    let cs = c.args.counters.now in
    all_from_yields_List (λ (p : ℕ × ℕ). leb p.0 p.1) c.all.new.self _ c.all.result c.all.ensures.ran (pairs-given {s = c.zip.result} cs ns (cc) (cc)) (λ x b q h. search (rules, tests))
    ∙ within-zip ns cs (search rules)
