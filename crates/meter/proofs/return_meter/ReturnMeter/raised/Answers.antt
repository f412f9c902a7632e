use Rattle.std.proofs.Common.{◌+◌, ◌∙◌, rules, tests, arith}
use Rattle.std.proofs.lemmas.Bool.Decides.{nat_tests}
use Rattle.meter.specs.Counters.{has_room}
use Rattle.meter.proofs.Places.{last_place-some, last_place-none, tail-zeros}
use Rattle.meter.proofs.return_meter.ReturnMeter.raised.Goals as goal

pub returns-in-Some : goal.returns-in-Some
returns-in-Some c =
    let e = c.in-Some.ensures in
    let place = last_place-some (has_room c.args.self.now.limits c.args.counters.now) _ _ e.0 (let h = e.1 in search (rules, tests)) (λ j gt lt. let h = e.2 j gt lt in search (rules, tests)) in
    let tail = c.with_tail-next.ensures ∙ tail-zeros c.args.counters.now (c.in-Some.place + 1) (search rules) in
    grind (arith, nat_tests)

pub returns-in-None : goal.returns-in-None
returns-in-None c =
    let place = last_place-none (has_room c.args.self.now.limits c.args.counters.now) _ (λ j lt. let h = c.in-None.ensures j lt in search (rules, tests)) in grind (arith, nat_tests)
