use Rattle.std.proofs.Common.{◌≡◌, sym, arith}
use Rattle.std.proofs.lemmas.Bool.Decides.{nat_tests}
use Rattle.board_text.specs.Verdict.{is_number_line, number_in}
use Rattle.board_text.proofs.Framed.{passed}
use Rattle.board_text.proofs.line.Line.count.Goals as goal

pub returns-then-count-eq0-clause-count : goal.returns-then-count-eq0-clause-count
returns-then-count-eq0-clause-count c =
    let digits = c.args.self.now.digits.now in
    let p = passed (is_number_line 1 digits) _ _ c.in_ok-count.count (sym c.in_ok-count.ensures) in
    let same : number_in digits ≡ c.in_ok-count.count = cc p.1 in
    rw (p.0, same) (grind (arith, nat_tests))

pub returns-clause-count : goal.returns-clause-count
returns-clause-count c =
    let digits = c.args.self.now.digits.now in
    let p = passed (is_number_line 1 digits) _ _ c.in_ok-count.count (sym c.in_ok-count.ensures) in
    let same : number_in digits ≡ c.in_ok-count.count = cc p.1 in
    rw (p.0, same) (grind (arith, nat_tests))
