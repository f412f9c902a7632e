use Rattle.std.proofs.lemmas.Result.{err_from_is_err_and}
use Rattle.board_text.proofs.Surveyed.{sofar-more, sofar-no-spot}
use Rattle.board_text.proofs.opened.Opened.tally.Goals as goal

pub returns-in_err-total-clause-total : goal.returns-in_err-total-clause-total
returns-in_err-total-clause-total c =
    let p = err_from_is_err_and c.from_residual-in_err-total.result c.from_residual-in_err-total.ensures.1 in
    let next = c.in_ok-next.ensures in
    rw (p.1, p.2) (sofar-no-spot c.loop-test.true c.loop.invariant next.line next.taken.0 c.in_err-total.ensures.moves)

pub loop-preserved : goal.loop-preserved
loop-preserved c =
    let next = c.in_ok-next.ensures in
    let given = c.in_ok-total.ensures in
    sofar-more c.loop-test.true c.loop.invariant next.line next.taken.0 given.moves given.few next.taken.1
