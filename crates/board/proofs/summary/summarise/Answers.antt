use Rattle.std.proofs.Common.{eqb, rules}
use Rattle.board.specs.Spot.{how_many}
use Rattle.board.proofs.FromFn.{map-from_fn}
use Rattle.board.proofs.summary.summarise.Goals as goal

pub returns : goal.returns
returns g c =
    let b = g.B.Board.meaning c.args.board.now in
    let all = map-from_fn _ (λ k. how_many (λ s. eqb s.label k) b) _ (λ i y q k. search rules) c.from_fn.result 16 0 c.from_fn.ensures.items in
    let one = c.count_side.ensures in
    let two = c.count_side-2.ensures in
    let three = c.count_moves.ensures in
    cc
