use Rattle.std.proofs.Common.{arith}
use Rattle.board.specs.Spot.{spot_at}
use Rattle.board_text.specs.Digits.{hex4}
use Rattle.board_text.proofs.Pens.{HasRoom-more, Writes-more}
use Rattle.board_text.proofs.pen.Pen.moves.Goals as goal

pub four-requires : goal.four-requires
four-requires g c =
    let moves = (spot_at (g.B.Board.meaning c.args.board.now) c.args.position).moves in
    HasRoom-more hex4 moves c.loop-place.place 0 (omega arith) c.requires c.loop-place.invariant

pub loop-place-preserved : goal.loop-place-preserved
loop-place-preserved g c =
    let moves = (spot_at (g.B.Board.meaning c.args.board.now) c.args.position).moves in
    Writes-more hex4 moves c.loop-place.place 0 (omega arith) c.loop-place.invariant c.four.ensures c.move_at.ensures
