use Rattle.std.proofs.Common.{refl, arith}
use Rattle.board.specs.Spot.{blank}
use Rattle.board_text.specs.Text.{spot_line}
use Rattle.board_text.proofs.Pens.{HasRoom-more, Writes-more}
use Rattle.board_text.proofs.pen.Pen.spots.Goals as goal

pub spot-requires : goal.spot-requires
spot-requires g c =
    HasRoom-more spot_line (g.B.Board.meaning c.args.board.now) c.loop-position.position blank (omega arith) c.requires c.loop-position.invariant

pub loop-position-preserved : goal.loop-position-preserved
loop-position-preserved g c =
    Writes-more spot_line (g.B.Board.meaning c.args.board.now) c.loop-position.position blank (omega arith) c.loop-position.invariant c.spot.ensures refl
