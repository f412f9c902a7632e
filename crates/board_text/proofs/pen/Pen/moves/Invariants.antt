use Rattle.std.proofs.Common.{take}
use Rattle.board.specs.Spot.{spot_at}
use Rattle.board_text.specs.Digits.{hex4s}
use Rattle.board_text.specs.Pens.{Writes}
use Rattle.board_text.proofs.pen.Pen.moves.Given as goal

abbrev pub invariant-loop-place : goal.invariant-loop-place
invariant-loop-place g l = Writes l.fn.self (hex4s (take l.place (spot_at (g.B.Board.meaning l.board) l.position).moves)) l.self
