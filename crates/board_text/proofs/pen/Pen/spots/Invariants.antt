use Rattle.std.proofs.Common.{take}
use Rattle.board_text.specs.Pens.{Writes}
use Rattle.board_text.specs.Text.{spot_lines}
use Rattle.board_text.proofs.pen.Pen.spots.Given as goal

abbrev pub invariant-loop-position : goal.invariant-loop-position
invariant-loop-position g l = Writes l.fn.self (spot_lines (take l.position (g.B.Board.meaning l.board))) l.self
