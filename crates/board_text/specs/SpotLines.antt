-- What the line of a position says; only private functions cite it.
use Rattle.board.specs.Spot.{Spot}
use Rattle.board_text.specs.Digits.{fours}
use Rattle.board_text.specs.declared.spot_line.SpotLine.{SpotLine}

-- the position that it gives
abbrev pub position_of : SpotLine → Spot
position_of s = record { side = s.side; label = s.label; moves = fours s.digits.now }
