use Rattle.std.proofs.Common.{◌≡◌, ◌+◌}
use Rattle.std.specs.Iterator.Adapters.{enumerate_source, enumerate_count}
use Rattle.board_text.specs.Digits.{fours}
use Rattle.board_text.specs.Put.{put}
use Rattle.board_text.specs.SpotLines.{position_of}
use Rattle.board_text.proofs.spot_line.SpotLine.fill.Given as goal

-- what is left, written, gives the end
abbrev pub invariant-loop-place : goal.invariant-loop-place
invariant-loop-place l =
    put (l.first + enumerate_count l.place-iterator) (fours (enumerate_source l.place-iterator).digits.now) l.moves
    ≡ put l.first (position_of l.self).moves l.initial.moves
