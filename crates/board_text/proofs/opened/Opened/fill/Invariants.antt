use Rattle.board.specs.Spot.{all_moves}
use Rattle.board_text.specs.Put.{put}
use Rattle.board_text.specs.Passes.{after_opening, board_in}
use Rattle.board_text.specs.Reading.{records_of}
use Rattle.board_text.proofs.Filled.{Filling}
use Rattle.board_text.proofs.opened.Opened.fill.Given as goal

abbrev pub invariant-loop-record : goal.invariant-loop-record
invariant-loop-record l =
    Filling l.self.count l.record-index l.first l.lines.taken l.lines.rest.now l.record-items l.moves
    (put 0 (records_of 0 (board_in (after_opening l.self.count l.self.lines.rest.now))) l.initial.record-items)
    (put 0 (all_moves (board_in (after_opening l.self.count l.self.lines.rest.now))) l.initial.moves)
