use Rattle.std.proofs.Common.{◌/◌, ap, ◌∙◌}
use Rattle.board.specs.Spot.{side_of}
use Rattle.watch.proofs.WatchedSpots.{side-shown}
use Rattle.watch.proofs.watched.WatchedBoard.side.Goals as goal

pub returns : goal.returns
returns g c =
    c.side.ensures
    ∙ ap (λ s. side_of (g.B.Board.meaning c.args.self.now.board) (c.args.position / s)) c.states.ensures
    ∙ side-shown (g.B.Board.meaning c.args.self.now.board) c.args.self.now.watcher c.args.position
