use Rattle.std.proofs.Common.{◌/◌, ap, ◌∙◌}
use Rattle.board.specs.Spot.{moves_of}
use Rattle.watch.proofs.WatchedSpots.{as_many_moves}
use Rattle.watch.proofs.watched.WatchedBoard.moves.Goals as goal

pub returns : goal.returns
returns g c =
    c.moves.ensures
    ∙ ap (λ s. moves_of (g.B.Board.meaning c.args.self.now.board) (c.args.position / s)) c.states.ensures
    ∙ as_many_moves (g.B.Board.meaning c.args.self.now.board) c.args.self.now.watcher c.args.position
