use Rattle.std.proofs.Common.{refl}
use Rattle.watch.proofs.WatchedSpots.{watches}
use Rattle.watch.proofs.watched.Watched.new.Goals as goal

pub returns : goal.returns
returns g c = record { board = refl; watcher = refl; shows = watches (g.B.Board.meaning c.args.board) c.args.watcher }
