use Rattle.std.proofs.Common.{◌≡◌, ◌*◌, length, sym, ◌∙◌}
use Rattle.watch.specs.Watched.{states_on}
use Rattle.watch.specs.WatchedFair.{positions_many}
use Rattle.watch.proofs.watched.WatchedBoard.count.Goals as goal

pub returns : goal.returns
returns g c =
    let b = g.B.Board.meaning c.args.self.now.board in
    let w = c.args.self.now.watcher in
    let same : c.count.result * c.states.result ≡ length b * states_on b w = cc in
    same ∙ sym (positions_many b w)
