use Rattle.std.proofs.Common.{◌%◌, ap, ◌∙◌, arith}
use Rattle.watch.specs.Watcher.{watch_label}
use Rattle.watch.specs.WatchedFair.{positions_many}
use Rattle.watch.proofs.WatchedSpots.{label-shown}
use Rattle.watch.proofs.watched.WatchedBoard.label.Goals as goal

pub returns-then-position-count : goal.returns-then-position-count
returns-then-position-count g c =
    let b = g.B.Board.meaning c.args.self.now.board in
    let w = c.args.self.now.watcher in
    let many = positions_many b w in
    c.label.ensures ∙ ap (λ s. watch_label w (c.args.position % s)) c.states.ensures ∙ label-shown b w c.args.position (omega arith)
