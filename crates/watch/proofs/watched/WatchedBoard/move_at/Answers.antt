use Rattle.std.proofs.Common.{ℕ, ◌+◌, ◌*◌, ◌/◌, ◌%◌, ◌<◌, ◌≤◌, ◌∙◌, subst, arith}
use Rattle.board.specs.Spot.{moves_of}
use Rattle.watch.proofs.WatchedSpots.{move_answered, move_absent, move_lands}
use Rattle.watch.proofs.watched.WatchedBoard.move_at.Given as given
use Rattle.watch.proofs.watched.WatchedBoard.move_at.Goals as goal

lands : (g : given.Over) (c : goal.After-from-next g) → c.move_at-to.result * c.states-states.result + c.from-next.result < 512
lands g c =
    let s = c.states-states.result in
    let n = c.args.position in
    move_lands (g.B.Board.meaning c.args.self.now.board) c.args.self.now.watcher (g.B.Board.fair c.args.self.now.board)
    (n / s) c.args.place (n % s) c.label.result s c.move_at-to.result c.from-next.result
    c.states-states.ensures (omega arith) c.move_at-to.ensures (c.from-next.ensures ∙ c.next.ensures)

pub overflow_mul-result : goal.overflow_mul-result
overflow_mul-result g c = let below = lands g c in omega arith

pub overflow_add-result : goal.overflow_add-result
overflow_add-result g c = let below = lands g c in omega arith

pub returns-then-place-moves : goal.returns-then-place-moves
returns-then-place-moves g c =
    move_answered (g.B.Board.meaning c.args.self.now.board) c.args.self.now.watcher c.args.position c.args.place
    c.states-states.result c.move_at-to.result c.label.result c.from-next.result
    c.states-states.ensures (omega arith) c.move_at-to.ensures c.label.ensures (c.from-next.ensures ∙ c.next.ensures)

pub returns-else-place-moves : goal.returns-else-place-moves
returns-else-place-moves g c =
    let b = g.B.Board.meaning c.args.self.now.board in
    let n = c.args.position in
    let i = c.args.place in
    let past : moves_of b (n / c.states-states.result) ≤ i = omega arith in
    move_absent b c.args.self.now.watcher n i (subst (λ (s : ℕ). moves_of b (n / s) ≤ i) c.states-states.ensures past)
