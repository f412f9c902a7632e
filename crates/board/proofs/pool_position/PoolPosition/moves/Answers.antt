use Rattle.std.proofs.Common.{ℕ, ◌+◌, ◌*◌, ap, ◌∙◌}
use Rattle.board.proofs.PoolMoves.{choices-clash, choices-handing, choices-giving}
use Rattle.board.proofs.pool_position.PoolPosition.moves.Goals as goal

pub returns-then-clashes : goal.returns-then-clashes
returns-then-clashes c = let p = c.args.self in choices-clash p.pool.buffers p.state p.pool.known.1 p.inside c.if-clashes.ensures

pub returns-in-Controller : goal.returns-in-Controller
returns-in-Controller c =
    let p = c.args.self in
    ap (λ (b : ℕ). 1 + c.idle.result * b) c.buffers.ensures
    ∙ choices-handing p.pool.buffers p.state p.pool.known.1 p.inside c.if-clashes.ensures c.in-Controller.is c.idle.result c.idle.ensures

pub returns-in-Kiln : goal.returns-in-Kiln
returns-in-Kiln c =
    let p = c.args.self in
    choices-giving p.pool.buffers p.state p.pool.known.1 p.inside c.if-clashes.ensures c.in-Kiln.is c.idle-in-Kiln.result c.idle-in-Kiln.ensures
