use Rattle.std.proofs.Common.{rules, ◌≡◌, ◌∙◌, ap, ℕ, Option, unwrap_or, slice_get, option_and_then}
use Rattle.board.specs.Pool.{pool_moves}
use Rattle.board.proofs.PoolAnswers.{move-off}
use Rattle.board.proofs.pool.PoolBoard.move_at.Goals as goal

pub returns : goal.returns
returns c =
    let told : c.and_then.result ≡ option_and_then (λ p. slice_get (pool_moves p.pool.buffers p.state) c.args.place) c.position.result = search rules in
    c.unwrap_or.ensures
    ∙ ap (λ (o : Option ℕ). unwrap_or o 0) told
    ∙ move-off c.args.self.now.buffers c.args.position c.args.place c.position.result c.position.ensures.buffers c.position.ensures.state
