use Rattle.std.proofs.Common.{rules, ◌≡◌, ◌∙◌, length}
use Rattle.std.specs.Option.{option_map_or}
use Rattle.board.specs.Pool.{pool_moves}
use Rattle.board.proofs.PoolAnswers.{read-off}
use Rattle.board.proofs.pool.PoolBoard.moves.Goals as goal

pub returns : goal.returns
returns c =
    let told : c.map_or.result ≡ option_map_or (λ p. length (pool_moves p.pool.buffers p.state)) c.position.result 0 = search rules in
    told ∙ read-off c.args.self.now.buffers c.args.position (λ s. length s.moves) c.position.result c.position.ensures.buffers c.position.ensures.state
