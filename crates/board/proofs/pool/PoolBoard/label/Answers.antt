use Rattle.std.proofs.Common.{rules, ◌≡◌, ◌∙◌}
use Rattle.std.specs.Option.{option_map_or}
use Rattle.board.specs.Pool.{pool_label}
use Rattle.board.proofs.PoolAnswers.{read-off}
use Rattle.board.proofs.pool.PoolBoard.label.Goals as goal

pub returns : goal.returns
returns c =
    let told : c.map_or.result ≡ option_map_or (λ p. pool_label p.state) c.position.result 0 = search rules in
    told ∙ read-off c.args.self.now.buffers c.args.position (λ s. s.label) c.position.result c.position.ensures.buffers c.position.ensures.state
