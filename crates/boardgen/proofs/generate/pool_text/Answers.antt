use Rattle.std.proofs.lemmas.Result.{IfOk-weaker}
use Rattle.boardgen.proofs.generate.pool_text.Goals as goal

pub returns : goal.returns
returns c =
    IfOk-weaker c.pool_board_text.result _ _ (λ v e. (c.number_in.result, c.number_in.ensures, e)) c.pool_board_text.ensures
