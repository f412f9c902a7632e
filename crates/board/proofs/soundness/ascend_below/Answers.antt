use Rattle.std.proofs.Common.{◌∙◌, rules, tests}
use Rattle.std.proofs.lemmas.Iterator.{YieldsList-from_slice}
use Rattle.board.proofs.Rises.{rising_from_try_fold}
use Rattle.board.proofs.soundness.ascend_below.Goals as goal

pub returns : goal.returns
returns c =
    c.is_some.ensures
    ∙ rising_from_try_fold c.args.count c.try_fold.new.self _ (λ low m r q k. search (rules, tests)) 0 _ c.try_fold.ensures.ran (YieldsList-from_slice c.args.moves.now cc)
