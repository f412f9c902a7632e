use Rattle.std.proofs.Common.{◌∙◌, rules, tests}
use Rattle.std.proofs.lemmas.Iterator.Consumers.{YieldsList-from_first}
use Rattle.board_text.specs.Digits.{fours}
use Rattle.board_text.specs.declared.digits.Fours.{Fours}
use Rattle.board.proofs.Rises.{rising_from_try_fold}
use Rattle.board_text.proofs.spot_line.SpotLine.rises.Goals as goal

pub returns : goal.returns
returns c =
    c.is_some.ensures
    ∙ rising_from_try_fold c.args.count c.try_fold.new.self _ (λ low m r q k. search (rules, tests)) 0 _ c.try_fold.ensures.ran
    (YieldsList-from_first (λ m. m) (λ (s : Fours). fours s.digits.now) (fours c.args.self.now.digits.now) c.moves.ensures)
