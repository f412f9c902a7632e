use Rattle.std.proofs.Common.{sym}
use Rattle.board_text.proofs.Fours.{length_fours}
use Rattle.board_text.proofs.spot_line.SpotLine.count.Goals as goal

pub returns-clause-count : goal.returns-clause-count
returns-clause-count c = sym (length_fours c.args.self.now.digits.now)
