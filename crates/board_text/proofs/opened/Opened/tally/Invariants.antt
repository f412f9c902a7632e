use Rattle.board_text.specs.Passes.{tallied}
use Rattle.board_text.specs.Verdict.{spots_in}
use Rattle.board_text.proofs.Surveyed.{Sofar}
use Rattle.board_text.proofs.opened.Opened.tally.Given as goal

abbrev pub invariant-loop : goal.invariant-loop
invariant-loop l =
    Sofar l.self.count l.counter l.total l.lines.taken l.lines.rest.now (tallied 0 (spots_in l.self.count l.self.count 2 l.self.lines.rest.now))
