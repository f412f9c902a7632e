use Rattle.std.proofs.Common.{ap, ◌∙◌, rules, arith}
use Rattle.std.specs.List.{range_with_len, sum_by}
use Rattle.std.proofs.lemmas.Iterator.{YieldsList-from_map, YieldsList-from_range}
use Rattle.std.proofs.lemmas.Iterator.Consumers.{sum_by_from_yields_List, fits_by_from_yields_list}
use Rattle.board.specs.Spot.{moves_of}
use Rattle.board.proofs.Tallies.{moves_in_all, few-moves}
use Rattle.board.proofs.counts.count_moves.Goals as goal

pub sum-requires-clause-fits : goal.sum-requires-clause-fits
sum-requires-clause-fits g c =
    let b = g.B.Board.meaning c.args.board.now in
    let n = c.count.result in
    let most = (g.B.Board.fair c.args.board.now).most in
    let few = few-moves b (g.B.Board.fair c.args.board.now) in
    let whole = ap (λ m. sum_by (λ v. moves_of b v) (range_with_len 0 m)) c.count.ensures ∙ moves_in_all b in
    fits_by_from_yields_list (λ v. moves_of b v) (range_with_len 0 n) c.map.result 65536 (YieldsList-from_map _ (λ v. moves_of b v) (YieldsList-from_range 0 n n c.map.ensures.source (omega arith)) c.map.ensures.closure (λ x r q k. search rules)) (omega arith)

pub returns : goal.returns
returns g c =
    let b = g.B.Board.meaning c.args.board.now in
    let n = c.count.result in
    sum_by_from_yields_List (λ v. moves_of b v) (range_with_len 0 n) c.map.result c.sum.result c.sum.ensures.ran (YieldsList-from_map _ (λ v. moves_of b v) (YieldsList-from_range 0 n n c.map.ensures.source (omega arith)) c.map.ensures.closure (λ x r q k. search rules))
    ∙ ap (λ m. sum_by (λ v. moves_of b v) (range_with_len 0 m)) c.count.ensures
    ∙ moves_in_all b
