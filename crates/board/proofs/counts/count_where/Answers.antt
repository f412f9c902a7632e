use Rattle.std.proofs.Common.{◌≡◌, length, filter, rules, tests, ℕ, ap, ◌∙◌, arith}
use Rattle.std.specs.List.{range_with_len}
use Rattle.std.proofs.lemmas.Iterator.{YieldsList-from_range}
use Rattle.std.proofs.lemmas.Iterator.Consumers.{YieldsList-from_filter, count_from_yields_List}
use Rattle.board.specs.Spot.{spot_at}
use Rattle.board.proofs.Tallies.{passing}
use Rattle.board.proofs.counts.count_where.Goals as goal

pub returns : goal.returns
returns g c = λ test h.
    let b = g.B.Board.meaning c.args.board.now in
    let n = c.count.result in
    let chain : c.count-2.result ≡ length (filter (λ v. test (spot_at b v)) (range_with_len 0 n)) = count_from_yields_List c.filter.result c.count-2.result c.count-2.ensures.ran (YieldsList-from_filter _ (λ v. test (spot_at b v)) (YieldsList-from_range 0 n n c.filter.ensures.source (omega arith)) c.filter.ensures.closure (λ x r q k. search (rules, tests))) in
    chain ∙ ap (λ (m : ℕ). length (filter (λ v. test (spot_at b v)) (range_with_len 0 m))) c.count.ensures ∙ passing test b
