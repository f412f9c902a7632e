-- A board in numbers.
use Rattle.std.specs.Prelude.{List, map, length, nat_eq}
use Rattle.std.specs.List.{range_with_len}
use Rattle.board.specs.Spot.{Spot, all_moves, how_many}
use Rattle.board.specs.declared.summary.Summary.{Summary}

-- the positions of each side, those that bear each label from 0 to 15, and all moves
abbrev pub summary_of : List Spot → Summary
summary_of b = record {
  controller = how_many (λ s. nat_eq s.side 0) b;
  kiln = how_many (λ s. nat_eq s.side 1) b;
  labels = map (λ k. how_many (λ s. nat_eq s.label k) b) (range_with_len 0 16);
  moves = length (all_moves b);
}
