-- The test on a list of moves.
use Rattle.std.specs.Prelude.{ℕ, ◌+◌, Bool, true, ◌&&◌, List, [], ◌∷◌, nat_le, nat_lt}

-- the moves begin at `low` or above, stay below n and strictly ascend
abbrev pub rising : ℕ → ℕ → List ℕ → Bool
rising n low [] = true
rising n low (m ∷ ms) = nat_le low m && (nat_lt m n && rising n (m + 1) ms)
