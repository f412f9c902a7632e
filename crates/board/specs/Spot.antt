-- What a board is: the list of its positions, and the five questions that can be asked of it.
use Rattle.std.specs.Prelude.{◌≡◌, ℕ, ◌+◌, Bool, cond, List, [], ◌∷◌, ◌++◌, length, slice_index, slice_index_or}

-- a position (a vertex of a parity game): who moves there (its owner), its label (its priority), and where the moves (its edges) lead
pub record Spot : Type 0 where
  pub side : ℕ
  pub label : ℕ
  pub moves : List ℕ

-- what a position that is not there looks like: every question about it answers 0
abbrev pub blank : Spot
blank = record { side = 0; label = 0; moves = [] }

-- position v of board b
abbrev pub spot_at : List Spot → ℕ → Spot
spot_at b v = slice_index_or b v blank

-- how many positions there are
abbrev pub count_of : List Spot → ℕ
count_of b = length b

-- who moves at v: 0 the controller, 1 the kiln
abbrev pub side_of : List Spot → ℕ → ℕ
side_of b v = (spot_at b v).side

-- the label of v
abbrev pub label_of : List Spot → ℕ → ℕ
label_of b v = (spot_at b v).label

-- how many moves v has
abbrev pub moves_of : List Spot → ℕ → ℕ
moves_of b v = length (spot_at b v).moves

-- where move i of v leads
abbrev pub move_of : List Spot → ℕ → ℕ → ℕ
move_of b v i = slice_index (spot_at b v).moves i

-- every move of the board, position by position
abbrev pub all_moves : List Spot → List ℕ
all_moves [] = []
all_moves (s ∷ b) = s.moves ++ all_moves b

-- how many positions pass a test
abbrev pub how_many : (Spot → Bool) → List Spot → ℕ
how_many test [] = 0
how_many test (s ∷ b) = cond (test s) (1 + how_many test b) (how_many test b)

-- each answer to a question about a position by its number is that of the test
abbrev pub Tests : (ℕ → Bool → Type 0) → (Spot → Bool) → List Spot → Type 0
Tests answers test b = (v : ℕ) (r : Bool) → answers v r → r ≡ test (spot_at b v)
