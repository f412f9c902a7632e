-- Numbers of four digits each, taken off a list of digits.
use Rattle.std.proofs.Common.{◌≡◌, ℕ, ◌/◌, List, [], ◌∷◌, length, refl, arith}
use Rattle.board_text.specs.Digits.{fours}

-- there is one number for each four digits
pub length_fours : (l : List ℕ) → length (fours l) ≡ length l / 4
length_fours [] = refl
length_fours (a ∷ []) = refl
length_fours (a ∷ b ∷ []) = refl
length_fours (a ∷ b ∷ c ∷ []) = refl
length_fours (a ∷ b ∷ c ∷ d ∷ l) = let e = length_fours l in omega arith
