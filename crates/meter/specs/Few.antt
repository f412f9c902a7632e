-- Why a return meter has at most 2^49 memories: eight limits that add up to at most 512 make a product of at most 65^8.
-- Nothing here has to be read to understand a contract.
use Rattle.std.specs.Prelude.{◌≡◌, ℕ, ◌+◌, ◌-◌, ◌*◌, ◌^◌, ◌<◌, ◌≤◌, List, [], ◌∷◌, length, refl}
use Rattle.std.proofs.Common.{⊎_elim, subst, ◌∙◌, mul-add, add-mul, mul_comm, mul-one}
use Rattle.std.proofs.Math.Path.{sym, ap}
use Rattle.std.proofs.Math.Nat.{mul_assoc, mul-le-mul, mul-le-mul_left}
use native.Mathlib.Omega.{arith}
use Rattle.std.proofs.lemmas.Bool.{cases_lt}
use Rattle.meter.specs.Counters.{spread, total}

-- 4ab ≤ (a + b)²: the square is 4ab and the square of the difference
apart : (a d : ℕ) → 4 * (a * (a + d)) ≤ (a + (a + d)) * (a + (a + d))
apart a d =
    let one = mul-add a a d in
    let two = add-mul a (a + d) (a + (a + d)) in
    let three = mul-add a a (a + d) in
    let four = mul-add (a + d) a (a + d) in
    let five = add-mul a d a in
    let six = add-mul a d (a + d) in
    let seven = mul-add d a d in
    let eight = mul_comm d a in
    omega arith

four-times : (a b : ℕ) → 4 * (a * b) ≤ (a + b) * (a + b)
four-times a b =
    ⊎_elim
    (λ (lt : a < b).
    let e : a + (b - a) ≡ b = omega arith in
    subst (λ (x : ℕ). 4 * (a * x) ≤ (a + x) * (a + x)) e (apart a (b - a)))
    (λ (ge : b ≤ a).
    let e : b + (a - b) ≡ a = omega arith in
    let swapped = subst (λ (x : ℕ). 4 * (b * x) ≤ (b + x) * (b + x)) e (apart b (a - b)) in
    let turn = mul_comm a b in
    let around : (b + a) * (b + a) ≡ (a + b) * (a + b) = let same : b + a ≡ a + b = omega arith in ap (λ (x : ℕ). x * x) same in
    omega arith)
    (cases_lt a b)

square : ℕ → ℕ
square x = x * x

-- the square of a product is the product of the squares
square_mul : (x y : ℕ) → square (x * y) ≡ square x * square y
unfolding square
square_mul x y =
    let one = mul_assoc x y (x * y) in
    let two = ap (λ (z : ℕ). x * z) (sym (mul_assoc y x y) ∙ ap (λ (z : ℕ). z * y) (mul_comm y x) ∙ mul_assoc x y y) in
    let three = sym (mul_assoc x x (y * y)) in
    one ∙ two ∙ three

square_mono : (x y : ℕ) → x ≤ y → square x ≤ square y
unfolding square
square_mono x y h = mul-le-mul h h

-- two bounds joined: f is a square of squares, so it takes products to products
module _ (f : ℕ → ℕ) (times : (x y : ℕ) → f (x * y) ≡ f x * f y) (mono : (x y : ℕ) → x ≤ y → f x ≤ f y) where
  joined : (c k : ℕ) → f 4 ≡ k → (x y u v : ℕ) → c * x ≤ f u → c * y ≤ f v → k * (c * c) * (x * y) ≤ f (square (u + v))
  unfolding square
  joined c k e x y u v hx hy =
      let both = mul-le-mul hx hy in
      let scaled = mul-le-mul_left k both in
      let group : k * ((c * x) * (c * y)) ≡ k * (c * c) * (x * y) =
      ap (λ (z : ℕ). k * z) (mul_assoc c x (c * y) ∙ ap (λ (z : ℕ). c * z) (sym (mul_assoc x c y) ∙ ap (λ (z : ℕ). z * y) (mul_comm x c) ∙ mul_assoc c x y) ∙ sym (mul_assoc c c (x * y)))
      ∙ sym (mul_assoc k (c * c) (x * y)) in
      let whole : k * (f u * f v) ≡ f (4 * (u * v)) = ap (λ (z : ℕ). k * z) (sym (times u v)) ∙ ap (λ (z : ℕ). z * f (u * v)) (sym e) ∙ sym (times 4 (u * v)) in
      let most = mono (4 * (u * v)) ((u + v) * (u + v)) (four-times u v) in
      omega arith

fourth : ℕ → ℕ
fourth x = square (square x)

fourth_mul : (x y : ℕ) → fourth (x * y) ≡ fourth x * fourth y
unfolding fourth
fourth_mul x y = ap square (square_mul x y) ∙ square_mul (square x) (square y)

fourth_mono : (x y : ℕ) → x ≤ y → fourth x ≤ fourth y
unfolding fourth
fourth_mono x y h = square_mono (square x) (square y) (square_mono x y h)

pair : (a b : ℕ) → 4 * (a * b) ≤ square (a + b)
unfolding square
pair = four-times

quad : (a b c d : ℕ) → 256 * ((a * b) * (c * d)) ≤ fourth ((a + b) + (c + d))
unfolding fourth square
quad a b c d = joined square square_mul square_mono 4 16 refl (a * b) (c * d) (a + b) (c + d) (pair a b) (pair c d)

oct : (a b c d e f g h : ℕ) → 16777216 * (((a * b) * (c * d)) * ((e * f) * (g * h))) ≤ fourth (square (((a + b) + (c + d)) + ((e + f) + (g + h))))
unfolding fourth square
oct a b c d e f g h =
    joined fourth fourth_mul fourth_mono 256 256 refl ((a * b) * (c * d)) ((e * f) * (g * h)) ((a + b) + (c + d)) ((e + f) + (g + h)) (quad a b c d) (quad e f g h)

most : fourth (square 520) ≤ 16777216 * 2 ^ 49
unfolding fourth square
most = omega arith

-- eight limits that add up to at most 512 make at most 2^49 memories
pub spread-few : (ns : List ℕ) → length ns ≡ 8 → total ns ≤ 512 → spread ns ≤ 2 ^ 49
spread-few [] e h = absurd (omega arith)
spread-few (a ∷ []) e h = absurd (omega arith)
spread-few (a ∷ b ∷ []) e h = absurd (omega arith)
spread-few (a ∷ b ∷ c ∷ []) e h = absurd (omega arith)
spread-few (a ∷ b ∷ c ∷ d ∷ []) e h = absurd (omega arith)
spread-few (a ∷ b ∷ c ∷ d ∷ i ∷ []) e h = absurd (omega arith)
spread-few (a ∷ b ∷ c ∷ d ∷ i ∷ j ∷ []) e h = absurd (omega arith)
spread-few (a ∷ b ∷ c ∷ d ∷ i ∷ j ∷ k ∷ []) e h = absurd (omega arith)
spread-few (a ∷ b ∷ c ∷ d ∷ i ∷ j ∷ k ∷ l ∷ []) e h =
    let A = a + 1 in
    let B = b + 1 in
    let C = c + 1 in
    let D = d + 1 in
    let I = i + 1 in
    let J = j + 1 in
    let K = k + 1 in
    let L = l + 1 in
    let bound = oct A B C D I J K L in
    let all = ((A + B) + (C + D)) + ((I + J) + (K + L)) in
    let sum : all ≤ 520 = omega arith in
    let top = fourth_mono (square all) (square 520) (square_mono all 520 sum) in
    let bracket : spread (a ∷ b ∷ c ∷ d ∷ i ∷ j ∷ k ∷ l ∷ []) ≡ ((A * B) * (C * D)) * ((I * J) * (K * L)) = regroup A B C D I J K L in
    let limit = most in
    omega arith
  where
    regroup : (a b c d e f g h : ℕ) → a * (b * (c * (d * (e * (f * (g * (h * 1))))))) ≡ ((a * b) * (c * d)) * ((e * f) * (g * h))
    regroup a b c d e f g h = simp (mul_assoc, mul-one)
spread-few (a ∷ b ∷ c ∷ d ∷ i ∷ j ∷ k ∷ l ∷ m ∷ ns) e h = absurd (omega arith)
