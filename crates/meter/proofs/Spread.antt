-- The limits multiplied, one after another, as `product` does.
use Rattle.std.proofs.Common.{◌≡◌, ℕ, ◌+◌, ◌*◌, ◌<◌, ◌≤◌, List, [], ◌∷◌, map, length, take, drop, Option, sym, ap, subst, ◌∙◌, mul_assoc, mul-one, mul-le-mul_left, arith}
use Rattle.std.proofs.lemmas.Iterator.{YieldsList, items_from_drains}
use Rattle.std.proofs.lemmas.Iterator.Consumers.{YieldsList-so_far}
use Rattle.std.proofs.lemmas.List.{map-id, take-map}
use Rattle.std.specs.Bool.{⊤}
use Rattle.std.specs.Iterator.{Yields, Drains}
use Rattle.std.specs.Iterator.Runs.{YieldsRun, EachRunFrom}
use Rattle.std.specs.List.{fold}
use Rattle.meter.specs.Counters.{spread}
use Rattle.meter.specs.Radix.{spread-some, spread-split}

product-more : (ns : List ℕ) → fold (λ (x y : ℕ). x * y) 1 (map (λ (n : ℕ). n + 1) ns) ≡ spread ns
product-more ns = go 1 ns ∙ omega arith
  where
    go : (a : ℕ) (ns : List ℕ) → fold (λ (x y : ℕ). x * y) a (map (λ (n : ℕ). n + 1) ns) ≡ a * spread ns
    go a [] = sym (mul-one a)
    go a (n ∷ ns) = go (a * (n + 1)) ns ∙ mul_assoc a (n + 1) (spread ns)

spread-take-le : (ns : List ℕ) (k : ℕ) → spread (take k ns) ≤ spread ns
spread-take-le ns k =
    let split = spread-split ns k in
    let some = mul-le-mul_left (spread (take k ns)) (spread-some (drop k ns)) in
    let one = mul-one (spread (take k ns)) in
    omega arith

module _ {S : Type 0} {steps : S → Option ℕ → S → Type 0} {s : S} (ns : List ℕ) (gives : YieldsList steps (λ x. x) s (map (λ n. n + 1) ns)) where
  -- the product of what came so far never passes that of all
  pub product-fits : (top : ℕ) → spread ns < top → EachRunFrom steps s (λ p. fold (λ x y. x * y) 1 p.items < top)
  unfolding YieldsRun
  product-fits top lt = λ p _ at.
      let items : p.items ≡ map (λ n. n + 1) (take (length p.items) ns) = sym (map-id p.items) ∙ YieldsList-so_far gives p.items p.gave.0.0 (subst (λ u. Yields steps u p.items p.gave.0.0) at p.gave.0.1) ∙ take-map (λ n. n + 1) (length p.items) ns in
      let same = ap (fold (λ (x y : ℕ). x * y) 1) items ∙ product-more (take (length p.items) ns) in
      let most = spread-take-le ns (length p.items) in
      omega arith

  pub product-is : (r : ℕ) → ((xs : List ℕ) × (⊤ → Drains steps s xs) × (r ≡ fold (λ x y. x * y) 1 xs)) → r ≡ spread ns
  product-is r ran =
      let d = ran.1 tt in
      let items : ran.0 ≡ map (λ n. n + 1) ns = sym (map-id ran.0) ∙ items_from_drains ran.0 (d.1.0, d.1.1, λ _. (d.0, d.1.2)) gives in
      ran.2 ∙ ap (fold (λ (x y : ℕ). x * y) 1) items ∙ product-more ns
