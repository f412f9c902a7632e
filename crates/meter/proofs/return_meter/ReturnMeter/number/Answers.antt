use Rattle.std.proofs.Common.{◌≡◌, ◌+◌, ◌*◌, ◌<◌, ◌^◌, ℕ, List, [], ◌∷◌, map, length, take, zip, refl, ap, sym, ◌∙◌, Some, rules, arith}
use Rattle.std.proofs.lemmas.Fn.{serves_by, fold_over, fronts}
use Rattle.std.proofs.lemmas.Iterator.{zips}
use Rattle.std.proofs.lemmas.Iterator.Consumers.{YieldsList-so_far, YieldsList-turn}
use Rattle.std.proofs.lemmas.List.{map-append}
use Rattle.std.proofs.lemmas.List.Sums.{fold_more}
use Rattle.std.proofs.iter.Serving.{serving}
use denote.Ref.{Bor}
use Rattle.meter.specs.Few.{spread-few}
use Rattle.meter.proofs.Horner.{horner, horner-push, horner-all, horner-few}
use Rattle.meter.proofs.Pairs.{pair, pairs-given}
use Rattle.meter.proofs.return_meter.ReturnMeter.number.Goals as goal

pub fold-requires-clause-callable : goal.fold-requires-clause-callable
fold-requires-clause-callable c =
    let m = c.args.self.now in
    let cs = c.args.counters.now in
    let gives = pairs-given {s = c.zip.result} cs m.limits (cc) (cc) in
    let most = spread-few m.limits m.few.0 m.few.1 in
    serves_by _
    (λ (xs : List (Bor ℕ × Bor ℕ)) q. q.1 ≡ horner 0 (map pair xs))
    (λ xs q x v j k.
    let e : v.1 ≡ q.1 * (x.1.now + 1) + x.0.now = search rules in
    e ∙ horner-push (map pair xs) q.1 (pair x) j ∙ sym (ap (horner 0) (map-append pair xs (x ∷ []))))
    (zips fronts fronts) _ _ _ refl
    (λ xs t q x u y s j.
    let k = length xs in
    let turn = YieldsList-turn gives xs t y (Some x) u x refl s in
    let front : horner 0 (take k (zip cs m.limits)) ≡ q.1 = sym (j ∙ ap (horner 0) (YieldsList-so_far gives xs t y)) in
    let now : horner 0 (take (k + 1) (zip cs m.limits)) ≡ q.1 * (x.1.now + 1) + x.0.now = fold_more _ 0 (zip cs m.limits) k (pair x) turn.0 ∙ (λ i. front i * ((sym turn.1 i).1 + 1) + (sym turn.1 i).0) in
    let next = horner-few m.limits cs c.requires (k + 1) in
    let small : q.1 * (x.1.now + 1) + x.0.now < 2 ^ 64 = omega arith in
    grind serving)

pub returns : goal.returns
returns c =
    let ns = c.args.self.now.limits in
    let cs = c.args.counters.now in
    fold_over (zips fronts fronts) pair _ (λ (ys : List (ℕ × ℕ)) a. a ≡ horner 0 ys) _
    (λ ys a x b f j k.
    let e : b ≡ a * (x.1.now + 1) + x.0.now = search rules in
    (e ∙ horner-push ys a (pair x) j, search rules))
    c.zip.result (zip cs ns) 0 c.fold.result (pairs-given {s = c.zip.result} cs ns (cc) (cc)).runs refl c.fold.ensures.ran
    ∙ horner-all ns cs c.requires
