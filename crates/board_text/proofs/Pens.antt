-- What a pen writes, part by part.
use Rattle.std.proofs.Common.{◌≡◌, ℕ, ◌+◌, ◌<◌, List, [], ◌∷◌, ◌++◌, length, get_or, take, drop, sym, ap, ◌∙◌, subst, append-nil, arith}
use Rattle.std.specs.List.{flat_map}
use Rattle.std.proofs.lemmas.List.{length-append, take-append-drop, take_more}
use Rattle.std.proofs.lemmas.List.Concat.{flat_map-append}
use Rattle.board_text.specs.Pens.{HasRoom, Writes}
use Rattle.board_text.specs.Put.{put}
use Rattle.board_text.specs.declared.pen.Pen.{Pen}
use Rattle.board_text.proofs.Puts.{put-append}

-- one part after another
pub Writes-then : {p q r : Pen} {xs ys : List ℕ} → Writes p xs q → Writes q ys r → Writes p (xs ++ ys) r
Writes-then {p} {q} {r} {xs} {ys} v w =
    let both = length-append xs ys in
    record {
      same_slice = w.same_slice ∙ v.same_slice;
      same_length = w.same_length ∙ v.same_length;
      written = w.written ∙ ap (put q.at ys) v.written ∙ ap (λ (k : ℕ). put k ys (put p.at xs p.out.now)) v.next ∙ sym (put-append p.at xs ys p.out.now);
      next = let a = v.next in let b = w.next in omega arith;
    }

-- what the slice of a pen holds once the pen is laid down
pub Writes-leaves : {p q : Pen} {bytes left : List ℕ} → Writes p bytes q → (p.out.ghost_name ≡ q.out.ghost_name → left ≡ q.out.now) → left ≡ put p.at bytes p.out.now
Writes-leaves w lend = lend (sym w.same_slice) ∙ w.written

-- equal bytes
pub Writes-as : {p q : Pen} {xs ys : List ℕ} → Writes p xs q → xs ≡ ys → Writes p ys q
Writes-as {p} {q} v e = subst (λ (ys : List ℕ). Writes p ys q) e v

-- what is written of each item of a list, up to item i and with it
module _ {X : Type 0} (f : X → List ℕ) (xs : List X) (i : ℕ) (d : X) (lt : i < length xs) where
  one_more : flat_map f (take i xs) ++ f (get_or xs i d) ≡ flat_map f (take (i + 1) xs)
  one_more =
      ap (λ (ys : List ℕ). flat_map f (take i xs) ++ ys) (sym (append-nil (f (get_or xs i d))))
      ∙ sym (flat_map-append f (take i xs) (get_or xs i d ∷ []))
      ∙ sym (ap (flat_map f) (take_more xs i d lt))

  pub Writes-more : {p q r : Pen} {x : X} → Writes p (flat_map f (take i xs)) q → Writes q (f x) r → x ≡ get_or xs i d → Writes p (flat_map f (take (i + 1) xs)) r
  Writes-more v w e = Writes-as (Writes-then v w) (ap (λ (x : X). flat_map f (take i xs) ++ f x) e ∙ one_more)

  pub HasRoom-more : {p q : Pen} → HasRoom p (length (flat_map f xs)) → Writes p (flat_map f (take i xs)) q → HasRoom q (length (f (get_or xs i d)))
  HasRoom-more {p} {q} room v =
      let a = v.next in
      let b = v.same_length in
      let whole = ap (λ (ys : List X). length (flat_map f ys)) (sym (take-append-drop (i + 1) xs)) in
      let parts = ap length (flat_map-append f (take (i + 1) xs) (drop (i + 1) xs)) in
      let front = ap length (sym one_more) in
      let c = length-append (flat_map f (take i xs)) (f (get_or xs i d)) in
      let e = length-append (flat_map f (take (i + 1) xs)) (flat_map f (drop (i + 1) xs)) in
      omega arith
