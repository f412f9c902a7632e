-- Laws of writing one list into another.
use Rattle.std.proofs.Common.{◌≡◌, ℕ, ◌+◌, ◌≤◌, List, [], ◌∷◌, ◌++◌, length, take, drop, set, sym, refl, ap, ◌∙◌, append_assoc, add-zero, zero-add, arith}
use Rattle.std.proofs.lemmas.List.{length-set, take-append-drop, take_more_set, drop-set-lt, drop-drop, drop-append-le, length-take}
use borrow.Rule.Slice.PartMut.{put_mid}
use Rattle.board_text.specs.Put.{put}
use Rattle.board_text.specs.Reading.{over}

module _ {X : Type 0} where
  -- the length stays
  pub length-put : (i : ℕ) (xs ys : List X) → length (put i xs ys) ≡ length ys
  length-put i [] ys = refl
  length-put i (x ∷ xs) ys = length-put (i + 1) xs (set ys i x) ∙ length-set ys i x

  -- two parts are written one after the other
  pub put-append : (i : ℕ) (xs zs ys : List X) → put i (xs ++ zs) ys ≡ put (i + length xs) zs (put i xs ys)
  put-append i [] zs ys = ap (λ (k : ℕ). put k zs ys) (sym (add-zero i))
  put-append i (x ∷ xs) zs ys =
      put-append (i + 1) xs zs (set ys i x)
      ∙ (let e : i + 1 + length xs ≡ i + length (x ∷ xs) = omega arith in ap (λ (k : ℕ). put k zs (put (i + 1) xs (set ys i x))) e)

  -- what stands before and after the part is kept
  pub put-between : (i : ℕ) (xs ys : List X) → i + length xs ≤ length ys → put i xs ys ≡ take i ys ++ (xs ++ drop (i + length xs) ys)
  put-between i [] ys h = rw add-zero (sym (take-append-drop i ys))
  put-between i (x ∷ xs) ys h =
      let long = length-set ys i x in
      put-between (i + 1) xs (set ys i x) (omega arith)
      ∙ rw (take_more_set ys i x (omega arith), drop-set-lt (i + 1 + length xs) ys i x (omega arith), append_assoc)
      (let e : i + 1 + length xs ≡ i + length (x ∷ xs) = omega arith in ap (λ (k : ℕ). take i ys ++ (x ∷ (xs ++ drop k ys))) e)

  -- from the front on, that is the front overwritten
  pub put-over : (xs ys : List X) → length xs ≤ length ys → put 0 xs ys ≡ over xs ys
  put-over xs ys h = put-between 0 xs ys (omega arith) ∙ ap (λ (k : ℕ). xs ++ drop k ys) (zero-add (length xs))

  -- a part of a slice that was written over
  pub put_mid-put : (i k : ℕ) (ys xs zs : List X) → xs ≡ zs → k ≡ length zs → i + length zs ≤ length ys → put_mid i k ys xs ≡ put i zs ys
  put_mid-put i k ys xs zs same long h = rw (same, long, drop-drop) (sym (put-between i zs ys h))

  -- what is written into the front of a list leaves the rest as it was
  pub put-front : (n : ℕ) (xs ys : List X) → length xs ≤ n → n ≤ length ys → put 0 xs (take n ys) ++ drop n ys ≡ put 0 xs ys
  put-front n xs ys short within =
      let front = length-take n ys in
      let k = length xs in
      let rest : drop k (take n ys) ++ drop n ys ≡ drop k ys = sym (drop-append-le k (take n ys) (drop n ys) (omega arith)) ∙ ap (drop k) (take-append-drop n ys) in
      ap (λ (zs : List X). zs ++ drop n ys) (put-over xs (take n ys) (omega arith))
      ∙ append_assoc xs (drop k (take n ys)) (drop n ys)
      ∙ ap (λ (zs : List X). xs ++ zs) rest
      ∙ sym (put-over xs ys (omega arith))
