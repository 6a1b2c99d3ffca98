-- The list of replies with one more written.
use mathlib.Core.Path.{◌≡◌, ap, ◌∙◌}
use mathlib.Core.List.{List, [], ◌∷◌, ◌++◌, append_assoc}
use Prim.Native.Nat.{ℕ, suc, ◌+◌, ◌*◌, ◌<◌}
use native.Mathlib.Omega.{arith}
use lib.ListN.{length, take, drop, set, length-set}
use lib.Seq.{take-suc-set, drop-set-lt}
use Rattle.types.specs.declared.Reply.{Reply}
use Rattle.replay_words.specs.Words.{with_reply}

-- three elements written at p are what stands behind the first p
take_three :
    (l : List ℕ) (p x y z : ℕ) → p + 2 < length l
    → take (p + 3) (set (set (set l p x) (p + 1) y) (p + 2) z) ≡ take p l ++ (x ∷ y ∷ z ∷ [])
take_three l p x y z inside =
    let l1 : List ℕ = set l p x in
    let l2 : List ℕ = set l1 (p + 1) y in
    let n1 : length l1 ≡ length l = length-set l p x in
    let n2 : length l2 ≡ length l1 = length-set l1 (p + 1) y in
    let p3 : p + 3 ≡ suc (p + 2) = omega arith in
    let p2 : p + 2 ≡ suc (p + 1) = omega arith in
    let p1 : p + 1 ≡ suc p = omega arith in
    let third : take (p + 3) (set l2 (p + 2) z) ≡ take (p + 2) l2 ++ (z ∷ []) =
    ap (λ (k : ℕ). take k (set l2 (p + 2) z)) p3 ∙ take-suc-set l2 (p + 2) z (omega arith) in
    let second : take (p + 2) l2 ≡ take (p + 1) l1 ++ (y ∷ []) =
    ap (λ (k : ℕ). take k l2) p2 ∙ take-suc-set l1 (p + 1) y (omega arith) in
    let first : take (p + 1) l1 ≡ take p l ++ (x ∷ []) = ap (λ (k : ℕ). take k l1) p1 ∙ take-suc-set l p x (omega arith) in
    third ∙ rw (second, first) (simp append_assoc)

module _ (replies : List ℕ) (i : ℕ) (x : Reply) where
  pub taken_with_reply :
      3 * i + 2 < length replies
      → take (3 * (i + 1)) (with_reply replies i x) ≡ take (3 * i) replies ++ (x.number ∷ x.value ∷ x.second ∷ [])
  unfolding with_reply
  taken_with_reply inside =
      let at : 3 * (i + 1) ≡ 3 * i + 3 = omega arith in
      ap (λ (k : ℕ). take k (with_reply replies i x)) at ∙ take_three replies (3 * i) x.number x.value x.second inside

  pub dropped_with_reply : (n : ℕ) → i < n → drop (3 * n) (with_reply replies i x) ≡ drop (3 * n) replies
  unfolding with_reply
  dropped_with_reply n l =
      drop-set-lt (3 * n) _ (3 * i + 2) x.second (omega arith)
      ∙ drop-set-lt (3 * n) _ (3 * i + 1) x.value (omega arith)
      ∙ drop-set-lt (3 * n) replies (3 * i) x.number (omega arith)

  pub length_with_reply : length (with_reply replies i x) ≡ length replies
  unfolding with_reply
  length_with_reply = simp length-set
