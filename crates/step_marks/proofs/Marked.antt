-- Laws of the marks that code writes: each step, and the map's length.
use mathlib.Core.Path.{◌≡◌, refl, sym, ap, ◌∙◌}
use mathlib.Core.Logic.{◌≢◌, inl, inr}
use mathlib.Core.Bool.{Bool, true, false, ◌||◌}
use mathlib.Core.List.{List}
use Prim.Native.Nat.{ℕ, zero, suc, ◌+◌, ◌-◌, ◌*◌, ◌/◌, ◌%◌, ◌^◌, ◌≤◌, ◌<◌}
use native.Mathlib.Nat.{eq-zero-or-pos, pow-suc}
use native.Mathlib.Numerals.{add-one}
use native.Mathlib.Omega.{arith}
use lib.Bits.{bit_or, or_step, or_add_and, and_le_r}
use lib.Dec.{ltb, eqb}
use lib.ListN.{length, get_or, set}
use lib.Pow.{pow-lt}
use borrow.Author.Tests.{eq-eqb, ne_eqb, lt-ltb, le-ltb}
use Rattle.bitmap.specs.Bit.{put_bit, set_bit}
use Rattle.bitmap.proofs.Bits.{put_zero, put_suc}
use Rattle.bitmap.proofs.Maps.{length_set_bit}
use Rattle.step_marks.specs.Marks.{mark_one, mark_named, freed_marks}

-- ---- a 1 written by an or

or_put : (b k : ℕ) → bit_or b (2 ^ k) ≡ put_bit b k 1
or_put b zero =
    let none : bit_or (b / 2) (2 ^ zero / 2) ≡ b / 2 = omega (arith, or_add_and (b / 2) (2 ^ zero / 2), and_le_r (b / 2) (2 ^ zero / 2)) in
    omega (arith, or_step b (2 ^ zero), none, put_zero b 1)
or_put b (suc k) =
    let half : 2 ^ suc k / 2 ≡ 2 ^ k = omega (arith, pow-suc 2 k) in
    let even : 2 ^ suc k % 2 ≡ 0 = omega (arith, pow-suc 2 k) in
    let up : bit_or (b / 2) (2 ^ suc k / 2) ≡ put_bit (b / 2) k 1 = ap (bit_or (b / 2)) half ∙ or_put (b / 2) k in
    omega (arith, or_step b (2 ^ suc k), up, even, put_suc b k 1)

pub set_or : (map : List ℕ) (i : ℕ) → set map (i / 8) (bit_or (get_or map (i / 8) 0) (1 * 2 ^ (i % 8) % 256)) ≡ set_bit map i 1
unfolding set_bit
set_or map i =
    let less = pow-lt {i = i % 8} {j = 8} (omega arith) in
    let weight : 1 * 2 ^ (i % 8) % 256 ≡ 2 ^ (i % 8) = omega (arith, less) in
    ap (set map (i / 8)) (ap (bit_or (get_or map (i / 8) 0)) weight ∙ or_put (get_or map (i / 8) 0) (i % 8))

-- ---- marks

module _ (N : ℕ) (map : List ℕ) {v : ℕ} where
  pub mark_none : v ≡ 0 → map ≡ mark_one N map v
  unfolding mark_one
  mark_none e = rw (eq-eqb v 0 e, mark_one)

  pub mark_past : v ≢ 0 → N < v → map ≡ mark_one N map v
  unfolding mark_one
  mark_past e l = rw (ne_eqb v 0 e, lt-ltb N v l, mark_one)

  pub mark_some : v ≢ 0 → v ≤ N → set_bit map (v - 1) 1 ≡ mark_one N map v
  unfolding mark_one
  mark_some e l = rw (ne_eqb v 0 e, le-ltb N v l, mark_one)

  -- .. by whether v names a block
  pub mark_unnamed : (1 ≤ v → N < v) → map ≡ mark_one N map v
  mark_unnamed past = elim (eq-zero-or-pos v) [ inl e ↦ mark_none e | inr some ↦ mark_past (λ e. omega arith) (past some) ]

  pub mark_block : {block : ℕ} {marks : List ℕ} → block + 1 ≡ v → block < N → marks ≡ set_bit map block 1 → marks ≡ mark_one N map v
  mark_block {block} named inside done =
      let there : block ≡ v - 1 = omega arith in
      done ∙ ap (λ (k : ℕ). set_bit map k 1) there ∙ mark_some (λ e. omega arith) (omega arith)

pub length_mark_one : (N : ℕ) (map : List ℕ) (v : ℕ) → length (mark_one N map v) ≡ length map
unfolding mark_one
length_mark_one N map v = go (eqb v 0 || ltb N v)
  where
    go : (t : Bool) → length {A = ℕ} (elim t [ true ↦ map | false ↦ set_bit map (v - 1) 1 ]) ≡ length map
    go true = refl
    go false = length_set_bit map (v - 1) 1

module _ (N : ℕ) (map cells : List ℕ) where
  pub mark_more : (j n : ℕ) → mark_one N (mark_named N map cells j n) (get_or cells (j + n) 0) ≡ mark_named N map cells j (n + 1)
  unfolding mark_named
  mark_more j n = sym (ap (λ (k : ℕ). mark_named N map cells j k) (add-one n))

  pub length_mark_named : (j n : ℕ) → length (mark_named N map cells j n) ≡ length map
  unfolding mark_named
  length_mark_named j zero = refl
  length_mark_named j (suc n) = length_mark_one N (mark_named N map cells j n) (get_or cells (j + n) 0) ∙ length_mark_named j n

pub length_freed_marks : (shade : Bool) (N : ℕ) (map cells : List ℕ) (i n : ℕ) → length (freed_marks shade N map cells i n) ≡ length map
unfolding freed_marks
length_freed_marks true N map cells i n = length_mark_named N (set_bit map i 0) cells (4 * i) n ∙ length_set_bit map i 0
length_freed_marks false N map cells i n = refl

module _ {shade : Bool} (N : ℕ) (map cells : List ℕ) (i n : ℕ) where
  pub freed_open : shade ≡ true → {cleared marks : List ℕ} → cleared ≡ set_bit map i 0 → marks ≡ mark_named N cleared cells (4 * i) n
      → marks ≡ freed_marks shade N map cells i n
  unfolding freed_marks
  freed_open e from done = rw (e, freed_marks) (done ∙ ap (λ (m : List ℕ). mark_named N m cells (4 * i) n) from)

  pub freed_shut : shade ≡ false → map ≡ freed_marks shade N map cells i n
  unfolding freed_marks
  freed_shut e = rw (e, freed_marks)
