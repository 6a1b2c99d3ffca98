-- Eight blocks at a time: which of them are of data, and what their cells are read as.
use mathlib.Core.Path.{◌≡◌, refl, sym, ap, ◌∙◌}
use mathlib.Core.Logic.{◌≢◌}
use mathlib.Core.Bool.{Bool, true, false, not}
use mathlib.Core.List.{List}
use Prim.Native.Nat.{ℕ, zero, suc, ◌+◌, ◌-◌, ◌*◌, ◌/◌, ◌≤◌, ◌<◌}
use native.Mathlib.Decide.{ℕ_discrete}
use native.Mathlib.Omega.{arith}
use lib.Dec.{eqb, ltb}
use lib.ListN.{get_or}
use borrow.Author.Tests.{eq-eqb, ne_eqb, lt-ltb, le-ltb}
use Rattle.bitmap.specs.Bit.{bit_of, bit_at}
use Rattle.bitmap.proofs.Bits.{bit_zero, bit_ones}
use Rattle.bitmap.proofs.Maps.{bit_of_byte}
use Rattle.rules.specs.Heap.{first_in, is_data, in_data, ref_at}
use Rattle.rules.proofs.Reading.{read_data, read_other}
use Rattle.rules.proofs.Stretches.{EightTests}
use Rattle.map_objects.specs.Walk.{data_before}
use Rattle.map_objects.proofs.Walk.{walk_next, walk_inner, walk_unmarked}
use Rattle.check_references.specs.Wild.{wild, wild_cell, read_in, wild_in}
use Rattle.check_references.proofs.Wilds.{read_made, read_plain}

module _ (N : ℕ) (a b d : List ℕ) (k : ℕ) (inside : 8 * (k + 1) ≤ N) where
  -- where each block is as the one before it, all are as the block before them
  all_alike : (v : Bool) → v ≡ data_before N a b d (8 * k)
      → ((i : ℕ) → 8 * k ≤ i → i < 8 * (k + 1) → data_before N a b d i ≡ v → in_data N a b d i ≡ v)
      → (s : ℕ) → s < 8 → in_data N a b d (8 * k + s) ≡ v
  all_alike v start step zero l =
      let place : 8 * k + 0 ≡ 8 * k = omega arith in
      step (8 * k + 0) (omega arith) (omega arith) (ap (data_before N a b d) place ∙ sym start)
  all_alike v start step (suc s) l =
      let place : 8 * k + suc s ≡ 8 * k + s + 1 = omega arith in
      step (8 * k + suc s) (omega arith) (omega arith)
      (ap (data_before N a b d) place ∙ sym (walk_next N a b d (8 * k + s) (in_data N a b d (8 * k + s)) refl)
      ∙ all_alike v start step s (omega arith))

  -- a byte outside of data: none of its blocks is marked
  pub eight_outside : false ≡ data_before N a b d (8 * k) → get_or d k 0 ≡ 0 → EightTests (in_data N a b d) k 0
  eight_outside before none s l =
      all_alike false before (λ i from to e. walk_unmarked N a b d i (omega arith) e (unmarked i from to)) s l
      ∙ sym (ap not (eq-eqb (bit_of 0 s) 0 (bit_zero s)))
    where
      unmarked : (i : ℕ) → 8 * k ≤ i → i < 8 * (k + 1) → is_data d i ≡ false
      unmarked i from to =
          let place : i ≡ 8 * k + (i - 8 * k) = omega arith in
          ne_eqb (bit_at d i) 1
          (λ e.
          omega (
            arith,
            e,
            ap (bit_at d) place,
            bit_of_byte d k (i - 8 * k) (omega arith),
            ap (λ (x : ℕ). bit_of x (i - 8 * k)) none,
            bit_zero (i - 8 * k),
          ))

  -- a byte in the midst of an object: all of its blocks are used, and none is a first one
  pub eight_within : true ≡ data_before N a b d (8 * k) → get_or a k 0 ≡ 255 → (first : ℕ) → EightTests (first_in N a b) k first → first ≡ 0
      → EightTests (in_data N a b d) k 255
  eight_within before full first firsts none s l =
      all_alike true before (λ i from to e. walk_inner N a b d i (omega arith) (used i from to) (other i from to) ∙ e) s l
      ∙ sym (ap not (ne_eqb (bit_of 255 s) 0 (λ e. omega (arith, bit_ones 8 s l))))
    where
      used : (i : ℕ) → 8 * k ≤ i → i < 8 * (k + 1) → bit_at a i ≢ 0
      used i from to e =
          let place : i ≡ 8 * k + (i - 8 * k) = omega arith in
          omega (
            arith,
            e,
            ap (bit_at a) place,
            bit_of_byte a k (i - 8 * k) (omega arith),
            ap (λ (x : ℕ). bit_of x (i - 8 * k)) full,
            bit_ones 8 (i - 8 * k) (omega arith),
          )

      other : (i : ℕ) → 8 * k ≤ i → i < 8 * (k + 1) → first_in N a b i ≡ false
      other i from to =
          let place : i ≡ 8 * k + (i - 8 * k) = omega arith in
          let zero_bit : bit_of first (i - 8 * k) ≡ 0 = ap (λ (x : ℕ). bit_of x (i - 8 * k)) none ∙ bit_zero (i - 8 * k) in
          ap (first_in N a b) place ∙ firsts (i - 8 * k) (omega arith) ∙ ap not (eq-eqb (bit_of first (i - 8 * k)) 0 zero_bit)

  -- the last of the eight is the block before the next byte
  pub last_before : (made : ℕ) → made < 256 → EightTests (in_data N a b d) k made → ltb 127 made ≡ data_before N a b d (8 * (k + 1))
  last_before made small h =
      let place : 8 * k + 7 + 1 ≡ 8 * (k + 1) = omega arith in
      walk_next N a b d (8 * k + 7) (ltb 127 made) (top ∙ sym (h 7 (omega arith))) ∙ ap (data_before N a b d) place
    where
      top : ltb 127 made ≡ not (eqb (bit_of made 7) 0)
      top = elim (ℕ_discrete (bit_of made 7) 0) [
        | yes e ↦ le-ltb 127 made (omega arith) ∙ sym (ap not (eq-eqb (bit_of made 7) 0 e))
        | no n ↦ lt-ltb 127 made (omega arith) ∙ sym (ap not (ne_eqb (bit_of made 7) 0 n))
      ]

  -- the cells of the eight blocks
  module _ (cells : List ℕ) (made : ℕ) (h : EightTests (in_data N a b d) k made) where
    own : (j : ℕ) → j < 32 → (32 * k + j) / 4 ≡ 8 * k + j / 4
    own j l = omega arith

    pub eight_read : (j : ℕ) → j < 32 → ref_at N a b d cells (32 * k + j) ≡ read_in made cells k j
    eight_read j l = elim (ℕ_discrete (bit_of made (j / 4)) 0) [
      | yes e ↦
          read_other N a b d cells (32 * k + j)
          (ap (in_data N a b d) (own j l) ∙ h (j / 4) (omega arith) ∙ ap not (eq-eqb (bit_of made (j / 4)) 0 e))
          ∙ sym (read_plain made cells k j e)
      | no n ↦
          read_data N a b d cells (32 * k + j)
          (ap (in_data N a b d) (own j l) ∙ h (j / 4) (omega arith) ∙ ap not (ne_eqb (bit_of made (j / 4)) 0 n))
          ∙ sym (read_made made cells k j n)
    ]

    pub eight_wild : (j : ℕ) → j < 32 → wild_cell N a b d cells (32 * k + j) ≡ wild_in N (get_or a k 0) made cells k j
    eight_wild j l =
        ap (λ (x : ℕ). wild N (eqb x 0) (ref_at N a b d cells (32 * k + j)))
        (ap (bit_at a) (own j l) ∙ bit_of_byte a k (j / 4) (omega arith))
        ∙ ap (wild N (eqb (bit_of (get_or a k 0) (j / 4)) 0)) (eight_read j l)
