-- Laws of blocks of data in a walk: block i from its own bits and from the block before it.
use mathlib.Core.Path.{◌≡◌, refl, sym, ◌∙◌}
use mathlib.Core.Logic.{◌≢◌, inl, inr}
use mathlib.Core.Bool.{Bool, true, false, true≢false, not, cond, ◌&&◌, ◌||◌}
use lib.Dec.{eqb}
use borrow.Author.Tests.{eq-eqb, ne_eqb}
use mathlib.Core.List.{List}
use Prim.Native.Nat.{ℕ, zero, suc, ◌+◌, ◌<◌}
use native.Mathlib.Numerals.{add-one, unary_clauses}
use native.Mathlib.Decide.{ℕ_discrete}
use native.Mathlib.Omega.{arith}
use Rattle.bitmap.specs.Bit.{bit_at}
use Rattle.bitmap.proofs.Maps.{bit_at_lt}
use Rattle.rules.specs.Heap.{first_in, is_data, in_data}
use Rattle.rules.proofs.Objects.{Starts, first_test}
use Rattle.rules.proofs.Tests.{test_cases_lem}
use Rattle.rules.proofs.Reading.{free_no_data, first_data, inner_data}
use Rattle.map_objects.specs.Walk.{data_before}
use Rattle.map_objects.proofs.Firsts.{first_free}

-- tests of a block with D bit d behind one of data, or any other: a free block, a first one, and one inside of an object
at_free : (before d : Bool) → false ≡ cond before false (d && false)
at_free true d = refl
at_free false true = refl
at_free false false = refl

at_first : (before d : Bool) → d ≡ cond before (d || false) (d && true)
at_first true true = refl
at_first true false = refl
at_first false true = refl
at_first false false = refl

at_inner : (before d : Bool) → before ≡ cond before (d || true) (d && false)
at_inner true true = refl
at_inner true false = refl
at_inner false true = refl
at_inner false false = refl

module _ (N : ℕ) (a b d : List ℕ) where
  pub walk_start : false ≡ data_before N a b d 0
  unfolding data_before
  walk_start = refl

  -- the next block's `data_before` is this one's `in_data`
  pub walk_next : (i : ℕ) (r : Bool) → r ≡ in_data N a b d i → r ≡ data_before N a b d (i + 1)
  unfolding data_before
  walk_next i r e = rw (add-one i, data_before) e

  starts : (i : ℕ) → i < N → bit_at a i ≢ 0 → Starts a b i → first_in N a b i ≡ true
  starts i l used s = first_test N a b i (record { inside = l; used = omega (arith, used, bit_at_lt a i); starts = s })

  -- a used block that is no first one is as the block before it
  pub walk_inner : (i : ℕ) → i < N → bit_at a i ≢ 0 → first_in N a b i ≡ false → in_data N a b d i ≡ data_before N a b d i
  unfolding data_before
  walk_inner zero l used e = absurd (true≢false (sym (starts 0 l used (inl refl)) ∙ e))
  walk_inner (suc i) l used e =
      inner_data N a b d i used (λ free. true≢false (sym (starts (suc i) l used (inr (inl (simp unary_clauses free)))) ∙ e)) e

  -- where the block before is none of data, only a first block can be one ..
  walk_outside : (i : ℕ) → i < N → data_before N a b d i ≡ false → first_in N a b i ≡ false → in_data N a b d i ≡ false
  walk_outside i l none e = elim (ℕ_discrete (bit_at a i) 0) [
    | yes free ↦ free_no_data N a b d i free
    | no used ↦ walk_inner i l used e ∙ none
  ]

  -- .. and is one if it has a D bit
  pub walk_unmarked : (i : ℕ) → i < N → data_before N a b d i ≡ false → is_data d i ≡ false → in_data N a b d i ≡ false
  walk_unmarked i l none unmarked = elim (test_cases_lem (first_in N a b i)) [
    | inl first ↦ first_data N a b d i first ∙ unmarked
    | inr other ↦ walk_outside i l none other
  ]

  -- so a block after one of data is one too, but for a free one and a first one with no D bit; after any other, a first one with a D bit
  pub walk_on : (i : ℕ) → i < N
      → in_data N a b d i
      ≡ cond (data_before N a b d i) (not (eqb (bit_at a i) 0) && (is_data d i || not (first_in N a b i))) (is_data d i && first_in N a b i)
  walk_on i l = elim (ℕ_discrete (bit_at a i) 0) [
    | yes free ↦
        rw (free_no_data N a b d i free, sym (first_free N a b i l free), eq-eqb (bit_at a i) 0 free)
        (at_free (data_before N a b d i) (is_data d i))
    | no used ↦ elim (test_cases_lem (first_in N a b i)) [
      | inl first ↦
          rw (first_data N a b d i first, first, ne_eqb (bit_at a i) 0 used) (at_first (data_before N a b d i) (is_data d i))
      | inr other ↦
          rw (walk_inner i l used other, other, ne_eqb (bit_at a i) 0 used) (at_inner (data_before N a b d i) (is_data d i))
    ]
  ]
