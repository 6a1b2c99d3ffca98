-- Laws of what a cell is read as (request U6), on every memory: which blocks are blocks of data, and what
-- their cells are read as.
use mathlib.Core.Path.{◌≡◌, refl, sym, ap, ◌∙◌}
use mathlib.Core.Logic.{◌≢◌, inl, inr}
use mathlib.Core.Bool.{true, false}
use mathlib.Core.List.{List}
use Prim.Native.Nat.{ℕ, zero, suc, ◌/◌}
use native.Mathlib.Omega.{arith}
use lib.ListN.{get_or}
use borrow.Author.Tests.{eq-eqb, ne_eqb}
use Rattle.bitmap.specs.Bit.{bit_at}
use Rattle.rules.specs.Heap.{first_in, is_data, first_at, in_data, ref_at}
use Rattle.rules.proofs.Objects.{first_facts}
use Rattle.rules.proofs.Tests.{test_cases_lem}

-- ---- blocks

pub free_no_data : (N : ℕ) (a b d : List ℕ) (i : ℕ) → bit_at a i ≡ 0 → in_data N a b d i ≡ false
unfolding in_data
free_no_data N a b d i z = rw (eq-eqb (bit_at a i) 0 z, in_data)

-- the D-map is read at the first block
pub first_data : (N : ℕ) (a b d : List ℕ) (i : ℕ) → first_in N a b i ≡ true → in_data N a b d i ≡ is_data d i
unfolding in_data first_at
first_data N a b d i f =
    rw (ne_eqb (bit_at a i) 0 (λ z. omega (arith, (first_facts N a b i f).used)), in_data) (ap (is_data d) (own i f))
  where
    own : (k : ℕ) → first_in N a b k ≡ true → first_at N a b k ≡ k
    own zero e = refl
    own (suc k) e = rw (e, first_at)

-- a used block that is no first one is as the block below it
pub inner_data : (N : ℕ) (a b d : List ℕ) (i : ℕ) → bit_at a (suc i) ≢ 0 → bit_at a i ≢ 0 → first_in N a b (suc i) ≡ false
    → in_data N a b d (suc i) ≡ in_data N a b d i
unfolding in_data first_at
inner_data N a b d i used below e = rw (ne_eqb (bit_at a (suc i)) 0 used, ne_eqb (bit_at a i) 0 below, in_data, e, first_at)

-- ---- cells

module _ (N : ℕ) (a b d cells : List ℕ) (j : ℕ) where
  pub read_data : in_data N a b d (j / 4) ≡ true → ref_at N a b d cells j ≡ 0
  unfolding ref_at
  read_data e = rw (e, ref_at)

  pub read_other : in_data N a b d (j / 4) ≡ false → ref_at N a b d cells j ≡ get_or cells j 0
  unfolding ref_at
  read_other e = rw (e, ref_at)

  -- a cell that holds 0 is read as 0
  pub read_zero : get_or cells j 0 ≡ 0 → ref_at N a b d cells j ≡ 0
  read_zero z = elim (test_cases_lem (in_data N a b d (j / 4))) [ inl e ↦ read_data e | inr e ↦ read_other e ∙ z ]

  -- a cell of a free block is read as it is
  pub read_free : bit_at a (j / 4) ≡ 0 → ref_at N a b d cells j ≡ get_or cells j 0
  read_free z = read_other (free_no_data N a b d (j / 4) z)

-- a cell of the same kind that holds the same is read alike
pub read_same :
    (N : ℕ) (a b d cells a' b' d' cells' : List ℕ) (j : ℕ) → in_data N a' b' d' (j / 4) ≡ in_data N a b d (j / 4)
    → get_or cells' j 0 ≡ get_or cells j 0 → ref_at N a' b' d' cells' j ≡ ref_at N a b d cells j
read_same N a b d cells a' b' d' cells' j kind holds =
    elim (test_cases_lem (in_data N a b d (j / 4))) [
      | inl e ↦ read_data N a' b' d' cells' j (kind ∙ e) ∙ sym (read_data N a b d cells j e)
      | inr e ↦ read_other N a' b' d' cells' j (kind ∙ e) ∙ holds ∙ sym (read_other N a b d cells j e)
    ]
