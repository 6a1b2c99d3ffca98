-- Laws of lists of lengths that are within the largest ones.
use mathlib.Core.List.{[], ◌∷◌}
use Prim.Native.Nat.{ℕ, zero, suc, ◌+◌, ◌≤◌, ◌*◌, ◌/◌}
use native.Mathlib.Nat.{mul-le-mul}
use native.Mathlib.Omega.{arith}
use lib.ListN.{get_or, replicate}
use Rattle.rules.specs.Heap.{max_blocks}
use Rattle.calls_lent.specs.Within.{Within}

-- the one product is at most that of the largest numbers
pub product : (width blocks : ℕ) → width ≤ 5 → blocks ≤ max_blocks → width * blocks ≤ 5 * max_blocks
product width blocks w b = mul-le-mul w b

-- the lengths that belong to a heap's numbers
pub within_heap :
    (n w r s : ℕ) → n ≤ max_blocks → w ≤ 5 → r ≤ 65 → s ≤ max_blocks / 256
    → Within (n / 8 ∷ n / 8 ∷ w * n / 8 ∷ 4 * n ∷ r ∷ n ∷ s ∷ n / 8 ∷ n / 8 ∷ (n + 1) ∷ [])
within_heap n w r s n-max w-max r-max s-max zero = omega arith
within_heap n w r s n-max w-max r-max s-max (suc zero) = omega arith
within_heap n w r s n-max w-max r-max s-max (suc (suc zero)) = omega (arith, product w n w-max n-max)
within_heap n w r s n-max w-max r-max s-max (suc (suc (suc zero))) = omega arith
within_heap n w r s n-max w-max r-max s-max (suc (suc (suc (suc zero)))) = r-max
within_heap n w r s n-max w-max r-max s-max (suc (suc (suc (suc (suc zero))))) = n-max
within_heap n w r s n-max w-max r-max s-max (suc (suc (suc (suc (suc (suc zero)))))) = s-max
within_heap n w r s n-max w-max r-max s-max (suc (suc (suc (suc (suc (suc (suc zero))))))) = omega arith
within_heap n w r s n-max w-max r-max s-max (suc (suc (suc (suc (suc (suc (suc (suc zero)))))))) = omega arith
within_heap n w r s n-max w-max r-max s-max (suc (suc (suc (suc (suc (suc (suc (suc (suc zero))))))))) = omega arith
within_heap n w r s n-max w-max r-max s-max (suc (suc (suc (suc (suc (suc (suc (suc (suc (suc i)))))))))) = omega arith

-- nothing lent
none : (n i : ℕ) → get_or (replicate n 0) i 0 ≤ 0
none zero i = omega arith
none (suc n) zero = omega arith
none (suc n) (suc i) = none n i

pub within_none : (n : ℕ) → Within (replicate n 0)
within_none n i = omega (arith, none n i)
