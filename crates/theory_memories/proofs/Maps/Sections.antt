-- Request U4: the figure of a section is the size of its largest free chunk, and a list is stale unless it has them all.
use mathlib.Core.Path.{◌≡◌, sym, ap, subst, ◌∙◌}
use mathlib.Core.Bool.{true}
use mathlib.Core.List.{List}
use Prim.Native.Nat.{ℕ, ◌+◌, ◌-◌, ◌*◌, ◌^◌, ◌≤◌, ◌<◌}
use native.Mathlib.Nat.{add-mul, mul_assoc, mul-le-mul_right, le_of_mul-le-mul_right}
use native.Mathlib.Omega.{arith}
use lib.Pow.{pow-add, pow_pos}
use Rattle.rules.specs.Heap.{exponent, chunk_free, section_length}
use Rattle.rules.specs.Sections.{largest_free, figure, stale_figures}
use Rattle.rules.proofs.Figures.{there_is, none_larger}
use Rattle.rules.proofs.TrueList.{fresh_true, true_fresh}
use Rattle.rules.proofs.Sections.{Divided, divided, exponents}
use Rattle.theory_memories.specs.Sections.{FreeWithin, FiguresAreLargest, StaleExactly}

module _ (N : ℕ) (a : List ℕ) (d : Divided N) (s t k : ℕ) (sum : t + k ≡ exponent (section_length N)) where
  -- a section is 2 ^ t chunks of 2 ^ k blocks, and begins with one
  parts : section_length N ≡ 2 ^ t * 2 ^ k
  parts = sym d.exponent_is ∙ ap (λ (x : ℕ). 2 ^ x) (sym sum) ∙ pow-add 2 t k

  starts : s * section_length N ≡ s * 2 ^ t * 2 ^ k
  starts = ap (λ (x : ℕ). s * x) parts ∙ sym (mul_assoc s (2 ^ t) (2 ^ k))

  within : (number : ℕ) → number < 2 ^ t → chunk_free k a (s * section_length N + number * 2 ^ k) ≡ true → FreeWithin N a s k (s * 2 ^ t + number)
  within number below free =
      let p = parts in
      let b = starts in
      let fits : (number + 1) * 2 ^ k ≤ 2 ^ t * 2 ^ k = mul-le-mul_right (2 ^ k) (omega arith) in
      let at : (s * 2 ^ t + number) * 2 ^ k ≡ s * section_length N + number * 2 ^ k = omega arith in
      record {
        from = omega arith;
        to = omega arith;
        free = ap (chunk_free k a) at ∙ free;
      }

  larger : (c : ℕ) → FreeWithin N a s k c → 2 ^ k ≤ largest_free (t + k) a (s * section_length N)
  larger c w =
      let p = parts in
      let b = starts in
      let low : s * 2 ^ t ≤ c = le_of_mul-le-mul_right {k = 2 ^ k} (omega (arith, w.from)) (pow_pos k) in
      let high : c + 1 ≤ s * 2 ^ t + 2 ^ t = le_of_mul-le-mul_right {k = 2 ^ k} (omega (arith, w.to)) (pow_pos k) in
      let number : c ≡ s * 2 ^ t + (c - s * 2 ^ t) = omega arith in
      let at : s * section_length N + (c - s * 2 ^ t) * 2 ^ k ≡ c * 2 ^ k =
      omega (arith, ap (λ (x : ℕ). x * 2 ^ k) number, add-mul (s * 2 ^ t) (c - s * 2 ^ t) (2 ^ k)) in
      none_larger t k a (s * section_length N) (c - s * 2 ^ t) (omega arith) (ap (chunk_free k a) at ∙ w.free)

pub figures_are_largest : FiguresAreLargest
unfolding figure
figures_are_largest N a blocks s =
    let d = divided N blocks in
    let m : ℕ = exponent (section_length N) in
    record {
      there_is = λ n.
          let f = there_is m a (s * section_length N) n in
          (f.exponent, s * 2 ^ f.smaller + f.number, f.figure_is, within N a d s f.smaller f.exponent f.sum f.number f.within f.free);
      none_larger = λ k c w.
          let sum : m - k + k ≡ m = omega (arith, exponents N k d (omega (arith, w.from, w.to))) in
          subst (λ (e : ℕ). 2 ^ k ≤ largest_free e a (s * section_length N)) sum (larger N a d s (m - k) k sum c w);
    }

pub stale_exactly : StaleExactly
stale_exactly N a sections long = (fresh_true N a sections long, λ e. ap (stale_figures N a) e ∙ true_fresh N a)
