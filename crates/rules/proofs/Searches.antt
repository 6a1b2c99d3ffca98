-- Laws of a search over the numbers below n: `some_below`, as a loop goes that leaves where the test passes.
use mathlib.Core.Path.{◌≡◌, refl, sym, ap, ◌∙◌}
use mathlib.Core.Bool.{Bool, true, false}
use Prim.Native.Nat.{ℕ, ◌+◌, ◌≤◌, ◌<◌}
use native.Mathlib.Omega.{arith}
use Rattle.rules.specs.Tools.{some_below}
use Rattle.rules.proofs.Tests.{true_some, some_next}

-- the search has come to i: the test fails at each number before it
abbrev pub Searched : (ℕ → Bool) → ℕ → ℕ → Type 0
Searched test n i = (i ≤ n) × (some_below test i ≡ false)

module _ (test : ℕ → Bool) (n : ℕ) where
  pub searched_start : Searched test n 0
  unfolding some_below
  searched_start = (omega arith, refl)

  pub searched_next : (i : ℕ) → Searched test n i → i < n → test i ≡ false → Searched test n (i + 1)
  searched_next i s l e = (omega arith, some_next test i s.1 ∙ e)

  pub searched_all : (i : ℕ) → Searched test n i → n ≤ i → false ≡ some_below test n
  searched_all i s l =
      let end : i ≡ n = omega arith in
      sym s.1 ∙ ap (some_below test) end

  pub searched_hit : (i : ℕ) → i < n → test i ≡ true → true ≡ some_below test n
  searched_hit i l e = sym (true_some test n i l e)
