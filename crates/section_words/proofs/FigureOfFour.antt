-- The figure of 256 blocks, from the words of the free chunks of their four parts.
use mathlib.Core.Path.{◌≡◌, sym, ap, subst, ◌∙◌}
use mathlib.Core.Logic.{◌≢◌}
use mathlib.Core.List.{List}
use Rattle.std.specs.Prelude.{slice_index}
use Prim.Native.Nat.{ℕ, suc, ◌+◌, ◌^◌, ◌≤◌, ◌<◌}
use native.Mathlib.Nat.{pow-suc}
use native.Mathlib.Decide.{dec_le, ℕ_discrete}
use native.Mathlib.Omega.{arith}
use lib.Pow.{pow_pos, pow_mono}
use Rattle.rules.specs.Sections.{largest_free}
use Rattle.rules.proofs.Figures.{figure_le, figure_of_halves, there_is}
use Rattle.section_words.specs.Words.{FreeChunks, FourChunks, NoneOfFour}
use Rattle.section_words.proofs.FigureOfWord.{exponent_le, none, some, all}

-- ---- two halves, and their figures

module _ (k : ℕ) (a : List ℕ) (i : ℕ) where
  -- none has more, and is no whole
  halves_below : (m : ℕ) → largest_free k a i < m → largest_free k a (i + 2 ^ k) < m → m ≤ 2 ^ k → largest_free (suc k) a i < m
  halves_below m l u p = let q = (figure_of_halves k a i).1 (λ e. omega (arith, e.0)) in omega arith

  halves_at_least : (largest_free k a i ≤ largest_free (suc k) a i) × (largest_free k a (i + 2 ^ k) ≤ largest_free (suc k) a i)
  halves_at_least = elim (dec_le (largest_free (suc k) a i) (2 ^ k)) [
    | no l ↦ (omega (arith, (figure_le k a i).0), omega (arith, (figure_le k a (i + 2 ^ k)).0))
    | yes l ↦
        let q = (figure_of_halves k a i).1 (λ e. omega (arith, (figure_of_halves k a i).0 e, pow-suc 2 k, pow_pos k)) in
        (omega arith, omega arith)
  ]

-- ---- the four words of 256 blocks

module _ (k : ℕ) (a : List ℕ) (i : ℕ) (words : List ℕ) (small : k ≤ 6) (f : FourChunks k a i words) where
  -- a word's figure is at most that of all
  word_at_most : (largest_free 6 a i ≤ largest_free 8 a i) × (largest_free 6 a (i + 64) ≤ largest_free 8 a i)
      × (largest_free 6 a (i + 128) ≤ largest_free 8 a i) × (largest_free 6 a (i + 192) ≤ largest_free 8 a i)
  word_at_most =
      let both = halves_at_least 7 a i in
      let lower = halves_at_least 6 a i in
      let upper = halves_at_least 6 a (i + 128) in
      let last : largest_free 6 a (i + 128 + 64) ≡ largest_free 6 a (i + 192) = ap (largest_free 6 a) (omega arith) in
      (omega arith, omega arith, omega arith, omega arith)

  pub four_none : NoneOfFour words → largest_free 8 a i < 2 ^ k
  four_none zero =
      let at_most : 2 ^ k ≤ 64 = pow_mono {i = k} {j = 6} small in
      let last : largest_free 6 a (i + 128 + 64) ≡ largest_free 6 a (i + 192) = ap (largest_free 6 a) (omega arith) in
      let first = none k a i (slice_index words 0) small f.first zero.0 in
      let second = none k a (i + 64) (slice_index words 1) small f.second zero.1 in
      let third = none k a (i + 128) (slice_index words 2) small f.third zero.2 in
      let fourth = none k a (i + 192) (slice_index words 3) small f.fourth zero.3 in
      halves_below 7 a i (2 ^ k) (halves_below 6 a i (2 ^ k) first second at_most)
      (halves_below 6 a (i + 128) (2 ^ k) third (omega arith) at_most) (omega arith)

  pub four_some : (NoneOfFour words → ⊥) → 2 ^ k ≤ largest_free 8 a i
  four_some not_None = elim (dec_le (2 ^ k) (largest_free 8 a i)) [
    | yes l ↦ l
    | no l ↦
        absurd
        (not_None (zero i (slice_index words 0) f.first word_at_most.0 l, zero (i + 64) (slice_index words 1) f.second word_at_most.1 l, zero (i + 128) (slice_index words 2) f.third word_at_most.2 l, zero (i + 192) (slice_index words 3) f.fourth word_at_most.3 l))
  ]
    where
      zero : (j v : ℕ) → FreeChunks k a j v → largest_free 6 a j ≤ largest_free 8 a i → (2 ^ k ≤ largest_free 8 a i → ⊥) → v ≡ 0
      zero j v g at_most l = elim (ℕ_discrete v 0) [ yes e ↦ e | no s ↦ absurd (l (omega (arith, some k a j v small g s))) ]

-- chunks of 2 ^ k blocks are free, and none of twice the size
pub four_exact : (k : ℕ) (a : List ℕ) (i : ℕ) → 2 ^ k ≤ largest_free 8 a i → largest_free 8 a i < 2 ^ suc k → 2 ^ k ≡ largest_free 8 a i
four_exact k a i low high =
    let among = there_is 8 a i (λ y. omega (arith, pow_pos k)) in
    let e : ℕ = among.exponent in
    let at_least_lem = exponent_le k e (omega (arith, among.figure_is)) in
    let same : e ≡ k =
    elim (dec_le e k) [
      | yes l ↦ omega arith
      | no l ↦ absurd (omega (arith, among.figure_is, pow_mono {i = suc k} {j = e} (omega arith)))
    ] in
    sym (among.figure_is ∙ ap (λ (x : ℕ). 2 ^ x) same)

-- ---- words that are free throughout

module _ (a : List ℕ) (i lower upper : ℕ) (f : FreeChunks 6 a i lower) (g : FreeChunks 6 a (i + 64) upper) where
  pub pair_whole : lower ≢ 0 → upper ≢ 0 → largest_free 7 a i ≡ 128
  pair_whole l u = (figure_of_halves 6 a i).0 (sym (all a i lower f l), sym (all a (i + 64) upper g u))

  pub lower_part : lower ≡ 0 → largest_free 7 a i ≤ 64
  lower_part z =
      let l = none 6 a i lower (omega arith) f z in
      let q = (figure_of_halves 6 a i).1 (λ e. omega (arith, e.0)) in
      omega (arith, (figure_le 6 a (i + 64)).0)

  pub upper_part : upper ≡ 0 → largest_free 7 a i ≤ 64
  upper_part z =
      let l = none 6 a (i + 64) upper (omega arith) g z in
      let q = (figure_of_halves 6 a i).1 (λ e. omega (arith, e.1)) in
      omega (arith, (figure_le 6 a i).0)

module _ (a : List ℕ) (i : ℕ) where
  pub all_whole : largest_free 7 a i ≡ 128 → largest_free 7 a (i + 128) ≡ 128 → 256 ≡ largest_free 8 a i
  all_whole l u = sym ((figure_of_halves 7 a i).0 (l, u))

  pub lower_whole : largest_free 7 a i ≡ 128 → largest_free 7 a (i + 128) ≤ 64 → 128 ≡ largest_free 8 a i
  lower_whole l u = let q = (figure_of_halves 7 a i).1 (λ e. omega (arith, e.1)) in omega arith

  pub upper_whole : largest_free 7 a i ≤ 64 → largest_free 7 a (i + 128) ≡ 128 → 128 ≡ largest_free 8 a i
  upper_whole l u = let q = (figure_of_halves 7 a i).1 (λ e. omega (arith, e.0)) in omega arith

  pub none_whole : largest_free 7 a i ≤ 64 → largest_free 7 a (i + 128) ≤ 64 → 64 ≤ largest_free 8 a i → 64 ≡ largest_free 8 a i
  none_whole l u some-free = let q = (figure_of_halves 7 a i).1 (λ e. omega (arith, e.0)) in omega arith

-- the third and the fourth word, as a pair
pub upper_pair : {k i : ℕ} {a words : List ℕ} → FourChunks k a i words → FreeChunks k a (i + 128 + 64) (slice_index words 3)
upper_pair {k} {i} {a} {words} f =
    let same : i + 192 ≡ i + 128 + 64 = omega arith in
    subst (λ (n : ℕ). FreeChunks k a n (slice_index words 3)) same f.fourth
