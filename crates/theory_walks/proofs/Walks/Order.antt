-- The order of request U13 without the walk: numbers rise as the best chains do.
use mathlib.Core.Path.{◌≡◌, refl, sym, ap, ◌∙◌, subst}
use mathlib.Core.Logic.{◌⊎◌, inl, inr}
use mathlib.Core.List.{List, [], ◌∷◌, reverse}
use Prim.Native.Nat.{ℕ, suc, ◌≤◌, ◌<◌}
use native.Mathlib.Decide.{ℕ_discrete, dec_lt}
use native.Mathlib.Omega.{arith}
use lib.ListN.{length, length-reverse_aux}
use Rattle.rules.specs.Heap.{Memory}
use Rattle.rules_output.specs.Walk.{number_in, followed, numbered}
use Rattle.theory_walks.specs.Trail.{trail, links_to}
use Rattle.theory_walks.specs.Reason.{Lower, differ, agree, Best, NumberedByChains}
use Rattle.theory_walks.proofs.Walks.Words.{Before, before_trans, never_before, lower_before, shorter_before}
use Rattle.theory_walks.proofs.Walks.Numbers.{number_le}
use Rattle.theory_walks.proofs.Walks.Trails.{met_length, trail_met}
use Rattle.theory_walks.proofs.Walks.Least.{trail_settled}
use Rattle.theory_walks.proofs.Walks.Reached.{followed_zero, Named, intact_named, led_met}
use Rattle.theory_walks.proofs.Walks.Best.{chain_leads, walk_chain, best_found}

-- ---- two chains

-- fewer links, or as many and the lower number at the first difference
abbrev Ahead : List ℕ → List ℕ → Type 0
Ahead c d = (length c < length d) ⊎ Lower c d

data Compared (c d : List ℕ) : Type 0 where
  ahead : Ahead c d → Compared c d
  same : c ≡ d → Compared c d
  behind : Ahead d c → Compared c d

link : (j : ℕ) {c d : List ℕ} → length c ≡ length d → Compared c d → Compared (j ∷ c) (j ∷ d)
link j long (ahead (inl l)) = absurd (omega arith)
link j long (ahead (inr l)) = ahead (inr (agree l))
link j long (same e) = same (ap (λ (x : List ℕ). j ∷ x) e)
link j long (behind (inl l)) = absurd (omega arith)
link j long (behind (inr l)) = behind (inr (agree l))

equally_long : (c d : List ℕ) → length c ≡ length d → Compared c d
equally_long [] [] e = same refl
equally_long [] (j ∷ d) e = absurd (omega arith)
equally_long (i ∷ c) [] e = absurd (omega arith)
equally_long (i ∷ c) (j ∷ d) e = elim (ℕ_discrete i j) [
  | yes q ↦ rw q (link j (omega arith) (equally_long c d (omega arith)))
  | no n ↦ elim (dec_lt i j) [
    | yes l ↦ ahead (inr (differ {c = c} {d = d} l (omega arith)))
    | no l ↦ behind (inr (differ {i = j} {j = i} {c = d} {d = c} (omega arith) (omega arith)))
  ]
]

compared : (c d : List ℕ) → Compared c d
compared c d = elim (ℕ_discrete (length c) (length d)) [
  | yes e ↦ equally_long c d e
  | no n ↦ elim (dec_lt (length c) (length d)) [ yes l ↦ ahead (inl l) | no l ↦ behind (inl (omega arith)) ]
]

ahead_before : (c d : List ℕ) → Ahead c d → Before (reverse c) (reverse d)
ahead_before c d (inl l) = shorter_before (reverse c) (reverse d) (omega (arith, length-reverse_aux c [], length-reverse_aux d []))
ahead_before c d (inr l) = lower_before [] l

before_ahead : (c d : List ℕ) → Before (reverse c) (reverse d) → Ahead c d
before_ahead c d p = go (compared c d)
  where
    go : Compared c d → Ahead c d
    go (ahead l) = l
    go (same e) = absurd (never_before (subst (λ (x : List ℕ). Before (reverse c) (reverse x)) (sym e) p))
    go (behind l) = absurd (never_before (before_trans p (ahead_before d c l)))

-- ---- in a heap

module _ (N : ℕ) (h : Memory) (named : Named N h) where
  -- the number of an object, and its chain from its end
  record Placed (b : ℕ) (x : List ℕ) : Type 0 where
    number : ℕ
    number_is : number_in (numbered N h) (suc b) ≡ suc number
    word : links_to (trail h.roots (followed N h) N) (suc number) ≡ reverse x
    inside : suc number ≤ length (trail h.roots (followed N h) N)

  placed : (b : ℕ) (x : List ℕ) → Best N h b x → Placed b x
  unfolding numbered
  placed b x best =
      let met = led_met N h named (chain_leads N h named b best.is) in
      let found = walk_chain N h named b met.0 met.1 in
      let same : found.0 ≡ x = cc (found.1, best_found N h named b x best) in
      let l = trail h.roots (followed N h) N in
      record {
        number = met.0;
        number_is = met.1;
        word = sym found.2 ∙ ap (λ (c : List ℕ). reverse c) same;
        inside = omega (
          arith,
          met.1,
          number_le (numbered N h) (suc b),
          ap length (trail_met h.roots (followed N h) N),
          met_length l,
        );
      }

  rises : {b c : ℕ} {x y : List ℕ} (p : Placed b x) (q : Placed c y) → p.number < q.number → Before (reverse x) (reverse y)
  rises p q l =
      let before = (trail_settled h.roots (followed N h) (followed_zero N h) N).rising (suc p.number) (suc q.number) (omega arith) q.inside in
      rw (p.word, q.word) at before

  lower_ahead : {b c : ℕ} {x y : List ℕ} (p : Placed b x) (q : Placed c y) → p.number < q.number → Ahead x y
  lower_ahead {x = x} {y = y} p q l = before_ahead x y (rises p q l)

  ahead_lower : {b c : ℕ} {x y : List ℕ} (p : Placed b x) (q : Placed c y) → Ahead x y → p.number < q.number
  ahead_lower {x = x} {y = y} p q l = elim (dec_lt p.number q.number) [
    | yes less ↦ less
    | no more ↦ absurd (elim (ℕ_discrete p.number q.number) [
      | yes e ↦
          let one : reverse x ≡ reverse y =
          sym p.word ∙ ap (λ (i : ℕ). links_to (trail h.roots (followed N h) N) (suc i)) e ∙ q.word in
          never_before (subst (λ (u : List ℕ). Before u (reverse y)) one (ahead_before x y l))
      | no other ↦ never_before (before_trans (ahead_before x y l) (rises q p (omega arith)))
    ])
  ]

pub numbered_by_chains : NumberedByChains
numbered_by_chains N w h u b c x y best other =
    let named = intact_named N w h u in
    let p = placed N h named b x best in
    let q = placed N h named c y other in (
      λ less. lower_ahead N h named p q (omega (arith, p.number_is, q.number_is)),
      λ l. omega (arith, p.number_is, q.number_is, ahead_lower N h named p q l),
    )
