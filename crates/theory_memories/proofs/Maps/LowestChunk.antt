-- The search for the lowest free chunk finds it, or no chunk is free; and what an allocation makes of either.
use mathlib.Core.Path.{◌≡◌, refl, sym, ap, ◌∙◌}
use mathlib.Core.Logic.{◌⊎◌, ◌↔◌, inl, inr}
use mathlib.Core.Bool.{not}
use mathlib.Core.List.{List, [], ◌∷◌}
use mathlib.Core.Option.{Option, none, some}
use Prim.Native.Nat.{ℕ, zero, suc, ◌+◌, ◌*◌, ◌/◌, ◌%◌, ◌^◌, ◌≤◌, ◌<◌}
use native.Mathlib.Nat.{suc-mul, zero-mul, div-add-mod', le-div_iff_mul-le, mul-mod_left, lt_of_mul-lt-mul_right}
use native.Mathlib.Numerals.{add-one}
use native.Mathlib.Decide.{ℕ_discrete, dec_lt}
use native.Mathlib.Omega.{arith}
use lib.Pow.{pow_pos}
use Rattle.rules.specs.Heap.{exponent, chunk_free, lowest_from, lowest_free}
use Rattle.rules.specs.Tools.{is_some, first_number}
use Rattle.rules.proofs.Tests.{test_cases_lem}
use Rattle.rules.proofs.Chunks.{exponent_covers, Free, chunk_free_lem, chunk_used, free_not_used}
use Rattle.theory_memories.specs.Heaps.{UsedChunk, NoneFree, Lowest}

module _ (N k : ℕ) (a : List ℕ) where
  chunk_next : (c : ℕ) → c * 2 ^ k + 2 ^ k ≡ (c + 1) * 2 ^ k
  chunk_next c = sym (ap (λ (x : ℕ). x * 2 ^ k) (add-one c) ∙ suc-mul c (2 ^ k))

  -- the chunks that lie in the heap whole
  chunk_inside : (c : ℕ) → c < N / 2 ^ k → c * 2 ^ k + 2 ^ k ≤ N
  chunk_inside c l = omega (arith, suc-mul c (2 ^ k), (le-div_iff_mul-le {k = 2 ^ k} {x = suc c} {y = N} (pow_pos k)).0 l)

  inside_chunk : (c : ℕ) → (c + 1) * 2 ^ k ≤ N → c < N / 2 ^ k
  inside_chunk c l = omega (arith, (le-div_iff_mul-le {k = 2 ^ k} {x = c + 1} {y = N} (pow_pos k)).1 l)

  -- what the search from chunk c on finds, where no lower one is free
  abbrev LowestFound : ℕ → ℕ → Type 0
  LowestFound n c = (i : ℕ) × Lowest N k a i × (lowest_from n k a (c * 2 ^ k) ≡ some i)

  abbrev NoneFound : ℕ → ℕ → Type 0
  NoneFound n c = NoneFree N k a × (lowest_from n k a (c * 2 ^ k) ≡ none)

  search_from : (n c : ℕ) → c + n ≡ N / 2 ^ k → ((d : ℕ) → d < c → UsedChunk a k (d * 2 ^ k)) → LowestFound n c ⊎ NoneFound n c
  unfolding lowest_from
  search_from zero c e before = inr (λ d l. before d (omega (arith, inside_chunk d l)), refl)
  search_from (suc n) c e before = elim (test_cases_lem (chunk_free k a (c * 2 ^ k))) [
    | inl t ↦
        inl (
          c * 2 ^ k,
          record {
            aligned = mul-mod_left c (2 ^ k);
            inside = chunk_inside c (omega arith);
            free = chunk_free_lem k a (c * 2 ^ k) t;
            lowest = λ d l. before d (lt_of_mul-lt-mul_right (2 ^ k) l);
          },
          rw (t, lowest_from),
        )
    | inr t ↦ elim (search_from n (c + 1) (omega arith) (λ d l. elim (ℕ_discrete d c) [
      | yes q ↦ rw q (chunk_used k a (c * 2 ^ k) t)
      | no m ↦ before d (omega arith)
    ])) [
      | inl f ↦ inl (f.0, f.1, rw (t, lowest_from, chunk_next c) f.2)
      | inr m ↦ inr (m.0, rw (t, lowest_from, chunk_next c) m.1)
    ]
  ]

  lowest_cases : ((i : ℕ) × Lowest N k a i × (lowest_free N k a ≡ some i)) ⊎ (NoneFree N k a × (lowest_free N k a ≡ none))
  unfolding lowest_free
  lowest_cases = rw (zero-mul (2 ^ k)) at (search_from (N / 2 ^ k) 0 (omega arith) (λ d l. absurd (omega arith)))

  -- a chunk is free, or none is
  not_none : (i : ℕ) → Lowest N k a i → NoneFree N k a → ⊥
  not_none i p full =
      let e : i / 2 ^ k * 2 ^ k ≡ i = omega (arith, div-add-mod' i (2 ^ k), p.aligned) in
      free_not_used a i (2 ^ k) p.free (rw e at (full (i / 2 ^ k) (omega (arith, chunk_next (i / 2 ^ k), p.inside))))

  pub lowest_some : (i : ℕ) → lowest_free N k a ≡ some i → Lowest N k a i
  lowest_some i e = elim lowest_cases [
    | inl f ↦ let q : f.0 ≡ i = cc f.2 in rw q at f.1
    | inr m ↦ let z : ◌≡◌ {A = ℕ} 0 1 = cc m.1 in absurd (omega arith)
  ]

  -- one chunk is the lowest
  not_below : (i j : ℕ) → Lowest N k a i → Lowest N k a j → i < j → ⊥
  not_below i j p q l =
      let e : i / 2 ^ k * 2 ^ k ≡ i = omega (arith, div-add-mod' i (2 ^ k), p.aligned) in
      free_not_used a i (2 ^ k) p.free (rw e at (q.lowest (i / 2 ^ k) (omega arith)))

  pub some_lowest : (i : ℕ) → Lowest N k a i → lowest_free N k a ≡ some i
  some_lowest i p = elim lowest_cases [
    | inl f ↦ f.2 ∙ ap some (elim (ℕ_discrete f.0 i) [
      | yes e ↦ e
      | no d ↦ elim (dec_lt f.0 i) [ yes l ↦ absurd (not_below f.0 i f.1 p l) | no l ↦ absurd (not_below i f.0 p f.1 (omega arith)) ]
    ])
    | inr m ↦ absurd (not_none i p m.0)
  ]

  pub lowest_none : lowest_free N k a ≡ none → NoneFree N k a
  lowest_none e = elim lowest_cases [ inl f ↦ let z : ◌≡◌ {A = ℕ} 0 1 = cc f.2 in absurd (omega arith) | inr m ↦ m.0 ]

  pub none_lowest : NoneFree N k a → lowest_free N k a ≡ none
  none_lowest h = elim lowest_cases [ inl f ↦ absurd (not_none f.0 f.1 h) | inr m ↦ m.1 ]

  -- number 5 applies exactly where no chunk of its size is free
  pub five_exactly : (first_number ((5, not (is_some (lowest_free N k a))) ∷ []) ≡ 5) ↔ NoneFree N k a
  unfolding first_number is_some
  five_exactly = (λ e. lowest_none (none_of (lowest_free N k a) e), λ f. rw (none_lowest f))
    where
      none_of : (o : Option ℕ) → first_number ((5, not (is_some o)) ∷ []) ≡ 5 → o ≡ none
      none_of none q = refl
      none_of (some i) q = absurd (omega arith)

-- ---- an allocation with nothing else wrong

-- where it is accepted, its extent is aligned, inside the heap, and on free blocks, so that it keeps clear of the others (`Clear-of`)
pub record Room (N : ℕ) (a : List ℕ) (n i : ℕ) : Type 0 where
  pub aligned : i % 2 ^ exponent n ≡ 0
  pub inside : i + n ≤ N
  pub free : Free a i n

pub room : (N : ℕ) (a : List ℕ) (n i : ℕ) → lowest_free N (exponent n) a ≡ some i → Room N a n i
room N a n i e =
    let p = lowest_some N (exponent n) a i e in
    record {
      aligned = p.aligned;
      inside = omega (arith, p.inside, exponent_covers n);
      free = λ j l u. p.free j l (omega (arith, exponent_covers n));
    }
