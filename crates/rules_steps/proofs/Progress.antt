-- The mark map and the second list of request U8 as sets of blocks: the map that is written for a set has its
-- bits, the list that is written for a set is strictly rising, then 0, and holds 1 + each block of the set
-- and nothing else.
use mathlib.Core.Path.{◌≡◌, refl, sym, ap, ◌∙◌}
use mathlib.Core.Logic.{◌≢◌, ◌⊎◌, inl, inr}
use mathlib.Core.Bool.{Bool, true, false, not, ◌||◌, false≢true}
use mathlib.Core.List.{List, [], ◌∷◌, ◌++◌}
use Prim.Native.Nat.{ℕ, zero, suc, ◌+◌, ◌-◌, ◌*◌, ◌≤◌, ◌<◌}
use native.Mathlib.Nat.{add-zero}
use native.Mathlib.Numerals.{add-one}
use native.Mathlib.Decide.{ℕ_discrete, dec_lt}
use native.Mathlib.Omega.{arith}
use lib.Dec.{leb, eqb}
use lib.ListN.{length, get_or, replicate, length-replicate, get_or-replicate, length-append, get_or-append, get_or-eq_default}
use lib.Seq.{get_or-append-add, ext_get_or}
use borrow.Author.Tests.{eq-eqb, eqb-true, eqb-false, leb-true, not-true}
use Rattle.bitmap.specs.Bit.{bit_at, set_bit, one, count_below}
use Rattle.bitmap.proofs.Maps.{length_set_bit, bit_set_same, bit_set_other, set_bit_there, bit_past_end}
use Rattle.bitmap.proofs.Rewrites.{Rewritten, same, bit}
use Rattle.bitmap.proofs.Zeros.{count_le, count_same}
use Rattle.rules.specs.Tools.{some_below}
use Rattle.rules.specs.Heap.{Memory}
use Rattle.rules_steps.specs.Steps.{map_of, rising, list_of, is_listed, bad_next}
use Rattle.rules.proofs.Objects.{bit_cases}
use Rattle.rules.proofs.Tests.{test_cases_lem, false_unless, or_true, false_and, some_true, true_some}

-- ---- the map

one_lt : (t : Bool) → one t < 2
one_lt true = omega arith
one_lt false = omega arith

module _ (map : List ℕ) (test : ℕ → Bool) where
  pub length_map_of : (n : ℕ) → length (map_of map test n) ≡ length map
  unfolding map_of
  length_map_of zero = refl
  length_map_of (suc n) = length_set_bit (map_of map test n) n (one (test n)) ∙ length_map_of n

  -- it was got from the old one by writing bits
  pub map_of_rewritten : (n : ℕ) → Rewritten map (map_of map test n)
  unfolding map_of
  map_of_rewritten zero = same
  map_of_rewritten (suc n) = bit n (one (test n)) (one_lt (test n)) (map_of_rewritten n)

  pub bit_map_of : (n i : ℕ) → n ≤ 8 * length map → i < n → bit_at (map_of map test n) i ≡ one (test i)
  unfolding map_of
  bit_map_of zero i l u = absurd (omega arith)
  bit_map_of (suc n) i l u =
      elim (ℕ_discrete i n) [
        | yes e ↦
            ap (bit_at (set_bit (map_of map test n) n (one (test n)))) e
            ∙ bit_set_same (map_of map test n) n (one (test n)) (omega (arith, length_map_of n)) (one_lt (test n))
            ∙ ap (λ (k : ℕ). one (test k)) (sym e)
        | no d ↦ bit_set_other (map_of map test n) n (one (test n)) i d (one_lt (test n)) ∙ bit_map_of n i (omega arith) (omega arith)
      ]

one_test : (t : Bool) → eqb (one t) 1 ≡ t
one_test true = refl
one_test false = refl

-- the set of the map
pub map_of_test : (map : List ℕ) (test : ℕ → Bool) (n i : ℕ) → n ≤ 8 * length map → i < n → eqb (bit_at (map_of map test n) i) 1 ≡ test i
map_of_test map test n i l u = ap (λ (b : ℕ). eqb b 1) (bit_map_of map test n i l u) ∙ one_test (test i)

-- past its bytes it has none
pub map_of_past : (map : List ℕ) (test : ℕ → Bool) (n i : ℕ) → 8 * length map ≤ i → eqb (bit_at (map_of map test n) i) 1 ≡ false
map_of_past map test n i l =
    ap (λ (b : ℕ). eqb b 1) (bit_past_end (map_of map test n) i (omega (arith, length_map_of map test n)))

-- ---- the list

zero_at : (n k : ℕ) → ◌≡◌ {A = ℕ} (get_or (replicate n 0) k 0) 0
zero_at n k =
    elim (dec_lt k n) [
      | yes l ↦ get_or-replicate n k 0 0 l
      | no l ↦ get_or-eq_default (replicate n 0) 0 {n = k} (omega (arith, length-replicate {A = ℕ} n 0))
    ]

-- "strictly rising, then 0s"
abbrev pub Rises : List ℕ → Type 0
Rises l = (k : ℕ) → get_or l (suc k) 0 ≢ 0 → (get_or l k 0 ≢ 0) × (get_or l k 0 < get_or l (suc k) 0)

module _ (test : ℕ → Bool) where
  pub rising_here : (n : ℕ) (rest : List ℕ) → test n ≡ true → rising test (suc n) rest ≡ rising test n ((n + 1) ∷ rest)
  unfolding rising
  rising_here n rest e = rw (e, rising)

  pub rising_not : (n : ℕ) (rest : List ℕ) → test n ≡ false → rising test (suc n) rest ≡ rising test n rest
  unfolding rising
  rising_not n rest e = rw (e, rising)

  count_here : (n : ℕ) → test n ≡ true → count_below test (suc n) ≡ count_below test n + 1
  unfolding count_below
  count_here n e = rw e

  count_not : (n : ℕ) → test n ≡ false → count_below test (suc n) ≡ count_below test n
  unfolding count_below
  count_not n e = omega (arith, ap one e)

  pub length_rising : (n : ℕ) (rest : List ℕ) → length (rising test n rest) ≡ count_below test n + length rest
  unfolding rising count_below
  length_rising zero rest = omega arith
  length_rising (suc n) rest =
      elim (test_cases_lem (test n)) [
        | inl e ↦ ap length (rising_here n rest e) ∙ omega (arith, length_rising n ((n + 1) ∷ rest), count_here n e)
        | inr e ↦ ap length (rising_not n rest e) ∙ omega (arith, length_rising n rest, count_not n e)
      ]

  -- what stood behind stands behind
  rising_behind : (n : ℕ) (rest : List ℕ) (k : ℕ) → get_or (rising test n rest) (count_below test n + k) 0 ≡ get_or rest k 0
  unfolding rising count_below
  rising_behind zero rest k = let e : 0 + k ≡ k = omega arith in ap (λ (j : ℕ). get_or rest j 0) e
  rising_behind (suc n) rest k =
      elim (test_cases_lem (test n)) [
        | inl e ↦
            let at : count_below test (suc n) + k ≡ count_below test n + suc k = omega (arith, count_here n e) in
            ap (λ (l : List ℕ). get_or l (count_below test (suc n) + k) 0) (rising_here n rest e)
            ∙ ap (λ (j : ℕ). get_or (rising test n ((n + 1) ∷ rest)) j 0) at ∙ rising_behind n ((n + 1) ∷ rest) (suc k)
        | inr e ↦
            ap (λ (l : List ℕ). get_or l (count_below test (suc n) + k) 0) (rising_not n rest e)
            ∙ ap (λ (c : ℕ). get_or (rising test n rest) (c + k) 0) (count_not n e) ∙ rising_behind n rest k
      ]

  -- each block of the set stands in it
  pub rising_has : (n : ℕ) (rest : List ℕ) (i : ℕ) → i < n → test i ≡ true → get_or (rising test n rest) (count_below test i) 0 ≡ i + 1
  rising_has zero rest i l t = absurd (omega arith)
  rising_has (suc n) rest i l t =
      elim (ℕ_discrete i n) [
        | yes e ↦
            let at : count_below test i ≡ count_below test n + 0 = omega (arith, ap (count_below test) e) in
            ap (λ (m : List ℕ). get_or m (count_below test i) 0) (rising_here n rest (ap test (sym e) ∙ t))
            ∙ ap (λ (j : ℕ). get_or (rising test n ((n + 1) ∷ rest)) j 0) at
            ∙ rising_behind n ((n + 1) ∷ rest) 0 ∙ ap (λ (j : ℕ). j + 1) (sym e)
        | no d ↦
            elim (test_cases_lem (test n)) [
              | inl e ↦ ap (λ (m : List ℕ). get_or m (count_below test i) 0) (rising_here n rest e) ∙ rising_has n ((n + 1) ∷ rest) i (omega arith) t
              | inr e ↦ ap (λ (m : List ℕ). get_or m (count_below test i) 0) (rising_not n rest e) ∙ rising_has n rest i (omega arith) t
            ]
      ]

  -- .. and nothing else
  pub rising_only : (n : ℕ) (rest : List ℕ) (k i : ℕ) → get_or (rising test n rest) k 0 ≡ i + 1
      → ((j : ℕ) × (get_or rest j 0 ≡ i + 1)) ⊎ ((i < n) × (test i ≡ true))
  unfolding rising
  rising_only zero rest k i e = inl (k, e)
  rising_only (suc n) rest k i e =
      elim (test_cases_lem (test n)) [
        | inl t ↦ here t (rising_only n ((n + 1) ∷ rest) k i (ap (λ (l : List ℕ). get_or l k 0) (sym (rising_here n rest t)) ∙ e))
        | inr t ↦
            elim (rising_only n rest k i (ap (λ (l : List ℕ). get_or l k 0) (sym (rising_not n rest t)) ∙ e)) [
              | inl q ↦ inl q
              | inr q ↦ inr (omega (arith, q.0), q.1)
            ]
      ]
    where
      here : test n ≡ true → ((j : ℕ) × (get_or ((n + 1) ∷ rest) j 0 ≡ i + 1)) ⊎ ((i < n) × (test i ≡ true))
          → ((j : ℕ) × (get_or rest j 0 ≡ i + 1)) ⊎ ((i < suc n) × (test i ≡ true))
      here t (inr q) = inr (omega (arith, q.0), q.1)
      here t (inl (zero, q)) = let same : i ≡ n = omega arith in inr (omega arith, ap test same ∙ t)
      here t (inl (suc j, q)) = inl (j, q)

  rises : (n : ℕ) (rest : List ℕ) → Rises rest → (get_or rest 0 0 ≢ 0 → n < get_or rest 0 0) → Rises (rising test n rest)
  unfolding rising
  rises zero rest up above = up
  rises (suc n) rest up above =
      elim (test_cases_lem (test n)) [
        | inl e ↦ rw (rising_here n rest e) (rises n ((n + 1) ∷ rest) longer (λ _. omega arith))
        | inr e ↦ rw (rising_not n rest e) (rises n rest up (λ some. omega (arith, above some)))
      ]
    where
      longer : Rises ((n + 1) ∷ rest)
      longer zero some = (omega arith, omega (arith, above some))
      longer (suc k) some = up k some

module _ (N : ℕ) (test : ℕ → Bool) where
  abbrev front : List ℕ
  front = rising test N (replicate (N - count_below test N) 0)

  front_length : length front ≡ N
  front_length =
      omega (
        arith,
        length_rising test N (replicate (N - count_below test N) 0),
        length-replicate {A = ℕ} (N - count_below test N) 0,
        count_le test N,
      )

  front_rises : Rises front
  front_rises =
      rises test N (replicate (N - count_below test N) 0) (λ k some. absurd (some (zero_at (N - count_below test N) (suc k))))
      (λ some. absurd (some (zero_at (N - count_below test N) 0)))

  pub length_list_of : length (list_of N test) ≡ N + 1
  unfolding list_of
  length_list_of = omega (arith, length-append front (1 ∷ []), front_length)

  pub list_of_last : get_or (list_of N test) N 0 ≡ 1
  unfolding list_of
  list_of_last =
      let at : N ≡ length front + 0 = omega (arith, front_length) in
      ap (λ (k : ℕ). get_or (front ++ (1 ∷ [])) k 0) at ∙ get_or-append-add front (1 ∷ []) 0 0

  list_of_front : (k : ℕ) → k < N → get_or (list_of N test) k 0 ≡ get_or front k 0
  unfolding list_of
  list_of_front k l = get_or-append front (1 ∷ []) 0 k (omega (arith, front_length))

  count_below_lem : (i : ℕ) → count_below test i ≤ i
  count_below_lem i = count_le test i

  -- where a block of the set stands
  pub list_of_place : (i : ℕ) → i < N → test i ≡ true → get_or (list_of N test) (count_below test i) 0 ≡ i + 1
  list_of_place i l t =
      list_of_front (count_below test i) (omega (arith, count_below_lem i)) ∙ rising_has test N (replicate (N - count_below test N) 0) i l t

  -- the set of the list
  pub list_of_has : (i : ℕ) → i < N → test i ≡ true → (k : ℕ) × (k < N) × (get_or (list_of N test) k 0 ≡ i + 1)
  list_of_has i l t =
      (count_below test i, omega (arith, count_below_lem i), list_of_place i l t)

  pub list_of_only : (k i : ℕ) → k < N → get_or (list_of N test) k 0 ≡ i + 1 → (i < N) × (test i ≡ true)
  list_of_only k i l e =
      elim (rising_only test N (replicate (N - count_below test N) 0) k i (sym (list_of_front k l) ∙ e)) [
        | inl q ↦ absurd (omega (arith, q.1, zero_at (N - count_below test N) q.0))
        | inr q ↦ q
      ]

  pub list_of_rises : (k : ℕ) → k + 1 < N → get_or (list_of N test) (k + 1) 0 ≢ 0
      → (get_or (list_of N test) k 0 ≢ 0) × (get_or (list_of N test) k 0 < get_or (list_of N test) (k + 1) 0)
  list_of_rises k l some =
      let at : k + 1 ≡ suc k = add-one k in
      let now = list_of_front k (omega arith) in
      let next = list_of_front (k + 1) l ∙ ap (λ (j : ℕ). get_or front j 0) at in
      let both = front_rises k (λ z. some (next ∙ z)) in
      (λ z. both.0 (sym now ∙ z), omega (arith, now, next, both.1))

  module _ (h : Memory) (is : h.list ≡ list_of N test) where
    pub listed_exactly : (i : ℕ) → i < N → is_listed N h i ≡ test i
    unfolding is_listed
    listed_exactly i l =
        elim (test_cases_lem (test i)) [
          | inl t ↦
              let found = list_of_has i l t in
              true_some (λ k. eqb (get_or h.list k 0) (i + 1)) N found.0 found.1
              (eq-eqb (get_or h.list found.0 0) (i + 1) (ap (λ (m : List ℕ). get_or m found.0 0) is ∙ found.2))
              ∙ sym t
          | inr t ↦
              false_unless (is_listed N h i)
              (λ e.
              let found = some_true (λ k. eqb (get_or h.list k 0) (i + 1)) N e in
              let there = eqb-true (get_or h.list found.0 0) (i + 1) found.2 in
              false≢true (sym t ∙ (list_of_only found.0 i found.1 (ap (λ (m : List ℕ). get_or m found.0 0) (sym is) ∙ there)).1))
              ∙ sym t
        ]

    pub next_right : (k : ℕ) → k < N - 1 → bad_next h k ≡ false
    unfolding bad_next
    next_right k l =
        let v = get_or h.list k 0 in
        let next = get_or h.list (k + 1) 0 in
        false_and (not (eqb next 0)) (eqb v 0 || leb next v)
        (λ some.
        let nonzero : get_or (list_of N test) (k + 1) 0 ≢ 0 =
        λ z. eqb-false next 0 (not-true (eqb next 0) some) (ap (λ (m : List ℕ). get_or m (k + 1) 0) is ∙ z) in
        let both = list_of_rises k (omega arith) nonzero in
        false_unless (eqb v 0 || leb next v)
        (λ e.
        elim (or_true (eqb v 0) (leb next v) e) [
          | inl z ↦ both.0 (ap (λ (m : List ℕ). get_or m k 0) (sym is) ∙ eqb-true v 0 z)
          | inr z ↦
              omega (
                arith,
                leb-true next v z,
                both.1,
                ap (λ (m : List ℕ). get_or m k 0) is,
                ap (λ (m : List ℕ). get_or m (k + 1) 0) is,
              )
        ]))

-- ---- a list of that form is the one that is written for its set

-- no number from a on and below b passes the test
count_gap : (test : ℕ → Bool) (a d : ℕ) → ((i : ℕ) → a ≤ i → i < a + d → test i ≡ false) → count_below test (a + d) ≡ count_below test a
unfolding count_below
count_gap test a zero none = ap (count_below test) (add-zero a)
count_gap test a (suc d) none =
    let next : a + suc d ≡ suc (a + d) = omega arith in
    ap (count_below test) next
    ∙ omega (arith, count_gap test a d (λ i l u. none i l (omega arith)), ap one (none (a + d) (omega arith) (omega arith)))

-- a list whose first n places rise strictly and are then 0
module _ (l : List ℕ) (n : ℕ)
    (up : (k : ℕ) → k + 1 < n → get_or l (k + 1) 0 ≢ 0 → (get_or l k 0 ≢ 0) × (get_or l k 0 < get_or l (k + 1) 0)) where
  ordered : (d k : ℕ) → k + suc d < n → get_or l (k + suc d) 0 ≢ 0 → (get_or l k 0 ≢ 0) × (get_or l k 0 < get_or l (k + suc d) 0)
  ordered zero k u some =
      let at : k + suc zero ≡ k + 1 = omega arith in
      let one_on = up k (omega arith) (λ z. some (ap (λ (j : ℕ). get_or l j 0) at ∙ z)) in
      (one_on.0, omega (arith, one_on.1, ap (λ (j : ℕ). get_or l j 0) at))
  ordered (suc d) k u some =
      let at : k + suc (suc d) ≡ k + suc d + 1 = omega arith in
      let last = up (k + suc d) (omega arith) (λ z. some (ap (λ (j : ℕ). get_or l j 0) at ∙ z)) in
      let first = ordered d k (omega arith) last.0 in
      (first.0, omega (arith, first.1, last.1, ap (λ (j : ℕ). get_or l j 0) at))

  before : (k j : ℕ) → k < j → j < n → get_or l j 0 ≢ 0 → (get_or l k 0 ≢ 0) × (get_or l k 0 < get_or l j 0)
  before k j u v some =
      let at : k + suc (j - k - 1) ≡ j = omega arith in
      let found = ordered (j - k - 1) k (omega arith) (λ z. some (ap (λ (i : ℕ). get_or l i 0) (sym at) ∙ z)) in
      (found.0, omega (arith, found.1, ap (λ (i : ℕ). get_or l i 0) at))

  one_place : (k j : ℕ) → k < n → j < n → get_or l k 0 ≢ 0 → get_or l k 0 ≡ get_or l j 0 → k ≡ j
  one_place k j u v some e =
      elim (ℕ_discrete k j) [
        | yes q ↦ q
        | no d ↦
            elim (dec_lt k j) [
              | yes q ↦ absurd (omega (arith, (before k j q v (λ z. some (e ∙ z))).1))
              | no q ↦ absurd (omega (arith, (before j k (omega arith) u some).1))
            ]
      ]

  abbrev among : ℕ → Bool
  among i = some_below (λ k. eqb (get_or l k 0) (i + 1)) n

  among_place : (i : ℕ) → among i ≡ true → (k : ℕ) × (k < n) × (get_or l k 0 ≡ i + 1)
  among_place i e =
      let found = some_true (λ k. eqb (get_or l k 0) (i + 1)) n e in
      (found.0, found.1, eqb-true (get_or l found.0 0) (i + 1) found.2)

  place_among : (i k : ℕ) → k < n → get_or l k 0 ≡ i + 1 → among i ≡ true
  place_among i k u e = true_some (λ k. eqb (get_or l k 0) (i + 1)) n k u (eq-eqb (get_or l k 0) (i + 1) e)

  -- as many blocks of the set lie below that of place k as places before it
  places_counted : (k : ℕ) → k < n → get_or l k 0 ≢ 0 → count_below among (get_or l k 0 - 1) ≡ k
  unfolding count_below
  places_counted zero u some =
      let v : ℕ = get_or l 0 0 in
      let all : 0 + (v - 1) ≡ v - 1 = omega arith in
      ap (count_below among) (sym all)
      ∙ count_gap among 0 (v - 1)
      (λ i low high.
      false_unless (among i)
      (λ e.
      let found = among_place i e in
      elim (ℕ_discrete found.0 0) [
        | yes q ↦ omega (arith, found.2, ap (λ (j : ℕ). get_or l j 0) q)
        | no q ↦ omega (arith, found.2, (before 0 found.0 (omega arith) found.1 (omega (arith, found.2))).1)
      ]))
  places_counted (suc k) u some =
      let v : ℕ = get_or l (suc k) 0 in
      let w : ℕ = get_or l k 0 in
      let last = before k (suc k) (omega arith) u some in
      let here : among (w - 1) ≡ true = place_among (w - 1) k (omega arith) (omega (arith, last.0)) in
      let count = places_counted k (omega arith) last.0 in
      let next : suc (w - 1) ≡ w = omega (arith, last.0) in
      let gap : w + (v - 1 - w) ≡ v - 1 = omega (arith, last.1) in
      ap (count_below among) (sym gap)
      ∙ count_gap among w (v - 1 - w)
      (λ i low high.
      false_unless (among i)
      (λ e.
      let found = among_place i e in
      elim (dec_lt found.0 (suc k)) [
        | yes q ↦ elim (ℕ_discrete found.0 k) [
          | yes p ↦ omega (arith, found.2, ap (λ (j : ℕ). get_or l j 0) p)
          | no p ↦ omega (arith, found.2, (before found.0 k (omega arith) (omega arith) last.0).1)
        ]
        | no q ↦ elim (ℕ_discrete found.0 (suc k)) [
          | yes p ↦ omega (arith, found.2, ap (λ (j : ℕ). get_or l j 0) p)
          | no p ↦ omega (arith, found.2, (before (suc k) found.0 (omega arith) found.1 (omega (arith, found.2))).1)
        ]
      ]))
      ∙ ap (count_below among) (sym next) ∙ omega (arith, count, ap one here)

-- the list of an open collection is the list of its set
pub list_is_form :
    (N : ℕ) (l : List ℕ) → length l ≡ N + 1 → get_or l N 0 ≡ 1
    → ((k : ℕ) → k + 1 < N → get_or l (k + 1) 0 ≢ 0 → (get_or l k 0 ≢ 0) × (get_or l k 0 < get_or l (k + 1) 0))
    → ((k : ℕ) → k < N → get_or l k 0 ≤ N) → l ≡ list_of N (λ i. some_below (λ k. eqb (get_or l k 0) (i + 1)) N)
list_is_form N l long last up inside =
    ext_get_or 0 l (list_of N test) (long ∙ sym (length_list_of N test))
    (λ k u. elim (ℕ_discrete k N) [ yes e ↦ ap (λ (j : ℕ). get_or l j 0) e ∙ last ∙ sym (list_of_last N test) ∙ ap (λ (j : ℕ). get_or (list_of N test) j 0) (sym e) | no d ↦ same k (omega arith) ])
  where
    test : ℕ → Bool
    test i = some_below (λ k. eqb (get_or l k 0) (i + 1)) N

    same : (k : ℕ) → k < N → get_or l k 0 ≡ get_or (list_of N test) k 0
    same k u =
        elim (ℕ_discrete (get_or l k 0) 0) [ yes z ↦ z ∙ sym (empty z) | no n ↦ held n ]
      where
        held : get_or l k 0 ≢ 0 → get_or l k 0 ≡ get_or (list_of N test) k 0
        held n =
            let i : ℕ = get_or l k 0 - 1 in
            let is : i + 1 ≡ get_or l k 0 = omega arith in
            let there = list_of_place N test i (omega (arith, inside k u)) (place_among l N up i k u (sym is)) in
            sym is ∙ sym there ∙ ap (λ (j : ℕ). get_or (list_of N test) j 0) (places_counted l N up k u n)

        empty : get_or l k 0 ≡ 0 → get_or (list_of N test) k 0 ≡ 0
        empty z =
            elim (ℕ_discrete (get_or (list_of N test) k 0) 0) [ yes e ↦ e | no n ↦ absurd (clash n) ]
          where
            clash : get_or (list_of N test) k 0 ≢ 0 → ⊥
            clash n =
                let i : ℕ = get_or (list_of N test) k 0 - 1 in
                let is : get_or (list_of N test) k 0 ≡ i + 1 = omega arith in
                let on = list_of_only N test k i u is in
                let place = among_place l N up i on.1 in
                let there = list_of_place N test i on.0 on.1 in
                let count = places_counted l N up place.0 place.1 (omega (arith, place.2)) in
                let back : get_or l place.0 0 - 1 ≡ i = omega (arith, place.2) in
                let at : k ≡ count_below test i =
                one_place (list_of N test) N (list_of_rises N test) k (count_below test i) u (omega (arith, on.0, count_le test i)) n (is ∙ sym there) in
                let k-is : k ≡ place.0 = at ∙ ap (count_below test) (sym back) ∙ count in
                omega (arith, place.2, z, ap (λ (j : ℕ). get_or l j 0) k-is)

-- a map is the one that is written for its set
pub map_is_form : (map : List ℕ) (n : ℕ) → map_of map (λ i. eqb (bit_at map i) 1) n ≡ map
unfolding map_of
map_is_form map zero = refl
map_is_form map (suc n) =
    ap (λ (m : List ℕ). set_bit m n (one (eqb (bit_at map n) 1))) (map_is_form map n)
    ∙ set_bit_there map n (one (eqb (bit_at map n) 1)) (sym (elim (bit_cases map n) [ inl z ↦ ap (λ (b : ℕ). one (eqb b 1)) z ∙ sym z | inr z ↦ ap (λ (b : ℕ). one (eqb b 1)) z ∙ sym z ]))

-- equal sets give equal maps and lists
pub map_of_same : (map : List ℕ) (test other : ℕ → Bool) (n : ℕ) → ((i : ℕ) → test i ≡ other i) → map_of map test n ≡ map_of map other n
unfolding map_of
map_of_same map test other zero e = refl
map_of_same map test other (suc n) e =
    ap (λ (m : List ℕ). set_bit m n (one (test n))) (map_of_same map test other n e)
    ∙ ap (λ (t : Bool). set_bit (map_of map other n) n (one t)) (e n)

rising_same : (test other : ℕ → Bool) (n : ℕ) (rest : List ℕ) → ((i : ℕ) → test i ≡ other i) → rising test n rest ≡ rising other n rest
unfolding rising
rising_same test other zero rest e = refl
rising_same test other (suc n) rest e =
    ap (λ (t : Bool). rising test n (elim t [ true ↦ (n + 1) ∷ rest | false ↦ rest ])) (e n)
    ∙ rising_same test other n (elim (other n) [ true ↦ (n + 1) ∷ rest | false ↦ rest ]) e

pub list_of_same : (N : ℕ) (test other : ℕ → Bool) → ((i : ℕ) → test i ≡ other i) → list_of N test ≡ list_of N other
unfolding list_of
list_of_same N test other e =
    let counts : count_below test N ≡ count_below other N = count_same test other N (λ i l. e i) in
    ap (λ (c : ℕ). rising test N (replicate (N - c) 0) ++ (1 ∷ [])) counts
    ∙ ap (λ (l : List ℕ). l ++ (1 ∷ [])) (rising_same test other N (replicate (N - count_below other N) 0) e)
