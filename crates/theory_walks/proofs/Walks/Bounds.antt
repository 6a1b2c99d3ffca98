-- How large the numbers of the list of request U13 are, and how long it is.
use mathlib.Core.Path.{◌≡◌, refl, sym, ap, ◌∙◌}
use mathlib.Core.Logic.{◌≢◌, inl, inr}
use mathlib.Core.List.{List, [], ◌∷◌, ◌++◌, map}
use Prim.Native.Nat.{ℕ, zero, suc, ◌+◌, ◌-◌, ◌*◌, ◌≤◌, ◌<◌}
use native.Mathlib.Decide.{ℕ_discrete, dec_lt}
use native.Mathlib.Omega.{arith}
use lib.ListN.{length, get_or, set, length-map, length-append, get_or-eq_default}
use lib.Seq.{get_or-set_other}
use Rattle.bitmap.specs.Bit.{bit_at}
use Rattle.bitmap.proofs.Maps.{bit_at_lt}
use Rattle.rules.specs.Heap.{Memory, size_at, is_data}
use Rattle.rules_output.specs.Walk.{number_in, block_at, references_of, numbered}
use Rattle.rules_output.specs.Shape.{cells_of, described, joined, shape_of}
use Rattle.rules.proofs.Tests.{test_cases_lem}
use Rattle.rules.proofs.Objects.{size_le}
use Rattle.theory_walks.specs.Shape.{ShapeBounded}
use Rattle.theory_memories.proofs.Maps.Extents.{sizes_of, size_first}
use Rattle.theory_memories.proofs.Maps.Totals.{sum, sum_set, free_and_sizes}
use Rattle.theory_memories.proofs.Memories.Healthy.{Healthy, healthy_facts}
use Rattle.theory_walks.proofs.Walks.Numbers.{Distinct, none, more, number_le, number_same, number_other, object_same, object_other}
use Rattle.theory_walks.proofs.Walks.Steps.{All, nil, cons}
use Rattle.theory_walks.proofs.Walks.Reached.{references_length, led_first, Named, intact_named, numbered_distinct, numbered_length, met_led}
use Rattle.theory_walks.proofs.Walks.Equal.{cells_length, cells_at, described_data, described_other}
use Rattle.theory_walks.proofs.Walks.Joined.{joined_same}

-- ---- each number

module _ {P : ℕ → Type 0} where
  all_append : {a b : List ℕ} → All P a → All P b → All P (a ++ b)
  all_append nil all = all
  all_append (cons p rest) all = cons p (all_append rest all)

  all_map : (f : ℕ → ℕ) → ((v : ℕ) → P (f v)) → (l : List ℕ) → All P (map f l)
  all_map f p [] = nil
  all_map f p (x ∷ l) = cons (p x) (all_map f p l)

  all_joined : (f : ℕ → List ℕ) (n : ℕ) → ((i : ℕ) → i < n → All P (f i)) → All P (joined f n)
  unfolding joined
  all_joined f zero p = nil
  all_joined f (suc n) p = all_append (all_joined f n (λ i l. p i (omega arith))) (p n (omega arith))

  all_places : (l : List ℕ) → ((i : ℕ) → i < length l → P (get_or l i 0)) → All P l
  all_places [] p = nil
  all_places (x ∷ l) p = cons (p 0 (omega arith)) (all_places l (λ i b. p (suc i) (omega arith)))

  place_of : {l : List ℕ} → All P l → P 0 → (i : ℕ) → P (get_or l i 0)
  place_of nil z i = z
  place_of (cons p all) z zero = p
  place_of (cons p all) z (suc i) = place_of all z i

module _ (N : ℕ) (h : Memory) (named : Named N h) (few : length h.roots ≤ 64) (limit : ℕ) (blocks : N < limit) (roots : 64 < limit)
    (cells : (j : ℕ) → get_or h.cells j 0 < limit) where
  number_fits : (v : ℕ) → number_in (numbered N h) v < limit
  number_fits v = omega (arith, number_le (numbered N h) v, numbered_length N h named)

  described_fits : (b : ℕ) → All (λ v. v < limit) (described N h (numbered N h) b)
  described_fits b =
      let size : size_at N h b < limit = omega (arith, size_le (N - b) h.b b) in
      let bit : bit_at h.d b < limit = omega (arith, bit_at_lt h.d b) in
      elim (test_cases_lem (is_data h.d b)) [
        | inl made ↦
            rw (described_data N h (numbered N h) b made)
            (cons size (cons bit (all_places (cells_of N h b)
            (λ i l. let inside : i < 4 * size_at N h b = omega (arith, cells_length N h b) in rw (cells_at N h b i inside) (cells (4 * b + i))))))
        | inr other ↦
            rw (described_other N h (numbered N h) b other)
            (cons size (cons bit (all_map (number_in (numbered N h)) number_fits (references_of N h b))))
      ]

  shape_fits : (i : ℕ) → get_or (shape_of N h) i 0 < limit
  unfolding shape_of
  shape_fits i =
      let count : length h.roots < limit = omega arith in
      let each : ℕ → List ℕ = λ k. described N h (numbered N h) (block_at (numbered N h) (suc k)) in
      place_of {P = λ v. v < limit}
      (cons count (all_append (all_map (number_in (numbered N h)) number_fits h.roots)
      (all_joined each (length (numbered N h)) (λ k l. described_fits (block_at (numbered N h) (suc k))))))
      (omega arith) i

-- what holds of all that has a number
all_known : {P : ℕ → Type 0} {met : List ℕ} → Distinct met → ((v n : ℕ) → number_in met v ≡ suc n → P v) → All P met
all_known none p = nil
all_known (more {x} {l} fresh some d) p =
    cons (p x (length l) (number_same x x l refl))
    (all_known d (λ v n e. p v n (number_other x v l (λ z. omega (arith, ap (number_in l) z)) ∙ e)))

-- ---- how many

-- the sizes of what is met, all together
total : List ℕ → List ℕ → ℕ
total sizes [] = 0
total sizes (v ∷ met) = get_or sizes (v - 1) 0 + total sizes met

-- an object that is not among them does not matter
total_other : (sizes : List ℕ) (x : ℕ) {met : List ℕ} → Distinct met → x ≢ 0 → number_in met x ≡ 0 → total (set sizes (x - 1) 0) met ≡ total sizes met
unfolding total
total_other sizes x none some new = refl
total_other sizes x (more {x = y} {l = met} fresh other d) some new = elim (ℕ_discrete y x) [
  | yes e ↦ absurd (omega (arith, number_same y x met e))
  | no n ↦
      let rest = total_other sizes x d some (sym (number_other y x met n) ∙ new) in
      omega (arith, rest, get_or-set_other sizes (x - 1) (y - 1) 0 0 (λ z. n (omega arith)))
]

-- each object's size counts once
total_le : (sizes : List ℕ) {met : List ℕ} → Distinct met → total sizes met ≤ sum sizes
unfolding total
total_le sizes none = omega arith
total_le sizes (more {x} {l = met} fresh some d) =
    let rest = total_le (set sizes (x - 1) 0) d in
    let same = total_other sizes x d some fresh in
    elim (dec_lt (x - 1) (length sizes)) [
      | yes l ↦ omega (arith, sum_set sizes (x - 1) 0 l)
      | no l ↦
          let past : get_or sizes (x - 1) 0 ≡ 0 = get_or-eq_default sizes 0 {n = x - 1} (omega arith) in
          omega (arith, total_le sizes d)
    ]

-- the lists that f gives for the objects met, one behind the other
joined_length :
    (f : ℕ → List ℕ) (sizes : List ℕ) {met : List ℕ} → All (λ v. length (f (v - 1)) ≡ 2 + 4 * get_or sizes (v - 1) 0) met
    → length (joined (λ i. f (block_at met (suc i))) (length met)) ≡ 2 * length met + 4 * total sizes met
unfolding joined total
joined_length f sizes nil = refl
joined_length f sizes (cons {x} {l} long rest) =
    let before : ℕ → List ℕ = λ i. f (block_at l (suc i)) in
    let now : ℕ → List ℕ = λ i. f (block_at (x ∷ l) (suc i)) in
    let same : joined now (length l) ≡ joined before (length l) =
    joined_same now before (length l) (λ i b. ap (λ (v : ℕ). f (v - 1)) (object_other x (suc i) l (omega arith))) in
    let last : length (now (length l)) ≡ 2 + 4 * get_or sizes (x - 1) 0 =
    ap (λ (v : ℕ). length (f (v - 1))) (object_same x (suc (length l)) l refl) ∙ long in
    omega (arith, length-append (joined now (length l)) (now (length l)), ap length same, last, joined_length f sizes rest)

described_length : (N : ℕ) (h : Memory) (met : List ℕ) (b : ℕ) → length (described N h met b) ≡ 2 + 4 * size_at N h b
described_length N h met b = elim (test_cases_lem (is_data h.d b)) [
  | inl made ↦ omega (arith, ap length (described_data N h met b made), cells_length N h b)
  | inr other ↦
      omega (
        arith,
        ap length (described_other N h met b other),
        length-map (references_of N h b) (number_in met),
        references_length N h b,
      )
]

module _ (N w : ℕ) (h : Memory) (healthy : Healthy N w h) (named : Named N h) where
  abbrev sizes : List ℕ
  sizes = sizes_of N h.a h.b

  met_long : All (λ v. length (described N h (numbered N h) (v - 1)) ≡ 2 + 4 * get_or sizes (v - 1) 0) (numbered N h)
  met_long = all_known (numbered_distinct N h named)
      (λ v n e.
      let first = led_first N h (met_led N h named v n e).1 in
      omega (arith, described_length N h (numbered N h) (v - 1), size_first N h.a h.b (v - 1) first))

  shape_room : length (shape_of N h) ≤ 1 + length h.roots + 6 * N
  unfolding shape_of
  shape_room =
      let each : ℕ → List ℕ = λ i. described N h (numbered N h) (block_at (numbered N h) (suc i)) in
      omega (
        arith,
        length-append (map (number_in (numbered N h)) h.roots) (joined each (length (numbered N h))),
        length-map h.roots (number_in (numbered N h)),
        joined_length (described N h (numbered N h)) sizes met_long,
        total_le sizes (numbered_distinct N h named),
        free_and_sizes N h.a h.b sizes healthy.represents,
        numbered_length N h named,
      )

pub shape_bounded : ShapeBounded
shape_bounded N w h u =
    let healthy = healthy_facts N w h u.right_shape u.no_damage in
    let named = intact_named N w h u in
    record { fits = shape_fits N h named healthy.shape.roots_max; room = shape_room N w h healthy named }
