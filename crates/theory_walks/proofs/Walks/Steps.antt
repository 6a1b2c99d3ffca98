-- The walk meets nothing twice, meets what roots lead to and nothing else, and N steps are enough.
use mathlib.Core.Path.{◌≡◌, refl, sym, ap, ◌∙◌, subst}
use mathlib.Core.Logic.{◌≢◌}
use mathlib.Core.Bool.{Bool, true, false}
use mathlib.Core.List.{List, [], ◌∷◌}
use Prim.Native.Nat.{ℕ, zero, suc, ◌≤◌, ◌<◌}
use native.Mathlib.Decide.{ℕ_discrete, dec_lt}
use native.Mathlib.Omega.{arith}
use lib.ListN.{length, get_or}
use lib.Dec.{ltb}
use borrow.Author.Tests.{eq-eqb, ne_eqb, lt-ltb, ltb-true, le-ltb}
use Rattle.bitmap.specs.Bit.{count_below}
use Rattle.bitmap.proofs.Zeros.{count_le}
use Rattle.rules.proofs.Counting.{count_grows}
use Rattle.rules_output.specs.Walk.{number_in, object_at, meet, meet_each, walk}
use Rattle.theory_walks.proofs.Walks.Numbers.{Distinct, none, more, number_le, number_object, number_same, number_other, number_nil, object_past}
use Rattle.theory_walks.proofs.Walks.Numbers.{Grows, grows_object, grows_number}
use Rattle.theory_walks.proofs.Walks.Numbers.{Met, nothing, again, new, meet_cases, met_distinct, met_known, each_grows, each_distinct}

pub data All (P : ℕ → Type 0) : List ℕ → Type 0 where
  nil : All P []
  cons : {x : ℕ} {l : List ℕ} → P x → All P l → All P (x ∷ l)

-- ---- what holds of each that is met

pub all_object : {P : ℕ → Type 0} {l : List ℕ} → All P l → (v n : ℕ) → number_in l v ≡ suc n → P v
all_object nil v n e = absurd (omega (arith, number_nil v))
all_object {P} (cons {x} {l} p all) v n e = elim (ℕ_discrete x v) [
  | yes q ↦ subst P q p
  | no d ↦ all_object all v n (sym (number_other x v l d) ∙ e)
]

pub met_all : {P : ℕ → Type 0} {met next : List ℕ} {v : ℕ} → Met met v next → (v ≢ 0 → P v) → All P met → All P next
met_all (nothing e) p all = all
met_all (again n d e) p all = all
met_all (new d e) p all = cons (p d) all

pub each_all : {P : ℕ → Type 0} {met : List ℕ} (vs : List ℕ) → ((j : ℕ) → get_or vs j 0 ≢ 0 → P (get_or vs j 0)) → All P met → All P (meet_each met vs)
unfolding meet_each
each_all [] p all = all
each_all {P} {met} (v ∷ vs) p all = each_all {P = P} {met = meet met v} vs (λ j. p (suc j)) (met_all (meet_cases met v) (p 0) all)

pub all_at : {P : ℕ → Type 0} {l : List ℕ} → All P l → (n : ℕ) → 1 ≤ n → n ≤ length l → P (object_at l n)
unfolding object_at
all_at nil n low high = absurd (omega arith)
all_at (cons {x} {l} p all) n low high = elim (ℕ_discrete n (suc (length l))) [
  | yes e ↦ rw (eq-eqb n (suc (length l)) e, object_at) p
  | no d ↦ rw (ne_eqb n (suc (length l)) d, object_at) (all_at all n low (omega arith))
]

-- ---- n different numbers from 1 to n at most

within : List ℕ → ℕ → Bool
within l i = ltb 0 (number_in l (suc i))

known_within : (l : List ℕ) (i : ℕ) → 1 ≤ number_in l (suc i) → within l i ≡ true
unfolding within
known_within l i h = lt-ltb 0 (number_in l (suc i)) h

within_known : (l : List ℕ) (i : ℕ) → within l i ≡ true → 1 ≤ number_in l (suc i)
unfolding within
within_known l i h = ltb-true 0 (number_in l (suc i)) h

unknown_without : (l : List ℕ) (i : ℕ) → number_in l (suc i) ≡ 0 → within l i ≡ false
unfolding within
unknown_without l i h = le-ltb 0 (number_in l (suc i)) (omega arith)

pigeon : (N : ℕ) {l : List ℕ} → Distinct l → All (λ v. v ≤ N) l → length l ≤ count_below (within l) N
pigeon N none all = omega arith
pigeon N (more {x = zero} {l} fresh some d) (cons p all) = absurd (some refl)
pigeon N (more {x = suc i} {l} fresh some d) (cons p all) =
    omega (
      arith,
      pigeon N d all,
      count_grows (within l) (within (suc i ∷ l)) N i keep (omega arith) (unknown_without l i fresh)
          (known_within (suc i ∷ l) i (omega (arith, number_same (suc i) (suc i) l refl))),
    )
  where
    keep : (j : ℕ) → within l j ≡ true → within (suc i ∷ l) j ≡ true
    keep j t = elim (ℕ_discrete (suc i) (suc j)) [
      | yes q ↦ known_within (suc i ∷ l) j (omega (arith, number_same (suc i) (suc j) l q))
      | no q ↦ known_within (suc i ∷ l) j (omega (arith, number_other (suc i) (suc j) l q, within_known l j t))
    ]

pub distinct_length : (N : ℕ) {l : List ℕ} → Distinct l → All (λ v. v ≤ N) l → length l ≤ N
distinct_length N {l} d all = omega (arith, pigeon N d all, count_le (within l) N)

-- ---- the walk

-- each that one of vs names has a number
pub each_known : {met : List ℕ} (vs : List ℕ) → Distinct met → (j : ℕ) → get_or vs j 0 ≢ 0 → (n : ℕ) × (number_in (meet_each met vs) (get_or vs j 0) ≡ suc n)
unfolding meet_each
each_known [] d j s = absurd (s refl)
each_known {met} (v ∷ vs) d zero s =
    let d' = met_distinct (meet_cases met v) d in
    let known = met_known (meet_cases met v) s in
    (known.0, grows_number (each_grows (meet met v) vs) (each_distinct (meet met v) vs d') v known.0 known.1)
each_known {met} (v ∷ vs) d (suc j) s = each_known {met = meet met v} vs (met_distinct (meet_cases met v) d) j s

-- nothing is met in no cells
pub each_none : (met vs : List ℕ) → vs ≡ [] → meet_each met vs ≡ met
unfolding meet_each
each_none met [] e = refl
each_none met (v ∷ vs) e = let z : ◌≡◌ {A = ℕ} 0 1 = cc in absurd (omega arith)

module _ (roots : List ℕ) (out : ℕ → List ℕ) (empty : out 0 ≡ []) where
  pub walk_distinct : (k : ℕ) → Distinct (walk roots out k)
  unfolding walk
  walk_distinct zero = each_distinct [] roots none
  walk_distinct (suc k) = each_distinct (walk roots out k) (out (object_at (walk roots out k) (suc k))) (walk_distinct k)

  pub walk_next : (k : ℕ) → Grows (walk roots out k) (walk roots out (suc k))
  unfolding walk
  walk_next k = each_grows (walk roots out k) (out (object_at (walk roots out k) (suc k)))

  -- past the last object the walk stands still
  pub walk_stands : (k : ℕ) → length (walk roots out k) ≤ k → walk roots out (suc k) ≡ walk roots out k
  unfolding walk
  walk_stands k h =
      each_none (walk roots out k) (out (object_at (walk roots out k) (suc k)))
      (ap out (object_past (walk roots out k) (suc k) (omega arith)) ∙ empty)

  -- what holds of all that roots name, and of all that the cells of what it holds of name, holds of all that
  -- is met
  module _ {P : ℕ → Type 0} (first : (r : ℕ) → get_or roots r 0 ≢ 0 → P (get_or roots r 0)) (next : (v j : ℕ) → P v → get_or (out v) j 0 ≢ 0 → P (get_or (out v) j 0)) where
    cells : (k : ℕ) (met : List ℕ) → All P met → (j : ℕ) → get_or (out (object_at met (suc k))) j 0 ≢ 0 → P (get_or (out (object_at met (suc k))) j 0)
    cells k met all j s = elim (dec_lt k (length met)) [
      | yes h ↦ next (object_at met (suc k)) j (all_at all (suc k) (omega arith) (omega arith)) s
      | no h ↦
          absurd (s (ap (λ (v : ℕ). get_or (out v) j 0) (object_past met (suc k) (omega arith)) ∙ ap (λ (l : List ℕ). get_or l j 0) empty))
    ]

    pub walk_all : (k : ℕ) → All P (walk roots out k)
    unfolding walk
    walk_all zero = each_all roots first nil
    walk_all (suc k) = each_all (out (object_at (walk roots out k) (suc k))) (cells k (walk roots out k) (walk_all k)) (walk_all k)

  -- the cells of what has been taken name what has a number
  abbrev pub Known : List ℕ → ℕ → Type 0
  Known met v = (n : ℕ) × (number_in met v ≡ suc n)

  known_later : (k v : ℕ) → Known (walk roots out k) v → Known (walk roots out (suc k)) v
  known_later k v known = (known.0, grows_number (walk_next k) (walk_distinct (suc k)) v known.0 known.1)

  pub roots_known : (k r : ℕ) → get_or roots r 0 ≢ 0 → Known (walk roots out k) (get_or roots r 0)
  unfolding walk
  roots_known zero r s = each_known roots none r s
  roots_known (suc k) r s = known_later k (get_or roots r 0) (roots_known k r s)

  step : (k v j : ℕ) → object_at (walk roots out k) (suc k) ≡ v → get_or (out v) j 0 ≢ 0 → Known (walk roots out (suc k)) (get_or (out v) j 0)
  unfolding walk
  step k v j e s = rw e (each_known (out v) (walk_distinct k) j s)

  pub taken_known :
      (k n : ℕ) → n < k → n < length (walk roots out k) → (v : ℕ) → object_at (walk roots out k) (suc n) ≡ v
      → (j : ℕ) → get_or (out v) j 0 ≢ 0 → Known (walk roots out k) (get_or (out v) j 0)
  taken_known zero n low high v at j s = absurd (omega arith)
  taken_known (suc k) n low high v at j s = elim (dec_lt n (length (walk roots out k))) [
    | no h ↦ absurd (omega (arith, ap length (walk_stands k (omega arith))))
    | yes h ↦
        let same : object_at (walk roots out (suc k)) (suc n) ≡ object_at (walk roots out k) (suc n) = grows_object (walk_next k) (suc n) (omega arith) in
        elim (ℕ_discrete n k) [
          | yes e ↦ now (ap (λ (i : ℕ). object_at (walk roots out k) (suc i)) (sym e) ∙ sym same ∙ at)
          | no d ↦ known_later k (get_or (out v) j 0) (taken_known k n (omega arith) h v (sym same ∙ at) j s)
        ]
  ]
    where
      now : object_at (walk roots out k) (suc k) ≡ v → Known (walk roots out (suc k)) (get_or (out v) j 0)
      now e = step k v j e s

  -- N steps are enough: then every object met has been taken
  module _ (N : ℕ) (below : (r : ℕ) → get_or roots r 0 ≤ N) (cells_below : (v j : ℕ) → get_or (out v) j 0 ≤ N) where
    pub walk_length : (k : ℕ) → length (walk roots out k) ≤ N
    walk_length k = distinct_length N (walk_distinct k) (walk_all (λ r s. below r) (λ v j p s. cells_below v j) k)

    pub closed : (v n : ℕ) → number_in (walk roots out N) v ≡ suc n → (j : ℕ) → get_or (out v) j 0 ≢ 0 → Known (walk roots out N) (get_or (out v) j 0)
    closed v n e j s =
        let inside = number_le (walk roots out N) v in
        taken_known N n (omega (arith, walk_length N)) (omega arith) v (number_object (walk roots out N) v n e) j s
