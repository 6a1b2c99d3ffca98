-- What the two maps stand for: a list of sizes, at each first block the size of its object and elsewhere 0. `Represents` says which
-- maps a list of sizes has; first blocks and sizes can be read off either; maps and sizes determine each other.
use mathlib.Core.Path.{◌≡◌, sym, ap, ◌∙◌}
use mathlib.Core.Logic.{◌≢◌, ◌⊎◌, inl, inr}
use mathlib.Core.Bool.{true, false, true≢false}
use mathlib.Core.List.{List}
use Prim.Native.Nat.{ℕ, suc, ◌+◌, ◌-◌, ◌*◌, ◌/◌, ◌≤◌, ◌<◌}
use native.Mathlib.Decide.{ℕ_discrete, dec_lt}
use native.Mathlib.Omega.{arith}
use lib.ListN.{length, get_or, replicate, length-replicate, get_or-replicate, get_or-eq_default}
use lib.Seq.{ext_get_or}
use Rattle.bitmap.specs.Bit.{bit_at, Bytes}
use Rattle.bitmap.proofs.Maps.{bit_all_zero, bit_all_one, map_ext}
use Rattle.rules.specs.Heap.{first_in, size_from}
use Rattle.rules.specs.Tools.{tabulate}
use Rattle.rules.proofs.Tabulate.{length_tabulate, get_d_tabulate}
use Rattle.rules.proofs.Tests.{test_cases_lem}
use Rattle.rules.proofs.Objects.{bit_cases, Starts, first_facts, first_test, size_is}

pub record Represents (N : ℕ) (a b sizes : List ℕ) : Type 0 where
  pub length_a : 8 * length a ≡ N
  pub length_b : 8 * length b ≡ N
  pub length_sizes : length sizes ≡ N
  -- extents don't meet
  pub apart : (x y : ℕ) → x < y → get_or sizes x 0 ≢ 0 → get_or sizes y 0 ≢ 0 → x + get_or sizes x 0 ≤ y
  pub inside : (x : ℕ) → get_or sizes x 0 ≢ 0 → x + get_or sizes x 0 ≤ N
  -- the A bit is 1 exactly on their blocks
  pub used : (x i : ℕ) → x ≤ i → i < x + get_or sizes x 0 → bit_at a i ≡ 1
  pub owner : (i : ℕ) → bit_at a i ≡ 1 → (x : ℕ) × (x ≤ i) × (i < x + get_or sizes x 0)
  -- the B bit is 0 exactly on their last blocks
  pub last : (x i : ℕ) → get_or sizes x 0 ≢ 0 → suc i ≡ x + get_or sizes x 0 → bit_at b i ≡ 0
  pub other : (i : ℕ) → i < N → ((x : ℕ) → get_or sizes x 0 ≢ 0 → suc i ≢ x + get_or sizes x 0) → bit_at b i ≡ 1

-- damage kinds 1 and 2 are absent: a 0 in the B-map stands on a used block, and a used block with a 1 is followed by a used one
pub record Delimited (N : ℕ) (a b : List ℕ) : Type 0 where
  pub end_used : (i : ℕ) → i < N → bit_at b i ≡ 0 → bit_at a i ≡ 1
  pub goes_on : (i : ℕ) → i < N → bit_at a i ≡ 1 → bit_at b i ≡ 1 → (i + 1 < N) × (bit_at a (i + 1) ≡ 1)

-- ---- the sizes that two maps have

-- the size where an object starts, else 0
size_or_none : ℕ → List ℕ → List ℕ → ℕ → ℕ
size_or_none N a b i = elim (first_in N a b i) [ true ↦ size_from (N - i) b i | false ↦ 0 ]

pub sizes_of : ℕ → List ℕ → List ℕ → List ℕ
sizes_of N a b = tabulate N (size_or_none N a b)

pub length_sizes_of : (N : ℕ) (a b : List ℕ) → length (sizes_of N a b) ≡ N
unfolding sizes_of
length_sizes_of N a b = length_tabulate N (size_or_none N a b)

pub size_first : (N : ℕ) (a b : List ℕ) (i : ℕ) → first_in N a b i ≡ true → get_or (sizes_of N a b) i 0 ≡ size_from (N - i) b i
unfolding sizes_of size_or_none
size_first N a b i f = get_d_tabulate 0 N (size_or_none N a b) i (first_facts N a b i f).inside ∙ rw (f, size_or_none)

pub size_not_first : (N : ℕ) (a b : List ℕ) (i : ℕ) → first_in N a b i ≡ false → get_or (sizes_of N a b) i 0 ≡ 0
unfolding sizes_of size_or_none
size_not_first N a b i f = elim (dec_lt i N) [
  | yes l ↦ get_d_tabulate 0 N (size_or_none N a b) i l ∙ rw (f, size_or_none)
  | no l ↦ get_or-eq_default (sizes_of N a b) 0 {n = i} (omega (arith, length_sizes_of N a b))
]

-- where the size is not 0, a first block stands
pub sized_first : (N : ℕ) (a b : List ℕ) (i : ℕ) → get_or (sizes_of N a b) i 0 ≢ 0 → first_in N a b i ≡ true
sized_first N a b i n = elim (test_cases_lem (first_in N a b i)) [ inl f ↦ f | inr f ↦ absurd (n (size_not_first N a b i f)) ]

-- ---- first blocks and sizes, read off the sizes

module _ (N : ℕ) (a b sizes : List ℕ) (rep : Represents N a b sizes) where
  -- inside an object, before its last block, the B bit is 1
  pub inner : (x i : ℕ) → x ≤ i → suc i < x + get_or sizes x 0 → bit_at b i ≡ 1
  inner x i l u = rep.other i (omega (arith, rep.inside x (omega arith))) clash
    where
      clash : (y : ℕ) → get_or sizes y 0 ≢ 0 → suc i ≡ y + get_or sizes y 0 → ⊥
      clash y n e = elim (ℕ_discrete x y) [
        | yes q ↦ omega (arith, ap (λ (z : ℕ). get_or sizes z 0) q)
        | no q ↦ elim (dec_lt x y) [
          | yes v ↦ omega (arith, rep.apart x y v (omega arith) n)
          | no v ↦ omega (arith, rep.apart y x (omega arith) n (omega arith))
        ]
      ]

  pub first_size : (x : ℕ) → first_in N a b x ≡ true → get_or sizes x 0 ≢ 0
  first_size x f z =
      let first = first_facts N a b x f in
      let o = rep.owner x first.used in
      absent o.0 o.1 o.2 first.starts
    where
      absent : (y : ℕ) → y ≤ x → x < y + get_or sizes y 0 → Starts a b x → ⊥
      absent y l u s = elim (ℕ_discrete y x) [
        | yes q ↦ omega (arith, z, ap (λ (k : ℕ). get_or sizes k 0) q)
        | no q ↦ elim s [
          | inl e ↦ omega arith
          | inr (inl e) ↦ omega (arith, rep.used y (x - 1) (omega arith) (omega arith))
          | inr (inr e) ↦ omega (arith, inner y (x - 1) (omega arith) (omega arith))
        ]
      ]

  pub size_is_first : (x : ℕ) → get_or sizes x 0 ≢ 0 → first_in N a b x ≡ true
  size_is_first x n =
      first_test N a b x
      record {
        inside = omega (arith, rep.inside x n);
        used = rep.used x x (omega arith) (omega arith);
        starts = starts (ℕ_discrete x 0);
      }
    where
      starts : Dec (x ≡ 0) → Starts a b x
      starts (yes z) = inl z
      starts (no m) = elim (bit_cases a (x - 1)) [
        | inl z ↦ inr (inl z)
        | inr e ↦
            let o = rep.owner (x - 1) e in
            let before = rep.apart o.0 x (omega (arith, o.1)) (omega (arith, o.1, o.2)) n in
            inr (inr (rep.last o.0 (x - 1) (omega (arith, o.1, o.2)) (omega (arith, o.1, o.2))))
      ]

  pub not_first_size : (x : ℕ) → first_in N a b x ≡ false → get_or sizes x 0 ≡ 0
  not_first_size x f = elim (ℕ_discrete (get_or sizes x 0) 0) [
    | yes z ↦ z
    | no n ↦ absurd (true≢false (sym (size_is_first x n) ∙ f))
  ]

  pub extent : (x : ℕ) → get_or sizes x 0 ≢ 0 → size_from (N - x) b x ≡ get_or sizes x 0
  extent x n =
      let m : ℕ = get_or sizes x 0 - 1 in
      let e : suc m ≡ get_or sizes x 0 = omega arith in
      size_is (N - x) b x m (omega (arith, rep.inside x n)) (λ j l u. inner x j l (omega arith)) (rep.last x (x + m) n (omega arith)) ∙ e

  -- maps have one list of sizes
  pub represents_is : sizes ≡ sizes_of N a b
  represents_is =
      ext_get_or 0 sizes (sizes_of N a b) (rep.length_sizes ∙ sym (length_sizes_of N a b)) (λ i l. same i (test_cases_lem (first_in N a b i)))
    where
      same : (i : ℕ) → (first_in N a b i ≡ true) ⊎ (first_in N a b i ≡ false) → get_or sizes i 0 ≡ get_or (sizes_of N a b) i 0
      same i (inl f) = sym (size_first N a b i f ∙ extent i (first_size i f))
      same i (inr f) = not_first_size i f ∙ sym (size_not_first N a b i f)

  pub represents_delimited : Delimited N a b
  represents_delimited = record {
    end_used = λ i l e. elim (bit_cases a i) [
      | inr used ↦ used
      | inl free ↦ absurd (omega (arith, rep.other i l (λ x n q. omega (arith, rep.used x i (omega arith) (omega arith)))))
    ];
    goes_on = λ i l used more.
        let o = rep.owner i used in
        on i more o.0 o.1 o.2;
  }
    where
      on : (i : ℕ) → bit_at b i ≡ 1 → (x : ℕ) → x ≤ i → i < x + get_or sizes x 0 → (i + 1 < N) × (bit_at a (i + 1) ≡ 1)
      on i more x l u = elim (ℕ_discrete (suc i) (x + get_or sizes x 0)) [
        | yes e ↦ absurd (omega (arith, rep.last x i (omega arith) e))
        | no d ↦ (omega (arith, rep.inside x (omega arith)), rep.used x (i + 1) (omega arith) (omega arith))
      ]

-- ---- sizes have one pair of maps

module _ (N : ℕ) (a b c d sizes : List ℕ) (p : Represents N a b sizes) (q : Represents N c d sizes) where
  pub same_a : (i : ℕ) → bit_at a i ≡ bit_at c i
  same_a i = elim (bit_cases a i) [
    | inr e ↦ let o = p.owner i e in e ∙ sym (q.used o.0 i o.1 o.2)
    | inl e ↦ elim (bit_cases c i) [
      | inl z ↦ e ∙ sym z
      | inr z ↦ let o = q.owner i z in absurd (omega (arith, p.used o.0 i o.1 o.2))
    ]
  ]

  pub same_b : (i : ℕ) → i < N → bit_at b i ≡ bit_at d i
  same_b i l = elim (bit_cases a i) [
    | inl e ↦ p.other i l (no_end e) ∙ sym (q.other i l (no_end e))
    | inr e ↦ let o = p.owner i e in
        elim (ℕ_discrete (suc i) (o.0 + get_or sizes o.0 0)) [
          | yes end ↦ p.last o.0 i (some o.0 o.1 o.2) end ∙ sym (q.last o.0 i (some o.0 o.1 o.2) end)
          | no m ↦
              let u : suc i < o.0 + get_or sizes o.0 0 = omega (arith, o.2) in
              inner N a b sizes p o.0 i o.1 u ∙ sym (inner N c d sizes q o.0 i o.1 u)
        ]
  ]
    where
      some : (x : ℕ) → x ≤ i → i < x + get_or sizes x 0 → get_or sizes x 0 ≢ 0
      some x l u = omega arith

      no_end : bit_at a i ≡ 0 → (x : ℕ) → get_or sizes x 0 ≢ 0 → suc i ≢ x + get_or sizes x 0
      no_end e x n end = omega (arith, p.used x i (omega arith) (omega arith))

  pub same_maps : Bytes a → Bytes b → Bytes c → Bytes d → (a ≡ c) × (b ≡ d)
  same_maps ba bb bc bd = (
    map_ext a c ba bc (omega (arith, p.length_a, q.length_a)) (λ i l. same_a i),
    map_ext b d bb bd (omega (arith, p.length_b, q.length_b)) (λ i l. same_b i (omega (arith, p.length_b))),
  )

-- ---- the empty heap

pub formatted_represents : (N : ℕ) → 8 * (N / 8) ≡ N → Represents N (replicate (N / 8) 0) (replicate (N / 8) 255) (replicate N 0)
formatted_represents N whole = record {
  length_a = omega (arith, length-replicate {A = ℕ} (N / 8) 0);
  length_b = omega (arith, length-replicate {A = ℕ} (N / 8) 255);
  length_sizes = length-replicate N 0;
  apart = λ x y l n m. absurd (n (none x));
  inside = λ x n. absurd (n (none x));
  used = λ x i l u. absurd (omega (arith, none x));
  owner = λ i e. absurd (omega (arith, bit_all_zero (N / 8) i));
  last = λ x i n e. absurd (n (none x));
  other = λ i l f. bit_all_one (N / 8) i (omega arith);
}
  where
    none : (x : ℕ) → ◌≡◌ {A = ℕ} (get_or (replicate N 0) x 0) 0
    none x = elim (dec_lt x N) [
      | yes l ↦ get_or-replicate N x 0 0 l
      | no l ↦ get_or-eq_default (replicate N 0) 0 {n = x} (omega (arith, length-replicate {A = ℕ} N 0))
    ]
