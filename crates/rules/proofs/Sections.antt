-- Sections (request U4): a search by sections finds the lowest free chunk.
use mathlib.Core.Path.{◌≡◌, refl, sym, ap, ap₂, ◌∙◌}
use mathlib.Core.Logic.{◌⊎◌, inl, inr}
use mathlib.Core.Bool.{Bool, true, false, ◌||◌, true≢false}
use mathlib.Core.List.{List}
use mathlib.Core.Option.{Option, none, some}
use Prim.Native.Nat.{ℕ, zero, suc, ◌+◌, ◌*◌, ◌/◌, ◌^◌, ◌≤◌, ◌<◌, ◌-◌, max}
use native.Mathlib.Nat.{zero-add, suc-add, zero-mul, suc-mul, mul_assoc, pow-suc, div_self, div-eq_of_eq-mul_left}
use native.Mathlib.Decide.{dec_le}
use native.Mathlib.Omega.{arith}
use lib.Dec.{leb}
use lib.ListN.{get_or}
use lib.Pow.{pow_mono, pow-lt, pow-add, pow_pos}
use borrow.Author.Tests.{le-leb, lt-leb}
use Rattle.rules.specs.Tools.{is_some}
use Rattle.rules.specs.Heap.{section_length, section_count, exponent, chunk_free, lowest_from, lowest_free, is_blocks}
use Rattle.rules.specs.Sections.{largest_free, figure, figures, suffices_from, lowest_in_section, lowest_by_sections}
use Rattle.rules.proofs.Tests.{test_cases_lem}
use Rattle.rules.proofs.Figures.{figure_free, figure_halves, figure_le, halves_free}
use Rattle.rules.proofs.Tabulate.{get_d_tabulate}
use Rattle.rules.proofs.Shape.{blocks_facts, blocks_power}
use Rattle.rules.proofs.Chunks.{exponent_covers, exponent_least}

-- ---- a search in two parts

or_else : Option ℕ → Option ℕ → Option ℕ
or_else none y = y
or_else (some x) y = some x

lowest_append : (m n k : ℕ) (a : List ℕ) (i : ℕ) → lowest_from (m + n) k a i ≡ or_else (lowest_from m k a i) (lowest_from n k a (i + m * 2 ^ k))
unfolding lowest_from or_else
lowest_append zero n k a i = ap (λ (m : ℕ). lowest_from m k a i) (zero-add n) ∙ ap (lowest_from n k a) (omega arith)
lowest_append (suc m) n k a i =
    ap (λ (x : ℕ). lowest_from x k a i) (suc-add m n)
    ∙ go (chunk_free k a i)
    (lowest_append m n k a (i + 2 ^ k)
    ∙ ap (λ (x : ℕ). or_else (lowest_from m k a (i + 2 ^ k)) (lowest_from n k a x)) (omega arith))
  where
    go : (t : Bool) → lowest_from (m + n) k a (i + 2 ^ k) ≡ or_else (lowest_from m k a (i + 2 ^ k)) (lowest_from n k a (i + suc m * 2 ^ k))
        → elim t as (λ _. Option ℕ) [ true ↦ some i | false ↦ lowest_from (m + n) k a (i + 2 ^ k) ]
        ≡ or_else (elim t [ true ↦ some i | false ↦ lowest_from m k a (i + 2 ^ k) ]) (lowest_from n k a (i + suc m * 2 ^ k))
    go true e = refl
    go false e = e

found_or : (x y : Option ℕ) → is_some (or_else x y) ≡ (is_some x || is_some y)
unfolding or_else is_some
found_or none y = refl
found_or (some x) y = refl

none_or : (x y : Option ℕ) → is_some x ≡ false → or_else x y ≡ y
unfolding or_else is_some
none_or none y e = refl
none_or (some x) y e = absurd (true≢false e)

some_or : (x y : Option ℕ) → is_some x ≡ true → or_else x y ≡ x
unfolding or_else is_some
some_or none y e = absurd (true≢false (sym e))
some_or (some x) y e = refl

-- ---- a figure suffices exactly where the search of its blocks finds a chunk

leb_max : (m x y : ℕ) → (leb m x || leb m y) ≡ leb m (max x y)
leb_max m x y =
    elim (dec_le m x) [
      | yes l ↦ ap (λ (t : Bool). t || leb m y) (le-leb m x l) ∙ sym (le-leb m (max x y) (omega arith))
      | no l ↦
          ap (λ (t : Bool). t || leb m y) (lt-leb m x (omega arith))
          ∙ elim (dec_le m y) [
            | yes u ↦ le-leb m y u ∙ sym (le-leb m (max x y) (omega arith))
            | no u ↦ lt-leb m y (omega arith) ∙ sym (lt-leb m (max x y) (omega arith))
          ]
    ]

one_chunk : (k : ℕ) (a : List ℕ) (i : ℕ) → is_some (lowest_from 1 k a i) ≡ chunk_free k a i
unfolding lowest_from is_some
one_chunk k a i = elim (test_cases_lem (chunk_free k a i)) [ inl e ↦ rw (e, lowest_from) | inr e ↦ rw (e, lowest_from) ]

suffices_free : (k : ℕ) (a : List ℕ) (i : ℕ) → leb (2 ^ k) (largest_free k a i) ≡ chunk_free k a i
suffices_free k a i = elim (test_cases_lem (chunk_free k a i)) [
  | inl e ↦ le-leb (2 ^ k) (largest_free k a i) (omega (arith, figure_free k a i e)) ∙ sym e
  | inr e ↦ lt-leb (2 ^ k) (largest_free k a i) ((figure_le k a i).1 e) ∙ sym e
]

-- the search among the 2 ^ t chunks of 2 ^ k blocks from block i on
figure_found : (t k : ℕ) (a : List ℕ) (i : ℕ) → is_some (lowest_from (2 ^ t) k a i) ≡ leb (2 ^ k) (largest_free (t + k) a i)
figure_found zero k a i =
    one_chunk k a i ∙ sym (suffices_free k a i) ∙ ap (λ (e : ℕ). leb (2 ^ k) (largest_free e a i)) (sym (zero-add k))
figure_found (suc t) k a i =
    ap is_some halves
    ∙ found_or (lowest_from (2 ^ t) k a i) (lowest_from (2 ^ t) k a (i + 2 ^ (t + k)))
    ∙ ap₂ (λ (x y : Bool). x || y) (figure_found t k a i) (figure_found t k a (i + 2 ^ (t + k)))
    ∙ both (test_cases_lem (chunk_free (suc (t + k)) a i))
    ∙ ap (λ (e : ℕ). leb (2 ^ k) (largest_free e a i)) (sym (suc-add t k))
  where
    halves : lowest_from (2 ^ suc t) k a i ≡ or_else (lowest_from (2 ^ t) k a i) (lowest_from (2 ^ t) k a (i + 2 ^ (t + k)))
    halves =
        ap (λ (n : ℕ). lowest_from n k a i) (omega (arith, pow-suc 2 t))
        ∙ lowest_append (2 ^ t) (2 ^ t) k a i
        ∙ ap (λ (x : ℕ). or_else (lowest_from (2 ^ t) k a i) (lowest_from (2 ^ t) k a (i + x))) (sym (pow-add 2 t k))

    l : ℕ
    l = largest_free (t + k) a i

    u : ℕ
    u = largest_free (t + k) a (i + 2 ^ (t + k))

    both : (chunk_free (suc (t + k)) a i ≡ true) ⊎ (chunk_free (suc (t + k)) a i ≡ false)
        → (leb (2 ^ k) l || leb (2 ^ k) u) ≡ leb (2 ^ k) (largest_free (suc (t + k)) a i)
    both (inl e) =
        let all = figure_free (t + k) a i (halves_free (t + k) a i e).0 in
        let most = pow_mono {i = k} {j = t + k} (omega arith) in
        let more = pow-suc 2 (t + k) in
        ap (λ (x : Bool). x || leb (2 ^ k) u) (le-leb (2 ^ k) l (omega arith))
        ∙ sym (le-leb (2 ^ k) (largest_free (suc (t + k)) a i) (omega (arith, figure_free (suc (t + k)) a i e)))
    both (inr e) = leb_max (2 ^ k) l u ∙ ap (leb (2 ^ k)) (sym (figure_halves (t + k) a i e))

-- ---- the search by sections: n sections of 2 ^ (t + k) blocks from number s on, whose figures are true

module _ (t k : ℕ) (a sections : List ℕ) where
  -- the search of one section
  within : Option ℕ → Option ℕ
  within none = none
  within (some s) = lowest_from (2 ^ t) k a (s * 2 ^ (t + k))

  by_sections : (n s : ℕ) → ((j : ℕ) → s ≤ j → j < s + n → get_or sections j 0 ≡ largest_free (t + k) a (j * 2 ^ (t + k)))
      → within (suffices_from n sections (2 ^ k) s) ≡ lowest_from (n * 2 ^ t) k a (s * 2 ^ (t + k))
  unfolding within suffices_from lowest_from
  by_sections zero s true_list = ap (λ (m : ℕ). lowest_from m k a (s * 2 ^ (t + k))) (sym (zero-mul (2 ^ t)))
  by_sections (suc n) s true_list =
      go (test_cases_lem (leb (2 ^ k) (get_or sections s 0))) (by_sections n (s + 1) (λ j l u. true_list j (omega arith) (omega arith)))
      ∙ sym (lowest_append (2 ^ t) (n * 2 ^ t) k a from)
      ∙ ap (λ (m : ℕ). lowest_from m k a from) chunks
    where
      chunks : 2 ^ t + n * 2 ^ t ≡ suc n * 2 ^ t
      chunks = omega (arith, suc-mul n (2 ^ t))

      from : ℕ
      from = s * 2 ^ (t + k)

      here : Option ℕ
      here = lowest_from (2 ^ t) k a from

      rest : Option ℕ
      rest = lowest_from (n * 2 ^ t) k a (from + 2 ^ t * 2 ^ k)

      found : is_some here ≡ leb (2 ^ k) (get_or sections s 0)
      found = figure_found t k a from ∙ ap (leb (2 ^ k)) (sym (true_list s (omega arith) (omega arith)))

      next : (s + 1) * 2 ^ (t + k) ≡ from + 2 ^ t * 2 ^ k
      next = omega (arith, pow-add 2 t k)

      go : (leb (2 ^ k) (get_or sections s 0) ≡ true) ⊎ (leb (2 ^ k) (get_or sections s 0) ≡ false)
          → within (suffices_from n sections (2 ^ k) (s + 1)) ≡ lowest_from (n * 2 ^ t) k a ((s + 1) * 2 ^ (t + k))
          → within (suffices_from (suc n) sections (2 ^ k) s) ≡ or_else here rest
      go (inl e) later = rw (e, suffices_from) (sym (some_or here rest (found ∙ e)))
      go (inr e) later =
          rw (e, suffices_from)
          (later
          ∙ ap (λ (i : ℕ). lowest_from (n * 2 ^ t) k a i) next
          ∙ sym (none_or here rest (found ∙ e)))

-- ---- the sections of a heap

-- a heap's sections have 2 ^ exponent blocks, and they are the whole heap
pub record Divided (N : ℕ) : Type 0 where
  pub exponent_is : 2 ^ exponent (section_length N) ≡ section_length N
  pub whole : section_count N * section_length N ≡ N

exponent_power : (k : ℕ) → 2 ^ exponent (2 ^ k) ≡ 2 ^ k
exponent_power k =
    let least = pow_mono {i = exponent (2 ^ k)} {j = k} (exponent_least (2 ^ k) k (omega arith)) in
    omega (arith, exponent_covers (2 ^ k))

pub divided : (N : ℕ) → is_blocks N ≡ true → Divided N
divided N e = elim (dec_le N 256) [
  | yes l ↦
      let power = blocks_power N e in
      let same : section_length N ≡ N = omega arith in
      record {
        exponent_is = ap (λ (x : ℕ). 2 ^ exponent x) (same ∙ power.1) ∙ exponent_power power.0 ∙ sym power.1 ∙ sym same;
        whole = rw same (ap (λ (x : ℕ). x * N) (div_self {n = N} (omega (arith, pow_pos power.0, power.1))) ∙ omega arith);
      }
  | no l ↦
      let facts = blocks_facts N e in
      let j : ℕ = facts.0 in
      let same : section_length N ≡ 256 = omega arith in
      let above : 5 < j = elim (dec_le j 5) [ yes m ↦ absurd (omega (arith, facts.2, pow_mono {i = j} {j = 5} m)) | no m ↦ omega arith ] in
      let split : j ≡ 5 + (j - 5) = omega arith in
      let times : N ≡ 2 ^ (j - 5) * 256 = omega (arith, facts.2, ap (λ (x : ℕ). 2 ^ x) split, pow-add 2 5 (j - 5)) in
      record {
        exponent_is = ap (λ (x : ℕ). 2 ^ exponent x) same ∙ exponent_power 8 ∙ sym same;
        whole = rw same (ap (λ (x : ℕ). x * 256) (div-eq_of_eq-mul_left {n = 256} {m = N} {k = 2 ^ (j - 5)} (omega arith) times) ∙ sym times);
      }
]

-- a chunk of at most a section's length: its exponent is at most the section's
pub exponents : (N k : ℕ) → Divided N → 2 ^ k ≤ section_length N → k ≤ exponent (section_length N)
exponents N k d l = elim (dec_le k (exponent (section_length N))) [
  | yes m ↦ m
  | no m ↦ absurd (omega (arith, d.exponent_is, pow-lt {i = exponent (section_length N)} {j = k} (omega arith)))
]

-- "For every heap the address, or the lack of one, must be that of document 01"
pub sections_find_lowest : (N k : ℕ) (a : List ℕ) → is_blocks N ≡ true → 2 ^ k ≤ section_length N → lowest_by_sections N k a ≡ lowest_free N k a
unfolding lowest_by_sections lowest_in_section lowest_free figures figure within
sections_find_lowest N k a blocks short =
    searched (suffices_from (section_count N) (figures N a) (2 ^ k) 0)
    ∙ by_sections t k a (figures N a) (section_count N) 0 true_list
    ∙ ap₂ (λ (n i : ℕ). lowest_from n k a i) chunks (zero-mul (2 ^ (t + k)))
  where
    d : Divided N
    d = divided N blocks

    m : ℕ
    m = exponent (section_length N)

    t : ℕ
    t = m - k

    sum : t + k ≡ m
    sum = omega (arith, exponents N k d short)

    length_is : 2 ^ (t + k) ≡ section_length N
    length_is = ap (λ (x : ℕ). 2 ^ x) sum ∙ d.exponent_is

    in_section : section_length N / 2 ^ k ≡ 2 ^ t
    in_section = div-eq_of_eq-mul_left {n = 2 ^ k} {m = section_length N} {k = 2 ^ t} (pow_pos k) (sym length_is ∙ pow-add 2 t k)

    searched : (s : Option ℕ) → lowest_in_section N k a s ≡ within t k a (figures N a) s
    searched none = refl
    searched (some s) = ap₂ (λ (n i : ℕ). lowest_from n k a i) in_section (ap (λ (x : ℕ). s * x) (sym length_is))

    true_list : (j : ℕ) → 0 ≤ j → j < 0 + section_count N → get_or (figures N a) j 0 ≡ largest_free (t + k) a (j * 2 ^ (t + k))
    true_list j l u =
        get_d_tabulate 0 (section_count N) (figure N a) j (omega arith)
        ∙ ap₂ (λ (e i : ℕ). largest_free e a i) (sym sum) (ap (λ (x : ℕ). j * x) (sym length_is))

    chunks : section_count N * 2 ^ t ≡ N / 2 ^ k
    chunks =
        sym
        (div-eq_of_eq-mul_left {n = 2 ^ k} {m = N} {k = section_count N * 2 ^ t} (pow_pos k)
        (sym d.whole ∙ ap (λ (x : ℕ). section_count N * x) (sym length_is ∙ pow-add 2 t k) ∙ sym (mul_assoc (section_count N) (2 ^ t) (2 ^ k))))

-- a section that suffices is one of them, and has a chunk
pub suffices_facts : (n : ℕ) (sections : List ℕ) (size from s : ℕ) → suffices_from n sections size from ≡ some s
    → (s < from + n) × (leb size (get_or sections s 0) ≡ true)
unfolding suffices_from
suffices_facts zero sections size from s e = let z : ◌≡◌ {A = ℕ} 0 1 = cc in absurd (omega arith)
suffices_facts (suc n) sections size from s e = elim (test_cases_lem (leb size (get_or sections from 0))) [
  | inl f ↦
      let same : ◌≡◌ {A = Option ℕ} (some from) (some s) = rw (f, suffices_from) at e in
      let here : from ≡ s = cc in
      (omega arith, ap (λ (x : ℕ). leb size (get_or sections x 0)) (sym here) ∙ f)
  | inr f ↦ let later = suffices_facts n sections size (from + 1) s (rw (f, suffices_from) at e) in (omega (arith, later.0), later.1)
]

is_some_lem : (x : Option ℕ) → is_some x ≡ true → (i : ℕ) × (x ≡ some i)
unfolding is_some
is_some_lem none e = absurd (true≢false (sym e))
is_some_lem (some i) e = (i, refl)

pub section_has : (N k : ℕ) (a : List ℕ) (s : ℕ) → is_blocks N ≡ true → 2 ^ k ≤ section_length N
    → suffices_from (section_count N) (figures N a) (2 ^ k) 0 ≡ some s
    → (s < section_count N) × ((i : ℕ) × (lowest_in_section N k a (some s) ≡ some i))
unfolding lowest_in_section figures figure
section_has N k a s blocks short e =
    let facts = suffices_facts (section_count N) (figures N a) (2 ^ k) 0 s e in
    let below : s < section_count N = omega (arith, facts.0) in
    let d = divided N blocks in
    let m : ℕ = exponent (section_length N) in
    let t : ℕ = m - k in
    let sum : t + k ≡ m = omega (arith, exponents N k d short) in
    let chunks : section_length N / 2 ^ k ≡ 2 ^ t =
    div-eq_of_eq-mul_left {n = 2 ^ k} {m = section_length N} {k = 2 ^ t} (pow_pos k) (sym d.exponent_is ∙ ap (λ (x : ℕ). 2 ^ x) (sym sum) ∙ pow-add 2 t k) in
    let true_figure : get_or (figures N a) s 0 ≡ largest_free (t + k) a (s * section_length N) =
    get_d_tabulate 0 (section_count N) (figure N a) s below ∙ ap (λ (x : ℕ). largest_free x a (s * section_length N)) (sym sum) in
    let there : is_some (lowest_from (2 ^ t) k a (s * section_length N)) ≡ true =
    figure_found t k a (s * section_length N) ∙ ap (leb (2 ^ k)) (sym true_figure) ∙ facts.1 in
    let found = is_some_lem (lowest_from (2 ^ t) k a (s * section_length N)) there in
    (below, (found.0, ap (λ (n : ℕ). lowest_from n k a (s * section_length N)) chunks ∙ found.1))
