-- Maps without damage kinds 1 and 2 stand for the sizes that are read off them.
use mathlib.Core.Path.{◌≡◌, refl, ap, ◌∙◌}
use mathlib.Core.Logic.{◌≢◌, ◌⊎◌, inl, inr}
use mathlib.Core.List.{List}
use Prim.Native.Nat.{ℕ, zero, suc, ◌+◌, ◌-◌, ◌*◌, ◌≤◌, ◌<◌}
use native.Mathlib.Decide.{ℕ_discrete, dec_lt, dec_le}
use native.Mathlib.Omega.{arith}
use lib.ListN.{length, get_or}
use Rattle.bitmap.specs.Bit.{bit_at}
use Rattle.bitmap.proofs.Maps.{bit_past_end}
use Rattle.rules.specs.Heap.{size_from}
use Rattle.rules.proofs.Objects.{bit_cases, First, Starts, first_facts, first_test, size_last, size_next}
use Rattle.theory_memories.proofs.Maps.Extents.{Represents, Delimited, sizes_of, length_sizes_of, size_first, sized_first}

-- the n blocks from x on are used, and the B bit is 0 on the last of them alone
record Run (a b : List ℕ) (x n : ℕ) : Type 0 where
  some : n ≢ 0
  used : (i : ℕ) → x ≤ i → i < x + n → bit_at a i ≡ 1
  inner : (i : ℕ) → x ≤ i → suc i < x + n → bit_at b i ≡ 1
  last : (i : ℕ) → suc i ≡ x + n → bit_at b i ≡ 0

one_block : (a b : List ℕ) (x : ℕ) → bit_at a x ≡ 1 → bit_at b x ≡ 0 → Run a b x 1
one_block a b x used end = record {
  some = omega arith;
  used = λ i l u. let here : i ≡ x = omega arith in ap (λ (k : ℕ). bit_at a k) here ∙ used;
  inner = λ i l u. absurd (omega arith);
  last = λ i e. let here : i ≡ x = omega arith in ap (λ (k : ℕ). bit_at b k) here ∙ end;
}

block_before : (a b : List ℕ) (x n : ℕ) → bit_at a x ≡ 1 → bit_at b x ≡ 1 → Run a b (x + 1) n → Run a b x (suc n)
block_before a b x n used more rest = record {
  some = omega arith;
  used = λ i l u. elim (ℕ_discrete i x) [
    | yes here ↦ ap (λ (k : ℕ). bit_at a k) here ∙ used
    | no m ↦ rest.used i (omega arith) (omega arith)
  ];
  inner = λ i l u. elim (ℕ_discrete i x) [
    | yes here ↦ ap (λ (k : ℕ). bit_at b k) here ∙ more
    | no m ↦ rest.inner i (omega arith) (omega arith)
  ];
  last = λ i e. rest.last i (omega arith);
}

module _ (N : ℕ) (a b : List ℕ) (len-a : 8 * length a ≡ N) (len-b : 8 * length b ≡ N) (d : Delimited N a b) where
  -- from a used block on, up to the first 0 of the B-map
  run : (n x : ℕ) → x + n ≡ N → n ≢ 0 → bit_at a x ≡ 1 → Run a b x (size_from n b x)
  run zero x e some used = absurd (some refl)
  run (suc n) x e some used = elim (bit_cases b x) [
    | inl end ↦ rw (size_last n b x end) (one_block a b x used end)
    | inr more ↦
        let next = d.goes_on x (omega arith) used more in
        rw (size_next n b x more)
        (block_before a b x (size_from n b (x + 1)) used more (run n (x + 1) (omega arith) (omega (arith, next.0)) next.1))
  ]

  object : (x : ℕ) → First N a b x → Run a b x (get_or (sizes_of N a b) x 0)
  object x f =
      rw (size_first N a b x (first_test N a b x f)) (run (N - x) x (omega (arith, f.inside)) (omega (arith, f.inside)) f.used)

  first_of : (x : ℕ) → get_or (sizes_of N a b) x 0 ≢ 0 → First N a b x
  first_of x n = first_facts N a b x (sized_first N a b x n)

  used_inside : (i : ℕ) → bit_at a i ≡ 1 → i < N
  used_inside i e = elim (dec_lt i N) [ yes l ↦ l | no l ↦ absurd (omega (arith, bit_past_end a i (omega arith))) ]

  Owner : ℕ → Type 0
  Owner i = (x : ℕ) × (x ≤ i) × (i < x + get_or (sizes_of N a b) x 0)

  owner_first : (i : ℕ) → First N a b i → Owner i
  unfolding Owner
  owner_first i f = (i, omega arith, omega (arith, (object i f).some))

  -- the block after one that is not the last of its object
  owner_next : (i : ℕ) → bit_at b i ≡ 1 → Owner i → Owner (suc i)
  unfolding Owner
  owner_next i more (x, l, u) =
      let o = object x (first_of x (omega arith)) in
      (x, omega arith, elim (dec_lt (suc i) (x + get_or (sizes_of N a b) x 0)) [ yes v ↦ v | no v ↦ absurd (omega (arith, o.last i (omega arith))) ])

  first_after : (i : ℕ) → bit_at a (suc i) ≡ 1 → (bit_at a i ≡ 0) ⊎ (bit_at b i ≡ 0) → First N a b (suc i)
  first_after i e o =
      let back : suc i - 1 ≡ i = omega arith in
      record { inside = used_inside (suc i) e; used = e; starts = inr (rw back o) }

  owner_of : (i : ℕ) → bit_at a i ≡ 1 → Owner i
  owner_of zero e = owner_first 0 record { inside = used_inside 0 e; used = e; starts = inl refl }
  owner_of (suc i) e = elim (bit_cases a i) [
    | inl free ↦ owner_first (suc i) (first_after i e (inl free))
    | inr used ↦ elim (bit_cases b i) [
      | inl end ↦ owner_first (suc i) (first_after i e (inr end))
      | inr more ↦ owner_next i more (owner_of i used)
    ]
  ]

  pub parse : Represents N a b (sizes_of N a b)
  unfolding Owner
  parse = record {
    length_a = len-a;
    length_b = len-b;
    length_sizes = length_sizes_of N a b;
    apart = λ x y l p q. far x y l (object x (first_of x p)) (first_of y q).starts;
    inside = λ x p. ends x (object x (first_of x p));
    used = λ x i l u. (object x (first_of x (omega arith))).used i l u;
    owner = owner_of;
    last = λ x i p e. (object x (first_of x p)).last i e;
    other = λ i l f. elim (bit_cases b i) [ inr e ↦ e | inl end ↦ absurd (lost i f end (owner_of i (d.end_used i l end))) ];
  }
    where
      size : ℕ → ℕ
      size x = get_or (sizes_of N a b) x 0

      far : (x y : ℕ) → x < y → Run a b x (size x) → Starts a b y → x + size x ≤ y
      far x y l r s = elim (dec_le (x + size x) y) [
        | yes u ↦ u
        | no u ↦ absurd (elim s [
          | inl z ↦ omega arith
          | inr (inl free) ↦ omega (arith, r.used (y - 1) (omega arith) (omega arith))
          | inr (inr end) ↦ omega (arith, r.inner (y - 1) (omega arith) (omega arith))
        ])
      ]

      ends : (x : ℕ) → Run a b x (size x) → x + size x ≤ N
      ends x r =
          let i : ℕ = x + size x - 1 in
          omega (arith, r.some, used_inside i (r.used i (omega (arith, r.some)) (omega (arith, r.some))))

      lost : (i : ℕ) → ((x : ℕ) → size x ≢ 0 → suc i ≢ x + size x) → bit_at b i ≡ 0 → Owner i → ⊥
      lost i f end (x, l, u) =
          let p : size x ≢ 0 = omega arith in
          elim (dec_lt (suc i) (x + size x)) [
            | yes v ↦ omega (arith, (object x (first_of x p)).inner i l v)
            | no v ↦ f x p (omega arith)
          ]
