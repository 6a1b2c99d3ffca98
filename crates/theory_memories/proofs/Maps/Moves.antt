-- What freeing and placing an object do to the sizes that the maps stand for.
use mathlib.Core.Path.{◌≡◌, sym, ap, ◌∙◌}
use mathlib.Core.Logic.{◌≢◌, ◌⊎◌, inl, inr}
use mathlib.Core.List.{List}
use Prim.Native.Nat.{ℕ, ◌+◌, ◌-◌, ◌≤◌, ◌<◌}
use native.Mathlib.Decide.{ℕ_discrete, dec_lt, dec_le}
use native.Mathlib.Omega.{arith}
use lib.ListN.{get_or, set, length-set}
use lib.Seq.{get_or-set_same, get_or-set_other}
use Rattle.bitmap.specs.Bit.{bit_at, set_bit, fill_bits}
use Rattle.bitmap.proofs.Maps.{length_set_bit, bit_set_same, bit_set_other}
use Rattle.bitmap.proofs.Runs.{length_fill, bit_fill_in, bit_fill_out}
use Rattle.rules.proofs.Chunks.{Free}
use Rattle.theory_memories.proofs.Maps.Extents.{Represents}

-- block j lies before or behind the n blocks from i on
Beside : ℕ → ℕ → ℕ → Type 0
Beside i n j = (j < i) ⊎ (i + n ≤ j)

-- or among them
among : (i n j : ℕ) → ((i ≤ j) × (j < i + n)) ⊎ Beside i n j
unfolding Beside
among i n j = elim (dec_lt j i) [
  | yes l ↦ inr (inl l)
  | no l ↦ elim (dec_le (i + n) j) [ yes m ↦ inr (inr m) | no m ↦ inl (omega arith, omega arith) ]
]

-- and not both
beside_not : (i n j : ℕ) → Beside i n j → i ≤ j → j < i + n → ⊥
unfolding Beside
beside_not i n j (inl v) p q = omega arith
beside_not i n j (inr v) p q = omega arith

-- so it is not the last of them
beside_end : (i n j : ℕ) → n ≢ 0 → Beside i n j → j ≢ i + n - 1
beside_end i n j some o e = beside_not i n j o (omega arith) (omega arith)

module _ (N : ℕ) (a b sizes : List ℕ) (rep : Represents N a b sizes) where
  -- ---- an object is freed

  module _ (x n : ℕ) (e : get_or sizes x 0 ≡ n) (some : n ≢ 0) where
    fits : x + n ≤ N
    fits = omega (arith, rep.inside x (λ z. some (sym e ∙ z)))

    abbrev left : ℕ → ℕ
    left y = get_or (set sizes x 0) y 0

    emptied : left x ≡ 0
    emptied = get_or-set_same sizes x 0 0 (omega (arith, rep.length_sizes, fits))

    kept : (y : ℕ) → y ≢ x → left y ≡ get_or sizes y 0
    kept y m = get_or-set_other sizes x y 0 0 m

    -- what still has a size is another object, of the size it had ..
    differs : (y : ℕ) → left y ≢ 0 → y ≢ x
    differs y p q = p (ap left q ∙ emptied)

    old : (y : ℕ) → left y ≢ 0 → left y ≡ get_or sizes y 0
    old y p = kept y (differs y p)

    -- .. and lies beside the freed blocks
    beside : (y j : ℕ) → left y ≢ 0 → y ≤ j → j < y + left y → Beside x n j
    unfolding Beside
    beside y j p l u =
        let o = old y p in
        elim (dec_lt y x) [
          | yes v ↦ let t = rep.apart y x v (omega arith) (omega arith) in inl (omega arith)
          | no v ↦ let t = rep.apart x y (omega (arith, differs y p)) (omega arith) (omega arith) in inr (omega arith)
        ]

    pub freed_represents : Represents N (fill_bits a x n 0) (set_bit b (x + n - 1) 1) (set sizes x 0)
    unfolding Beside
    freed_represents = record {
      length_a = omega (arith, length_fill a x n 0, rep.length_a);
      length_b = omega (arith, length_set_bit b (x + n - 1) 1, rep.length_b);
      length_sizes = length-set sizes x 0 ∙ rep.length_sizes;
      apart = λ y z l p q.
          omega (arith, old y p, rep.apart y z l (omega (arith, old y p)) (omega (arith, old z q)));
      inside = λ y p. omega (arith, old y p, rep.inside y (omega (arith, old y p)));
      used = λ y j l u.
          let p : left y ≢ 0 = omega arith in
          bit_fill_out a x n 0 j (omega arith) (beside y j p l u) ∙ rep.used y j l (omega (arith, old y p));
      owner = λ j m. elim (among x n j) [
        | inl t ↦ absurd (omega (arith, bit_fill_in a x n 0 j (omega (arith, fits, rep.length_a)) (omega arith) t.0 t.1))
        | inr o ↦ owned j o (rep.owner j (sym (bit_fill_out a x n 0 j (omega arith) o) ∙ m))
      ];
      last = λ y j p f.
          bit_set_other b (x + n - 1) 1 j (beside_end x n j some (beside y j p (omega arith) (omega arith))) (omega arith)
          ∙ rep.last y j (omega (arith, old y p)) (omega (arith, old y p));
      other = λ j l f. elim (ℕ_discrete j (x + n - 1)) [
        | yes q ↦ ap (λ (k : ℕ). bit_at (set_bit b (x + n - 1) 1) k) q
            ∙ bit_set_same b (x + n - 1) 1 (omega (arith, fits, rep.length_b)) (omega arith)
        | no q ↦ bit_set_other b (x + n - 1) 1 j q (omega arith) ∙ rep.other j l (λ y m g. elim (ℕ_discrete y x) [
          | yes r ↦ q (omega (arith, ap (λ (k : ℕ). get_or sizes k 0) r))
          | no r ↦ f y (omega (arith, kept y r)) (omega (arith, kept y r))
        ])
      ];
    }
      where
        owned : (j : ℕ) → Beside x n j → (y : ℕ) × (y ≤ j) × (j < y + get_or sizes y 0) → (y : ℕ) × (y ≤ j) × (j < y + left y)
        owned j o (y, l, u) = (y, l, rw (kept y (λ q. beside_not x n j o (omega arith) (omega (arith, ap (λ (k : ℕ). get_or sizes k 0) q)))) u)

  -- ---- an object is placed

  -- an extent keeps clear of free blocks
  pub clear_of : (i n : ℕ) → n ≢ 0 → Free a i n → (x : ℕ) → get_or sizes x 0 ≢ 0 → (x + get_or sizes x 0 ≤ i) ⊎ (i + n ≤ x)
  clear_of i n some free x p = elim (dec_le (x + get_or sizes x 0) i) [
    | yes l ↦ inl l
    | no l ↦ elim (dec_le (i + n) x) [
      | yes m ↦ inr m
      | no m ↦ absurd (elim (dec_lt i x) [
        | yes q ↦ omega (arith, free x (omega arith) (omega arith), rep.used x x (omega arith) (omega arith))
        | no q ↦ omega (arith, free i (omega arith) (omega arith), rep.used x i (omega arith) (omega arith))
      ])
    ]
  ]

  module _ (i n : ℕ) (some : n ≢ 0) (fits : i + n ≤ N) (free : Free a i n) where
    abbrev now : ℕ → ℕ
    now y = get_or (set sizes i n) y 0

    new : now i ≡ n
    new = get_or-set_same sizes i n 0 (omega (arith, rep.length_sizes))

    same : (y : ℕ) → y ≢ i → now y ≡ get_or sizes y 0
    same y m = get_or-set_other sizes i y n 0 m

    none_there : get_or sizes i 0 ≡ 0
    none_there = elim (ℕ_discrete (get_or sizes i 0) 0) [
      | yes z ↦ z
      | no p ↦ absurd (elim (clear_of i n some free i p) [ inl l ↦ omega arith | inr l ↦ omega arith ])
    ]

    pub placed_represents : Represents N (fill_bits a i n 1) (set_bit b (i + n - 1) 0) (set sizes i n)
    unfolding Beside
    placed_represents = record {
      length_a = omega (arith, length_fill a i n 1, rep.length_a);
      length_b = omega (arith, length_set_bit b (i + n - 1) 0, rep.length_b);
      length_sizes = length-set sizes i n ∙ rep.length_sizes;
      apart = apart;
      inside = λ y p. elim (ℕ_discrete y i) [
        | yes q ↦ omega (arith, new, ap now q)
        | no m ↦ omega (arith, same y m, rep.inside y (omega (arith, same y m)))
      ];
      used = λ y j l u. elim (ℕ_discrete y i) [
        | yes q ↦ bit_fill_in a i n 1 j (omega (arith, rep.length_a)) (omega arith) (omega arith) (omega (arith, new, ap now q))
        | no m ↦ bit_fill_out a i n 1 j (omega arith) (beside_new y j l (omega (arith, same y m)))
            ∙ rep.used y j l (omega (arith, same y m))
      ];
      owner = λ j m. elim (among i n j) [
        | inl t ↦ (i, t.0, omega (arith, t.1, new))
        | inr o ↦ owned j (rep.owner j (sym (bit_fill_out a i n 1 j (omega arith) o) ∙ m))
      ];
      last = λ y j p f. elim (ℕ_discrete y i) [
        | yes q ↦
            let end : j ≡ i + n - 1 = omega (arith, new, ap now q) in
            ap (λ (k : ℕ). bit_at (set_bit b (i + n - 1) 0) k) end
            ∙ bit_set_same b (i + n - 1) 0 (omega (arith, rep.length_b)) (omega arith)
        | no m ↦
            bit_set_other b (i + n - 1) 0 j (beside_end i n j some (beside_new y j (omega arith) (omega (arith, same y m)))) (omega arith)
            ∙ rep.last y j (omega (arith, same y m)) (omega (arith, same y m))
      ];
      other = λ j l f.
          let q : j ≢ i + n - 1 = λ q. f i (omega (arith, new)) (omega (arith, new)) in
          bit_set_other b (i + n - 1) 0 j q (omega arith)
          ∙ rep.other j l (λ y p g. f y (omega (arith, same y (had y p))) (omega (arith, same y (had y p))));
    }
      where
        had : (y : ℕ) → get_or sizes y 0 ≢ 0 → y ≢ i
        had y p q = p (ap (λ (k : ℕ). get_or sizes k 0) q ∙ none_there)

        apart : (y z : ℕ) → y < z → now y ≢ 0 → now z ≢ 0 → y + now y ≤ z
        apart y z l p q = elim (ℕ_discrete y i) [
          | yes r ↦
              let m : z ≢ i = omega arith in
              elim (clear_of i n some free z (omega (arith, same z m))) [
                | inl v ↦ absurd (omega arith)
                | inr v ↦ omega (arith, new, ap now r)
              ]
          | no m ↦ elim (ℕ_discrete z i) [
            | yes r ↦ elim (clear_of i n some free y (omega (arith, same y m))) [
              | inl v ↦ omega (arith, same y m)
              | inr v ↦ absurd (omega arith)
            ]
            | no k ↦ omega (arith, same y m, rep.apart y z l (omega (arith, same y m)) (omega (arith, same z k)))
          ]
        ]

        beside_new : (y j : ℕ) → y ≤ j → j < y + get_or sizes y 0 → Beside i n j
        beside_new y j l u = elim (clear_of i n some free y (omega arith)) [ inl v ↦ inl (omega arith) | inr v ↦ inr (omega arith) ]

        owned : (j : ℕ) → (y : ℕ) × (y ≤ j) × (j < y + get_or sizes y 0) → (y : ℕ) × (y ≤ j) × (j < y + now y)
        owned j (y, l, u) = (y, l, omega (arith, same y (had y (omega arith))))
