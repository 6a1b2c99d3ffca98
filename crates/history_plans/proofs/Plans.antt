-- What a record asks for, one law for each way that the code's plan of it can go.
use mathlib.Core.Path.{◌≡◌, refl, sym, ap, ◌∙◌}
use mathlib.Core.Bool.{true, false, true≢false}
use mathlib.Core.List.{List}
use Prim.Native.Nat.{ℕ, ◌*◌, ◌≤◌, ◌<◌}
use native.Mathlib.Decide.{dec_lt}
use native.Mathlib.Omega.{arith}
use lib.ListN.{length, get_or}
use borrow.Author.Tests.{lt-ltb, le-ltb, ltb-true, eq-eqb, ne_eqb}
use Rattle.bitmap.specs.Bit.{bit_at}
use Rattle.rules.specs.Heap.{Memory, size_at}
use Rattle.rules_calls.specs.Calls.{store_root, store_cell, write_number}
use Rattle.history_records.specs.declared.Fields.{Fields}
use Rattle.history_records.specs.Records.{unnamed, are_zero}
use Rattle.history_records.proofs.Unnamed.{picks_other}
use Rattle.history_plans.specs.Readable.{are_roots}
use Rattle.history_plans.specs.Asked.{Asked, makes, stops, unless, root, object_in, cell_in, on_roots}
use Rattle.history_plans.specs.Asked.{copying, writing, reading, clearing, writing_number, operations, operation, asked}

-- ---- the roots

-- both are in range, or one is not
pub roots_in : (roots : List ℕ) (f : Fields) → are_roots roots f ≡ true → (f.d < length roots) × (f.s < length roots)
unfolding are_roots
roots_in roots f e = elim (dec_lt f.d (length roots)) [
  | yes target ↦ (target, ltb-true f.s (length roots) (rw (lt-ltb f.d (length roots) target, are_roots) at e))
  | no target ↦ absurd (true≢false (sym e ∙ rw (le-ltb f.d (length roots) (omega arith), are_roots)))
]

no_root : (h : Memory) (f : Fields) (next : Asked) → are_roots h.roots f ≡ false → on_roots h f next ≡ stops 4
unfolding on_roots unless are_roots
no_root h f next e = elim (dec_lt f.d (length h.roots)) [
  | yes target ↦
      let source = rw (lt-ltb f.d (length h.roots) target, are_roots) at e in
      rw (lt-ltb f.d (length h.roots) target, source, on_roots, unless)
  | no target ↦ rw (le-ltb f.d (length h.roots) (omega arith), on_roots, unless)
]

both_roots : (h : Memory) (f : Fields) (next : Asked) → are_roots h.roots f ≡ true → on_roots h f next ≡ next
unfolding on_roots unless
both_roots h f next e =
    let inside = roots_in h.roots f e in
    rw (lt-ltb f.d (length h.roots) inside.0, lt-ltb f.s (length h.roots) inside.1, on_roots, unless)

-- ---- the operations

module _ (h : Memory) (f : Fields) where
  pub clear_target : length h.roots ≤ f.d → clearing h f ≡ stops 4
  unfolding clearing unless
  clear_target past = rw (le-ltb f.d (length h.roots) past, clearing, unless)

  pub clear_asked : f.d < length h.roots → clearing h f ≡ makes (store_root f.d 0)
  unfolding clearing unless
  clear_asked target = rw (lt-ltb f.d (length h.roots) target, clearing, unless)

  pub number_target : length h.roots ≤ f.d → writing_number h f ≡ stops 4
  unfolding writing_number unless
  number_target past = rw (le-ltb f.d (length h.roots) past, writing_number, unless)

  module _ (target : f.d < length h.roots) where
    pub number_empty : root h f.d ≡ 0 → writing_number h f ≡ stops 6
    unfolding writing_number unless
    number_empty e =
        rw (lt-ltb f.d (length h.roots) target, eq-eqb (root h f.d) 0 e, writing_number, unless)

    pub number_asked :
        (root h f.d ≡ 0 → ⊥) → writing_number h f ≡ makes (write_number (object_in h f.d) f.c f.size)
    unfolding writing_number unless
    number_asked some =
        rw (lt-ltb f.d (length h.roots) target, ne_eqb (root h f.d) 0 some, writing_number, unless)

  module _ (out : are_roots h.roots f ≡ false) where
    pub copy_out : copying h f ≡ stops 4
    unfolding copying
    copy_out = no_root h f _ out

    pub write_out : writing h f ≡ stops 4
    unfolding writing
    write_out = no_root h f _ out

    pub read_out : (N : ℕ) → reading N h f ≡ stops 4
    unfolding reading
    read_out N = no_root h f _ out

  module _ (inside : are_roots h.roots f ≡ true) where
    pub copy_asked : copying h f ≡ makes (store_root f.d (root h f.s))
    unfolding copying
    copy_asked = both_roots h f _ inside

    pub write_empty : root h f.d ≡ 0 → writing h f ≡ stops 6
    unfolding writing unless
    write_empty e = both_roots h f _ inside ∙ rw (eq-eqb (root h f.d) 0 e, unless)

    pub write_asked : (root h f.d ≡ 0 → ⊥) → writing h f ≡ makes (store_cell (object_in h f.d) f.c (root h f.s))
    unfolding writing unless
    write_asked some = both_roots h f _ inside ∙ rw (ne_eqb (root h f.d) 0 some, unless)

    pub read_empty : (N : ℕ) → root h f.s ≡ 0 → reading N h f ≡ stops 6
    unfolding reading unless
    read_empty N e = both_roots h f _ inside ∙ rw (eq-eqb (root h f.s) 0 e, unless)

    module _ (N : ℕ) (some : root h f.s ≡ 0 → ⊥) where
      pub read_past : 4 * size_at N h (object_in h f.s) ≤ f.c → reading N h f ≡ stops 7
      unfolding reading unless
      read_past past =
          both_roots h f _ inside
          ∙ rw (ne_eqb (root h f.s) 0 some, le-ltb f.c (4 * size_at N h (object_in h f.s)) past, unless)

      module _ (within : f.c < 4 * size_at N h (object_in h f.s)) where
        pub read_number_lem : bit_at h.d (object_in h f.s) ≡ 1 → reading N h f ≡ stops 12
        unfolding reading unless
        read_number_lem e =
            both_roots h f _ inside
            ∙ rw (
              ne_eqb (root h f.s) 0 some,
              lt-ltb f.c (4 * size_at N h (object_in h f.s)) within,
              eq-eqb (bit_at h.d (object_in h f.s)) 1 e,
              unless,
            )

        pub read_asked :
            (bit_at h.d (object_in h f.s) ≡ 1 → ⊥) → reading N h f ≡ makes (store_root f.d (cell_in h f.s f.c))
        unfolding reading unless
        read_asked ordinary =
            both_roots h f _ inside
            ∙ rw (
              ne_eqb (root h f.s) 0 some,
              lt-ltb f.c (4 * size_at N h (object_in h f.s)) within,
              ne_eqb (bit_at h.d (object_in h f.s)) 1 ordinary,
              unless,
            )

-- ---- an unknown operation

module _
    (f : Fields) (one : f.operation ≡ 1 → ⊥) (two : f.operation ≡ 2 → ⊥) (three : f.operation ≡ 3 → ⊥)
    (four : f.operation ≡ 4 → ⊥) (five : f.operation ≡ 5 → ⊥) (six : f.operation ≡ 6 → ⊥) (seven : f.operation ≡ 7 → ⊥)
    (eight : f.operation ≡ 8 → ⊥) where
  unknown_stops : (N : ℕ) (h : Memory) → operation N h f ≡ stops 9
  unfolding operation
  unknown_stops N h = picks_other f.operation (operations N h f) (stops 9) refl refl one two three four five six seven eight

  pub unknown_asked : (N : ℕ) (h : Memory) → are_zero (unnamed f) ≡ true → asked N h f ≡ stops 9
  unfolding asked unless
  unknown_asked N h e = rw (e, asked, unless) (unknown_stops N h)

-- ---- the record

module _ (N : ℕ) (h : Memory) (f : Fields) where
  pub nonzero_asked : are_zero (unnamed f) ≡ false → asked N h f ≡ stops 9
  unfolding asked unless
  nonzero_asked e = rw (e, asked, unless)

  pub known_asked : are_zero (unnamed f) ≡ true → (k : ℕ) → f.operation ≡ k → asked N h f ≡ get_or (operations N h f) k (stops 9)
  unfolding asked unless operation
  known_asked e k at = rw (e, asked, unless) (ap (λ (i : ℕ). get_or (operations N h f) i (stops 9)) at)
