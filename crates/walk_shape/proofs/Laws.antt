-- The list as the loops make it.
use mathlib.Core.Path.{◌≡◌, refl, sym, ap, ◌∙◌}
use mathlib.Core.Logic.{◌≢◌, inl, inr}
use mathlib.Core.List.{List, [], ◌∷◌, ◌++◌, map, append-nil, append_assoc}
use Prim.Native.Nat.{ℕ, zero, suc, ◌+◌, ◌-◌, ◌*◌, ◌≤◌, ◌<◌}
use native.Mathlib.Numerals.{add-one}
use native.Mathlib.Omega.{arith}
use borrow.Rule.Slice.PartMut.{put_mid}
use lib.ListN.{length, get_or, set, take, drop, length-map, length-append}
use borrow.Author.Tests.{eq-eqb, ne_eqb}
use Rattle.bitmap.specs.Bit.{bit_at}
use Rattle.rules.specs.Heap.{size_from, is_data}
use Rattle.rules_output.specs.Shape.{joined}
use Rattle.rules.proofs.Tests.{test_cases_lem}
use Rattle.text.specs.Text.{Put}
use Rattle.text.proofs.Writing.{put_both, put_as, put_length, put_one, put_more}
use Rattle.walk_objects.specs.Walking.{part}
use Rattle.walk_objects.proofs.Numbering.{part_length, part_slice}
use Rattle.walk_shape.proofs.Numbers.{put_part}
use Rattle.walk_shape.specs.Listing.{number_of, cells_from, described_in, shape_up_to}

-- ---- one number

pub number_nothing : (numbers : List ℕ) (v : ℕ) → v ≡ 0 → 0 ≡ number_of numbers v
unfolding number_of
number_nothing numbers v z = sym (rw (eq-eqb v 0 z, number_of) refl)

pub number_some : (numbers : List ℕ) (v : ℕ) → v ≢ 0 → get_or numbers (v - 1) 0 ≡ number_of numbers v
unfolding number_of
number_some numbers v s = sym (rw (ne_eqb v 0 s, number_of) refl)

-- ---- one object

module _ (N : ℕ) (b d cells numbers : List ℕ) (at : ℕ) where
  abbrev size : ℕ
  size = size_from (N - at) b at

  pub described_data : bit_at d at ≡ 1 → described_in N b d cells numbers at ≡ size ∷ bit_at d at ∷ cells_from N b cells at
  unfolding described_in
  described_data e = rw (eq-eqb (bit_at d at) 1 e, described_in) refl

  pub described_other : bit_at d at ≢ 1 → described_in N b d cells numbers at ≡ size ∷ bit_at d at ∷ map (number_of numbers) (cells_from N b cells at)
  unfolding described_in
  described_other e = rw (ne_eqb (bit_at d at) 1 e, described_in) refl

  pub described_length : length (described_in N b d cells numbers at) ≡ 2 + 4 * size
  unfolding described_in
  described_length = elim (test_cases_lem (is_data d at)) [
    | inl made ↦ rw (made, described_in) (omega (arith, part_length cells (4 * at) (4 * size)))
    | inr other ↦
        rw (other, described_in)
        (omega (arith, length-map (cells_from N b cells at) (number_of numbers), part_length cells (4 * at) (4 * size)))
  ]

  -- size and D bit, and the k cells behind them
  module _ (out : List ℕ) (to n bit k : ℕ) (room : to + length (described_in N b d cells numbers at) ≤ length out) (n-is : n ≡ size) (bit_is : bit ≡ bit_at d at)
      (many : k ≡ 4 * n) where
    front : Put out to (n ∷ bit ∷ []) (set (set out to n) (to + 1) bit) (to + 1 + 1)
    front = put_more bit (omega (arith, described_length)) (put_one out to n (omega (arith, described_length)))

    whole : (rest : List ℕ) → length rest ≡ 4 * size → Put out to (size ∷ bit_at d at ∷ rest) (put_mid (to + 2) k (set (set out to n) (to + 1) bit) rest) (to + 2 + 4 * n)
    whole rest long =
        put_as (ap (λ (x : ℕ). x ∷ bit ∷ rest) n-is ∙ ap (λ (x : ℕ). size ∷ x ∷ rest) bit_is) (ap (λ (i : ℕ). to + 2 + i) many)
        (put_both (omega (arith, described_length)) (put_as refl (omega arith) front)
        (put_part (set (set out to n) (to + 1) bit) rest (to + 2) k (omega arith)))

    own : (m : ℕ) → m ≡ 4 * n → 4 * at + 4 * n ≤ length cells → take m (drop (4 * at) cells) ≡ cells_from N b cells at
    own m all inside = rw all (part_slice cells (4 * at) (4 * n) inside ∙ ap (λ (i : ℕ). part cells (4 * at) (4 * i)) n-is)

    pub object_data : (m : ℕ) (text : List ℕ) → m ≡ 4 * n → 4 * at + 4 * n ≤ length cells → text ≡ take m (drop (4 * at) cells) → bit ≡ 1
        → Put out to (described_in N b d cells numbers at) (put_mid (to + 2) k (set (set out to n) (to + 1) bit) text) (to + 2 + 4 * n)
    object_data m text all inside is one =
        rw (is, own m all inside)
        (put_as (sym (described_data (sym bit_is ∙ one))) refl (whole (cells_from N b cells at) (part_length cells (4 * at) (4 * size))))

    pub object_other : (m : ℕ) (text : List ℕ) → m ≡ 4 * n → 4 * at + 4 * n ≤ length cells → text ≡ map (number_of numbers) (take m (drop (4 * at) cells)) → bit ≢ 1
        → Put out to (described_in N b d cells numbers at) (put_mid (to + 2) k (set (set out to n) (to + 1) bit) text) (to + 2 + 4 * n)
    object_other m text all inside is other =
        rw (is, own m all inside)
        (put_as (sym (described_other (λ e. other (bit_is ∙ e)))) refl
        (whole (map (number_of numbers) (cells_from N b cells at))
        (length-map (cells_from N b cells at) (number_of numbers) ∙ part_length cells (4 * at) (4 * size))))

-- ---- the whole list

module _ (N : ℕ) (b d cells roots order numbers : List ℕ) where
  abbrev up_to : ℕ → List ℕ
  up_to k = shape_up_to N b d cells roots order numbers k

  abbrev object : ℕ → List ℕ
  object k = described_in N b d cells numbers (get_or order k 0 - 1)

  pub shape_next : (k : ℕ) → up_to k ++ object k ≡ up_to (k + 1)
  unfolding shape_up_to joined
  shape_next k =
      rw (add-one k)
      (ap (λ (l : List ℕ). length roots ∷ l) (append_assoc (map (number_of numbers) roots) (joined object k) (object k)))

  pub length_start : 1 + length roots ≡ length (up_to 0)
  unfolding shape_up_to joined
  length_start =
      omega (arith, length-append (map (number_of numbers) roots) [], length-map roots (number_of numbers))

  pub length_next : (k n size : ℕ) → size ≡ size_from (N - (get_or order k 0 - 1)) b (get_or order k 0 - 1) → n ≡ length (up_to k) → n + (2 + 4 * size) ≡ length (up_to (k + 1))
  length_next k n size is so_far =
      omega (arith, ap length (shape_next k), length-append (up_to k) (object k), described_length N b d cells numbers (get_or order k 0 - 1))

  pub shape_le : (k m : ℕ) → length (up_to k) ≤ length (up_to (k + m))
  shape_le k zero = let same : k + 0 ≡ k = omega arith in rw same (omega arith)
  shape_le k (suc m) =
      let place : k + suc m ≡ k + m + 1 = omega arith in
      rw place (omega (arith, shape_le k m, ap length (shape_next (k + m)), length-append (up_to (k + m)) (object (k + m))))

  pub shape_upto : (k m : ℕ) → k ≤ m → length (up_to k) ≤ length (up_to m)
  shape_upto k m l = let place : k + (m - k) ≡ m = omega arith in rw (← place) (shape_le k (m - k))

  pub put_start : (out text : List ℕ) (n k : ℕ) → n ≡ length roots → 0 < length out → k ≡ length roots → text ≡ map (number_of numbers) roots
      → Put out 0 (up_to 0) (put_mid 1 k (set out 0 n) text) (1 + length roots)
  unfolding shape_up_to joined
  put_start out text n k is some many same =
      rw same
      (put_as
      (ap (λ (x : ℕ). x ∷ map (number_of numbers) roots) is
      ∙ ap (λ (l : List ℕ). length roots ∷ l) (sym (append-nil (map (number_of numbers) roots))))
      (ap (λ (i : ℕ). 1 + i) many)
      (put_both (omega arith) (put_one out 0 n some)
      (put_part (set out 0 n) (map (number_of numbers) roots) 1 k (length-map roots (number_of numbers) ∙ sym many))))

  -- ---- one object more

  module _ {out out' : List ℕ} {k m to : ℕ} (room : length (up_to m) ≤ length out) (more : k < m) (put : Put out 0 (up_to k) out' to) where
    pub object_room : to + length (object k) ≤ length out'
    object_room =
        omega (
          arith,
          put.end_is,
          put_length {before = out} {text = up_to k} {after = out'} {at = 0} {end = to} (omega (arith, shape_upto k m (omega arith))) put,
          shape_upto (k + 1) m (omega arith),
          ap length (shape_next k),
          length-append (up_to k) (object k),
        )

    pub put_next : {out'' : List ℕ} {to' : ℕ} → Put out' to (object k) out'' to' → Put out 0 (up_to (k + 1)) out'' to'
    put_next next = put_as (shape_next k) refl (put_both {s = up_to k} {t = object k} (omega (arith, shape_upto k m (omega arith))) put next)
