-- Records are read alike where their bytes are the same.
use mathlib.Core.Path.{◌≡◌, refl, sym, ap, ◌∙◌}
use mathlib.Core.List.{List}
use Prim.Native.Nat.{ℕ, zero, suc, ◌+◌, ◌*◌, ◌<◌}
use native.Mathlib.Omega.{arith}
use lib.ListN.{get_or}
use Rattle.history_records.specs.Records.{Form, record_length, number, fields_at}

module _ (x y : List ℕ) where
  -- n bytes are the same, from place i on in the one and from place j on in the other
  abbrev pub Same : (n i j : ℕ) → Type 0
  Same n i j = (m : ℕ) → m < n → get_or x (i + m) 0 ≡ get_or y (j + m) 0

  module _ (n i j : ℕ) (same : Same n i j) where
    -- one of them
    same_byte : (m p q : ℕ) → m < n → p ≡ i + m → q ≡ j + m → get_or x p 0 ≡ get_or y q 0
    same_byte m p q l e f = ap (λ (k : ℕ). get_or x k 0) e ∙ same m l ∙ ap (λ (k : ℕ). get_or y k 0) (sym f)

    -- k of them, from the one at m on
    same_part : (m k : ℕ) → m + k < n + 1 → Same k (i + m) (j + m)
    same_part m k l p b = same_byte (m + p) (i + m + p) (j + m + p) (omega arith) (omega arith) (omega arith)

  number_alike : (k i j : ℕ) → Same k i j → number k x i ≡ number k y j
  unfolding number
  number_alike zero i j same = refl
  number_alike (suc k) i j same =
      let first = same_byte (suc k) i j same 0 i j (omega arith) (omega arith) (omega arith) in
      let rest = number_alike k (i + 1) (j + 1) (same_part (suc k) i j same 1 k (omega arith)) in
      omega (arith, first, rest)

  pub fields_alike : (form : Form) (i j : ℕ) → Same (record_length form) i j → fields_at form x i ≡ fields_at form y j
  unfolding fields_at
  fields_alike form i j same =
      let k = form.number_bytes in
      let numbers : (m : ℕ) → m + k < record_length form + 1 → number k x (i + m) ≡ number k y (j + m) =
      λ m l. number_alike k (i + m) (j + m) (same_part (record_length form) i j same m k l) in
      λ t.
      record {
        operation = same_byte (record_length form) i j same 0 i j (omega arith) (omega arith) (omega arith) t;
        d = same 1 (omega arith) t;
        s = same 2 (omega arith) t;
        unused = same 3 (omega arith) t;
        c = numbers 4 (omega arith) t;
        size = numbers (4 + k) (omega arith) t;
      }
