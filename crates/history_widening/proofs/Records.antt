-- The records of a widened history: how many bytes they are, and where each stands.
use mathlib.Core.Path.{◌≡◌, refl, ap, ◌∙◌}
use mathlib.Core.List.{List, ◌++◌, append_assoc}
use Prim.Native.Nat.{ℕ, zero, suc, ◌+◌, ◌*◌, ◌<◌}
use native.Mathlib.Decide.{dec_lt}
use native.Mathlib.Omega.{arith}
use lib.ListN.{length, get_or, length-append, length-drop, get_or-append}
use lib.Seq.{get_or-append-add}
use Rattle.history_records.specs.Records.{record_length, number, fields_at, wide, old}
use Rattle.history_runs.proofs.Alike.{Same, fields_alike}
use Rattle.history_widening.specs.Widening.{widened_at, widened_records, old_records, tail_of, widened}

pub length_records : (n : ℕ) (bytes : List ℕ) → length (widened_records n bytes) ≡ record_length wide * n
unfolding widened_records
length_records zero bytes = refl
length_records (suc n) bytes =
    omega (arith, length_records n bytes, length-append (widened_records n bytes) (widened_at bytes (record_length old * n)))

-- four bytes more for each record
pub length_widened : (bytes : List ℕ) → length (widened bytes) ≡ length bytes + 4 * old_records bytes
unfolding widened
length_widened bytes =
    let n : ℕ = old_records bytes in
    omega (
      arith,
      length-append (widened_records n bytes) (tail_of bytes),
      length_records n bytes,
      length-drop (record_length old * n) bytes,
    )

-- record number i stands in its place, whatever follows
record_in_place :
    (n i : ℕ) (bytes rest : List ℕ) → i < n
    → Same (widened_records n bytes ++ rest) (widened_at bytes (record_length old * i)) (record_length wide) (record_length wide * i) 0
unfolding widened_records
record_in_place zero i bytes rest l m b = absurd (omega arith)
record_in_place (suc n) i bytes rest l m b =
    ap (λ (x : List ℕ). get_or x (record_length wide * i + m) 0) (append_assoc (widened_records n bytes) (widened_at bytes (record_length old * n)) rest)
    ∙ elim (dec_lt i n) [
      | yes before ↦ record_in_place n i bytes (widened_at bytes (record_length old * n) ++ rest) before m b
      | no behind ↦
          let last : n ≡ i = omega arith in
          let there : record_length wide * i + m ≡ length (widened_records n bytes) + m = omega (arith, length_records n bytes) in
          let here : m ≡ 0 + m = omega arith in
          ap (λ (k : ℕ). get_or (widened_records n bytes ++ (widened_at bytes (record_length old * n) ++ rest)) k 0) there
          ∙ get_or-append-add (widened_records n bytes) (widened_at bytes (record_length old * n) ++ rest) m 0
          ∙ get_or-append (widened_at bytes (record_length old * n)) rest 0 m b
          ∙ ap (λ (k : ℕ). get_or (widened_at bytes (record_length old * k)) m 0) last
          ∙ ap (λ (k : ℕ). get_or (widened_at bytes (record_length old * i)) k 0) here
    ]

-- a widened record says what the old one says
record_says : (bytes : List ℕ) (at : ℕ) → fields_at wide (widened_at bytes at) 0 ≡ fields_at old bytes at
unfolding fields_at number
record_says bytes at =
    let byte : ℕ → ℕ = λ k. get_or bytes k 0 in
    let five : at + 5 ≡ at + 4 + 1 = omega arith in
    let seven : at + 7 ≡ at + 6 + 1 = omega arith in
    let cell : number 4 (widened_at bytes at) 4 ≡ number 2 bytes (at + 4) = omega (arith, ap byte five) in
    let size : number 4 (widened_at bytes at) 8 ≡ number 2 bytes (at + 6) = omega (arith, ap byte seven) in
    λ t.
    record {
      operation = byte at;
      d = byte (at + 1);
      s = byte (at + 2);
      unused = byte (at + 3);
      c = cell t;
      size = size t;
    }

pub fields_widened :
    (i : ℕ) (bytes : List ℕ) → i < old_records bytes
    → fields_at wide (widened bytes) (record_length wide * i) ≡ fields_at old bytes (record_length old * i)
unfolding widened
fields_widened i bytes l =
    fields_alike (widened bytes) (widened_at bytes (record_length old * i)) wide (record_length wide * i) 0
    (record_in_place (old_records bytes) i bytes (tail_of bytes) l)
    ∙ record_says bytes (record_length old * i)
