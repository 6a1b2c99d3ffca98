-- A history may be widened in pieces of whole records.
use mathlib.Core.Path.{◌≡◌, refl, sym, ap, ◌∙◌}
use mathlib.Core.List.{List, [], ◌∷◌, ◌++◌, append_assoc, append-nil}
use Prim.Native.Nat.{ℕ, zero, suc, ◌+◌, ◌*◌, ◌≤◌}
use native.Mathlib.Omega.{arith}
use lib.ListN.{length, get_or, drop, length-append, get_or-append}
use lib.Seq.{get_or-append-add, drop-append-add, drop-length}
use Rattle.history_records.specs.Records.{record_length, old}
use Rattle.history_widening.specs.Widening.{widened_at, widened_records, old_records, tail_of, widened}
use Rattle.history_widening.specs.Claims.{PiecesWidened}

-- eight bytes that are the same make the same record
at_alike : (x y : List ℕ) (i j : ℕ) → ((m : ℕ) → m ≤ 7 → get_or x (i + m) 0 ≡ get_or y (j + m) 0) → widened_at x i ≡ widened_at y j
at_alike x y i j same =
    let none : (k : ℕ) → k ≡ k + 0 = λ k. omega arith in
    let first : get_or x i 0 ≡ get_or y j 0 =
    ap (λ (k : ℕ). get_or x k 0) (none i) ∙ same 0 (omega arith) ∙ ap (λ (k : ℕ). get_or y k 0) (sym (none j)) in
    λ t.
    first t ∷ same 1 (omega arith) t ∷ same 2 (omega arith) t ∷ same 3 (omega arith) t
    ∷ same 4 (omega arith) t ∷ same 5 (omega arith) t ∷ 0 ∷ 0
    ∷ same 6 (omega arith) t ∷ same 7 (omega arith) t ∷ 0 ∷ 0 ∷ []

module _ (first rest : List ℕ) where
  -- the records of the first piece
  records_left : (n : ℕ) → record_length old * n ≤ length first → widened_records n (first ++ rest) ≡ widened_records n first
  unfolding widened_records
  records_left zero inside = refl
  records_left (suc n) inside =
      let at : ℕ = record_length old * n in
      ap (λ (l : List ℕ). l ++ widened_at (first ++ rest) at) (records_left n (omega arith))
      ∙ ap (λ (l : List ℕ). widened_records n first ++ l)
      (at_alike (first ++ rest) first at at (λ m l. get_or-append first rest 0 (at + m) (omega arith)))

  -- and those of the second behind them
  records_both :
      (m n : ℕ) → length first ≡ record_length old * m
      → widened_records (m + n) (first ++ rest) ≡ widened_records m first ++ widened_records n rest
  unfolding widened_records
  records_both m zero even =
      let all : m + 0 ≡ m = omega arith in
      ap (λ (k : ℕ). widened_records k (first ++ rest)) all ∙ records_left m (omega arith) ∙ sym (append-nil (widened_records m first))
  records_both m (suc n) even =
      let more : m + suc n ≡ suc (m + n) = omega arith in
      let same : widened_at (first ++ rest) (record_length old * (m + n)) ≡ widened_at rest (record_length old * n) =
      at_alike (first ++ rest) rest (record_length old * (m + n)) (record_length old * n)
      (λ k l.
      let there : record_length old * (m + n) + k ≡ length first + (record_length old * n + k) = omega arith in
      ap (λ (j : ℕ). get_or (first ++ rest) j 0) there ∙ get_or-append-add first rest (record_length old * n + k) 0) in
      ap (λ (k : ℕ). widened_records k (first ++ rest)) more
      ∙ ap (λ (l : List ℕ). l ++ widened_at (first ++ rest) (record_length old * (m + n))) (records_both m n even)
      ∙ ap (λ (l : List ℕ). widened_records m first ++ widened_records n rest ++ l) same
      ∙ append_assoc (widened_records m first) (widened_records n rest) (widened_at rest (record_length old * n))

pub pieces_widened : PiecesWidened
unfolding widened
pieces_widened first rest whole =
    let m : ℕ = old_records first in
    let n : ℕ = old_records rest in
    let even : length first ≡ record_length old * m = omega arith in
    let both : old_records (first ++ rest) ≡ m + n = omega (arith, length-append first rest) in
    let behind : record_length old * old_records (first ++ rest) ≡ length first + record_length old * n = omega arith in
    let no_tail : tail_of first ≡ [] = ap (λ (k : ℕ). drop k first) (sym even) ∙ drop-length first in
    let front : widened_records m first ≡ widened first =
    sym (append-nil (widened_records m first)) ∙ ap (λ (l : List ℕ). widened_records m first ++ l) (sym no_tail) in
    ap (λ (k : ℕ). widened_records k (first ++ rest) ++ tail_of (first ++ rest)) both
    ∙ ap (λ (l : List ℕ). l ++ tail_of (first ++ rest)) (records_both first rest m n even)
    ∙ ap (λ (k : ℕ). widened_records m first ++ widened_records n rest ++ drop k (first ++ rest)) behind
    ∙ ap (λ (l : List ℕ). widened_records m first ++ widened_records n rest ++ l) (drop-append-add first rest (record_length old * n))
    ∙ append_assoc (widened_records m first) (widened_records n rest) (tail_of rest)
    ∙ ap (λ (l : List ℕ). l ++ widened rest) front
