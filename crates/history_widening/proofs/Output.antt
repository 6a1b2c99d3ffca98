-- The output while a history is widened into it: records one behind the other, then the tail.
use mathlib.Core.Path.{◌≡◌, refl, sym, ap, ◌∙◌}
use mathlib.Core.List.{List, ◌++◌}
use Prim.Native.Nat.{ℕ, ◌+◌, ◌-◌, ◌*◌, ◌≤◌, ◌<◌}
use native.Mathlib.Numerals.{add-one}
use native.Mathlib.Omega.{arith}
use lib.ListN.{length, take, drop, length-append, length-drop}
use lib.Seq.{take_all, take_at}
use Rattle.text.specs.Text.{Put}
use Rattle.text.proofs.Writing.{put_none, put_both, put_as, put_length}
use Rattle.history_records.specs.Records.{record_length, wide, old}
use Rattle.history_widening.specs.Widening.{widened_at, widened_records, old_records, tail_of, widened, Widens}
use Rattle.history_widening.proofs.Records.{length_records, length_widened}

-- there is no room for all
pub too_short :
    {bytes before : List ℕ} {r : ℕ} → length before < length bytes + 4 * old_records bytes → r ≡ 0 → Widens bytes before before r
too_short {bytes} {before} short none =
    record { written = λ room. absurd (omega (arith, length_widened bytes)); refused = λ _. (refl, none) }

-- there is, and n records are written
pub record Written (bytes before : List ℕ) (n : ℕ) (out : List ℕ) : Type 0 where
  pub put : Put before 0 (widened_records n bytes) out (record_length wide * n)
  pub few : n ≤ old_records bytes
  pub room : length bytes + 4 * old_records bytes ≤ length before
  pub same_length : length out ≡ length before

module _ {bytes before : List ℕ} where
  pub none_written : length bytes + 4 * old_records bytes ≤ length before → Written bytes before 0 before
  unfolding widened_records
  none_written room = record { put = put_none before 0; few = omega arith; room = room; same_length = refl }

  module _ {n : ℕ} {out : List ℕ} (so_far : Written bytes before n out) where
    pub one_more :
        n < old_records bytes → {after : List ℕ} {end : ℕ}
        → Put out (record_length wide * n) (widened_at bytes (record_length old * n)) after end → Written bytes before (n + 1) after
    unfolding widened_records
    one_more l {after} {end} more =
        let room : record_length wide * n + record_length wide ≤ length before = omega (arith, so_far.room) in
        record {
          put =
              put_as (ap (λ (k : ℕ). widened_records k bytes) (sym (add-one n))) (omega (arith, more.end_is))
              (put_both (omega (arith, length_records n bytes)) so_far.put more);
          few = omega arith;
          room = so_far.room;
          same_length = put_length (omega (arith, so_far.same_length)) more ∙ so_far.same_length;
        }

    -- all of them, and the tail
    pub all_written :
        old_records bytes ≤ n → {after : List ℕ} {end : ℕ}
        → Put out (record_length wide * old_records bytes) (take (length bytes - record_length old * old_records bytes) (tail_of bytes)) after end
        → Widens bytes before after end
    unfolding widened
    all_written last {after} {end} more =
        let m : ℕ = old_records bytes in
        let whole : n ≡ m = omega (arith, so_far.few) in
        let put : Put before 0 (widened_records m bytes) out (record_length wide * m) = rw (← whole) so_far.put in
        let tail : List ℕ = take (length bytes - record_length old * m) (tail_of bytes) in
        let all = put_both (omega (arith, so_far.room, length_records m bytes)) put more in
        let is : widened_records m bytes ++ tail ≡ widened bytes =
        ap (λ (l : List ℕ). widened_records m bytes ++ l)
        (take_all (length bytes - record_length old * m) (tail_of bytes) (omega (arith, length-drop (record_length old * m) bytes))) in
        record {
          written =
              λ _. (
                all.written
                    ∙ ap (λ (l : List ℕ). l ++ drop (0 + length (widened_records m bytes ++ tail)) before) is
                    ∙ ap (λ (k : ℕ). widened bytes ++ drop k before) (sym all.end_is),
                omega (arith, all.end_is, ap length is),
              );
          refused = λ short. absurd (omega (arith, so_far.room, length_widened bytes));
        }

-- where there is room, the front of the output is what the bytes are widened to
pub widened_front :
    {bytes before after : List ℕ} {r : ℕ} → Widens bytes before after r → length bytes + 4 * old_records bytes ≤ length before
    → (take r after ≡ widened bytes) × (r ≤ length after)
widened_front {bytes} {before} {after} {r} widens room =
    let done = widens.written (omega (arith, length_widened bytes)) in (
      ap (take r) done.0 ∙ take_at (widened bytes) (drop r before) r (sym done.1),
      omega (arith, done.1, simp length-append at (ap length done.0)),
    )
