-- Request U12: "A second program widens old histories record by record, a cut-off tail copied as it is".
use Rattle.std.specs.Prelude.{ℕ, zero, suc, ◌+◌, ◌*◌, ◌/◌, ◌≤◌, ◌<◌, ◌≡◌, List, [], ◌∷◌, ◌++◌, length, get_or, drop}
use Rattle.history_records.specs.Records.{record_length, old}

-- the old record that begins at place `at`: "the first four as they were, then cell and size in four bytes each, low byte first"
abbrev pub widened_at : List ℕ → (at : ℕ) → List ℕ
widened_at bytes at =
    get_or bytes at 0 ∷ get_or bytes (at + 1) 0 ∷ get_or bytes (at + 2) 0 ∷ get_or bytes (at + 3) 0
    ∷ get_or bytes (at + 4) 0 ∷ get_or bytes (at + 5) 0 ∷ 0 ∷ 0
    ∷ get_or bytes (at + 6) 0 ∷ get_or bytes (at + 7) 0 ∷ 0 ∷ 0 ∷ []

-- the first n records
unfoldable pub widened_records : (n : ℕ) → List ℕ → List ℕ
widened_records zero bytes = []
widened_records (suc n) bytes = widened_records n bytes ++ widened_at bytes (record_length old * n)

-- how many whole records there are, and the tail behind them
abbrev pub old_records : List ℕ → ℕ
old_records bytes = length bytes / record_length old

abbrev pub tail_of : List ℕ → List ℕ
tail_of bytes = drop (record_length old * old_records bytes) bytes

unfoldable pub widened : List ℕ → List ℕ
widened bytes = widened_records (old_records bytes) bytes ++ tail_of bytes

-- What widening into an output leaves there, and the answer r. Where there is room, the output begins with the widened bytes, all others are
-- as they were, and r is the number of those written. Where there is not, nothing is written, and r is 0.
pub record Widens (bytes before after : List ℕ) (r : ℕ) : Type 0 where
  pub written : length (widened bytes) ≤ length before → (after ≡ widened bytes ++ drop r before) × (r ≡ length (widened bytes))
  pub refused : length before < length (widened bytes) → (after ≡ before) × (r ≡ 0)
