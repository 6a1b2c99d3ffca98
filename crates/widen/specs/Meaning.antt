-- Request U12: what the program hands on. No contract can say what is read and what is written, so it is said of each piece, and of any
-- pieces that they are the whole.
use Rattle.std.specs.Prelude.{ℕ, ◌*◌, ◌≡◌, List, [], ◌∷◌, ◌++◌, map, length}
use Rattle.history_records.specs.Records.{record_length, old}
use Rattle.history_widening.specs.Widening.{widened}

-- the bytes of a full piece
abbrev pub full_piece : ℕ
full_piece = 8192 * record_length old

-- a text is what a piece is widened to
abbrev pub WidenedPiece : (piece text : List ℕ) → Type 0
WidenedPiece piece text = text ≡ widened piece

-- pieces one behind the other; whether all are full
unfoldable pub in_a_row : List (List ℕ) → List ℕ
in_a_row [] = []
in_a_row (piece ∷ pieces) = piece ++ in_a_row pieces

unfoldable pub AreFull : List (List ℕ) → Type 0
AreFull [] = Unit {0}
AreFull (piece ∷ pieces) = (length piece ≡ full_piece) × AreFull pieces

-- What is handed on of full pieces, and then of a last one, is the whole input widened.
abbrev pub WholeIsWidened : Type 0
WholeIsWidened =
    (pieces : List (List ℕ)) (last : List ℕ) → AreFull pieces
    → in_a_row (map widened pieces) ++ widened last ≡ widened (in_a_row pieces ++ last)

-- a record, so that the statement can't be dropped unnoticed: `widen_theory`, proofs/Whole.antt, proves it
pub record WidenTheory : Type 0 where
  pub whole_is_widened : WholeIsWidened
