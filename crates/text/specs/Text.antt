-- Texts as lists of bytes: decimal numbers, and what a text written into a buffer leaves there.
use Rattle.std.specs.Prelude.{ℕ, zero, suc, ◌+◌, ◌/◌, ◌%◌, ◌≡◌, true, false, List, [], ◌∷◌, ◌++◌, length, take, drop, ltb}

-- a digit in ASCII: 0 is byte 48
abbrev pub digit : ℕ → ℕ
digit d = 48 + d

-- the last k digits of n at most, the most significant first, with no leading zeros
unfoldable pub decimal_in : (k n : ℕ) → List ℕ
decimal_in zero n = []
decimal_in (suc k) n = elim (ltb n 10) [ true ↦ digit n ∷ [] | false ↦ decimal_in k (n / 10) ++ (digit (n % 10) ∷ []) ]

-- all of them: a number has no more digits than 1 + n
unfoldable pub decimal : ℕ → List ℕ
decimal n = decimal_in (suc n) n

-- `text` stands in the buffer from place `at` on, all other bytes are as they were, and `end` is the place behind the text
pub record Put (before : List ℕ) (at : ℕ) (text after : List ℕ) (end : ℕ) : Type 0 where
  pub written : after ≡ take at before ++ text ++ drop (at + length text) before
  pub end_is : end ≡ at + length text
