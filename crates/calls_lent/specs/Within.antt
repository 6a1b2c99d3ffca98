-- What the program's functions keep, so that no part is cut past its buffer. Nobody has to believe it: the program promises nothing
-- but that it is safe.
use Rattle.std.specs.Prelude.{ℕ, ◌+◌, ◌*◌, ◌/◌, ◌≤◌, List, [], ◌∷◌, get_or}
use Rattle.rules.specs.Heap.{max_blocks}

-- the largest length of each buffer
abbrev pub largest : List ℕ
largest =
    max_blocks / 8 ∷ max_blocks / 8 ∷ 5 * (max_blocks / 8) ∷ 4 * max_blocks ∷ 65 ∷ max_blocks ∷ max_blocks / 256 ∷ max_blocks / 8 ∷ max_blocks / 8
    ∷ (max_blocks + 1) ∷ []

-- each lent length is at most the largest
abbrev pub Within : List ℕ → Type 0
Within lengths = (i : ℕ) → get_or lengths i 0 ≤ get_or largest i 0
