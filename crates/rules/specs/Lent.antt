-- The lent memory as contracts name it: what the ten slices of a call hold before it and after it. A contract
-- names what a slice holds by its moments: `.old` and `.new` of one that is written, `.now` of one that is
-- only read.
use Rattle.std.specs.Prelude.{ℕ, List}
use Rattle.rules.specs.Heap.{Memory, lent_memory}

-- what a lent slice holds, at a moment
abbrev pub Lent : Type 0
Lent = List ℕ

abbrev pub before : (a b counts cells roots waiting sections d marks list : Lent) → Memory
before a b counts cells roots waiting sections d marks list =
    lent_memory a b counts cells roots waiting sections d marks list

abbrev pub after : (a b counts cells roots waiting sections d marks list : Lent) → Memory
after a b counts cells roots waiting sections d marks list =
    lent_memory a b counts cells roots waiting sections d marks list

-- in a `requires` a slice has one moment, the call's beginning
abbrev pub lent : (a b counts cells roots waiting sections d marks list : Lent) → Memory
lent a b counts cells roots waiting sections d marks list =
    lent_memory a b counts cells roots waiting sections d marks list
