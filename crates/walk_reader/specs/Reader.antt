-- Reading a sentence of request U11 back: `read_back` of the rules with numbers of 32 bits, which are all that a
-- sentence can have.
use Rattle.std.specs.Prelude.{Option as Answer, None, Some, ℕ, zero, suc, Bool, true, false, ◌&&◌, List, [], ◌∷◌, ◌++◌, length, drop, leb, ltb}
use Rattle.std.specs.Borrow.{Bor}
use Rattle.std.proofs.Math.Option.{Option, none, some, map}
use Rattle.rules_output.specs.Reason.{Reason, kept_by, no_chain}
use Rattle.rules_output.specs.Sentence.{cell_text, block_text, behind, number_at, ended, read_back}
use Rattle.walk_reader.specs.declared.Reading.{Reading}

-- something where the test passes, else nothing
unfoldable pub when : {A : Type 0} → (found : Bool) → A → Option A
when true x = some x
when false x = none

-- ---- what a text says

abbrev pub is_small : (n : ℕ) → Bool
is_small n = ltb n 4294967296

unfoldable pub are_small : List ℕ → Bool
are_small [] = true
are_small (n ∷ l) = is_small n && are_small l

unfoldable pub fits : Reason × ℕ → Bool
fits (kept_by r cells, at) = is_small r && (are_small cells && is_small at)
fits (no_chain, at) = is_small at

-- what is read back, where all its numbers are below 2 ^ 32
unfoldable pub small_back : List ℕ → Option (Reason × ℕ)
small_back l = elim (read_back l) [ some x ↦ when (fits x) x | none ↦ none ]

-- ---- what the reader tells

abbrev pub reading : (kind root links block : ℕ) → Reading
reading kind root links block = record { kind = kind; root = root; links = links; block = block }

-- 0: no sentence; 1: a chain; 2: no root reaches the block; 3: a chain of more links than `room`
unfoldable pub reading_of : (room : ℕ) → Option (Reason × ℕ) → Reading
reading_of room none = reading 0 0 0 0
reading_of room (some (no_chain, at)) = reading 2 0 0 at
reading_of room (some (kept_by r cells, at)) =
    elim (leb (length cells) room) [ true ↦ reading 1 r (length cells) at | false ↦ reading 3 r (length cells) at ]

-- the list lent for the cells: those of a chain that it has room for stand in front, and later ones keep theirs
unfoldable pub cells_after : Option (Reason × ℕ) → (lent : List ℕ) → List ℕ
cells_after none lent = lent
cells_after (some (no_chain, at)) lent = lent
cells_after (some (kept_by r cells, at)) lent =
    elim (leb (length cells) (length lent)) [ true ↦ cells ++ drop (length cells) lent | false ↦ lent ]

-- ---- parts of a text

-- what a function found, in the words of the rules; with the text behind it
abbrev pub seen : {A : Type 0} → Answer A → Option A
seen None = none
seen (Some x) = some x

abbrev pub seen_in : Answer (ℕ × Bor (List ℕ)) → Option (ℕ × List ℕ)
seen_in None = none
seen_in (Some x) = some (x.0, x.1.now)

-- `number_at` of the rules, where the number is below 2 ^ 32
unfoldable pub limited : Option (ℕ × List ℕ) → Option (ℕ × List ℕ)
limited none = none
limited (some x) = when (is_small x.0) x

unfoldable pub small_at : List ℕ → Option (ℕ × List ℕ)
small_at l = limited (number_at l)

-- a link: its cell, and what stands behind it
unfoldable pub link_at : List ℕ → Option (ℕ × List ℕ)
link_at l = elim (behind cell_text l) [ some m ↦ small_at m | none ↦ none ]

-- `links_of` of the rules, with such numbers
unfoldable pub small_links : (most : ℕ) → List ℕ → Option (List ℕ × ℕ)
small_links zero l = none
small_links (suc f) l =
    elim (behind cell_text l) [
      | some m ↦ elim (small_at m) [ some x ↦ map (λ y. (x.0 ∷ y.0, y.1)) (small_links f x.1) | none ↦ none ]
      | none ↦ elim (behind block_text l) [ some m ↦ map (λ at. ([], at)) (ended (small_at m)) | none ↦ none ]
    ]

abbrev pub links_in : List ℕ → Option (List ℕ × ℕ)
links_in l = small_links (length l) l

-- how many links, and the block
unfoldable pub counted : Option (List ℕ × ℕ) → Option (ℕ × ℕ)
counted x = map (λ y. (length y.0, y.1)) x

-- the links alone
unfoldable pub links_found : Option (List ℕ × ℕ) → List ℕ
links_found none = []
links_found (some y) = y.0
