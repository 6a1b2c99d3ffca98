-- Request U4, "Sections with a largest size": the figure of each section, read off the A-map.
use Rattle.std.specs.Prelude.{ℕ, zero, suc, ◌+◌, ◌*◌, ◌/◌, ◌^◌, max, Bool, true, false, not, List, get_or, leb, eqb}
use Rattle.std.proofs.Math.Option.{Option, none, some}
use Rattle.rules.specs.Heap.{section_length, section_count, exponent, chunk_free, lowest_from}
use Rattle.rules.specs.Tools.{some_below, tabulate}

-- "the size of its largest free aligned chunk, 0 if none": of the 2 ^ k blocks from block i on. They are one chunk themselves; where it is
-- not free, every smaller one lies in one of its halves.
unfoldable pub largest_free : (k : ℕ) → List ℕ → (i : ℕ) → ℕ
largest_free zero a i = elim (chunk_free zero a i) [ true ↦ 1 | false ↦ 0 ]
largest_free (suc k) a i =
    elim (chunk_free (suc k) a i) [ true ↦ 2 ^ suc k | false ↦ max (largest_free k a i) (largest_free k a (i + 2 ^ k)) ]

-- the figure of section number s; a section's length is a power of two, as N is
unfoldable pub figure : ℕ → List ℕ → ℕ → ℕ
figure N a s = largest_free (exponent (section_length N)) a (s * section_length N)

-- "An added lent list of .. numbers, one for each section": the true list
unfoldable pub figures : ℕ → List ℕ → List ℕ
figures N a = tabulate (section_count N) (figure N a)

-- "the list doesn't match the maps"
unfoldable pub stale_figures : ℕ → List ℕ → List ℕ → Bool
stale_figures N a sections = some_below (λ s. not (eqb (get_or sections s 0) (figure N a s))) (section_count N)

-- ---- "Allocation of at most a section's length goes to the lowest section whose figure suffices."

-- the lowest of n sections from number s on whose figure suffices
unfoldable pub suffices_from : (n : ℕ) → (sections : List ℕ) → (size s : ℕ) → Option ℕ
suffices_from zero sections size s = none
suffices_from (suc n) sections size s =
    elim (leb size (get_or sections s 0)) [ true ↦ some s | false ↦ suffices_from n sections size (s + 1) ]

-- the lowest free chunk of 2 ^ k blocks of a section, if there is one
unfoldable pub lowest_in_section : (N k : ℕ) → List ℕ → Option ℕ → Option ℕ
lowest_in_section N k a none = none
lowest_in_section N k a (some s) = lowest_from (section_length N / 2 ^ k) k a (s * section_length N)

-- the chunk that this finds, the figures being true
unfoldable pub lowest_by_sections : (N k : ℕ) → List ℕ → Option ℕ
lowest_by_sections N k a = lowest_in_section N k a (suffices_from (section_count N) (figures N a) (2 ^ k) 0)
