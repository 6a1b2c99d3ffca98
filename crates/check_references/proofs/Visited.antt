-- The cells of a byte's blocks tallied from the lowest on: how far a tally has come while bits of the word are left.
use mathlib.Core.Path.{◌≡◌, refl, sym, ap, ◌∙◌}
use mathlib.Core.Logic.{◌≢◌}
use mathlib.Core.Bool.{Bool, false}
use mathlib.Core.List.{List}
use Prim.Native.Nat.{ℕ, ◌+◌, ◌-◌, ◌/◌, ◌^◌, ◌≤◌, ◌<◌}
use native.Mathlib.Decide.{ℕ_discrete, dec_lt}
use native.Mathlib.Omega.{arith}
use lib.Bits.{bit_and}
use lib.Count.{count_trailing_zeros}
use lib.Dec.{eqb}
use Rattle.bitmap.specs.Bit.{bit_of, put_bit}
use Rattle.bitmap.proofs.Bits.{bit_zero, bit_put_same, bit_put_other}
use Rattle.bitmap.proofs.Digits.{trailing_lowest, clear_lowest}
use Rattle.rules.specs.Tools.{some_below}
use Rattle.rules.proofs.Searches.{searched_start, searched_next}
use Rattle.rules.proofs.Stretches.{none_further}
use Rattle.check_references.specs.Wild.{read_in, wild_in, FilledCells}
use Rattle.check_references.specs.Tally.{Room, Tallied}
use Rattle.check_references.proofs.Tallies.{tallied_start, tallied_past}
use Rattle.check_references.proofs.Wilds.{wild_zero, read_empty}

module _ (N used made : ℕ) (cells : List ℕ) (k these : ℕ) (at₀ : List ℕ) where
  -- what cell j is read as, and whether it is wild
  abbrev pub read : ℕ → ℕ
  read = read_in made cells k

  abbrev pub wild_at : ℕ → Bool
  wild_at = wild_in N used made cells k

  -- the cells before cell p are tallied, none of them wild, and `left` has the bits from there on
  pub record Visited (left : ℕ) (at : List ℕ) : Type 0 where
    pub p : ℕ
    pub inside : p ≤ 32
    pub before : (s : ℕ) → s < p → bit_of left s ≡ 0
    pub behind : (s : ℕ) → p ≤ s → s < 32 → bit_of left s ≡ bit_of these s
    pub fine : some_below wild_at p ≡ false
    pub tallied : Tallied read p at₀ at

  pub visited_start : Room at₀ → Visited these at₀
  visited_start room = record {
    p = 0;
    inside = omega arith;
    before = λ s l. absurd (omega arith);
    behind = λ s l u. refl;
    fine = (searched_start wild_at 32).1;
    tallied = tallied_start read at₀ room;
  }

  module _ (filled : FilledCells cells k these) where
    -- cells whose bits are 0 are read as 0
    cells_none : (left : ℕ) (at : List ℕ) (v : Visited left at) (t : ℕ) → t ≤ 32 → ((s : ℕ) → v.p ≤ s → s < t → bit_of left s ≡ 0)
        → (j : ℕ) → v.p ≤ j → j < t → read j ≡ 0
    cells_none left at v t most none j l u =
        read_empty made cells k j
        (filled j (omega arith) (sym (v.behind j l (omega arith)) ∙ none j l u))

    -- up to there
    pub tallied_to : (left : ℕ) (at : List ℕ) (v : Visited left at) (t : ℕ) → v.p ≤ t → t ≤ 32
        → ((s : ℕ) → v.p ≤ s → s < t → bit_of left s ≡ 0) → Tallied read t at₀ at × (some_below wild_at t ≡ false)
    tallied_to left at v t from most none =
        let zeros = cells_none left at v t most none in (
          tallied_past read at₀ at v.p t from zeros v.tallied,
          none_further wild_at v.p t v.fine (λ j l u. wild_zero N (eqb (bit_of used (j / 4)) 0) (read j) (zeros j l u)),
        )

    -- the lowest bit that is left
    module _ (left : ℕ) (at : List ℕ) (small : left < 2 ^ 32) (some : left ≢ 0) (v : Visited left at) where
      abbrev bit : ℕ
      bit = count_trailing_zeros 32 left

      first : v.p ≤ bit
      first = elim (dec_lt bit v.p) [
        | yes l ↦ absurd (omega (arith, (trailing_lowest 32 left small some).here, v.before bit l))
        | no l ↦ omega arith
      ]

      -- what stands before it is tallied ..
      pub visited_come : Tallied read bit at₀ at × (some_below wild_at bit ≡ false)
      visited_come =
          let low = trailing_lowest 32 left small some in
          tallied_to left at v bit first (omega (arith, low.inside)) (λ s l u. low.below s u)

      cleared : (s : ℕ) → bit_of (bit_and left (left - 1)) s ≡ bit_of (put_bit left bit 0) s
      cleared s = ap (λ (x : ℕ). bit_of x s) (clear_lowest 32 left small some)

      -- .. and where its cell is tallied and not wild, its bit goes
      pub visited_next : (next : List ℕ) → wild_at bit ≡ false → Tallied read (bit + 1) at₀ next → Visited (bit_and left (left - 1)) next
      visited_next next fails t =
          let low = trailing_lowest 32 left small some in
          record {
            p = bit + 1;
            inside = omega (arith, low.inside);
            before = λ s l. elim (ℕ_discrete s bit) [
              | yes e ↦ cleared s ∙ ap (bit_of (put_bit left bit 0)) e ∙ bit_put_same left bit 0 (omega arith)
              | no n ↦ cleared s ∙ bit_put_other left bit 0 s n (omega arith) ∙ low.below s (omega arith)
            ];
            behind = λ s l u.
                cleared s ∙ bit_put_other left bit 0 s (λ e. omega arith) (omega arith) ∙ v.behind s (omega (arith, first)) u;
            fine = (searched_next wild_at 32 bit (omega (arith, low.inside), visited_come.1) low.inside fails).1;
            tallied = t;
          }

    -- none left: all are tallied
    pub visited_all : (left : ℕ) (at : List ℕ) → left ≡ 0 → Visited left at → Tallied read 32 at₀ at × (some_below wild_at 32 ≡ false)
    visited_all left at e v =
        tallied_to left at v 32 v.inside (omega arith) (λ s l u. ap (λ (x : ℕ). bit_of x s) e ∙ bit_zero s)
