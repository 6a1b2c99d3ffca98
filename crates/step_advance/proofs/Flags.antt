-- What flags say as blocks are listed and taken, and a search by them.
use mathlib.Core.Path.{◌≡◌, sym, ap, ◌∙◌}
use mathlib.Core.Logic.{◌≢◌}
use mathlib.Core.Bool.{true, false, false≢true}
use mathlib.Core.List.{List}
use Prim.Native.Nat.{ℕ, ◌+◌, ◌-◌, ◌*◌, ◌/◌, ◌≤◌, ◌<◌}
use native.Mathlib.Decide.{ℕ_discrete, dec_lt}
use native.Mathlib.Omega.{arith}
use lib.Dec.{eqb}
use lib.ListN.{length, get_or, set, replicate, get_or-replicate}
use lib.Seq.{get_or-set_same, get_or-set_other}
use Rattle.bitmap.specs.Bit.{bit_at, set_bit}
use Rattle.rules.specs.Heap.{size_from}
use Rattle.rules_stores.specs.Store.{naming_cells}
use Rattle.std.proofs.Common.{Option, None, Some}
use Rattle.std.specs.Option.{is_some}
use Rattle.step_list.specs.Lists.{is_set, NoBit}
use Rattle.step_list.specs.Naming.{named_from, cell_names}
use Rattle.step_list.proofs.Bits.{made_clear, others_same}
use Rattle.step_advance.proofs.Shades.{shade_none, shade_past, shade_marked, shade_new, shaded_start, shaded_more, stepped_at}
use Rattle.step_advance.specs.Flags.{Flagged, Clear, Section, Looked, Flying, Flown}

-- ---- flags

flag_raised : {N : ℕ} {listed flags listed' : List ℕ} (i : ℕ) → i / 256 < length flags → listed' ≡ set_bit listed i 1
    → Flagged N listed flags → Flagged N listed' (set flags (i / 256) 1)
flag_raised {N} {listed} {flags} {listed'} i inside e f = record {
  clear = λ j l z. elim (ℕ_discrete (j / 256) (i / 256)) [
    | yes q ↦
        let raised : get_or (set flags (i / 256) 1) (j / 256) 0 ≡ 1 =
        ap (λ (k : ℕ). get_or (set flags (i / 256) 1) k 0) q ∙ get_or-set_same flags (i / 256) 1 0 inside in
        absurd (omega arith)
    | no n ↦
        ap (λ (m : List ℕ). is_set m j) e ∙ others_same listed i 1 j (omega arith) (λ q. n (ap (λ (k : ℕ). k / 256) q))
        ∙ f.clear j l (sym (get_or-set_other flags (i / 256) (j / 256) 1 0 n) ∙ z)
  ];
}

-- a block that leaves the list
flag_left : {N : ℕ} {listed flags listed' : List ℕ} (i : ℕ) → i < 8 * length listed → listed' ≡ set_bit listed i 0
    → Flagged N listed flags → Flagged N listed' flags
flag_left {N} {listed} i inside e f = record {
  clear = λ j l z. ap (λ (m : List ℕ). is_set m j) e ∙ elim (ℕ_discrete j i) [
    | yes q ↦ ap (is_set (set_bit listed i 0)) q ∙ made_clear listed i inside
    | no n ↦ others_same listed i 0 j (omega arith) n ∙ f.clear j l z
  ];
}

-- ---- the bound

clear_raised : (listed : List ℕ) {listed' : List ℕ} {low r : ℕ} (i : ℕ) → listed' ≡ set_bit listed i 1 → r ≤ i → r ≤ low → Clear listed low → Clear listed' r
clear_raised listed i e below least clear j l =
    ap (λ (m : List ℕ). is_set m j) e ∙ others_same listed i 1 j (omega arith) (λ q. omega arith) ∙ clear j (omega arith)

clear_left : (listed : List ℕ) {listed' : List ℕ} (x : ℕ) → listed' ≡ set_bit listed x 0 → Clear listed x → Clear listed' x
clear_left listed x e clear j l = ap (λ (m : List ℕ). is_set m j) e ∙ others_same listed x 0 j (omega arith) (λ q. omega arith) ∙ clear j l

-- ---- flags at first

-- flags that are all 1
pub flags_all : {N : ℕ} {listed : List ℕ} (n : ℕ) → N ≤ 256 * n → Flagged N listed (replicate n 1)
flags_all n l = record { clear = λ i u z. absurd (omega (arith, get_or-replicate {A = ℕ} n (i / 256) 1 0 (omega arith))) }

-- ---- one reference

module _ (v : ℕ) {N : ℕ} {marks listed flags : List ℕ} {low : ℕ} where
  pub fly_none : v ≡ 0 → Flying N (λ i. eqb v (i + 1)) marks listed flags low marks listed flags low
  fly_none e = record { shaded = shade_none v e; flagged = λ f. f; cleared = λ f. f; lowered = omega arith }

  pub fly_past : N < v → Flying N (λ i. eqb v (i + 1)) marks listed flags low marks listed flags low
  fly_past past = record { shaded = shade_past v past; flagged = λ f. f; cleared = λ f. f; lowered = omega arith }

  pub fly_marked : bit_at marks (v - 1) ≡ 1 → Flying N (λ i. eqb v (i + 1)) marks listed flags low marks listed flags low
  fly_marked e = record { shaded = shade_marked v e; flagged = λ f. f; cleared = λ f. f; lowered = omega arith }

  pub fly_new :
      v ≢ 0 → v ≤ N → N ≤ 8 * length marks → N ≤ 8 * length listed → N ≤ 256 * length flags → bit_at marks (v - 1) ≢ 1
      → {marks' listed' : List ℕ} {r : ℕ} → marks' ≡ set_bit marks (v - 1) 1 → listed' ≡ set_bit listed (v - 1) 1 → r ≤ v - 1 → r ≤ low
      → Flying N (λ i. eqb v (i + 1)) marks listed flags low marks' listed' (set flags ((v - 1) / 256) 1) r
  fly_new some within long wide room new em el below least = record {
    shaded = shade_new v some within long wide new em el;
    flagged = flag_raised (v - 1) (omega arith) el;
    cleared = clear_raised listed (v - 1) el below least;
    lowered = least;
  }

-- ---- a run of cells, and a step

pub flying_start :
    {N : ℕ} (cells : List ℕ) (j : ℕ) {marks listed flags : List ℕ} {low : ℕ}
    → Flying N (named_from cells j 0) marks listed flags low marks listed flags low
flying_start cells j = record { shaded = shaded_start cells j; flagged = λ f. f; cleared = λ f. f; lowered = omega arith }

pub flying_more :
    {N : ℕ} (cells : List ℕ) (j k : ℕ) {marks₀ listed₀ flags₀ marks listed flags marks' listed' flags' : List ℕ} {low₀ low low' : ℕ}
    → Flying N (named_from cells j k) marks₀ listed₀ flags₀ low₀ marks listed flags low
    → Flying N (λ i. eqb (get_or cells (j + k) 0) (i + 1)) marks listed flags low marks' listed' flags' low'
    → Flying N (named_from cells j (k + 1)) marks₀ listed₀ flags₀ low₀ marks' listed' flags' low'
flying_more cells j k s t = record {
  shaded = shaded_more cells j k s.shaded t.shaded;
  flagged = λ f. t.flagged (s.flagged f);
  cleared = λ f. t.cleared (s.cleared f);
  lowered = omega (arith, s.lowered, t.lowered);
}

pub flown_at :
    (N x : ℕ) (b d cells : List ℕ) {marks listed flags taken marks' listed' flags' : List ℕ} {n m low' : ℕ} → x < N
    → N ≤ 8 * length listed → n ≡ size_from (N - x) b x → m ≡ naming_cells d x n → taken ≡ set_bit listed x 0
    → Flying N (named_from cells (4 * x) m) marks taken flags x marks' listed' flags' low'
    → Flown N (cell_names N b d cells x) x marks listed flags marks' listed' flags' low'
flown_at N x b d cells {listed = listed} l wide size named off s = record {
  stepped = stepped_at N x b d cells l wide size named off s.shaded;
  flagged = λ f. s.flagged (flag_left x (omega arith) off f);
  cleared = λ f. s.cleared (clear_left listed x off f);
  lowered = s.lowered;
}

-- ---- a search

pub section_at :
    {N from end : ℕ} → from < end → end ≤ N → end ≤ (from / 256 + 1) * 256 → ((i : ℕ) → i < N → i < (from / 256 + 1) * 256 → i < end)
    → Section N from end
section_at some within short all = record {
  some = some;
  within = within;
  inside = λ i u v. omega arith;
  last = λ i u e. all i u (omega arith);
}

module _ {N from end : ℕ} {listed flags : List ℕ} (s : Section N from end) (f : Flagged N listed flags) where
  pub looked_none : get_or flags (from / 256) 0 ≡ 0 → Looked N from end listed flags None
  looked_none z = record {
    next = record { clear = λ i l u. f.clear i (omega (arith, s.within)) (ap (λ (k : ℕ). get_or flags k 0) (s.inside i l u) ∙ z) };
    flagged = f;
  }

  -- the flag is lowered
  pub looked_all :
      Clear listed from → NoBit listed from end → Looked N from end listed (set flags (from / 256) 0) None
  looked_all below n = record {
    next = n;
    flagged = record {
      clear = λ i u z. elim (ℕ_discrete (i / 256) (from / 256)) [
        | yes q ↦ elim (dec_lt i from) [ yes v ↦ below i v | no v ↦ n.clear i (omega arith) (omega (arith, s.last i u q)) ]
        | no d ↦ f.clear i u (sym (get_or-set_other flags (from / 256) (i / 256) 0 0 d) ∙ z)
      ];
    };
  }

-- the search has come to `from`
pub record Sought (N : ℕ) (listed flags : List ℕ) (from : ℕ) : Type 0 where
  pub within : from ≤ N
  pub clear : Clear listed from
  pub flagged : Flagged N listed flags

module _ {N : ℕ} {listed flags : List ℕ} where
  pub sought_start : {low : ℕ} → low ≤ N → Clear listed low → Flagged N listed flags → Sought N listed flags low
  sought_start within clear f = record { within = within; clear = clear; flagged = f }

  module _ {from end : ℕ} {flags' : List ℕ} (s : Sought N listed flags from) (p : Section N from end) where
    pub sought_found : (r : Option ℕ) → Looked N from end listed flags' r → is_some r ≡ true → Looked N 0 N listed flags' r
    sought_found None k some = absurd (false≢true some)
    sought_found (Some x) k some =
        let below = k.next.below in
        record {
          next = record {
            from_le = omega arith;
            below = omega (arith, p.within);
            clear = λ i u v. elim (dec_lt i from) [ yes l ↦ s.clear i l | no l ↦ k.next.clear i (omega arith) v ];
            found = k.next.found;
          };
          flagged = k.flagged;
        }

    pub sought_next : (r : Option ℕ) → Looked N from end listed flags' r → is_some r ≡ false → Sought N listed flags' end
    sought_next (Some x) k none = absurd (false≢true (sym none))
    sought_next None k none = record {
      within = p.within;
      clear = λ i u. elim (dec_lt i from) [ yes l ↦ s.clear i l | no l ↦ k.next.clear i (omega arith) u ];
      flagged = k.flagged;
    }

  pub sought_all : {from : ℕ} → Sought N listed flags from → N ≤ from → Looked N 0 N listed flags None
  sought_all s l = record { next = record { clear = λ i u v. s.clear i (omega arith) }; flagged = s.flagged }
