-- Marking and listing: what a reference does, and a run of references, and a step at an object.
use mathlib.Core.Path.{◌≡◌, refl, sym, ap, ◌∙◌}
use mathlib.Core.Logic.{◌≢◌}
use mathlib.Core.Bool.{Bool, true, false, not, ◌&&◌, ◌||◌, or_assoc, false≢true}
use mathlib.Core.List.{List}
use Prim.Native.Nat.{ℕ, ◌+◌, ◌-◌, ◌*◌, ◌≤◌, ◌<◌}
use native.Mathlib.Decide.{ℕ_discrete}
use native.Mathlib.Omega.{arith}
use lib.Dec.{eqb}
use lib.ListN.{length, get_or}
use borrow.Author.Tests.{eq-eqb, ne_eqb, eqb-true}
use Rattle.bitmap.specs.Bit.{bit_at, set_bit}
use Rattle.rules.specs.Tools.{some_below}
use Rattle.rules.specs.Heap.{size_from}
use Rattle.rules_stores.specs.Store.{naming_cells}
use Rattle.step_list.specs.Lists.{is_set}
use Rattle.step_list.proofs.Bits.{set_is, clear_is, made_clear, others_same, gains_one, some_more}
use Rattle.step_list.specs.Naming.{named_from, cell_names}
use Rattle.step_advance.specs.Steps.{Shaded, Stepped}

-- ---- tests

absorbed : (m n : Bool) → (n ≡ true → m ≡ true) → m ≡ (m || n)
absorbed true n h = refl
absorbed false true h = h refl
absorbed false false h = refl

unlisted : (l m n : Bool) → (n ≡ true → m ≡ true) → l ≡ (l || (n && not m))
unlisted true m n h = refl
unlisted false true true h = refl
unlisted false false true h = h refl
unlisted false m false h = refl

newly : (n m : Bool) → (n ≡ true → m ≡ false) → n ≡ (n && not m)
newly true true h = h refl
newly true false h = refl
newly false m h = refl

-- what is listed by a run, and by one reference more
joined : (l m s e : Bool) → ((l || (s && not m)) || (e && not (m || s))) ≡ (l || ((s || e) && not m))
joined true m s e = refl
joined false true true true = refl
joined false true true false = refl
joined false true false true = refl
joined false true false false = refl
joined false false true true = refl
joined false false true false = refl
joined false false false true = refl
joined false false false false = refl

-- ---- one reference

module _ {N : ℕ} {named : ℕ → Bool} {marks listed : List ℕ} where
  -- what is named is marked already, or nothing is named
  pub shaded_kept : ((i : ℕ) → i < N → named i ≡ true → is_set marks i ≡ true) → Shaded N named marks listed marks listed
  shaded_kept h = record {
    marks_are = λ i l. absorbed (is_set marks i) (named i) (h i l);
    listed_are = λ i l. unlisted (is_set listed i) (is_set marks i) (named i) (h i l);
  }

module _ (v : ℕ) {N : ℕ} {marks listed : List ℕ} where
  pub shade_none : v ≡ 0 → Shaded N (λ i. eqb v (i + 1)) marks listed marks listed
  shade_none e = shaded_kept (λ i l q. absurd (omega (arith, eqb-true v (i + 1) q)))

  pub shade_past : N < v → Shaded N (λ i. eqb v (i + 1)) marks listed marks listed
  shade_past past = shaded_kept (λ i l q. absurd (omega (arith, eqb-true v (i + 1) q)))

  pub shade_marked : bit_at marks (v - 1) ≡ 1 → Shaded N (λ i. eqb v (i + 1)) marks listed marks listed
  shade_marked e =
      shaded_kept (λ i l q.
      let at : v - 1 ≡ i = omega (arith, eqb-true v (i + 1) q) in
      ap (is_set marks) (sym at) ∙ set_is marks (v - 1) e)

  pub shade_new : v ≢ 0 → v ≤ N → N ≤ 8 * length marks → N ≤ 8 * length listed → bit_at marks (v - 1) ≢ 1
      → {marks' listed' : List ℕ} → marks' ≡ set_bit marks (v - 1) 1 → listed' ≡ set_bit listed (v - 1) 1
      → Shaded N (λ i. eqb v (i + 1)) marks listed marks' listed'
  shade_new some within long wide new {marks'} {listed'} em el = record {
    marks_are = (gains_one some within long em).bits;
    listed_are = λ i l.
        (gains_one some within wide el).bits i l
        ∙ ap (λ (t : Bool). is_set listed i || t)
        (newly (eqb v (i + 1)) (is_set marks i) (λ q.
        let at : v - 1 ≡ i = omega (arith, eqb-true v (i + 1) q) in
        ap (is_set marks) (sym at) ∙ clear_is marks (v - 1) new));
  }

-- ---- a run of cells

pub shaded_start : {N : ℕ} (cells : List ℕ) (j : ℕ) {marks listed : List ℕ}
    → Shaded N (named_from cells j 0) marks listed marks listed
unfolding named_from some_below
shaded_start cells j = shaded_kept (λ i l q. absurd (false≢true q))

pub shaded_more : {N : ℕ} (cells : List ℕ) (j k : ℕ) {marks₀ listed₀ marks listed marks' listed' : List ℕ}
    → Shaded N (named_from cells j k) marks₀ listed₀ marks listed
    → Shaded N (λ i. eqb (get_or cells (j + k) 0) (i + 1)) marks listed marks' listed'
    → Shaded N (named_from cells j (k + 1)) marks₀ listed₀ marks' listed'
unfolding named_from
shaded_more {N} cells j k {marks₀} {listed₀} {marks} {listed} s t =
    let before : ℕ → Bool = λ i. some_below (λ m. eqb (get_or cells (j + m) 0) (i + 1)) k in
    let here : ℕ → Bool = λ i. eqb (get_or cells (j + k) 0) (i + 1) in
    record {
      marks_are = λ i l.
          t.marks_are i l ∙ ap (λ (x : Bool). x || here i) (s.marks_are i l) ∙ or_assoc (is_set marks₀ i) (before i) (here i)
          ∙ ap (λ (x : Bool). is_set marks₀ i || x) (sym (some_more (λ m. eqb (get_or cells (j + m) 0) (i + 1)) k));
      listed_are = λ i l.
          t.listed_are i l ∙ ap (λ (x : Bool). x || (here i && not (is_set marks i))) (s.listed_are i l)
          ∙ ap (λ (x : Bool). (is_set listed₀ i || (before i && not (is_set marks₀ i))) || (here i && not x)) (s.marks_are i l)
          ∙ joined (is_set listed₀ i) (is_set marks₀ i) (before i) (here i)
          ∙ ap (λ (x : Bool). is_set listed₀ i || (x && not (is_set marks₀ i))) (sym (some_more (λ m. eqb (get_or cells (j + m) 0) (i + 1)) k));
    }

-- ---- a step at an object

pub stepped_at : (N x : ℕ) (b d cells : List ℕ) {marks listed taken marks' listed' : List ℕ} {n m : ℕ} → x < N → N ≤ 8 * length listed
    → n ≡ size_from (N - x) b x → m ≡ naming_cells d x n → taken ≡ set_bit listed x 0
    → Shaded N (named_from cells (4 * x) m) marks taken marks' listed'
    → Stepped N (cell_names N b d cells x) x marks listed marks' listed'
unfolding cell_names
stepped_at N x b d cells {marks} {listed} {taken} {marks'} {listed'} {n} {m} l wide size named off s = record {
  marks_are = λ i u. s.marks_are i u ∙ ap (λ (t : Bool). is_set marks i || t) (same i);
  listed_are = λ i u.
      s.listed_are i u ∙ ap (λ (t : Bool). t || (named_from cells (4 * x) m i && not (is_set marks i))) (left i)
      ∙ ap (λ (t : Bool). (is_set listed i && not (eqb i x)) || (t && not (is_set marks i))) (same i);
}
  where
    same : (i : ℕ) → named_from cells (4 * x) m i ≡ named_from cells (4 * x) (naming_cells d x (size_from (N - x) b x)) i
    same i = ap (λ (k : ℕ). named_from cells (4 * x) k i) (named ∙ ap (naming_cells d x) size)

    never : (t : Bool) → (t && false) ≡ false
    never true = refl
    never false = refl

    always : (t : Bool) → t ≡ (t && true)
    always true = refl
    always false = refl

    left : (i : ℕ) → is_set taken i ≡ (is_set listed i && not (eqb i x))
    left i =
        ap (λ (m : List ℕ). is_set m i) off ∙ elim (ℕ_discrete i x) [
          | yes q ↦
              ap (is_set (set_bit listed x 0)) q ∙ made_clear listed x (omega arith)
              ∙ sym (ap (λ (t : Bool). is_set listed i && not t) (eq-eqb i x q) ∙ never (is_set listed i))
          | no d ↦
              others_same listed x 0 i (omega arith) d ∙ always (is_set listed i)
              ∙ ap (λ (t : Bool). is_set listed i && not t) (sym (ne_eqb i x d))
        ]
