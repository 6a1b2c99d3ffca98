-- Chains of iterators as searches by `some_below`: `any` over a range, over a slice and over a part of one; a search by eights; the
-- items at a slice's front.
use mathlib.Core.Path.{◌≡◌, refl, sym, ap, ◌∙◌}
use mathlib.Core.Logic.{◌⊎◌, inl, inr}
use mathlib.Core.Bool.{Bool, true, false}
use mathlib.Core.List.{List, [], ◌∷◌}
use Prim.Native.Nat.{ℕ, zero, suc, ◌+◌, ◌-◌, ◌*◌, ◌/◌, ◌%◌, ◌≤◌, ◌<◌}
use native.Mathlib.Omega.{arith}
use denote.Ref.{Bor}
use lib.ListN.{length, get_or, take, drop}
use denote.Param.Members.{Mut}
use Rattle.std.proofs.Common.{Option}
use Rattle.std.proofs.iter.Yields.{fronts, nat_range_steps}
use Rattle.std.proofs.lemmas.Iterator.{YieldsList-from_slice, YieldsList-from_range}
use Rattle.std.proofs.lemmas.Iterator.Search.{any_from_yields_List}
use Rattle.std.proofs.lemmas.List.{length-take, length-drop, get_or-take, get_or-drop}
use Rattle.std.specs.Slice.Iter.{iter_rest}
use Rattle.std.specs.declared.slice.Iter.{Iter}
use Rattle.std.specs.declared.ops.Range.{Range}
use Rattle.std.specs.Fn.{Called}
use Rattle.std.specs.Iterator.{YieldsThen}
use Rattle.std.specs.List.{range_with_len, list_any, FoldsTo}
use Rattle.std.specs.Option.{MatchOption}
use Rattle.rules.specs.Tools.{some_below}
use Rattle.rules.proofs.Tests.{some_true, true_some, some_false, false_some, some_next, test_cases_lem}
use Rattle.rules.proofs.Stretches.{eight_hit, some_further}

-- the numbers from m on, where the test passes at none before
numbers_from : (test : ℕ → Bool) (m n : ℕ) → some_below test m ≡ false → list_any test (range_with_len m n) ≡ some_below test (m + n)
numbers_from test m zero none = let end : m + 0 ≡ m = omega arith in sym (ap (some_below test) end ∙ none)
numbers_from test m (suc n) none =
    let step : m + 1 + n ≡ m + suc n = omega arith in
    let here : (t : Bool) → test m ≡ t → list_any test (range_with_len m (suc n)) ≡ some_below test (m + suc n) =
    λ t. elim t as (λ (t : Bool). test m ≡ t → list_any test (range_with_len m (suc n)) ≡ some_below test (m + suc n)) [
      | true ↦ λ e. rw e (sym (true_some test (m + suc n) m (omega arith) e))
      | false ↦ λ e. rw e (numbers_from test (m + 1) n (some_next test m none ∙ e) ∙ ap (some_below test) step)
    ] in
    here (test m) refl

pub any_range :
    {F : Type 0} {g : Mut F (ℕ × Unit {0}) Bool} (test : ℕ → Bool) (m n : ℕ) (u : Range ℕ) (f : F) (r : Bool)
    → ((xs : List ℕ) × (o : Option ℕ) × (j : F) × YieldsThen nat_range_steps (record { start = m; end = n }) xs o u
    × FoldsTo (λ p x q. Called g p (x, tt) false q) f xs j × MatchOption o (r ≡ false) (λ x. (r ≡ true) × ((h : F) × Called g j (x, tt) true h)))
    → ((x : ℕ) (b : Bool) (q : F) → Called g f (x, tt) b q → (q ≡ f) × (b ≡ test x)) → m ≤ n → some_below test m ≡ false
    → r ≡ some_below test n
any_range test m n u f r ran call l none =
    let whole : m + (n - m) ≡ n = omega arith in
    any_from_yields_List test u f r ran (YieldsList-from_range m n (n - m) refl refl) call
    ∙ numbers_from test m (n - m) none
    ∙ ap (some_below test) whole

-- what is found below m is found below n
pub found_further : (test : ℕ → Bool) (m n : ℕ) (r : Bool) → m ≤ n → r ≡ some_below test m → r ≡ true → r ≡ some_below test n
found_further test m n r l e found = found ∙ sym (some_further test m n l (sym e ∙ found))

-- the items of a slice
pub items : (test : ℕ → Bool) (l : List ℕ) → list_any test l ≡ some_below (λ k. test (get_or l k 0)) (length l)
unfolding some_below
items test [] = refl
items test (v ∷ l) =
    let here : (t : Bool) → test v ≡ t → list_any test (v ∷ l) ≡ some_below (λ k. test (get_or (v ∷ l) k 0)) (length (v ∷ l)) =
    λ t. elim t as (λ (t : Bool). test v ≡ t → list_any test (v ∷ l) ≡ some_below (λ k. test (get_or (v ∷ l) k 0)) (length (v ∷ l))) [
      | true ↦ λ e. rw e (sym (true_some (λ k. test (get_or (v ∷ l) k 0)) (length (v ∷ l)) 0 (omega arith) e))
      | false ↦ λ e. rw e (items test l ∙ behind e (test_cases_lem (some_below (λ k. test (get_or l k 0)) (length l))))
    ] in
    here (test v) refl
  where
    behind : test v ≡ false
        → (some_below (λ k. test (get_or l k 0)) (length l) ≡ true) ⊎ (some_below (λ k. test (get_or l k 0)) (length l) ≡ false)
        → some_below (λ k. test (get_or l k 0)) (length l) ≡ some_below (λ k. test (get_or (v ∷ l) k 0)) (length (v ∷ l))
    behind e (inl p) =
        let found = some_true (λ k. test (get_or l k 0)) (length l) p in
        p ∙ sym (true_some (λ k. test (get_or (v ∷ l) k 0)) (length (v ∷ l)) (suc found.0) (omega (arith, found.1)) found.2)
    behind e (inr p) =
        p ∙ sym (false_some (λ k. test (get_or (v ∷ l) k 0)) (length (v ∷ l)) (each e p))
      where
        each : test v ≡ false → some_below (λ k. test (get_or l k 0)) (length l) ≡ false
            → (i : ℕ) → i < length (v ∷ l) → test (get_or (v ∷ l) i 0) ≡ false
        each e p zero u = e
        each e p (suc i) u = some_false (λ k. test (get_or l k 0)) (length l) p i (omega arith)

pub any_items :
    {F : Type 0} {g : Mut F (Bor ℕ × Unit {0}) Bool} {s : Iter ℕ} (test : ℕ → Bool) (l : List ℕ) (u : Iter ℕ) (f : F) (r : Bool)
    → ((xs : List (Bor ℕ)) × (o : Option (Bor ℕ)) × (j : F) × YieldsThen fronts s xs o u
    × FoldsTo (λ p x q. Called g p (x, tt) false q) f xs j × MatchOption o (r ≡ false) (λ x. (r ≡ true) × ((h : F) × Called g j (x, tt) true h)))
    → iter_rest s ≡ l → ((x : Bor ℕ) (b : Bool) (q : F) → Called g f (x, tt) b q → (q ≡ f) × (b ≡ test x.now))
    → r ≡ some_below (λ k. test (get_or l k 0)) (length l)
any_items test l u f r ran rest call = any_from_yields_List test u f r ran (YieldsList-from_slice l rest) call ∙ items test l

-- equal tests find the same
pub some_same : (test other : ℕ → Bool) (n : ℕ) → ((i : ℕ) → i < n → test i ≡ other i) → some_below test n ≡ some_below other n
some_same test other n same = elim (test_cases_lem (some_below other n)) [
  | inl e ↦ let found = some_true other n e in true_some test n found.0 found.1 (same found.0 found.1 ∙ found.2) ∙ sym e
  | inr e ↦ false_some test n (λ i l. same i l ∙ some_false other n e i l) ∙ sym e
]

-- eight numbers at a time
pub by_eights : (test : ℕ → Bool) (n : ℕ) → some_below (λ k. some_below (λ s. test (8 * k + s)) 8) n ≡ some_below test (8 * n)
by_eights test n = elim (test_cases_lem (some_below (λ k. some_below (λ s. test (8 * k + s)) 8) n)) [
  | inl e ↦
      let found = some_true (λ k. some_below (λ s. test (8 * k + s)) 8) n e in
      e
      ∙ sym
      (some_further test (8 * (found.0 + 1)) (8 * n) (omega (arith, found.1))
      (eight_hit test (λ s. test (8 * found.0 + s)) found.0 (λ s l. refl) found.2))
  | inr e ↦
      e
      ∙ sym
      (false_some test (8 * n) (λ i l.
      let at : i ≡ 8 * (i / 8) + i % 8 = omega arith in
      ap test at
      ∙ some_false (λ s. test (8 * (i / 8) + s)) 8 (some_false (λ k. some_below (λ s. test (8 * k + s)) 8) n e (i / 8) (omega arith)) (i % 8) (omega arith)))
]

-- a search over a part of a list
pub part_items : (test : ℕ → Bool) (l : List ℕ) (from to : ℕ) → to ≤ length l
    → let part = take (to - from) (drop from l) in
    some_below (λ k. test (get_or part k 0)) (length part) ≡ some_below (λ k. test (get_or l (from + k) 0)) (to - from)
part_items test l from to within =
    let part = take (to - from) (drop from l) in
    let all : length part ≡ to - from = omega (arith, length-take (to - from) (drop from l), length-drop from l) in
    ap (some_below (λ k. test (get_or part k 0))) all
    ∙ some_same _ _ (to - from) (λ k u. ap test (get_or-take (to - from) (drop from l) k 0 u ∙ get_or-drop from l k 0))

-- an item of the first n of a list is the list's own
pub front_item : (n : ℕ) (l : List ℕ) (j x : ℕ) → j < length (take (n - 0) l) → x ≡ get_or (take (n - 0) l) j 0 → (j < n) × (x ≡ get_or l j 0)
front_item n l j x h e =
    let all : n - 0 ≡ n = omega arith in
    let inside : j < n = omega (arith, length-take (n - 0) l) in
    (inside, e ∙ ap (λ (m : ℕ). get_or (take m l) j 0) all ∙ get_or-take n l j 0 inside)
