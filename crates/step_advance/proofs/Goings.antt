-- The steps as their loop goes: what is left of them.
use mathlib.Core.Path.{◌≡◌, refl, sym, ap, ap₂, ◌∙◌}
use mathlib.Core.Bool.{Bool, true, false, not, ◌&&◌, ◌||◌}
use mathlib.Core.List.{List}
use mathlib.Core.Option.{none, some}
use Prim.Native.Nat.{ℕ, zero, suc, ◌+◌, ◌-◌, ◌≤◌, ◌<◌}
use native.Mathlib.Omega.{arith}
use lib.Dec.{eqb}
use Rattle.rules.specs.Tools.{tabulate}
use Rattle.rules.proofs.Tabulate.{get_d_tabulate}
use Rattle.step_list.specs.Lists.{is_set, NoBit, LowestBit}
use Rattle.rules_steps.specs.Steps.{Progress, progress, lowest, StepsTaken, taken}
use Rattle.step_advance.specs.Steps.{progress_in, scanned_by, steps_by, Stepped, Went}

-- ---- lists by number

pub tabulate_same : {A : Type 0} (n : ℕ) (f g : ℕ → A) → ((i : ℕ) → i < n → f i ≡ g i) → tabulate n f ≡ tabulate n g
unfolding tabulate
tabulate_same zero f g h = refl
tabulate_same (suc n) f g h =
    cc (h 0 (omega arith), tabulate_same n (λ i. f (suc i)) (λ i. g (suc i)) (λ i l. h (suc i) (omega arith)))

pub lowest_at : (n : ℕ) (f : ℕ → Bool) (i x : ℕ) → x < n → f x ≡ true → ((j : ℕ) → j < x → f j ≡ false)
    → lowest (tabulate n f) i ≡ some (i + x)
unfolding lowest tabulate
lowest_at zero f i x l e h = absurd (omega arith)
lowest_at (suc n) f i zero l e h = rw e (ap some (omega arith))
lowest_at (suc n) f i (suc x) l e h =
    rw (h 0 (omega arith))
    (lowest_at n (λ k. f (suc k)) (i + 1) x (omega arith) e (λ j u. h (suc j) (omega arith)) ∙ ap some (omega arith))

pub lowest_none : (n : ℕ) (f : ℕ → Bool) (i : ℕ) → ((j : ℕ) → j < n → f j ≡ false) → lowest (tabulate n f) i ≡ none
unfolding lowest tabulate
lowest_none zero f i h = refl
lowest_none (suc n) f i h = rw (h 0 (omega arith)) (lowest_none n (λ k. f (suc k)) (i + 1) (λ j u. h (suc j) (omega arith)))

-- ---- steps

module _ (N : ℕ) (names : ℕ → ℕ → Bool) where
  steps_none : (k : ℕ) (p : Progress) → lowest p.list 0 ≡ none → steps_by k N names p ≡ taken 0 p
  unfolding steps_by
  steps_none zero p e = refl
  steps_none (suc k) p e = rw (e, steps_by)

  steps_next : (k : ℕ) (p : Progress) (x : ℕ) → 0 < k → lowest p.list 0 ≡ some x
      → steps_by k N names p
      ≡ taken (suc (steps_by (k - 1) N names (scanned_by N names p x)).steps) (steps_by (k - 1) N names (scanned_by N names p x)).reached
  unfolding steps_by
  steps_next k p x l e = ap (λ (m : ℕ). steps_by m N names p) one_more ∙ rw (e, steps_by)
    where
      one_more : k ≡ suc (k - 1)
      one_more = omega arith

  -- what a step leaves, as the definition has it
  scanned_is : {marks listed marks' listed' : List ℕ} {x : ℕ} → Stepped N (names x) x marks listed marks' listed'
      → progress_in N marks' listed' ≡ scanned_by N names (progress_in N marks listed) x
  unfolding progress_in scanned_by
  scanned_is {marks} {listed} {marks'} {listed'} {x} s =
      ap₂ progress
      (tabulate_same N (is_set marks') _
      (λ i l. s.marks_are i l ∙ ap (λ (t : Bool). t || names x i) (sym (get_d_tabulate false N (is_set marks) i l))))
      (tabulate_same N (is_set listed') _
      (λ i l.
      s.listed_are i l
      ∙ ap₂ (λ (t u : Bool). (t && not (eqb i x)) || (names x i && not u)) (sym (get_d_tabulate false N (is_set listed) i l))
      (sym (get_d_tabulate false N (is_set marks) i l))))

-- `made` steps are made, and what is left of the budget leads to the whole
pub record Going (N : ℕ) (names : ℕ → ℕ → Bool) (budget : ℕ) (whole : StepsTaken) (made : ℕ) (marks listed : List ℕ) : Type 0 where
  pub within : made ≤ budget
  pub steps_are : whole.steps ≡ made + (steps_by (budget - made) N names (progress_in N marks listed)).steps
  pub reached_is : whole.reached ≡ (steps_by (budget - made) N names (progress_in N marks listed)).reached

module _ {N : ℕ} {names : ℕ → ℕ → Bool} {budget : ℕ} where
  pub going_start : {marks listed : List ℕ} → Going N names budget (steps_by budget N names (progress_in N marks listed)) 0 marks listed
  going_start {marks} {listed} =
      let same : budget ≡ budget - 0 = omega arith in
      let whole = ap (λ (k : ℕ). steps_by k N names (progress_in N marks listed)) same in
      record {
        within = omega arith;
        steps_are = omega (arith, ap (λ (t : StepsTaken). t.steps) whole);
        reached_is = ap (λ (t : StepsTaken). t.reached) whole;
      }

  module _ {whole : StepsTaken} {made : ℕ} {marks listed : List ℕ} (g : Going N names budget whole made marks listed) where
    pub going_next : made < budget → {x : ℕ} → LowestBit listed 0 N x → {marks' listed' : List ℕ}
        → Stepped N (names x) x marks listed marks' listed' → Going N names budget whole (made + 1) marks' listed'
    unfolding progress_in
    going_next room {x} n {marks'} {listed'} s =
        let found : lowest (tabulate N (is_set listed)) 0 ≡ some x =
        lowest_at N (is_set listed) 0 x n.below n.found (λ i u. n.clear i (omega arith) u) ∙ ap some (omega arith) in
        let p : Progress = progress_in N marks listed in
        let rest : ℕ = budget - (made + 1) in
        let less : budget - made - 1 ≡ rest = omega arith in
        let next : StepsTaken = steps_by rest N names (progress_in N marks' listed') in
        let made_is : steps_by (budget - made) N names p ≡ taken (suc next.steps) next.reached =
        steps_next N names (budget - made) p x (omega arith) found
        ∙ ap (λ (t : StepsTaken). taken (suc t.steps) t.reached)
        (ap₂ (λ (k : ℕ) (q : Progress). steps_by k N names q) less (sym (scanned_is N names s))) in
        record {
          within = omega arith;
          steps_are = omega (arith, g.steps_are, ap (λ (t : StepsTaken). t.steps) made_is);
          reached_is = g.reached_is ∙ ap (λ (t : StepsTaken). t.reached) made_is;
        }

    -- none is listed any more
    pub going_empty : NoBit listed 0 N → Went N whole made marks listed
    unfolding progress_in
    going_empty n =
        let gone : lowest (tabulate N (is_set listed)) 0 ≡ none = lowest_none N (is_set listed) 0 (λ i u. n.clear i (omega arith) u) in
        let ended = steps_none N names (budget - made) (progress_in N marks listed) gone in
        record {
          steps_are = omega (arith, g.steps_are, ap (λ (t : StepsTaken). t.steps) ended);
          reached_is = sym (g.reached_is ∙ ap (λ (t : StepsTaken). t.reached) ended);
        }

    -- the budget is spent
    pub going_spent : budget ≤ made → Went N whole budget marks listed
    unfolding steps_by
    going_spent l =
        let end : budget - made ≡ 0 = omega (arith, g.within) in
        let ended = ap (λ (k : ℕ). steps_by k N names (progress_in N marks listed)) end in
        record {
          steps_are = omega (arith, g.steps_are, ap (λ (t : StepsTaken). t.steps) ended);
          reached_is = sym (g.reached_is ∙ ap (λ (t : StepsTaken). t.reached) ended);
        }
