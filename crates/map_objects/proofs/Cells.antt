-- Laws of a run of cells made 0, `clear_cells`.
use mathlib.Core.Path.{◌≡◌, refl, sym, ap, ◌∙◌}
use mathlib.Core.Logic.{◌⊎◌, inl, inr, ⊎_elim}
use mathlib.Core.List.{List}
use Prim.Native.Nat.{ℕ, zero, suc, ◌+◌, ◌-◌, ◌≤◌, ◌<◌}
use native.Mathlib.Numerals.{add-one}
use native.Mathlib.Omega.{arith}
use lib.ListN.{length, get_or, set, length-set}
use lib.Seq.{get_or-set_other}
use Rattle.rules_stores.specs.Store.{clear_cells}

-- one cell more
pub clear_more : (cells : List ℕ) (j n : ℕ) → set (clear_cells cells j n) (j + n) 0 ≡ clear_cells cells j (n + 1)
unfolding clear_cells
clear_more cells j n = sym (ap (λ (k : ℕ). clear_cells cells j k) (add-one n))

pub length_clear : (cells : List ℕ) (j n : ℕ) → length (clear_cells cells j n) ≡ length cells
unfolding clear_cells
length_clear cells j zero = refl
length_clear cells j (suc n) = length-set (clear_cells cells j n) (j + n) 0 ∙ length_clear cells j n

-- every cell outside of the run is as it was
pub clear_out : (cells : List ℕ) (j n k : ℕ) → (k < j) ⊎ (j + n ≤ k) → get_or (clear_cells cells j n) k 0 ≡ get_or cells k 0
unfolding clear_cells
clear_out cells j zero k o = refl
clear_out cells j (suc n) k o =
    get_or-set_other (clear_cells cells j n) (j + n) k 0 0 (⊎_elim (λ l e. omega arith) (λ l e. omega arith) o)
    ∙ clear_out cells j n k (⊎_elim (λ l. inl l) (λ l. inr (omega arith)) o)

-- two runs that follow one another
pub clear_join : (cells : List ℕ) (j m k : ℕ) → clear_cells (clear_cells cells j m) (j + m) k ≡ clear_cells cells j (m + k)
unfolding clear_cells
clear_join cells j m zero = let none : m ≡ m + 0 = omega arith in ap (clear_cells cells j) none
clear_join cells j m (suc k) =
    let place : (j + m) + k ≡ j + (m + k) = omega arith in
    let more : suc (m + k) ≡ m + suc k = omega arith in
    ap (λ (l : List ℕ). set l ((j + m) + k) 0) (clear_join cells j m k)
    ∙ ap (λ (p : ℕ). set (clear_cells cells j (m + k)) p 0) place
    ∙ ap (clear_cells cells j) more

-- the run of m cells is cleared, and then what is left of n behind it
pub clear_rest :
    (cells : List ℕ) (j m n : ℕ) {front all : List ℕ} → m ≤ n → front ≡ clear_cells cells j m → all ≡ clear_cells front (j + m) (n - m)
    → all ≡ clear_cells cells j n
clear_rest cells j m n l first rest =
    let whole : m + (n - m) ≡ n = omega arith in
    rest ∙ ap (λ (x : List ℕ). clear_cells x (j + m) (n - m)) first ∙ clear_join cells j m (n - m) ∙ ap (clear_cells cells j) whole
