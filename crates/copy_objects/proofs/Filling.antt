-- Places filled in turn, and what the copy holds for a reference.
use mathlib.Core.Path.{◌≡◌, refl, sym, ap, ap₂, ◌∙◌}
use mathlib.Core.Logic.{◌≢◌}
use mathlib.Core.List.{List}
use Prim.Native.Nat.{ℕ, zero, suc, ◌+◌, ◌-◌, ◌≤◌, ◌<◌}
use native.Mathlib.Numerals.{add-one}
use native.Mathlib.Omega.{arith}
use lib.ListN.{length, get_or, set}
use lib.Seq.{paste, paste-zero, paste-suc}
use borrow.Rule.Slice.PartMut.{put_mid}
use Rattle.std.proofs.Common.{rules, slice_range}
use Rattle.std.proofs.slice.Indexed.{places}
use Rattle.std.proofs.lemmas.Slice.{put_mid-paste}
use Rattle.std.proofs.lemmas.List.Edits.{get_or-between}
use borrow.Author.Tests.{eq-eqb, ne_eqb}
use Rattle.rules_copy.specs.Copy.{fill_cells}
use Rattle.copy_objects.specs.Copying.{moved_to, moved_cells}

-- one more
pub fill_more : (f : ℕ → ℕ) (cells : List ℕ) (p : ℕ) {filled : List ℕ} {n x : ℕ} → filled ≡ fill_cells f cells p n → x ≡ f n
    → set filled (p + n) x ≡ fill_cells f cells p (n + 1)
unfolding fill_cells
fill_more f cells p {filled} {n} {x} so_far is =
    ap₂ (λ (l : List ℕ) (y : ℕ). set l (p + n) y) so_far is ∙ sym (ap (fill_cells f cells p) (add-one n))

-- only what is written matters
pub fill_same : (f g : ℕ → ℕ) (cells : List ℕ) (p n : ℕ) → ((j : ℕ) → j < n → f j ≡ g j) → fill_cells f cells p n ≡ fill_cells g cells p n
unfolding fill_cells
fill_same f g cells p zero e = refl
fill_same f g cells p (suc n) e =
    ap₂ (λ (l : List ℕ) (x : ℕ). set l (p + n) x) (fill_same f g cells p n (λ j l. e j (omega arith))) (e n (omega arith))

-- a part copied over, as places filled in turn
pasted : (cells : List ℕ) (p : ℕ) (part : List ℕ) (n : ℕ) → p + n ≤ length cells → n ≤ length part
    → paste cells p part n ≡ fill_cells (λ i. get_or part i 0) cells p n
unfolding fill_cells
pasted cells p part zero h l = sym (paste-zero cells p part)
pasted cells p part (suc n) h l =
    sym (paste-suc cells p part n 0 (omega arith) (omega arith))
    ∙ ap (λ (x : List ℕ). set x (p + n) (get_or part n 0)) (pasted cells p part n (omega arith) (omega arith))

pub part_copied : (cells : List ℕ) (j : ℕ) (cells2 : List ℕ) (p n : ℕ) → j + n ≤ length cells → p + n ≤ length cells2 → {part : List ℕ}
    → part ≡ slice_range cells j (j + n)
    → put_mid p (p + n - p) cells2 part ≡ fill_cells (λ i. get_or cells (j + i) 0) cells2 p n
part_copied cells j cells2 p n h l {part} e =
    let long : n ≡ length (slice_range cells j (j + n)) = search (rules, places) in
    put_mid-paste p (p + n - p) cells2 part (slice_range cells j (j + n)) n e (omega arith) long
    ∙ pasted cells2 p (slice_range cells j (j + n)) n l (omega (arith, long))
    ∙ fill_same _ _ cells2 p n (λ i u. get_or-between cells j (j + n) i 0 (omega arith))

-- ---- one reference

pub moved_nothing : (moved : List ℕ) (v : ℕ) → v ≡ 0 → 0 ≡ moved_to moved v
unfolding moved_to
moved_nothing moved v z = sym (rw (eq-eqb v 0 z, moved_to) refl)

pub moved_some : (moved : List ℕ) (v : ℕ) → v ≢ 0 → get_or moved (v - 1) 0 ≡ moved_to moved v
unfolding moved_to
moved_some moved v s = sym (rw (ne_eqb v 0 s, moved_to) refl)

-- ---- cells by the kind of the object

module _ (bit : ℕ) (moved cells : List ℕ) (j : ℕ) (cells2 : List ℕ) (p n : ℕ) {filled : List ℕ} where
  pub filled_data : bit ≡ 1 → filled ≡ fill_cells (λ i. get_or cells (j + i) 0) cells2 p n → filled ≡ fill_cells (moved_cells bit moved cells j) cells2 p n
  unfolding moved_cells
  filled_data e is = is ∙ fill_same (λ i. get_or cells (j + i) 0) (moved_cells bit moved cells j) cells2 p n (λ i l. sym (rw (eq-eqb bit 1 e, moved_cells) refl))

  pub filled_other :
      bit ≢ 1 → filled ≡ fill_cells (λ i. moved_to moved (get_or cells (j + i) 0)) cells2 p n → filled ≡ fill_cells (moved_cells bit moved cells j) cells2 p n
  unfolding moved_cells
  filled_other e is =
      is
      ∙ fill_same (λ i. moved_to moved (get_or cells (j + i) 0)) (moved_cells bit moved cells j) cells2 p n (λ i l. sym (rw (ne_eqb bit 1 e, moved_cells) refl))
