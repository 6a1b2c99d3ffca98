-- Lines put together of what was written, one piece behind the other.
use mathlib.Core.Path.{◌≡◌, sym, ap, ◌∙◌}
use mathlib.Core.List.{List, ◌++◌}
use Prim.Native.Nat.{ℕ, ◌≤◌}
use native.Mathlib.Omega.{arith}
use lib.ListN.{length, drop}
use borrow.Author.Tests.{eq-eqb, ne_eqb}
use Rattle.text.specs.Text.{Put}
use Rattle.text.proofs.Writing.{put_both}
use Rattle.history_figures.specs.declared.tally.Run.{Run}
use Rattle.history_line.specs.Line.{figures_line, refusal_line, line}

-- a piece more, behind what stands at the start of the buffer
pub put_next :
    {before middle after s t : List ℕ} {next end : ℕ} → Put before 0 s middle next → next ≤ length before → Put middle next t after end
    → Put before 0 (s ++ t) after end
put_next first room second = put_both (omega (arith, first.end_is)) first second

-- a text at the start of the buffer
line_written :
    {before text after : List ℕ} {end : ℕ} (wanted : List ℕ) → text ≡ wanted → Put before 0 text after end
    → (end ≡ length wanted) × (after ≡ wanted ++ drop end before)
line_written {before} {text} {after} {end} wanted same put =
    let long : end ≡ length text = omega (arith, put.end_is) in (
      long ∙ ap length same,
      put.written
          ∙ ap (λ (n : ℕ). text ++ drop n before) (sym put.end_is)
          ∙ ap (λ (t : List ℕ). t ++ drop end before) same,
    )

module _ (r : Run) {before after : List ℕ} {end : ℕ} where
  pub figures_written :
      r.number ≡ 0 → Put before 0 (figures_line r.tally) after end → (end ≡ length (line r)) × (after ≡ line r ++ drop end before)
  unfolding line
  figures_written e put = line_written (line r) (sym (rw (eq-eqb r.number 0 e, line))) put

  pub refusal_written :
      (r.number ≡ 0 → ⊥) → Put before 0 (refusal_line r.number r.records) after end
      → (end ≡ length (line r)) × (after ≡ line r ++ drop end before)
  unfolding line
  refusal_written stopped put = line_written (line r) (sym (rw (ne_eqb r.number 0 stopped, line))) put
