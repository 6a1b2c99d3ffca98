-- What is handed on of all pieces is the whole input widened.
use mathlib.Core.Path.{refl, sym, ap, ◌∙◌}
use mathlib.Core.List.{List, [], ◌∷◌, ◌++◌, map, append_assoc}
use native.Mathlib.Omega.{arith}
use Prim.Native.Nat.{ℕ}
use Rattle.history_widening.specs.Widening.{widened}
use Rattle.history_widening.proofs.Pieces.{pieces_widened}
use Rattle.widen.specs.Meaning.{in_a_row, AreFull, WholeIsWidened, WidenTheory}

whole_is_widened : WholeIsWidened
unfolding in_a_row AreFull
whole_is_widened [] last full = refl
whole_is_widened (piece ∷ pieces) last full =
    append_assoc (widened piece) (in_a_row (map widened pieces)) (widened last)
    ∙ ap (λ (l : List ℕ). widened piece ++ l) (whole_is_widened pieces last full.1)
    ∙ sym (pieces_widened piece (in_a_row pieces ++ last) (omega (arith, full.0)))
    ∙ ap widened (sym (append_assoc piece (in_a_row pieces) last))

pub widen_theory : WidenTheory
widen_theory = record { whole_is_widened = whole_is_widened }
