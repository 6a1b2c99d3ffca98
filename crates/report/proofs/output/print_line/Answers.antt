-- The line is no longer than the buffer, and it is what the buffer starts with.
use mathlib.Core.Path.{◌≡◌, sym, ap, ◌∙◌}
use mathlib.Core.List.{List, ◌++◌}
use Prim.Native.Nat.{ℕ}
use native.Mathlib.Omega.{arith}
use lib.ListN.{length, take, length-append}
use lib.Seq.{length-take-le, take_at}
use Rattle.history_line.specs.Line.{line}
use Rattle.report.proofs.output.print_line.Goals as goal

starts_with : {n : ℕ} {out : List ℕ} (text rest : List ℕ) → n ≡ length text → out ≡ text ++ rest → take n out ≡ text
starts_with {n} text rest long is = ap (take n) is ∙ take_at text rest n (sym long)

pub slice_bounds-out-end : goal.slice_bounds-out-end
slice_bounds-out-end g c = omega (arith, simp length-append at (ap length c.write_line-n.ensures.1))

pub slice_bounds-print-end : goal.slice_bounds-print-end
slice_bounds-print-end g c =
    sym (length-take-le _ _ (omega (arith, simp length-append at (ap length c.write_line-n.ensures.1))))

pub print-requires : goal.print-requires
print-requires g c =
    (c.requires.0, c.requires.1, starts_with _ _ c.write_line-n.ensures.0 c.write_line-n.ensures.1 ∙ ap line c.requires.2)
