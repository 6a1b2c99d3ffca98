use mathlib.Core.Path.{ap, ◌∙◌}
use Prim.Native.Nat.{ℕ}
use lib.ListN.{replicate}
use Rattle.step_list.proofs.Rising.{written_start, written_length, written_all}
use native.Mathlib.Omega.{arith}
use Rattle.step_list.proofs.write_list.Goals as goal

pub loop-j-init : goal.loop-j-init
loop-j-init c =
    let w = written_start (c.clear_all.ensures ∙ ap (λ (k : ℕ). replicate k 0) c.requires.3) in
    (w, written_length w)

pub loop-j-preserved : goal.loop-j-preserved
loop-j-preserved c = (c.write_byte-place.ensures, written_length c.write_byte-place.ensures)

pub returns : goal.returns
returns c = written_all c.loop-j.invariant.0 (omega arith)
