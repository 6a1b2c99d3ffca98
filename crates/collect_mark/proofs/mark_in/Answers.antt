-- `collect_mark::mark_in` meets its contract: the roots visited with no count and an empty stack, a scan of what that put onto it, and the
-- count maps of the counts that it leaves.
use mathlib.Core.Path.{◌∙◌}
use native.Mathlib.Omega.{arith}
use Rattle.count_up.specs.Stack.{top_first}
use Rattle.collect_counts.proofs.Counts.{maps_none}
use Rattle.collect_visit.proofs.Visits.{visited_counted}
use Rattle.collect_mark.proofs.Scans.{counted_none, mark_parts}
use Rattle.collect_mark.proofs.mark_in.Goals as goal

pub visit_each-top-requires : goal.visit_each-top-requires
visit_each-top-requires c =
    (counted_none _ c.requires.0 c.requires.1 c.requires.2, omega arith)

pub scan_all-requires : goal.scan_all-requires
scan_all-requires c =
    (visited_counted c.visit_each-top.ensures, c.requires.0.b_length, c.requires.0.cells_length, c.requires.0.d_length)

pub write_counts-requires : goal.write_counts-requires
write_counts-requires c =
    (c.requires.0.planes, c.scan_all.ensures.2)

pub returns : goal.returns
unfolding top_first
returns c =
    (c.write_counts.ensures ∙ c.scan_all.ensures.0 ∙ mark_parts _ _ _ (maps_none _ _ _ c.requires.2) c.visit_each-top.ensures.worked.result, c.scan_all.ensures.1)
