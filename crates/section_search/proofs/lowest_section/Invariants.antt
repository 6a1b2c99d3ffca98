-- `lowest_section` meets its contract: no section before number s suffices, in the walk by groups, nor one before number t. The measure
-- is what is left of the list.
use mathlib.Core.Path.{◌≡◌}
use Prim.Native.Nat.{◌-◌, ◌≤◌}
use lib.ListN.{length}
use Rattle.rules.specs.Sections.{suffices_from}
use Rattle.section_search.proofs.lowest_section.Given as goal

abbrev pub invariant-loop-s : goal.invariant-loop-s
invariant-loop-s l =
    (l.s ≤ length l.sections) × (suffices_from (length l.sections - l.s) l.sections l.size l.s ≡ suffices_from (length l.sections) l.sections l.size 0)

abbrev pub decreases-loop-s : goal.decreases-loop-s
decreases-loop-s l = length l.sections - l.s

abbrev pub invariant-loop-t : goal.invariant-loop-t
invariant-loop-t l = suffices_from (length l.sections - l.t) l.sections l.size l.t ≡ suffices_from (length l.sections) l.sections l.size 0
