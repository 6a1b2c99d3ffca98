-- `check_counts::late_kind` meets its contract: no block below 8 k is named where no object starts, and `off` says whether one has a count
-- that is damage.
use Rattle.std.proofs.Common.{◌≡◌, ◌*◌}
use Rattle.rules.specs.Tools.{some_below}
use Rattle.rules.proofs.Searches.{Searched}
use Rattle.check_counts.specs.Late.{stray_tally, off_tally}
use Rattle.check_counts.proofs.late_kind.Given as goal

abbrev pub invariant-loop-k : goal.invariant-loop-k
invariant-loop-k l =
    Searched (stray_tally l.blocks l.a l.b l.at) l.blocks (8 * l.k) × (l.off ≡ some_below (off_tally l.blocks l.width l.a l.b l.counts l.at) (8 * l.k))
