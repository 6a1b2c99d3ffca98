-- `walk_reader::put_links` meets its contract: the cells so far are those of the links that were read.
use mathlib.Core.Path.{◌≡◌}
use lib.ListN.{length, take}
use Rattle.walk_reader.specs.Reader.{links_in, links_found}
use Rattle.walk_reader.proofs.Links.{Standing}
use Rattle.walk_reader.proofs.put_links.Given as goal

abbrev pub invariant-loop-cell : goal.invariant-loop-cell
invariant-loop-cell l =
    Standing (links_found (links_in l.text)) l.rest l.cell-index
    × (take l.cell-index l.cells ≡ take l.cell-index (links_found (links_in l.text))) × (length l.cells ≡ length l.initial.cells)
