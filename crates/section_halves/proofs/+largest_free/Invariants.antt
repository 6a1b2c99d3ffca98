-- The proof of the cycle of calls {largest_free}. The measure is the number of blocks, which halves.
use Rattle.section_halves.proofs.+largest_free.Given as goal

abbrev pub decreases-largest_free : goal.decreases-largest_free
decreases-largest_free l = l.size
