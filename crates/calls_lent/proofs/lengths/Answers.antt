-- The lengths of a heap that is not too large are within the largest, and so is none.
use native.Mathlib.Omega.{arith}
use Rattle.calls_lent.proofs.Bounds.{product, within_heap, within_none}
use Rattle.calls_lent.proofs.lengths.Goals as goal

pub returns-then-is_too_large : goal.returns-then-is_too_large
returns-then-is_too_large c = within_none 10

pub section_count-requires : goal.section_count-requires
section_count-requires c =
    let fits = c.is_too_large.ensures c.if-is_too_large.false in
    fits.0

pub overflow_mul-result : goal.overflow_mul-result
overflow_mul-result c =
    let fits = c.is_too_large.ensures c.if-is_too_large.false in
    let p = product _ _ fits.1 fits.0 in
    omega (arith, p)

pub overflow_mul-result-else-is_too_large : goal.overflow_mul-result-else-is_too_large
overflow_mul-result-else-is_too_large c =
    let fits = c.is_too_large.ensures c.if-is_too_large.false in
    omega (arith, fits.0)

pub overflow_add-result : goal.overflow_add-result
overflow_add-result c =
    let fits = c.is_too_large.ensures c.if-is_too_large.false in
    omega (arith, fits.0)

pub returns-else-is_too_large : goal.returns-else-is_too_large
returns-else-is_too_large c =
    let fits = c.is_too_large.ensures c.if-is_too_large.false in
    within_heap _ _ _ _ fits.0 fits.1 fits.2 c.section_count.ensures
