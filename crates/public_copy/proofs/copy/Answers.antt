-- `copy` meets its contract: a refusal of the tests, or the work; and what is promised of the second heap is promised of both.
use mathlib.Core.Path.{refl}
use Rattle.types.proofs.Refused.{number_ne0}
use Rattle.rules.specs.Heap.{lent_memory}
use Rattle.rules_calls.proofs.Promised.{copy_promised}
use Rattle.public_copy.proofs.copy.Goals as goal

pub returns-in-Err : goal.returns-in-Err
returns-in-Err c =
    let x = c.args in
    let second =
    lent_memory x.a2.now x.b2.now x.counts2.now x.cells2.now x.roots2.now x.waiting2.now x.sections2.now x.d2.now x.marks2.now x.list2.now in
    rw c.into.ensures (copy_promised _ _ _ _ _ _ _ _ (c.in-Err.ensures.refused (number_ne0 _) second refl refl))

pub copy-requires : goal.copy-requires
copy-requires c =
    (c.in_default.ensures.fit refl, c.in_default.ensures.shut refl, c.in_default.ensures.fits refl, c.in_default.ensures.as_many refl)

pub returns : goal.returns
returns c =
    copy_promised _ _ _ _ _ _ _ _ c.copy.ensures
