-- `collect_visit::visit_one` meets its contract: each return is a law of `visit`.
use mathlib.Core.Path.{refl}
use native.Mathlib.Omega.{arith}
use Rattle.collect_visit.proofs.Visits.{to_none, to_past, to_room, to_first, to_again, to_stuck}
use Rattle.collect_visit.proofs.visit_one.Goals.{then-v-eq0-via-then-v-eq0, then-v-eq0-via-else-v-eq0+then-blocks-v}
use Rattle.collect_visit.proofs.visit_one.Goals as goal

pub returns-then-v-eq0 : goal.returns-then-v-eq0
returns-then-v-eq0 c = elim c.then-v-eq0.branch [
  | then-v-eq0-via-then-v-eq0 w ↦ to_none c.requires w.if-v-eq0.true
  | then-v-eq0-via-else-v-eq0+then-blocks-v w ↦ to_past c.requires w.if-v-eq0.false w.if-blocks-v.true
]

pub bounds-waiting-top : goal.bounds-waiting-top
bounds-waiting-top c =
    omega (arith, to_room c.requires (omega arith) (λ z. omega arith) refl c.if-count-eq0.true, c.requires.stack.length_is)

pub returns-then-count-eq0 : goal.returns-then-count-eq0
returns-then-count-eq0 c =
    to_first c.requires (omega arith) (λ z. omega arith) refl c.if-count-eq0.true

pub returns-then-count-capacity_of : goal.returns-then-count-capacity_of
returns-then-count-capacity_of c =
    to_again c.requires (omega arith) (λ z. omega arith) refl (λ z. omega arith) c.capacity_of.ensures.0 c.if-count-capacity_of.true

pub returns-else-count-capacity_of : goal.returns-else-count-capacity_of
returns-else-count-capacity_of c =
    to_stuck c.requires (omega arith) (λ z. omega arith) refl (λ z. omega arith) c.capacity_of.ensures.0 c.if-count-capacity_of.false
