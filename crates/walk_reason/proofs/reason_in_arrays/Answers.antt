-- `walk_reason::reason_in_arrays` meets its contract.
use mathlib.Core.Path.{◌≡◌, refl, ap, ◌∙◌}
use Prim.Native.Nat.{◌≤◌}
use native.Mathlib.Omega.{arith}
use lib.ListN.{length, get_or}
use Rattle.rules_output.specs.Reason.{Reason}
use Rattle.rules_output.specs.Sentence.{sentence}
use Rattle.rules.specs.Heap.{max_blocks}
use Rattle.text.proofs.Writing.{put_as}
use Rattle.walk_objects.specs.Walking.{walked_heap}
use Rattle.walk_objects.proofs.Beginning.{trace_begins}
use Rattle.walk_reason.specs.Telling.{walked_reason}
use Rattle.walk_reason.proofs.Reasons.{Found, number_few, owners_below, found}
use Rattle.walk_reason.proofs.reason_in_arrays.Goals.{After-trace_all, After-links_to-count, After-sentence_length}
use Rattle.walk_reason.proofs.reason_in_arrays.Given as given
use Rattle.walk_reason.proofs.reason_in_arrays.Goals as goal

pub trace_all-requires : goal.trace_all-requires
trace_all-requires g c = (c.requires.0, trace_begins c.args.blocks g.row.PLACES c.requires.0.small c.requires.2)

-- the object's number, if it has one
few : (g : given.Over) (c : After-trace_all g)
    → (get_or c.trace_all.new.numbers c.args.at 0 ≤ c.trace_all.result) × (c.trace_all.result ≤ c.args.blocks) × (c.args.blocks ≤ max_blocks)
few g c = number_few c.args.blocks c.args.a.now c.args.b.now c.args.d.now c.args.cells.now c.args.roots.now c.requires.0.named _ _ _ _ _ c.args.at c.trace_all.ensures c.requires.1

pub links_to-count-requires : goal.links_to-count-requires
links_to-count-requires g c =
    let few = few g (goal.at.links_to-count-requires g c).After-trace_all in
    let t = c.trace_all.ensures.tracing in (
      omega (arith, few),
      omega (arith, few, t.long_owners),
      omega (arith, few, t.long_vias),
      omega (arith, few, t.walking.long_order),
      owners_below c.args.blocks c.args.a.now c.args.b.now c.args.d.now c.args.cells.now c.args.roots.now c.requires.0.named _ _ _ _ _ c.args.at c.trace_all.ensures c.requires.1,
    )

links : (g : given.Over) (c : After-links_to-count g)
    → Found c.args.blocks (walked_heap c.args.a.now c.args.b.now c.args.d.now c.args.cells.now c.args.roots.now) c.args.at c.links_to-count.new.links c.links_to-count.result
links g c =
    let few = few g (goal.at.After-links_to-count g c).After-trace_all in
    found c.args.blocks c.args.a.now c.args.b.now c.args.d.now c.args.cells.now c.args.roots.now c.requires.0.named _ _ _ _ _ c.args.at c.trace_all.ensures c.requires.1 _ _ (
      c.links_to-count.ensures.0,
      c.links_to-count.ensures.1,
      omega (arith, few, c.links_to-count.ensures.1, c.trace_all.ensures.tracing.walking.long_order, c.links_to-count.auto.links),
    )

pub shared_whole_as_front-links : goal.shared_whole_as_front-links
shared_whole_as_front-links g c =
    (omega (arith, few g (goal.at.shared_whole_as_front-links g c).After-trace_all, c.links_to-count.ensures.1), omega arith)

-- how long the sentence is
long : (g : given.Over) (c : After-sentence_length g)
    → c.sentence_length.result ≡ length (sentence (walked_reason c.args.blocks (walked_heap c.args.a.now c.args.b.now c.args.d.now c.args.cells.now c.args.roots.now) c.args.at) c.args.at)
long g c =
    c.sentence_length.ensures ∙ ap (λ (x : Reason). length (sentence x c.args.at)) (links g (goal.at.After-sentence_length g c).After-links_to-count).is

pub returns-then-out-sentence_length : goal.returns-then-out-sentence_length
returns-then-out-sentence_length g c = (omega (arith, long g (goal.at.returns-then-out-sentence_length g c).After-sentence_length), refl)

pub returns : goal.returns
returns g c = (
  omega (arith, long g (goal.at.returns g c).After-sentence_length),
  put_as (ap (λ (x : Reason). sentence x c.args.at) (links g (goal.at.returns g c).After-links_to-count).is) refl c.write_sentence.ensures,
)
