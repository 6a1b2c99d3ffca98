-- `test_heap` meets its contract: the shape is tested before the damage, that before the list of sections, and that before
-- marks and second list.
use mathlib.Core.Path.{refl, sym, ◌∙◌}
use Rattle.types.proofs.Refused.{kind_ne0}
use native.Mathlib.Omega.{arith}
use Rattle.rules.specs.Heap.{lent_memory}
use Rattle.rules.proofs.Shape.{shape_facts, shaped_blocks}
use Rattle.public_read.proofs.CheckReply.{check_unshaped, check_damaged, check_stale, check_untidy, check_passed}
use Rattle.public_read.proofs.test_heap.Goals as goal

pub returns-then-not-is_shaped : goal.returns-then-not-is_shaped
returns-then-not-is_shaped c = check_unshaped (sym c.is_shaped.ensures ∙ c.if-not-is_shaped.true)
    refl

pub damage_kind-requires : goal.damage_kind-requires
damage_kind-requires c = (
  c.args.waiting.now,
  c.args.sections.now,
  c.args.marks.now,
  c.args.list.now,
  sym c.is_shaped.ensures ∙ c.if-not-is_shaped.false,
)

pub returns-in-Some : goal.returns-in-Some
returns-in-Some c =
    check_damaged (sym c.is_shaped.ensures ∙ c.if-not-is_shaped.false)
    (c.in-Some.ensures c.args.waiting.now c.args.sections.now c.args.marks.now c.args.list.now) (kind_ne0 _)

pub is_stale-requires : goal.is_stale-requires
is_stale-requires c =
    let lent =
    lent_memory c.args.a.now c.args.b.now c.args.counts.now c.args.cells.now c.args.roots.now c.args.waiting.now c.args.sections.now
    c.args.d.now c.args.marks.now c.args.list.now in
    let shape = shape_facts _ _ lent (sym c.is_shaped.ensures ∙ c.if-not-is_shaped.false) in
    (shaped_blocks _ _ lent shape, omega (arith, shape.length_a, shape.whole_bytes), shape.length_sections)

pub returns-then-is_stale : goal.returns-then-is_stale
returns-then-is_stale c =
    check_stale (sym c.is_shaped.ensures ∙ c.if-not-is_shaped.false)
    (sym (c.in_default.ensures c.args.waiting.now c.args.sections.now c.args.marks.now c.args.list.now))
    (sym c.is_stale.ensures ∙ c.if-is_stale.true) refl

pub is_untidy-requires : goal.is_untidy-requires
is_untidy-requires c = (
  c.args.width,
  c.args.counts.now,
  c.args.waiting.now,
  c.args.sections.now,
  record {
    right_shape = sym c.is_shaped.ensures ∙ c.if-not-is_shaped.false;
    no_damage = sym (c.in_default.ensures c.args.waiting.now c.args.sections.now c.args.marks.now c.args.list.now);
  },
)

pub returns-then-is_untidy : goal.returns-then-is_untidy
returns-then-is_untidy c =
    check_untidy
    (record {
      right_shape = sym c.is_shaped.ensures ∙ c.if-not-is_shaped.false;
      no_damage = sym (c.in_default.ensures c.args.waiting.now c.args.sections.now c.args.marks.now c.args.list.now);
    })
    (sym c.is_stale.ensures ∙ c.if-is_stale.false)
    (sym (c.is_untidy.ensures c.args.counts.now c.args.waiting.now c.args.sections.now) ∙ c.if-is_untidy.true)
    refl

pub returns : goal.returns
returns c =
    check_passed
    (record {
      intact = record {
        right_shape = sym c.is_shaped.ensures ∙ c.if-not-is_shaped.false;
        no_damage = sym (c.in_default.ensures c.args.waiting.now c.args.sections.now c.args.marks.now c.args.list.now);
      };
      true_list = sym c.is_stale.ensures ∙ c.if-is_stale.false;
      tidy = sym (c.is_untidy.ensures c.args.counts.now c.args.waiting.now c.args.sections.now) ∙ c.if-is_untidy.false;
    })
    refl
