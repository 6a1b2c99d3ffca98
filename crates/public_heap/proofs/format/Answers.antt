-- `public_heap::format` meets its contract: refused for its shape, or written.
use mathlib.Core.Path.{sym, ◌∙◌}
use Rattle.work_format.proofs.FormatPromise.{format_refused}
use Rattle.public_heap.proofs.format.Goals as goal

pub returns-then-not-is_shaped : goal.returns-then-not-is_shaped
returns-then-not-is_shaped c =
    format_refused (sym c.is_shaped.ensures ∙ c.if-not-is_shaped.true) c.into.ensures

pub format-requires : goal.format-requires
format-requires c =
    sym c.is_shaped.ensures ∙ c.if-not-is_shaped.false
