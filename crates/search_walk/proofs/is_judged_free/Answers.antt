-- `search_walk::is_judged_free` meets its contract: the mask of a power of two leaves the remainder.
use mathlib.Core.Path.{◌≡◌, sym, ap, ◌∙◌}
use Prim.Native.Nat.{ℕ, ◌-◌, ◌%◌}
use lib.Bits.{bit_and, and_mask}
use borrow.Author.Tests.{lt-leb, le-leb}
use Rattle.search_walk.specs.Search.{judged_free}
use Rattle.search_walk.proofs.is_judged_free.Goals as goal

pub returns-then-size-stretch : goal.returns-then-size-stretch
unfolding judged_free
returns-then-size-stretch c =
    let masked : bit_and c.args.end (c.args.size - 1) ≡ c.args.end % c.args.size =
    ap (λ (x : ℕ). bit_and c.args.end (x - 1)) c.requires.1 ∙ and_mask c.args.end c.requires.0 ∙ ap (λ (x : ℕ). c.args.end % x) (sym c.requires.1) in
    rw (le-leb _ _ c.if-size-stretch.true, masked, judged_free)

pub returns-else-size-stretch : goal.returns-else-size-stretch
unfolding judged_free
returns-else-size-stretch c = rw (lt-leb _ _ c.if-size-stretch.false, judged_free)
