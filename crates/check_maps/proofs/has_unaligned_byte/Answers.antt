-- `check_maps::has_unaligned_byte` meets its contract.
use mathlib.Core.Path.{◌≡◌, ◌∙◌, sym}
use mathlib.Core.Bool.{not}
use mathlib.Core.List.{List, []}
use Prim.Native.Nat.{ℕ, ◌+◌, ◌*◌, ◌<◌}
use lib.Dec.{eqb}
use Rattle.bitmap.specs.Bit.{bit_of}
use Rattle.rules.specs.Heap.{memory, first_in}
use Rattle.rules.specs.Tools.{some_below}
use Rattle.rules.specs.Damage.{unaligned}
use Rattle.check_maps.specs.Chunks.{off_chunk}
use Rattle.check_maps.proofs.Aligned.{byte_crooked, byte_straight}
use Rattle.check_maps.proofs.Eights.{off_first}
use Rattle.check_maps.proofs.Chains.{some_same}
use Rattle.check_maps.proofs.has_unaligned_byte.Goals as goal

-- where the bits are those of the first blocks, the test at them is kind 3
of_first : (N k first : ℕ) (a b : List ℕ) → ((s : ℕ) → s < 8 → first_in N a b (8 * k + s) ≡ not (eqb (bit_of first s) 0))
    → some_below (off_chunk first k N b) 8 ≡ some_below (λ s. unaligned N (memory a b [] [] [] []) (8 * k + s)) 8
of_first N k first a b h = some_same _ _ 8 (λ s l. sym (off_first N a b k first s (h s l)))

pub returns-then-two-three-ne0 : goal.returns-then-two-three-ne0
returns-then-two-three-ne0 c =
    byte_crooked c.args.blocks c.args.b.now c.args.k c.first_byte-first.result c.requires.2 c.if-two-three-ne0.true
    ∙ of_first c.args.blocks c.args.k c.first_byte-first.result c.args.a.now c.args.b.now (c.first_byte-first.ensures c.args.blocks c.requires.2)

pub returns : goal.returns
returns c =
    c.has_unaligned_of.ensures
    ∙ byte_straight c.args.blocks c.args.b.now c.args.k c.first_byte-first.result c.requires.2 c.if-two-three-ne0.false
    ∙ of_first c.args.blocks c.args.k c.first_byte-first.result c.args.a.now c.args.b.now (c.first_byte-first.ensures c.args.blocks c.requires.2)
