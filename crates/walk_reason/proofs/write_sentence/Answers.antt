use mathlib.Core.List.{[], ◌∷◌, ◌++◌}
use Prim.Native.Nat.{◌-◌}
use native.Mathlib.Omega.{arith}
use lib.ListN.{length, get_or}
use Rattle.rules_output.specs.Sentence.{root_text, cell_text, block_text, no_root_text, sentence}
use Rattle.text.specs.Text.{decimal}
use Rattle.walk_reason.specs.Telling.{reason_in}
use Rattle.walk_reason.proofs.Sentences.{Next, room_for, written_more, all_written, left, no_root_next, root_next, cell_next, block_next, line_end_next}
use Rattle.walk_reason.proofs.write_sentence.Goals.{In_default, In-Some, In-loop-i, After-put_numbered-to, After-put_numbered-to-3, After-loop-i}
use Rattle.walk_reason.proofs.write_sentence.Goals as goal

-- ---- no links

no_root : (c : In_default) → Next (sentence (reason_in c.args.links.now) c.args.at) (no_root_text ++ decimal c.args.at) (10 ∷ []) c.args.out.now c.args.out.now 0
no_root c = no_root_next c.args.at c.args.links.now c.args.out.now c.in_default.ensures.cases

pub put_numbered-to-requires : goal.put_numbered-to-requires
put_numbered-to-requires c = room_for c.requires.1 (no_root (goal.at.put_numbered-to-requires c).In_default)

line_end : (c : After-put_numbered-to) → Next (sentence (reason_in c.args.links.now) c.args.at) (10 ∷ []) [] c.args.out.now c.put_numbered-to.new.out c.put_numbered-to.result
line_end c = line_end_next (written_more c.requires.1 (no_root (goal.at.After-put_numbered-to c).In_default) c.put_numbered-to.ensures)

pub put_text-requires : goal.put_text-requires
put_text-requires c = room_for c.requires.1 (line_end (goal.at.put_text-requires c).After-put_numbered-to)

pub returns-in_default : goal.returns-in_default
returns-in_default c = all_written (written_more c.requires.1 (line_end (goal.at.returns-in_default c).After-put_numbered-to) c.put_text.ensures)

-- ---- a root and cells

root : (c : In-Some) → Next (sentence (reason_in c.args.links.now) c.args.at)
    (root_text ++ decimal c.in-Some.field-0-0.now) (left c.args.at c.in-Some.cells.now (length c.in-Some.cells.now)) c.args.out.now c.args.out.now 0
root c = root_next c.args.at c.args.links.now c.in-Some.cells.now c.args.out.now c.in-Some.field-0-0.now c.in-Some.ensures.cases.0

pub put_numbered-to-requires-2 : goal.put_numbered-to-requires-2
put_numbered-to-requires-2 c = room_for c.requires.1 (root (goal.at.put_numbered-to-requires-2 c).In-Some)

pub loop-i-init : goal.loop-i-init
loop-i-init c = written_more c.requires.1 (root (goal.at.loop-i-init c).In-Some) c.put_numbered-to-2.ensures

cell : (c : In-loop-i) → Next (sentence (reason_in c.args.links.now) c.args.at)
    (cell_text ++ decimal (get_or c.in-Some.cells.now (c.loop-i.i - 1) 0)) (left c.args.at c.in-Some.cells.now (c.loop-i.i - 1)) c.args.out.now c.loop-i.out c.loop-i.to
cell c = cell_next c.args.at c.in-Some.cells.now c.loop-i.i c.loop-i.invariant (omega arith)

pub put_numbered-to-requires-in-loop-i : goal.put_numbered-to-requires-in-loop-i
put_numbered-to-requires-in-loop-i c = room_for c.requires.1 (cell (goal.at.put_numbered-to-requires-in-loop-i c).In-loop-i)

pub loop-i-preserved : goal.loop-i-preserved
loop-i-preserved c = written_more c.requires.1 (cell (goal.at.loop-i-preserved c).In-loop-i) c.put_numbered-to-in-loop-i.ensures

block : (c : After-loop-i) → Next (sentence (reason_in c.args.links.now) c.args.at) (block_text ++ decimal c.args.at) (10 ∷ []) c.args.out.now c.loop-i.out c.loop-i.to
block c = block_next c.args.at c.in-Some.cells.now c.loop-i.i c.loop-i.invariant (omega arith)

pub put_numbered-to-requires-3 : goal.put_numbered-to-requires-3
put_numbered-to-requires-3 c = room_for c.requires.1 (block (goal.at.put_numbered-to-requires-3 c).After-loop-i)

last_line_end : (c : After-put_numbered-to-3) → Next (sentence (reason_in c.args.links.now) c.args.at) (10 ∷ []) [] c.args.out.now c.put_numbered-to-3.new.out c.put_numbered-to-3.result
last_line_end c = line_end_next (written_more c.requires.1 (block (goal.at.After-put_numbered-to-3 c).After-loop-i) c.put_numbered-to-3.ensures)

pub put_text-requires-2 : goal.put_text-requires-2
put_text-requires-2 c = room_for c.requires.1 (last_line_end (goal.at.put_text-requires-2 c).After-put_numbered-to-3)

pub returns : goal.returns
returns c = all_written (written_more c.requires.1 (last_line_end (goal.at.returns c).After-put_numbered-to-3) c.put_text-2.ensures)
