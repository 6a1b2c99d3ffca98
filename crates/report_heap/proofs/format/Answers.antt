-- The buffers have the right lengths.
use borrow.Author.Rules.{rules}
use Rattle.report_heap.proofs.NewHeap.{new_heap_lem, new_shape}
use Rattle.report_heap.proofs.format.Goals as goal

pub returns : goal.returns
returns c =
    new_heap_lem c.format.ensures
    record {
      power = new_shape.power;
      blocks_min = new_shape.blocks_min;
      blocks_max = new_shape.blocks_max;
      whole_bytes = new_shape.whole_bytes;
      width_min = new_shape.width_min;
      width_max = new_shape.width_max;
      roots_min = search rules;
      roots_max = search rules;
      length_a = search rules;
      length_b = search rules;
      length_counts = search rules;
      length_cells = search rules;
      length_waiting = search rules;
      length_sections = search rules;
      length_d = search rules;
      length_marks = search rules;
      length_list = search rules;
    }
    (search rules)
