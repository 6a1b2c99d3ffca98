-- `release::let_go` meets its contract: v is counted down on an empty stack, and what waits is freed.
use Rattle.count_up.proofs.Stack.{stack_empty}
use Rattle.release.proofs.OtherBuffers.{let_go_done, let_go_blocks_done, let_go_marks_done}
use Rattle.release.proofs.let_go.Goals as goal

pub count_down-top-requires : goal.count_down-top-requires
count_down-top-requires c =
    (c.requires.0, stack_empty c.requires.2)

pub returns : goal.returns
returns c = (
  let_go_done _ _ _ _ c.count_down-top.ensures.result c.release_all.ensures.0 c.requires.2 c.release_all.ensures.2,
  let_go_blocks_done _ _ _ _ c.count_down-top.ensures.result c.release_all.ensures.1,
  c.release_all.ensures.3,
  let_go_marks_done _ _ _ _ c.count_down-top.ensures.result _ _ c.release_all.ensures.4,
)
