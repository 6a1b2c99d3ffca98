-- All that the theory states, as one record, which has one proof (`theory`, proofs/Theorems.antt): no statement can be dropped unnoticed.
use Rattle.theory.specs.Demand.{Demand3}
use Rattle.theory.specs.Statements.{CallsKeepUndamaged, FormatMakesUndamaged, RefusedAsCheck, AcceptedUndamaged, FiveToAllocations, RefusedExactly, LowestTaken}
use Rattle.theory_memories.specs.Heaps.{EndsOnLast, LeastPower}
use Rattle.theory_memories.specs.Heaps.{ReachedIsLed}
use Rattle.theory.specs.Statements.{EveryListHasAChain, ChainsAppend, ClaimFromUndamaged, ClaimFromFormat, WaitingUnread}
use Rattle.theory_memories.specs.Heaps.{NStepsSuffice, ObjectsAreEnds}
use Rattle.theory.specs.Spaces.{ClaimWithAnySpaces, EveryListWithAnySpaces}
use Rattle.theory_memories.specs.Orders.{OrderUnseen, CloseOrderUnseen}
use Rattle.theory.specs.Balance.{BlocksBalance, BlocksAddUp}
use Rattle.theory.specs.Returns.{ReturnInAnyOrder, ReturnInAscendingOrder, ReturnRefusedExactly}
use Rattle.theory.specs.Steps.{NoStepsNoChange, AllUnlessRanOut, BornMarked}
use Rattle.theory.specs.Refusals.{ThirteenExactly, FourteenExactly}
use Rattle.theory_memories.specs.Marks.{MarksOrderUnseen}
use Rattle.theory_memories.specs.Sections.{SectionsFindLowest, FiguresAreLargest, StaleExactly}
use Rattle.theory.specs.Statements.{ListLeftTrue}
use Rattle.theory.specs.Moments.{StuckTold, NoneUntold, CollectionSticksNone, StepsStickNone}
use Rattle.theory_memories.specs.Cells.{DataNeverFollowed, DataNamesNothing}
use Rattle.theory.specs.Data.{AllocationsMake, NumbersWritten, TwelveExactly, NumbersStay, DataWhileItLives}
use Rattle.theory_walks.specs.Shape.{AllNumbered, EqualShape, ShapeBounded}
use Rattle.theory_walks.specs.Reason.{ChainIsBest, NoneExactly, WalkFindsChain, NumberedByChains, ReadInOneWay, SentenceSays, SentenceBounded}
use Rattle.theory.specs.Outputs.{ReasonGiven, ShapeGiven, FifteenExactly, SixteenExactly}
use Rattle.theory_copies.specs.Copies.{CopiesExactly, OneCopyInBothLists, CopyRefusedExactly, FirstWaitingUnread, SecondHeapUnread, OneShapeOneCopy}
use Rattle.theory_copies.specs.Copies.{EqualCopies, CopyOfCopy}

pub record Theory : Type 0 where
  -- demand 3, and what makes it usable
  pub demand_3 : Demand3
  pub every_list_has_a_chain : EveryListHasAChain
  pub chains_append : ChainsAppend
  pub claim_from_undamaged : ClaimFromUndamaged
  pub claim_from_format : ClaimFromFormat
  pub claim_with_any_spaces : ClaimWithAnySpaces
  pub every_list_with_any_spaces : EveryListWithAnySpaces
  -- what calls keep, and what they don't read
  pub calls_keep_undamaged : CallsKeepUndamaged
  pub format_makes_undamaged : FormatMakesUndamaged
  pub waiting_unread : WaitingUnread
  -- what calls are refused with
  pub refused_as_check : RefusedAsCheck
  pub accepted_undamaged : AcceptedUndamaged
  pub five_to_allocations : FiveToAllocations
  -- the definitions that try only so often
  pub least_power : LeastPower
  pub reached_is_led : ReachedIsLed
  pub n_steps_suffice : NStepsSuffice
  -- the allocation
  pub refused_exactly : RefusedExactly
  pub lowest_taken : LowestTaken
  -- the maps
  pub ends_on_last : EndsOnLast
  pub objects_are_ends : ObjectsAreEnds
  -- requests
  pub order_unseen : OrderUnseen
  pub close_order_unseen : CloseOrderUnseen
  pub blocks_balance : BlocksBalance
  pub blocks_add_up : BlocksAddUp
  pub return_in_any_order : ReturnInAnyOrder
  pub return_in_ascending_order : ReturnInAscendingOrder
  pub return_refused_exactly : ReturnRefusedExactly
  pub no_steps_no_change : NoStepsNoChange
  pub all_unless_ran_out : AllUnlessRanOut
  pub born_marked : BornMarked
  pub marks_order_unseen : MarksOrderUnseen
  pub thirteen_exactly : ThirteenExactly
  pub fourteen_exactly : FourteenExactly
  pub sections_find_lowest : SectionsFindLowest
  pub figures_are_largest : FiguresAreLargest
  pub stale_exactly : StaleExactly
  pub list_left_true : ListLeftTrue
  pub stuck_told : StuckTold
  pub none_untold : NoneUntold
  pub collection_sticks_none : CollectionSticksNone
  pub steps_stick_none : StepsStickNone
  pub data_never_followed : DataNeverFollowed
  pub data_names_nothing : DataNamesNothing
  pub allocations_make : AllocationsMake
  pub numbers_written : NumbersWritten
  pub twelve_exactly : TwelveExactly
  pub numbers_stay : NumbersStay
  pub data_while_it_lives : DataWhileItLives
  pub all_numbered : AllNumbered
  pub equal_shape : EqualShape
  pub shape_bounded : ShapeBounded
  pub shape_given : ShapeGiven
  pub sixteen_exactly : SixteenExactly
  pub chain_is_best : ChainIsBest
  pub none_exactly : NoneExactly
  pub walk_finds_chain : WalkFindsChain
  pub numbered_by_chains : NumberedByChains
  pub read_in_one_way : ReadInOneWay
  pub sentence_says : SentenceSays
  pub sentence_bounded : SentenceBounded
  pub reason_given : ReasonGiven
  pub fifteen_exactly : FifteenExactly
  pub copies_exactly : CopiesExactly
  pub one_copy_in_both_lists : OneCopyInBothLists
  pub copy_refused_exactly : CopyRefusedExactly
  pub first_waiting_unread : FirstWaitingUnread
  pub second_heap_unread : SecondHeapUnread
  pub one_shape_one_copy : OneShapeOneCopy
  pub equal_copies : EqualCopies
  pub copy_of_copy : CopyOfCopy
