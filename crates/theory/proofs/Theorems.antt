-- The statements of specs/, proved.
use mathlib.Core.Path.{◌≡◌, refl, sym, ap, ◌∙◌, subst}
use mathlib.Core.Bool.{Bool, true, false, not, ◌&&◌}
use Prim.Native.Nat.{ℕ}
use lib.ListN.{length}
use lib.Dec.{leb, ltb}
use borrow.Author.Tests.{le-leb, lt-ltb}
use Rattle.rules.specs.Tools.{first_number}
use Rattle.rules.specs.Heap.{Memory, shaped, exponent}
use Rattle.rules_stores.specs.Store.{formatted}
use Rattle.types.specs.declared.Reply.{Reply}
use Rattle.rules_calls.specs.Promise.{Promise}
use Rattle.rules_calls.specs.Calls.{Call, format, allocate, allocate_data, allocate_as, Answer, allocation_refusals, own_refusals, outcome, answer}
use Rattle.theory.specs.Demand.{Demand3}
use Rattle.rules_calls.proofs.Replies.{number_is, accepted_none, accepted_outcome, Passed, shape_passed, passed, allocation_alone, refused_as_check}
use Rattle.rules.proofs.Tests.{true_and, first_past}
use Rattle.rules.proofs.Shape.{shape_facts}
use Rattle.theory_memories.specs.Heaps.{Undamaged, Lowest}
use Rattle.theory.specs.Statements.{CallsKeepUndamaged, FormatMakesUndamaged, RefusedExactly, LowestTaken}
use Rattle.theory.specs.Statements.{ClaimFromUndamaged, ClaimFromFormat}
use Rattle.theory.specs.Spaces.{ClaimWithAnySpaces}
use Rattle.theory.specs.Balance.{BlocksBalance}
use Rattle.theory.specs.Returns.{ReturnInAnyOrder, ReturnInAscendingOrder, ReturnRefusedExactly}
use Rattle.theory.specs.Moments.{NoneUntold, CollectionSticksNone, StepsStickNone}
use Rattle.theory.specs.Data.{TwelveExactly, NumbersStay}
use Rattle.theory.specs.Theory.{Theory}
use Rattle.rules.proofs.Sections.{sections_find_lowest}
use Rattle.theory_memories.proofs.Maps.Sections.{figures_are_largest, stale_exactly}
use Rattle.theory_memories.proofs.Maps.LowestChunk.{lowest_some, five_exactly, room}
use Rattle.theory_memories.proofs.Memories.Fit.{undamaged_fit, fit_undamaged, formatted_fit}
use Rattle.theory_memories.proofs.Memories.Accepted.{fit_number, accepted_fit}
use Rattle.theory.proofs.EachCall.Answers.{answer-fit}
use Rattle.theory.proofs.EachCall.Five.{five_to_allocations}
use Rattle.theory.proofs.EachCall.TrueList.{list_left_true}
use Rattle.theory.proofs.EachCall.AnyWaiting.{waiting_unread}
use Rattle.theory.proofs.EachCall.ReturnOrders.{same_as_singly, return_refused}
use Rattle.theory.proofs.EachCall.ReturnAscending.{in_ascending_order}
use Rattle.theory.proofs.EachCall.NoSteps.{no_steps_no_change, all_unless_ran_out}
use Rattle.theory.proofs.EachCall.Refusals.{thirteen_exactly, fourteen_exactly}
use Rattle.theory_memories.proofs.Memories.MarksAnyOrder.{marks_order_unseen}
use Rattle.theory.proofs.Demand.{every_list, chains_append, claim, demand3, balance}
use Rattle.theory.proofs.Spaces.{claim_of_all, every_list_with_any_spaces}
use Rattle.theory.proofs.DataLives.{data_while_it_lives}
use Rattle.theory.proofs.EachCall.Balance.{blocks_add_up}
use Rattle.theory.proofs.EachCall.Numbers.{numbers_written, twelve}
use Rattle.theory.proofs.EachCall.Stay.{answer_stays}
use Rattle.theory.proofs.EachCall.Makes.{allocations_make}
use Rattle.theory.proofs.EachCall.Born.{born_marked}
use Rattle.theory.proofs.EachCall.Moments as moments
use Rattle.theory.proofs.EachCall.StepsStick as sticking
use Rattle.theory_walks.proofs.Walks.Reached.{all_numbered}
use Rattle.theory_walks.proofs.Walks.Equal.{equal_shape}
use Rattle.theory_walks.proofs.Walks.Bounds.{shape_bounded}
use Rattle.theory_walks.proofs.Walks.Best.{chain_is_best, none_exactly, walk_finds_chain}
use Rattle.theory_walks.proofs.Walks.Order.{numbered_by_chains}
use Rattle.theory_walks.proofs.Sentences.Says.{read_in_one_way, sentence_says}
use Rattle.theory_walks.proofs.Sentences.Bounds.{sentence_bounded}
use Rattle.theory.proofs.EachCall.Outputs.{reason_given, shape_given, fifteen, sixteen}
use Rattle.theory_copies.proofs.Copies.Refused.{copy_refused_exactly}
use Rattle.theory_copies.proofs.Copies.Unread.{first_waiting_unread, second_heap_unread}
use Rattle.theory_copies.proofs.Copies.Statements.{copies_exactly, one_copy_in_both_lists, one_shape_one_copy, equal_copies, copy_of_copy}
use Rattle.theory_memories.proofs.HeapTheorems.{least_power, reached_is_led, n_steps_suffice, order_unseen, close_order_unseen, objects_are_ends, ends_on_last, data_never_followed, data_names_nothing}

pub calls_keep_undamaged : CallsKeepUndamaged
calls_keep_undamaged N w h u call = fit_undamaged N w (answer N w h call).1 (answer-fit N w h (undamaged_fit N w h u) call)

pub format_makes_undamaged : FormatMakesUndamaged
format_makes_undamaged N w h fits = fit_undamaged N w _ (formatted_fit N w h (shape_facts N w h fits))

-- an allocation of either kind has the same refusals
allocation_own : (N : ℕ) (h : Memory) (asData : Bool) (n r : ℕ) → own_refusals N h (allocate_as asData n r) ≡ allocation_refusals N h n r
unfolding own_refusals
allocation_own N h true n r = refl
allocation_own N h false n r = refl

-- an allocation that passes its other tests
pub refused_exactly : RefusedExactly
refused_exactly N w h u asData n r low high inside =
    let c : Call = allocate_as asData n r in
    let size = true_and (leb 1 n) (leb n N) (le-leb 1 n low) (le-leb n N high) in
    let number =
    number_is N w h c ∙ fit_number N w h (undamaged_fit N w h u) c (allocation_alone asData n r) ∙ ap first_number (allocation_own N h asData n r)
    ∙ first_past 3 (not (leb 1 n && leb n N)) _ (ap not size)
    ∙ first_past 4 (not (ltb r (length h.roots))) _ (ap not (lt-ltb r (length h.roots) inside)) in
    rw number
    (five_exactly N (exponent n) h.a)

pub lowest_taken : LowestTaken
unfolding outcome Passed
lowest_taken N w h true n r accepted =
    let c : Call = allocate_data n r in
    subst (λ (x : Answer). Lowest N (exponent n) h.a x.0.value) (sym (accepted_outcome N w h c accepted))
    (lowest_some N (exponent n) h.a _ (passed N w h c (accepted_none N w h c accepted)).3)
lowest_taken N w h false n r accepted =
    let c : Call = allocate n r in
    subst (λ (x : Answer). Lowest N (exponent n) h.a x.0.value) (sym (accepted_outcome N w h c accepted))
    (lowest_some N (exponent n) h.a _ (passed N w h c (accepted_none N w h c accepted)).3)

-- request U10
pub return_in_any_order : ReturnInAnyOrder
return_in_any_order N w h u shut chosen = same_as_singly N w h (undamaged_fit N w h u) chosen shut

pub return_in_ascending_order : ReturnInAscendingOrder
return_in_ascending_order N w h u chosen = in_ascending_order N w h chosen (undamaged_fit N w h u)

pub return_refused_exactly : ReturnRefusedExactly
return_refused_exactly N w h u = return_refused N w h (undamaged_fit N w h u)

-- Demand 3, whole.
pub demand_3 : Demand3
demand_3 = demand3

pub claim_from_undamaged : ClaimFromUndamaged
claim_from_undamaged N w h u made chain = claim N w h (undamaged_fit N w h u) made chain

-- an accepted format was not refused with 1, so it left a formatted heap
accepted_format :
    (N w : ℕ) (lent : Memory) (x : Reply) (left : Memory) → Promise N w format lent x left → x.number ≡ 0
    → (shaped N w lent ≡ true) × (left ≡ formatted N w (length lent.roots))
unfolding outcome
accepted_format N w lent x left promise taken =
    let accepted = ap (λ (r : Reply). r.number) (sym promise.reply_is) ∙ taken in (
      shape_passed N w lent format (accepted_none N w lent format accepted),
      promise.after_is ∙ ap (λ (y : Answer). y.1) (accepted_outcome N w lent format accepted),
    )

pub accepted_format_undamaged :
    (N w : ℕ) (lent : Memory) (x : Reply) (left : Memory) → Promise N w format lent x left → x.number ≡ 0 → Undamaged N w left
accepted_format_undamaged N w lent x left promise taken =
    let made = accepted_format N w lent x left promise taken in
    subst (λ (g : Memory). Undamaged N w g) (sym made.1) (format_makes_undamaged N w lent made.0)

pub promise_keeps_undamaged :
    (N w : ℕ) (call : Call) (h : Memory) (x : Reply) (g : Memory) → Undamaged N w h → Promise N w call h x g → Undamaged N w g
promise_keeps_undamaged N w call h x g fine promise =
    subst (λ (k : Memory). Undamaged N w k) (sym promise.after_is) (calls_keep_undamaged N w h fine call)

pub claim_from_format : ClaimFromFormat
claim_from_format N w lent x left promise taken made chain =
    claim_from_undamaged N w left (accepted_format_undamaged N w lent x left promise taken) made chain

pub claim_with_any_spaces : ClaimWithAnySpaces
claim_with_any_spaces N w h u made all = claim_of_all N w h (undamaged_fit N w h u) made all

-- request U1
pub blocks_balance : BlocksBalance
blocks_balance N w h u made chain = balance N w (undamaged_fit N w h u) chain

-- request U5
pub none_untold : NoneUntold
none_untold N w h u call b n = moments.none_untold N w h (undamaged_fit N w h u) call b n

pub collection_sticks_none : CollectionSticksNone
collection_sticks_none N w h u = moments.collection_sticks_none N w h (undamaged_fit N w h u)

pub steps_stick_none : StepsStickNone
steps_stick_none N w h u budget b first low = sticking.steps_stick_none N w h (undamaged_fit N w h u) b first low budget

pub twelve_exactly : TwelveExactly
twelve_exactly N w h u at n j object l =
    twelve N w h (undamaged_fit N w h u) at j object.first (rw object.size l)

pub numbers_stay : NumbersStay
numbers_stay N w h u call b n = answer_stays N w h (undamaged_fit N w h u) call b n

pub theory : Theory
theory =
    record {
      demand_3 = demand_3;
      every_list_has_a_chain = every_list;
      chains_append = chains_append;
      claim_from_undamaged = claim_from_undamaged;
      claim_from_format = claim_from_format;
      claim_with_any_spaces = claim_with_any_spaces;
      every_list_with_any_spaces = every_list_with_any_spaces;
      calls_keep_undamaged = calls_keep_undamaged;
      format_makes_undamaged = format_makes_undamaged;
      waiting_unread = waiting_unread;
      refused_as_check = refused_as_check;
      accepted_undamaged = λ N w h call tests e. fit_undamaged N w h (accepted_fit N w h call tests e);
      five_to_allocations = five_to_allocations;
      least_power = least_power;
      reached_is_led = reached_is_led;
      n_steps_suffice = n_steps_suffice;
      refused_exactly = refused_exactly;
      lowest_taken = lowest_taken;
      ends_on_last = ends_on_last;
      objects_are_ends = objects_are_ends;
      order_unseen = order_unseen;
      close_order_unseen = close_order_unseen;
      blocks_balance = blocks_balance;
      blocks_add_up = blocks_add_up;
      return_in_any_order = return_in_any_order;
      return_in_ascending_order = return_in_ascending_order;
      return_refused_exactly = return_refused_exactly;
      no_steps_no_change = no_steps_no_change;
      all_unless_ran_out = all_unless_ran_out;
      born_marked = born_marked;
      marks_order_unseen = marks_order_unseen;
      thirteen_exactly = thirteen_exactly;
      fourteen_exactly = fourteen_exactly;
      sections_find_lowest = sections_find_lowest;
      figures_are_largest = figures_are_largest;
      stale_exactly = stale_exactly;
      list_left_true = list_left_true;
      stuck_told = moments.stuck_told;
      none_untold = none_untold;
      collection_sticks_none = collection_sticks_none;
      steps_stick_none = steps_stick_none;
      data_never_followed = data_never_followed;
      data_names_nothing = data_names_nothing;
      allocations_make = allocations_make;
      numbers_written = numbers_written;
      twelve_exactly = twelve_exactly;
      numbers_stay = numbers_stay;
      data_while_it_lives = data_while_it_lives;
      all_numbered = all_numbered;
      equal_shape = equal_shape;
      shape_bounded = shape_bounded;
      shape_given = shape_given;
      sixteen_exactly = λ N w h u room. sixteen N w h (undamaged_fit N w h u) room;
      chain_is_best = chain_is_best;
      none_exactly = none_exactly;
      walk_finds_chain = walk_finds_chain;
      numbered_by_chains = numbered_by_chains;
      read_in_one_way = read_in_one_way;
      sentence_says = sentence_says;
      sentence_bounded = sentence_bounded;
      reason_given = reason_given;
      fifteen_exactly = λ N w h u at n room object. fifteen N w h (undamaged_fit N w h u) room at object.first;
      copies_exactly = copies_exactly;
      one_copy_in_both_lists = one_copy_in_both_lists;
      copy_refused_exactly = copy_refused_exactly;
      first_waiting_unread = first_waiting_unread;
      second_heap_unread = second_heap_unread;
      one_shape_one_copy = one_shape_one_copy;
      equal_copies = equal_copies;
      copy_of_copy = copy_of_copy;
    }
