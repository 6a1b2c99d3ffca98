-- `numbers::read_reply` meets its contract: the test, and then the cell.
use Rattle.std.proofs.Common.{◌≡◌, ◌+◌, ◌*◌, ◌<◌, ℕ, List, length, arith}
use borrow.Author.Tests.{eq-eqb, ne_eqb}
use Rattle.std.proofs.lemmas.Result.{err_from_is_err_and}
use Rattle.types.proofs.Refused.{refused_ne0}
use Rattle.types.specs.Told.{accepted, refused}
use Rattle.types.specs.declared.refusals.Refusal.{Refusal}
use mathlib.Core.List.{[]}
use Rattle.rules.specs.Heap.{Memory, lent_memory}
use Rattle.rules_calls.specs.Calls.{own_refusals}
use Rattle.test_arguments.specs.Replies.{own_test, number_test, read_reply}
use Rattle.test_arguments.proofs.ArgumentTests.{maps, number_passed, test_accepted}
use Rattle.test_arguments.proofs.numbers.read_reply.Goals as goal

-- the maps and the cells
abbrev lent : (a b cells d : List ℕ) → Memory
lent a b cells d = lent_memory a b [] cells [] [] [] d [] []

-- the test reads the maps alone
accepts : (N : ℕ) (a b cells d : List ℕ) (at j : ℕ) → accepted 0 ≡ number_test N (maps a b d) at j
    → (number_test N (lent a b cells d) at j).number ≡ 0
unfolding own_test own_refusals
accepts N a b cells d at j tested = test_accepted tested

refuses : (N : ℕ) (a b cells d : List ℕ) (at j : ℕ) (refusal : Refusal) → refused refusal ≡ number_test N (maps a b d) at j
    → refused refusal ≡ read_reply N (lent a b cells d) at j
unfolding own_test own_refusals read_reply
refuses N a b cells d at j refusal tested = rw (ne_eqb _ 0 (refused_ne0 refusal tested), read_reply) tested

-- past the test there is the cell
inside : (N : ℕ) (a b cells d : List ℕ) (at j : ℕ) → accepted 0 ≡ number_test N (maps a b d) at j → 4 * at + j < 4 * N
inside N a b cells d at j tested = (number_passed {N = N} {h = lent a b cells d} (accepts N a b cells d at j tested)).cell_inside

pub returns-in_err-number_test : goal.returns-in_err-number_test
returns-in_err-number_test c =
    let x = c.args in
    let exit = err_from_is_err_and c.from_residual.result c.from_residual.ensures.1 in
    rw (exit.1, exit.2) (refuses x.blocks x.a.now x.b.now x.cells.now x.d.now x.at x.j _ c.in_err-number_test.ensures)

pub overflow_mul-result : goal.overflow_mul-result
overflow_mul-result c =
    let x = c.args in omega (arith, inside x.blocks x.a.now x.b.now x.cells.now x.d.now x.at x.j c.in_ok-number_test.ensures)

pub overflow_add-result : goal.overflow_add-result
overflow_add-result c =
    let x = c.args in omega (arith, inside x.blocks x.a.now x.b.now x.cells.now x.d.now x.at x.j c.in_ok-number_test.ensures)

pub offset_bounds-cells-at : goal.offset_bounds-cells-at
offset_bounds-cells-at c =
    let x = c.args in omega (arith, inside x.blocks x.a.now x.b.now x.cells.now x.d.now x.at x.j c.in_ok-number_test.ensures)

pub bounds-cells-at : goal.bounds-cells-at
bounds-cells-at c =
    let x = c.args in omega (arith, inside x.blocks x.a.now x.b.now x.cells.now x.d.now x.at x.j c.in_ok-number_test.ensures)

pub returns : goal.returns
unfolding read_reply
returns c =
    let x = c.args in
    rw (eq-eqb _ 0 (accepts x.blocks x.a.now x.b.now x.cells.now x.d.now x.at x.j c.in_ok-number_test.ensures), read_reply)
