-- Small histories print the lines that documents 01 and 02 give: one lemma over their list, by computation.
use mathlib.Core.Path.{◌≡◌, refl}
use mathlib.Core.List.{map}
use Rattle.rules_calls.proofs.Evidence.Computed.{computed}
use Rattle.history_records.specs.Records.{number, fields_at, unnamed}
use Rattle.history_plans.specs.Asked.{unless, on_roots, allocating, copying, writing, reading, clearing, allocating_data, writing_number, operation, asked}
use Rattle.text.specs.Text.{decimal_in, decimal}
use Rattle.history_figures.specs.Figures.{counted_in, told_stuck, moment_in, noted, noted_all}
use Rattle.history_line.specs.Line.{figures_line, refusal_line, line}
use Rattle.history_turns.specs.Turns.{tried_again, turn_of, after_turn}
use Rattle.history_runs.specs.Runs.{ran_from, ended, ran}
use Rattle.history_runs.specs.Cases.{cases, given, bytes_of, expected}

pub cases_hold : map given cases ≡ map expected cases
unfolding computed number fields_at unnamed unless on_roots allocating copying writing reading clearing allocating_data writing_number operation asked decimal_in decimal counted_in told_stuck moment_in noted noted_all figures_line refusal_line line tried_again turn_of after_turn ran_from ended ran given bytes_of expected cases
cases_hold = refl
