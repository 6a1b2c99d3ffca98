-- The definitions of requests U13 and U11 give what their cases say, by computation.
use mathlib.Core.Path.{◌≡◌, refl}
use mathlib.Core.List.{List, map}
use Rattle.bitmap.specs.Bit.{bit_at}
use Rattle.text.specs.Text.{decimal_in, decimal}
use Rattle.rules.specs.Tools.{tabulate}
use Rattle.rules.specs.Heap.{first_in, size_from, first_at, in_data, ref_at}
use Rattle.rules_output.specs.Walk.{number_in, object_at, meet, meet_each, walk, references_of, followed, numbered}
use Rattle.rules_output.specs.Shape.{cells_of, described, joined, shape_of}
use Rattle.rules_output.specs.Reason.{lowest_of, first_of, cells_to, chain_of, best_chain, chain_to, reason_from, reason_of}
use Rattle.rules_output.specs.Sentence.{links, sentence, sentence_for, behind, number_from, number_at, ended, links_of, read_back}
use Rattle.rules_output.specs.Evidence.WalkCases.{read_cases}
use Rattle.rules.specs.Evidence.SmallHeaps.{eight_blocks, cell_holding, root_holding}
use Rattle.rules_output.specs.Evidence.WalkCases.{crossed, forked, numbers_only, in_line, walk_cases, shapes_of_heaps, chain_cases, sentence_cases}

pub walks_hold : map (λ c. numbered 8 c.0) walk_cases ≡ map (λ c. c.1) walk_cases
unfolding bit_at first_in size_from first_at in_data ref_at tabulate number_in object_at meet meet_each walk references_of followed numbered eight_blocks cell_holding root_holding crossed forked numbers_only walk_cases
walks_hold = refl

pub shapes_of_heaps_lem : map (λ c. shape_of 8 c.0) shapes_of_heaps ≡ map (λ c. c.1) shapes_of_heaps
unfolding bit_at first_in size_from first_at in_data ref_at tabulate number_in object_at meet meet_each walk references_of followed numbered cells_of described joined shape_of eight_blocks cell_holding root_holding crossed numbers_only shapes_of_heaps
shapes_of_heaps_lem = refl

pub chains_hold : map (λ c. reason_of 8 c.0.0 c.0.1) chain_cases ≡ map (λ c. c.1) chain_cases
unfolding bit_at first_in size_from first_at in_data ref_at tabulate references_of followed lowest_of first_of cells_to chain_of best_chain chain_to reason_from eight_blocks cell_holding root_holding crossed numbers_only in_line chain_cases
chains_hold = refl

pub sentences_hold : map (λ c. sentence_for 8 c.0.0 c.0.1) sentence_cases ≡ map (λ c. c.1) sentence_cases
unfolding bit_at first_in size_from first_at in_data ref_at tabulate references_of followed lowest_of first_of cells_to chain_of best_chain chain_to reason_from decimal_in decimal links sentence sentence_for eight_blocks cell_holding root_holding crossed numbers_only sentence_cases
sentences_hold = refl

pub readings_back : map (λ c. read_back c.0) read_cases ≡ map (λ c. c.1) read_cases
unfolding behind number_from number_at ended links_of read_back read_cases
readings_back = refl
