-- `free_of_four` meets its contract: the digits of four words that lie one behind the other.
use native.Mathlib.Omega.{arith}
use Rattle.section_words.proofs.Words.{free_blocks_lem, digits_at}
use Rattle.section_words.proofs.free_of_four.Goals as goal

pub returns : goal.returns
returns c =
    record {
      first = free_blocks_lem _ _ _ c.eight_bytes.ensures;
      second = free_blocks_lem _ _ _ (digits_at 64 _ _ _ _ (omega arith) c.eight_bytes-2.ensures);
      third = free_blocks_lem _ _ _ (digits_at 64 _ _ _ _ (omega arith) c.eight_bytes-3.ensures);
      fourth = free_blocks_lem _ _ _ (digits_at 64 _ _ _ _ (omega arith) c.eight_bytes-4.ensures);
    }
