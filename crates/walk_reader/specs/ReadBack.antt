-- Request U11, "Each sentence can be read back in only one way": what is proved of the reader, whose contract
-- gives `small_back`.
use Rattle.std.specs.Prelude.{ℕ, ◌<◌, ◌≡◌, true, List}
use Rattle.std.proofs.Math.Option.{some}
use Rattle.rules.specs.Heap.{Memory}
use Rattle.rules_output.specs.Reason.{Reason, reason_of}
use Rattle.rules_output.specs.Sentence.{sentence, sentence_for}
use Rattle.theory_memories.specs.Heaps.{Intact}
use Rattle.walk_reader.specs.Reader.{fits, small_back}

pub record ReadsBack : Type 0 where
  -- what the call writes for an object is read back as the reason and the block
  pub every_reason : (N w : ℕ) (h : Memory) → Intact N w h → (at : ℕ) → at < N → small_back (sentence_for N h at) ≡ some (reason_of N h at, at)
  -- .. and so is every sentence with numbers of 32 bits
  pub every_sentence : (x : Reason) (at : ℕ) → fits (x, at) ≡ true → small_back (sentence x at) ≡ some (x, at)
  -- nothing else is read
  pub only_sentences : (text : List ℕ) (x : Reason) (at : ℕ) → small_back text ≡ some (x, at) → text ≡ sentence x at
