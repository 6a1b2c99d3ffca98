-- A refusal is no acceptance, and a kind of damage is none.
use Rattle.std.proofs.Common.{ℕ, ◌≡◌, ap, ◌∙◌, arith}
use Rattle.types.specs.declared.Reply.{Reply}
use Rattle.types.specs.declared.refusals.Damage.{Damage}
use Rattle.types.specs.declared.refusals.Damage.TheVariants.{EndOnFree, OpenEnd, Unaligned, DanglingReference, WrongCount, StrayData}
use Rattle.types.specs.declared.refusals.Refusal.{Refusal}
use Rattle.types.specs.declared.refusals.Refusal.TheVariants.{
  Misshapen,
  Damaged,
  BadSize,
  BadRoot,
  NoChunk,
  NoObject,
  BadCell,
  BadReference,
  NoCall,
  CutOff,
  StaleSections,
  WrongKind,
  BadMarks,
  OutOfTurn,
  ShortReason,
  ShortShape,
  NoPlace,
  ShortReplies,
  BadRun,
}
use Rattle.types.specs.Refusals.{kind_of, number_of}
use Rattle.types.specs.Told.{refused}

pub number_ne0 : (refusal : Refusal) → number_of refusal ≡ 0 → ⊥
number_ne0 Misshapen e = omega arith
number_ne0 (Damaged damage) e = omega arith
number_ne0 BadSize e = omega arith
number_ne0 BadRoot e = omega arith
number_ne0 NoChunk e = omega arith
number_ne0 NoObject e = omega arith
number_ne0 BadCell e = omega arith
number_ne0 BadReference e = omega arith
number_ne0 NoCall e = omega arith
number_ne0 CutOff e = omega arith
number_ne0 StaleSections e = omega arith
number_ne0 WrongKind e = omega arith
number_ne0 BadMarks e = omega arith
number_ne0 OutOfTurn e = omega arith
number_ne0 ShortReason e = omega arith
number_ne0 ShortShape e = omega arith
number_ne0 NoPlace e = omega arith
number_ne0 ShortReplies e = omega arith
number_ne0 BadRun e = omega arith

-- so a reply that tells one is none
pub refused_ne0 : (refusal : Refusal) {x : Reply} → refused refusal ≡ x → x.number ≡ 0 → ⊥
refused_ne0 refusal q e = number_ne0 refusal (ap (λ (y : Reply). y.number) q ∙ e)

pub kind_ne0 : (damage : Damage) → kind_of damage ≡ 0 → ⊥
kind_ne0 EndOnFree e = omega arith
kind_ne0 OpenEnd e = omega arith
kind_ne0 Unaligned e = omega arith
kind_ne0 DanglingReference e = omega arith
kind_ne0 WrongCount e = omega arith
kind_ne0 StrayData e = omega arith
