-- The numbers of refusals and of kinds of damage.
use Rattle.std.specs.Prelude.{ℕ}
use Rattle.types.specs.declared.refusals.Damage.{Damage}
use Rattle.types.specs.declared.refusals.Damage.TheVariants.{EndOnFree, OpenEnd, Unaligned, DanglingReference, WrongCount, StrayData}
use Rattle.types.specs.declared.refusals.Refusal.{Refusal}
use Rattle.types.specs.declared.refusals.Refusal.TheVariants.{
  Misshapen,
  Damaged,
  BadSize,
  BadRoot,
  NoChunk,
  NoObject,
  BadCell,
  BadReference,
  NoCall,
  CutOff,
  StaleSections,
  WrongKind,
  BadMarks,
  OutOfTurn,
  ShortReason,
  ShortShape,
  NoPlace,
  ShortReplies,
  BadRun,
}

abbrev pub kind_of : Damage → ℕ
kind_of EndOnFree = 1
kind_of OpenEnd = 2
kind_of Unaligned = 3
kind_of DanglingReference = 4
kind_of WrongCount = 5
kind_of StrayData = 7

abbrev pub number_of : Refusal → ℕ
number_of Misshapen = 1
number_of (Damaged damage) = 2
number_of BadSize = 3
number_of BadRoot = 4
number_of NoChunk = 5
number_of NoObject = 6
number_of BadCell = 7
number_of BadReference = 8
number_of NoCall = 9
number_of CutOff = 10
number_of StaleSections = 11
number_of WrongKind = 12
number_of BadMarks = 13
number_of OutOfTurn = 14
number_of ShortReason = 15
number_of ShortShape = 16
number_of NoPlace = 17
number_of ShortReplies = 18
number_of BadRun = 19

-- what is told beside the number: the damage kind, or 0
abbrev pub told_by : Refusal → ℕ
told_by Misshapen = 0
told_by (Damaged damage) = kind_of damage
told_by BadSize = 0
told_by BadRoot = 0
told_by NoChunk = 0
told_by NoObject = 0
told_by BadCell = 0
told_by BadReference = 0
told_by NoCall = 0
told_by CutOff = 0
told_by StaleSections = 0
told_by WrongKind = 0
told_by BadMarks = 0
told_by OutOfTurn = 0
told_by ShortReason = 0
told_by ShortShape = 0
told_by NoPlace = 0
told_by ShortReplies = 0
told_by BadRun = 0
