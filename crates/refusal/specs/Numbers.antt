-- The number of each refusal. Numbers are part of the format: scripts, logs and other implementations go by them.
use Rattle.std.specs.Prelude.{ℕ}
use Rattle.refusal.specs.declared.Refusal.{Refusal}
use Rattle.refusal.specs.declared.Refusal.TheVariants.{BlockTooShort, OverLimit, WrongLength, TargetsNotAscending, NotACard, TargetOutsideForest, TargetAboveAnother, WrongHashCount, BlankRoot, ProofDoesNotFit, TooManySlots, AlreadyOnShelf, ShelfFull, NoMark, NotOnShelf, NotFound, HashNotFresh, OverCapacity, OutputTooShort}

abbrev pub number : Refusal → ℕ
number BlockTooShort = 1
number OverLimit = 2
number WrongLength = 3
number TargetsNotAscending = 4
number NotACard = 5
number TargetOutsideForest = 6
number TargetAboveAnother = 7
number WrongHashCount = 8
number BlankRoot = 9
number ProofDoesNotFit = 10
number TooManySlots = 11
number AlreadyOnShelf = 12
number ShelfFull = 13
number NoMark = 14
number NotOnShelf = 15
number NotFound = 16
number HashNotFresh = 17
number OverCapacity = 18
number OutputTooShort = 19
