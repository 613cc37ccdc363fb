-- Inner contracts: the numbers of documents 01 and 02 as refusals.
use Rattle.std.specs.Prelude.{ℕ, Result, Ok, Err}
use Rattle.refusal_kind.specs.declared.Refusal.{Refusal}
use Rattle.refusal_kind.specs.declared.Refusal.TheVariants.{TooManyOperators, TooManyRides, TooShort, TooManyPairs, BadPair, NoStampOfPair, BadKind, OutOfRange, NoStamp, NotLater}
use Rattle.refusal_kind.specs.declared.Refusal.TheVariants.{BadMark, BadLength, LargeRevision, UnusedField, BadBands, BandsOverlap, BandsLeaveGap}

-- the number of a refusal
abbrev pub number : Refusal → ℕ
number TooManyOperators = 1
number TooManyRides = 2
number TooShort = 3
number TooManyPairs = 4
number BadPair = 5
number NoStampOfPair = 6
number BadKind = 7
number OutOfRange = 8
number NoStamp = 9
number NotLater = 10
number BadMark = 12
number BadLength = 13
number LargeRevision = 14
number UnusedField = 15
number BadBands = 16
number BandsOverlap = 17
number BandsLeaveGap = 18

-- the number that a check answers: 0 where it refuses nothing
abbrev pub number_of : {A : Type 0} → Result A Refusal → ℕ
number_of (Ok _) = 0
number_of (Err refusal) = number refusal
