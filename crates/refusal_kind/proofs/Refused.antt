-- A refusal's number is never 0, so that the answer of a check says whether it refuses.
use mathlib.Core.Logic.{◌≢◌}
use native.Mathlib.Omega.{arith}
use Rattle.refusal_kind.specs.declared.Refusal.{Refusal}
use Rattle.refusal_kind.specs.declared.Refusal.TheVariants.{TooManyOperators, TooManyRides, TooShort, TooManyPairs, BadPair, NoStampOfPair, BadKind, OutOfRange, NoStamp, NotLater}
use Rattle.refusal_kind.specs.declared.Refusal.TheVariants.{BadMark, BadLength, LargeRevision, UnusedField, BadBands, BandsOverlap, BandsLeaveGap}
use Rattle.refusal_kind.specs.Number.{number}

pub refused : (r : Refusal) → number r ≢ 0
refused TooManyOperators = omega arith
refused TooManyRides = omega arith
refused TooShort = omega arith
refused TooManyPairs = omega arith
refused BadPair = omega arith
refused NoStampOfPair = omega arith
refused BadKind = omega arith
refused OutOfRange = omega arith
refused NoStamp = omega arith
refused NotLater = omega arith
refused BadMark = omega arith
refused BadLength = omega arith
refused LargeRevision = omega arith
refused UnusedField = omega arith
refused BadBands = omega arith
refused BandsOverlap = omega arith
refused BandsLeaveGap = omega arith
