-- Inner contracts: one value stored from one place of an array up to another.
use Rattle.std.specs.Prelude.{List, ◌++◌, ℕ, ◌-◌, length, take, drop, replicate}

-- the items l, with one value at the places from one up to another
abbrev pub filled : {A : Type 0} → ℕ → ℕ → A → List A → List A
filled {A} from to value l = let new : List A = take from l ++ replicate (to - from) value in new ++ drop (length new) l
