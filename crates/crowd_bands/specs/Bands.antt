-- Inner contracts: what the numbers of a crowd table are found by, over a list of its bands.
use Rattle.std.specs.Prelude.{Bool, ◌&&◌, ◌||◌, List, ℕ, zero, suc, ◌+◌, ◌-◌, ltb, leb, get_or}
use Rattle.model.specs.declared.Band.{Band}
use Rattle.model.specs.Count.{some}
use Rattle.model.specs.Crowd.{most_guests, falls_in}

-- band i of a list, from 0
abbrev pub at : List Band → ℕ → Band
at bands i = get_or bands i (record { first = 0; last = 0; alpha = 0; beta = 0 })

abbrev pub first_of : List Band → ℕ → ℕ
first_of bands i = (at bands i).first

abbrev pub last_of : List Band → ℕ → ℕ
last_of bands i = (at bands i).last

-- the first count of a band exceeds its last, or one of them is above 20,000
abbrev pub malformed : Band → Bool
malformed b = ltb b.last b.first || ltb most_guests b.first || ltb most_guests b.last

-- band i is
abbrev pub malformed_at : List Band → ℕ → Bool
malformed_at bands i = malformed (at bands i)

-- two bands share a guest count
abbrev pub shares : Band → Band → Bool
shares b other = leb b.first other.last && leb other.first b.last

-- bands i and j do
abbrev pub share : List Band → ℕ → ℕ → Bool
share bands i j = shares (at bands i) (at bands j)

-- band i shares one with a band before it
abbrev pub shares_earlier : List Band → ℕ → Bool
shares_earlier bands i = some i (share bands i)

-- the guest counts of the first k bands, added up
unfoldable pub widths : List Band → ℕ → ℕ
widths bands zero = 0
widths bands (suc k) = widths bands k + (suc (last_of bands k) - first_of bands k)

-- a guest count falls in band i
abbrev pub falls_at : List Band → ℕ → ℕ → Bool
falls_at bands guests i = falls_in (at bands i) guests
