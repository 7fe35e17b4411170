-- The ranks of the three guides: the least comes first.
use Rattle.std.specs.Prelude.{ℕ, ◌-◌, ◌^◌, min, ℤ, pos, negsuc}
use Rattle.lam_guide.specs.declared.guide.Choice.{Choice}
use Rattle.lam_guide.specs.Credits.{Learned, credit_of}

-- the greatest rank, that of 32 bits
abbrev pub greatest_rank : ℕ
greatest_rank = 2 ^ 32 - 1

-- the least number first; what passes the greatest rank ranks as it
abbrev pub least_first : ℕ → ℕ
least_first n = min n greatest_rank

-- the greatest number first; what passes the greatest rank counts as it
abbrev pub greatest_first : ℕ → ℕ
greatest_first n = greatest_rank - min n greatest_rank

-- a number that is not negative, and 0 for one that is
abbrev pub from_zero : ℤ → ℕ
from_zero (pos n) = n
from_zero (negsuc n) = 0

-- by cost, the cheapest first
abbrev pub cost_rank : Choice → ℕ
cost_rank choice = least_first choice.cost

-- by thickness, the thickest first
abbrev pub thickness_rank : Choice → ℕ
thickness_rank choice = greatest_first (from_zero choice.t)

-- by the credit of the item, the most first
abbrev pub credit_rank : Learned → Choice → ℕ
credit_rank learned choice = greatest_first (credit_of choice.item learned.credits)
