mod Palindromes  -- a symmetric wall that bears no moment does not bend
mod DualLength  -- how small strains are by the length of what they leave
mod PlySums  -- sums over the plies of a wall, and over those of a completion
mod HeldExtension  -- the extension of fixed plies, and of what can be at open places, held
mod Thicknesses  -- how thick completions are
mod Completions  -- the extension of every completion is held
mod Work  -- the work of what a guess leaves
mod HeldBox  -- what a guess leaves, its length and what lies round the guess, held
mod InBox  -- the strains of every completion lie in the box
mod Failing  -- where a level fails, the value of the criterion is above 1
mod FirstFailing  -- the first place that fails
mod InWalls  -- a place that fails in a box fails in each wall
mod Truth  -- so every completion fails there
mod MoreItems  -- the thickest and the thinnest of more items
mod Filled  -- a table that is filled entry by entry
mod FixedPlies  -- the sum over fixed plies, one ply after the other
mod OpenPlies  -- what can be at the open places, one item after the other
mod FailingSteps  -- the first place that fails, ply by ply
mod BoxPlies  -- the criterion of a listed ply, by a table
mod Shapes  -- what all completions have in common, as it is computed
mod BoxedCases  -- the box of a case of a job
