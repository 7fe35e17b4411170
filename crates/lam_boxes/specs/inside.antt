pub mod Extents  -- how thick the completions of a partial schedule are
pub mod Extensions  -- their stiffness in extension
pub mod Centres  -- a guess of their strains
pub mod Residuals  -- what a guess leaves, and how far the strains are from it at most
pub mod Boxes  -- the box of strains, and the first place that fails in it
pub mod Parts  -- what the calls need of their arguments
pub mod Tables  -- what is made once for a catalogue
