-- an item of a catalogue with a scale
pub mod Listed
-- what the strains at a face hold
pub mod FaceStrains
-- what a level and a verdict say of the Tsai-Wu value
pub mod Levels
-- what they say of the strength ratio
pub mod Ratios
-- how the code computes: nobody has to believe it
pub mod inside
