pub mod Computed  -- what is computed of an item
pub mod Demands  -- what has to be carried
pub mod Tables  -- what is made once for a job and a catalogue
pub mod RunningSums  -- the sums over the plies that are fixed
