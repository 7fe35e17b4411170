pub mod JobData  -- a job as plain records
pub mod Ranges  -- the ranges of its numbers
pub mod LoadOf  -- the force and moment resultants of a case
pub mod Wall  -- plies laid one on the other
pub mod LaminateStrain  -- mid-plane strain and curvature
pub mod Equilibrium  -- the laminate strains of a wall under a load
pub mod Schedule  -- item numbers of a catalogue, and what they lay up
pub mod LoadRange  -- the loads that a wall is computed for
pub mod Strength  -- the strength ratio at the places of a wall
pub mod Plate  -- buckling of panels
pub mod Rules  -- the nine rules
pub mod Design  -- what may be built, and what is least
pub mod Near  -- what rounded numbers may not decide
pub mod Partial  -- a length and the first plies
pub mod Keys  -- the keys of its file, and what stands at each
pub mod JobOf  -- what the bytes of its file mean
pub mod inside  -- words that calls need and nobody has to believe
