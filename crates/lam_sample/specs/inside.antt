pub mod Bounds  -- the ranges of what is drawn
pub mod CatalogueText  -- the lines of a catalogue
pub mod Document  -- the document of a job
