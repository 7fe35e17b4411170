pub mod Views  -- what the models of a job show
pub mod Tells  -- answers of parts of a job
