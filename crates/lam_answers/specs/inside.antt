pub mod Computed  -- what is computed of schedules
