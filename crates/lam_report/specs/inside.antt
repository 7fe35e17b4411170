pub mod Pieces  -- a text on its way into a sink
pub mod Reading  -- how lines are read
pub mod Left  -- what is left of bytes that are read by lines
pub mod Named  -- what is known of the schedule that an answer names
pub mod HeadReading  -- how the lines of a report are read
pub mod Gives  -- what a reader of lines answers
pub mod ReportReading  -- how the lines of a report are read, one after the other
