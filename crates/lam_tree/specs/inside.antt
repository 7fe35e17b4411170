pub mod Added  -- a line that grows by words
pub mod Cut  -- a line, cut into its words
pub mod LineReading  -- how the words of a node's line are read
