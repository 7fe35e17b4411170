pub mod Here  -- where a walk is
pub mod Ready  -- what is made before it begins
pub mod Hints  -- what is known of all children of a split
pub mod Held  -- what is so of a node when it is written
pub mod Steps  -- what a walk wrote
pub mod Ordered  -- the children of a split in order
pub mod Sights  -- what is seen when a tree is read again
pub mod Outcome  -- what a search found
