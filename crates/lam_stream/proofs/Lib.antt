-- the lines of nodes are read as those nodes
pub mod NodeLines
-- the bytes of a report, from its head on
pub mod Headed
