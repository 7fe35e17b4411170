pub mod Sets  -- sets of items
pub mod Basis  -- what a report is checked against
pub mod Machine  -- where the machine is, and what it is still to read
pub mod Steps  -- what a line does
pub mod Given  -- what a checker is given
pub mod Ready  -- what a checker has made before it begins
pub mod Printing  -- what is printed of a best schedule
pub mod Claimed  -- what a report claims, and what its tree gives
