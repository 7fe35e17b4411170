-- the words sorted: positional texts, and the values of options
pub mod Sorting
-- a number of 1 and more, as it is written
pub mod Numbers
-- the order that words have
pub mod Reading
-- an order, by the bytes of its texts
pub mod Spelled
-- how the code holds these
pub mod inside
