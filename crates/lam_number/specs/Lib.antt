-- where an enclosure lies to a margin
pub mod Signs
-- what fixed point and balls compute: nobody has to believe it
pub mod inside
