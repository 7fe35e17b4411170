-- which schedules are judged, and what a judgement says
pub mod Judgements
-- the printed ratios of a schedule
pub mod Printed
-- how the code computes: nobody has to believe it
pub mod inside
