-- walls that are fit for a panel, and what is sure of a panel
pub mod Panels
-- how near verdicts and printed ratios are to the exact ones
pub mod NearFactor
-- values, and what the calls need on the way
pub mod inside
