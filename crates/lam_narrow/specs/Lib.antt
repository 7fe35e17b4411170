-- near strains, and how far their values are apart
pub mod Close
-- where a verdict straddles
pub mod Straddling
