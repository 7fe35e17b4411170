-- values near 1, and what they say of a stress
pub mod NearOne
-- what they say of the places of a wall
pub mod NearPlaces
-- printed ratios that are sharp
pub mod SharpRatios
