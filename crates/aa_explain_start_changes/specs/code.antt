-- What is about the code: places as it holds them, compared, and starts that are told so far. No public contract names
-- these.
pub mod Same
pub mod SeenPlaces
pub mod Telling
