-- Definitions about the code: requests by their file, and what is found of each question in turn, and the report on folders by that.
pub mod Requests
pub mod Steps
