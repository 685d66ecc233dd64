pub mod EarlierRules
pub mod Quotes
pub mod ReadBack
pub mod Written
