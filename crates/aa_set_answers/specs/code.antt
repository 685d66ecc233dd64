-- Definitions about the code: answers by slots, and names that are kept in order.
pub mod SeenNames
pub mod SeenTexts
