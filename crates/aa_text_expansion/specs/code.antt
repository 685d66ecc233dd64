-- What is about the code: how it cuts the parts of a text, and how lists of texts are made of earlier ones and written out.
pub mod Made
pub mod TextParts
pub mod Written
