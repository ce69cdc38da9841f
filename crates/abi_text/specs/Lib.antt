-- words and numbers
pub mod Pieces
pub mod Words
pub mod Numbers
-- data layouts and types read, word by word
pub mod DataLayoutLine
pub mod ScalarWords
pub mod TypeWords
pub mod Scalars
pub mod Repr
pub mod Reading
-- laid-out types printed, and the names of refusals
pub mod Printing
pub mod Listed
pub mod Names
-- the words that write a type
pub mod Written
-- the answer to an input
pub mod Lines
pub mod Output
pub mod LaidOut
pub mod Report
