-- Bytes, and what they hold: numbers, bytes picked, taken and put.

pub mod BytesLemmas
pub mod HoldLemmas
pub mod NumberLemmas
pub mod PickedLemmas
pub mod TakenLemmas
pub mod PutOverLemmas
pub mod PutPlacesLemmas
