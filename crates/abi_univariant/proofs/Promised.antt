-- What is promised of a list, and of one in an order that is handed in.

pub mod OrderedLemmas
pub mod DeepLemmas
pub mod LeastLemmas
pub mod InOrderLemmas
