pub mod OwnTypeLemmas
