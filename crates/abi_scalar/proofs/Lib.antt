-- ranges, the free numbers of niches, the least range
pub mod RangeLemmas
pub mod LawfulLemmas
pub mod GapLemmas
pub mod ReserveLemmas
pub mod CountLemmas
pub mod LeastLemmas
pub mod EndsLemmas
-- niches, lawful scalars, two scalars
pub mod NicheLemmas
pub mod ReadableLemmas
pub mod PairLemmas
-- fields in memory order
pub mod OrderLemmas
