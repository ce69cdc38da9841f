-- Faults and refusals.

-- a scalar without a fault is lawful, and the tests for it say so
pub mod FaultLemmas
-- which refusal is a tree's
pub mod RefusalLemmas
-- what is known of an enum, and of a coroutine, without a fault of its own; the conflicts as a relation
pub mod FaultlessLemmas
-- what is known of an enum, and of a coroutine, without a fault of its own; the conflicts as a relation
pub mod CoroutineFaultLemmas
-- lists that are longer than an index can name
pub mod LongLemmas
