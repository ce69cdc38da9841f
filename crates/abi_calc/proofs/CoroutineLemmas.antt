-- Coroutines.

-- which states hold the locals of a coroutine, found state after state
pub mod Holders
-- the conflicts of a coroutine's locals, settled one after another
pub mod Steps
-- which locals of a coroutine are promoted, and what is known of the others
pub mod Promotion
-- where a state of a coroutine has its locals
pub mod Places
-- locals of a coroutine that clash share no byte, and a local has one place
pub mod Clash
-- the lists of a coroutine, field by field
pub mod Lists
-- the offsets and the memory order of a state, local by local
pub mod States
-- the layout of a coroutine, from those of its lists
pub mod Layout
-- what is promised of a coroutine, from its lists
pub mod Promised
-- the prefix fields, the tag and the locals of a state share no byte
pub mod Told
-- the prefix fields, the tag and the locals of a state share no byte
pub mod Apart
-- the same of the locals that the states and the conflicts promote; where none is promoted
pub mod Shared
-- there is one tag of so many states; the rules give a coroutine one answer, memory aside; they give it one
pub mod OneCoroutine
-- what is promised of a coroutine, from the answer that the rules give it
pub mod Deep
-- there is one tag of so many states; the rules give a coroutine one answer, memory aside; they give it one
pub mod SomeCoroutine
-- the answer to a coroutine depends on layouts alone, not on what lends them
pub mod SameCoroutine
-- the same of a coroutine and its lists
pub mod Seen
-- the fields of a coroutine and of its states follow one another in memory, and never back
pub mod Ordered
-- all of it as one fact
pub mod Good
