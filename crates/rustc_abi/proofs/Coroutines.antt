-- Coroutines.

-- the layouts that the calculator gives keep the laws of nodes: of lists, unions, elements, vectors, pairs and variants; of enums; of the prefix fields and the tag of a coroutine
pub mod StateLawsLemmas
-- a coroutine keeps its values: its states' tagged variants; the whole
pub mod StateTaggedVariantsLemmas
-- a coroutine keeps its values: its states' tagged variants; the whole
pub mod StatesLemmas
-- states whose parts lie apart fit together; when a coroutine is flagged
pub mod StatePlacesLemmas
-- states whose parts lie apart fit together; when a coroutine is flagged
pub mod StateFlagLemmas
-- the layout of a coroutine keeps the values of its prefix fields and its locals
pub mod CoroutineLemmas
-- nodes for the states of a coroutine
pub mod StateNodesLemmas
-- the calculator's answer to a coroutine, whatever lends the layouts and whatever relation has its conflicts
pub mod CoroutinedLemmas
-- how coroutines are laid out, once their prefix fields and their locals are
pub mod AddedCoroutineLemmas
-- what the locals of a coroutine share
pub mod ClashLemmas
