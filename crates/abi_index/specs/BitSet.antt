-- Sets of places below a size. A set is kept as the list that says of each place below the size whether it is a member.
use Rattle.std.specs.Prelude.{ℕ, ◌-◌, Bool, false, List, length, map, filter, slice_index_or}
use Rattle.std.specs.List.{range_with_len}
use Rattle.abi_index.specs.declared.bit_set_iter.BitSetIter.{BitSetIter}

-- how many places the set may have as members
abbrev pub domain_size : List Bool → ℕ
domain_size set = length set

-- whether a place is a member
abbrev pub is_member : List Bool → ℕ → Bool
is_member set k = slice_index_or set k false

-- the members from a place on, ascending
abbrev pub members_from : List Bool → ℕ → List ℕ
members_from set i = filter (is_member set) (range_with_len i (domain_size set - i))

-- the members, ascending
abbrev pub members_of : List Bool → List ℕ
members_of set = members_from set 0

-- the members that are still to come, by the function that makes an index of a place
-- (the names between braces stand for what the bound `Idx` brings)
abbrev pub members_left : {I : Type 0} {idx : _} {eq : _} {hash : _} {debug : _} → (ℕ → I) → BitSetIter I idx eq hash debug → List I
members_left at s = map at (members_from s.bits.now s.next)
