-- How the repr of a struct, and of a union, is written: words with commas between them, no kind of word twice.
use Rattle.std.specs.Prelude.{ℕ, ◌==◌, ◌&&◌, Bool, true, false, List, [], ◌∷◌, codes, count_by, drop, length, take, Option, None, Some, is_some, nat_le, option_map, Result, Ok, Err, if◌then◌else◌}
use Rattle.std.specs.Int.RustNames.{bit_or}
use Rattle.std.specs.List.{list_all}
use Rattle.std.specs.Str.{bytes_eq}
use Rattle.abi_base.specs.Align.{align_of_bytes}
use Rattle.abi_base.specs.declared.align.AlignFromBytesError.{AlignFromBytesError}
use Rattle.abi_base.specs.declared.integer.Integer.{Integer as AnInteger}
use Rattle.abi_base.specs.declared.integer.IntegerType.{IntegerType}
use Rattle.abi_base.specs.declared.integer.IntegerType.TheVariants.{Pointer, Fixed}
use Rattle.abi_text.specs.declared.reader.repr_text.ReprPart.{ReprPart}
use Rattle.abi_text.specs.declared.reader.repr_text.ReprPart.TheVariants.{C, Transparent, Linear, Packed, Align, Integer, Tail}
use Rattle.abi_text.specs.declared.reader.repr_text.ReprKind.{ReprKind}
use Rattle.abi_text.specs.declared.reader.repr_text.ReprKind.TheVariants as kind
use Rattle.abi_text.specs.declared.reader.repr_text.StructRepr.{StructRepr}
use Rattle.abi_scalar.specs.declared.repr.ReprOptions.{ReprOptions}
use Rattle.abi_text.specs.Numbers.{number_of_bits}
use Rattle.abi_text.specs.ScalarWords.{first_of, integer_named}

-- the first part, longer by a byte in front
abbrev pub longer : (b : ℕ) → List (List ℕ) → List (List ℕ)
longer b [] = (b ∷ []) ∷ []
longer b (p ∷ ps) = (b ∷ p) ∷ ps

-- the parts between commas
abbrev pub repr_parts : List ℕ → List (List ℕ)
repr_parts [] = [] ∷ []
repr_parts (b ∷ bs) = if b == 44 then [] ∷ repr_parts bs else longer b (repr_parts bs)

-- what a struct's repr asks for where it asks for nothing
abbrev pub plain : StructRepr
plain = record { repr = record { int = None; align = None; pack = None; flags = record { 0 = 0 }; scalable = None; field_shuffle_seed = 0 }; always_sized = true }

-- the alignment, where the number is one
abbrev pub where_valid : Result ℕ AlignFromBytesError → Option ℕ
where_valid (Ok a) = Some a
where_valid (Err e) = None

-- the alignment of so many bytes, where it is one
abbrev pub alignment_of : Option ℕ → Option ℕ
alignment_of None = None
alignment_of (Some n) = where_valid (align_of_bytes n)

-- the alignment of so many bytes that the word says after this beginning
abbrev pub alignment_after : (name : List ℕ) → List ℕ → Option ℕ
alignment_after name w = if bytes_eq (take (length name) w) name then alignment_of (number_of_bits 64 (drop (length name) w)) else None

-- the integer that a repr names
abbrev pub fixed : Option (AnInteger × Bool) → Option IntegerType
fixed None = None
fixed (Some p) = Some (Fixed p.0 p.1)

-- the integer type of this name
abbrev pub integer_type_named : List ℕ → Option IntegerType
integer_type_named w =
    if bytes_eq w (codes "usize") then Some (Pointer false)
    else (if bytes_eq w (codes "isize") then Some (Pointer true) else fixed (integer_named w))

-- what a part of a repr with a value asks for
abbrev pub valued_part : List ℕ → Option ReprPart
valued_part w =
    first_of (option_map (λ i. Integer i) (integer_type_named w))
    (first_of (option_map (λ a. Packed a) (alignment_after (codes "packed=") w)) (option_map (λ a. Align a) (alignment_after (codes "align=") w)))

-- what a part of a repr asks for
abbrev pub repr_part : List ℕ → Option ReprPart
repr_part w =
    if bytes_eq w (codes "C") then Some C
    else (if bytes_eq w (codes "transparent") then Some Transparent
    else (if bytes_eq w (codes "linear") then Some Linear
    else (if bytes_eq w (codes "tail") then Some Tail else valued_part w)))

-- of which kind a word of a repr is
abbrev pub repr_kind : ReprPart → ReprKind
repr_kind C = kind.C
repr_kind Transparent = kind.Transparent
repr_kind Linear = kind.Linear
repr_kind (Packed a) = kind.Packed
repr_kind (Align a) = kind.Align
repr_kind (Integer i) = kind.Integer
repr_kind Tail = kind.Tail

-- two words are of one kind
abbrev pub same_kind : ReprKind → ReprKind → Bool
same_kind kind.C kind.C = true
same_kind kind.Transparent kind.Transparent = true
same_kind kind.Linear kind.Linear = true
same_kind kind.Packed kind.Packed = true
same_kind kind.Align kind.Align = true
same_kind kind.Integer kind.Integer = true
same_kind kind.Tail kind.Tail = true
same_kind _ _ = false

-- the part is a word of this kind
abbrev pub has_kind : ReprKind → Option ReprPart → Bool
has_kind k None = false
has_kind k (Some part) = same_kind (repr_kind part) k

-- the kind comes at most once
abbrev pub is_single : ReprKind → List (List ℕ) → Bool
is_single k parts = nat_le (count_by (λ p. has_kind k (repr_part p)) parts) 1

-- each part is a word of a repr, and no kind comes twice
abbrev pub are_repr_words : List (List ℕ) → Bool
are_repr_words parts =
    list_all (λ p. is_some (repr_part p)) parts && is_single kind.C parts && is_single kind.Transparent parts && is_single kind.Linear parts
    && is_single kind.Packed parts && is_single kind.Align parts && is_single kind.Integer parts && is_single kind.Tail parts

-- what is asked, with this flag set
abbrev pub flagged : (flag : ℕ) → StructRepr → StructRepr
flagged flag asked = record asked { repr = record asked.repr { flags = record { 0 = bit_or asked.repr.flags.0 flag } } }

-- what is asked for with a further word
abbrev pub with_part : StructRepr → Option ReprPart → StructRepr
with_part asked None = asked
with_part asked (Some C) = flagged 1 asked
with_part asked (Some Transparent) = flagged 4 asked
with_part asked (Some Linear) = flagged 8 asked
with_part asked (Some (Packed a)) = record asked { repr = record asked.repr { pack = Some a } }
with_part asked (Some (Align a)) = record asked { repr = record asked.repr { align = Some a } }
with_part asked (Some (Integer i)) = record asked { repr = record asked.repr { int = Some i } }
with_part asked (Some Tail) = record asked { always_sized = false }

-- what is asked for with these words
abbrev pub asked_by : StructRepr → List (List ℕ) → StructRepr
asked_by asked [] = asked
asked_by asked (p ∷ ps) = asked_by (with_part asked (repr_part p)) ps

-- what a word asks for where a struct's repr stands
abbrev pub struct_repr : List ℕ → Option StructRepr
struct_repr w =
    if bytes_eq w (codes "-") then Some plain
    else (if are_repr_words (repr_parts w) then Some (asked_by plain (repr_parts w)) else None)

-- the options of a repr that has no `tail`
abbrev pub without_tail : Option StructRepr → Option ReprOptions
without_tail None = None
without_tail (Some asked) = if asked.always_sized then Some asked.repr else None

-- what a word asks for where a union's repr stands: a struct's repr, without `tail`
abbrev pub union_repr : List ℕ → Option ReprOptions
union_repr w = without_tail (struct_repr w)

-- the parts that are left
abbrev pub repr_parts_left : Option (List ℕ) → List (List ℕ)
repr_parts_left None = []
repr_parts_left (Some w) = repr_parts w
