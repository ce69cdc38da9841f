-- What `repr` asks for.
use Rattle.std.specs.Prelude.{ℕ, zero, suc, ◌-◌, ◌^◌, ◌==◌, ◌&&◌, ◌||◌, Bool, true, false, not, codes, List, min, max, nat_lt, Option, None, Some, Result, Ok, Err, if◌then◌else◌}
use Rattle.std.specs.Str.{bytes_eq}
use Rattle.rust_source.specs.declared.fault.SourceFault.{SourceFault}
use Rattle.rust_source.specs.declared.fault.SourceFaultKind.TheVariants.{BadRepr, RepeatedInteger}
use Rattle.rust_source.specs.declared.item.Repr.{Repr}
use Rattle.rust_source.specs.declared.place.Place.{Place}
use Rattle.rust_source.specs.declared.reader.cursor.Cursor.{Cursor}
use Rattle.rust_source.specs.declared.reader.literals.Number.{Number}
use Rattle.rust_source.specs.declared.reader.literals.Number.TheVariants as number
use Rattle.rust_source.specs.declared.syntax.IntegerKind.{IntegerKind}
use Rattle.rust_source.specs.declared.tokens.token.Bracket.TheVariants as bracket
use Rattle.rust_source.specs.declared.tokens.token.Token.{Token}
use Rattle.rust_source.specs.declared.tokens.token.TokenKind.{TokenKind}
use Rattle.rust_source.specs.declared.tokens.token.TokenKind.TheVariants as kind
use Rattle.rust_source.specs.Cursor.{comma_passed, fault, group_passed, inside, is_done, is_none, nth, passed, place, token_text}
use Rattle.rust_source.specs.Literals.{integer_kind, number_written}
use Rattle.rust_source.specs.Reading.{read_as, then_read, word_text}

-- something is there
abbrev pub is_there : {A : Type 0} → Option A → Bool
is_there None = false
is_there (Some a) = true

-- anything is asked for: `repr()` asks for nothing
abbrev pub asks : Repr → Bool
asks r = r.c || r.rust || r.transparent || r.simd || is_there r.integer || is_there r.packed || is_there r.align

-- a fault at a `repr` that stands where none may, if one is there
abbrev pub misplaced : (at : Option Place) → Result (Unit {0}) SourceFault
misplaced None = Ok tt
misplaced (Some at) = Err (record { at = at; kind = BadRepr })

-- the number that a token of this kind is, whose text is given
abbrev pub number_token : (text : List ℕ) → TokenKind → Number
number_token text kind.Number = number_written text
number_token text _ = number.Bad

-- the number that a token is, a bad one where there is no token
abbrev pub number_by : Cursor → Option Token → Number
number_by c None = number.Bad
number_by c (Some t) = number_token (token_text c t) t.kind

-- the number that is next; a bad one where none is
unfoldable pub next_number : Cursor → Number
next_number c = number_by c (nth c 0)

-- the number of bytes that stands in parentheses, alone
abbrev pub bytes_by : Cursor → Number → Result ℕ SourceFault
bytes_by c (number.Integer n None) = if is_none (nth c 1) && nat_lt n (2 ^ 64) then Ok n else Err (fault c BadRepr)
bytes_by c _ = Err (fault c BadRepr)

unfoldable pub bytes_in : Cursor → Result ℕ SourceFault
bytes_in c = bytes_by c (next_number c)

-- with `packed` to so many bytes more: the least of several counts
abbrev pub packed_by : Repr → (bytes : ℕ) → (before : Option ℕ) → Repr
packed_by r bytes None = record r { packed = Some bytes }
packed_by r bytes (Some before) =
    record r { packed = Some (min before bytes); is_packed_apart = r.is_packed_apart || not (before == bytes) }

-- the `repr` with `packed` to so many bytes more
abbrev pub with_packed : Repr → (bytes : ℕ) → Repr
with_packed r bytes = packed_by r bytes r.packed

-- the greater of two numbers, of which one may be missing
abbrev pub greater_of : Option ℕ → ℕ → Option ℕ
greater_of None n = Some n
greater_of (Some m) n = Some (max m n)

-- with an integer type more: a second one is refused
abbrev pub with_kind : Cursor → Repr → IntegerKind → (before : Option IntegerKind) → Result Repr SourceFault
with_kind c r k None = Ok (record r { integer = Some k })
with_kind c r k (Some before) = Err (fault c RepeatedInteger)

-- the `repr` with this integer type more; a fault where the word is none
abbrev pub integer_by : Cursor → Repr → Option IntegerKind → Result Repr SourceFault
integer_by c r None = Err (fault c BadRepr)
integer_by c r (Some k) = with_kind c r k r.integer

-- with a word more, which has no number and stands at the cursor
unfoldable pub with_word : Cursor → Repr → (word : List ℕ) → Result Repr SourceFault
with_word c r word =
    if bytes_eq word (codes "C") then Ok (record r { c = true })
    else (if bytes_eq word (codes "Rust") then Ok (record r { rust = true })
    else (if bytes_eq word (codes "transparent") then Ok (record r { transparent = true })
    else (if bytes_eq word (codes "simd") then Ok (record r { simd = true })
    else (if bytes_eq word (codes "packed") then Ok (with_packed r 1)
    else integer_by c r (integer_kind word)))))

-- with a word and its number more
unfoldable pub with_bytes : Cursor → Repr → (word : List ℕ) → (bytes : ℕ) → Result Repr SourceFault
with_bytes c r word bytes =
    if bytes_eq word (codes "packed") then Ok (with_packed r bytes)
    else (if bytes_eq word (codes "align") then Ok (record r { align = greater_of r.align bytes }) else Err (fault c BadRepr))

-- with the word more that is next, whose number stands in these parentheses, if it has one
abbrev pub word_by : Repr → Cursor → (number : Option Cursor) → Result Repr SourceFault
word_by r c None = with_word c r (word_text c)
word_by r c (Some i) = then_read (λ bytes. with_bytes c r (word_text c) bytes) (bytes_in i)

-- with the word more that is next and its number, if it has one, and what follows them and a `,`
unfoldable pub word_more : Repr → Cursor → Result (Repr × Cursor) SourceFault
word_more r c =
    let number = inside (passed c 1) bracket.Round in
    then_read (λ s. read_as (λ d. (s, d)) (comma_passed (group_passed (passed c 1) number))) (word_by r c number)

-- with at most so many words more
abbrev pub words_from : (limit : ℕ) → Repr → Cursor → Result Repr SourceFault
words_from zero r c = Ok r
words_from (suc limit) r c = if is_done c then Ok r else then_read (λ (s : Repr × Cursor). words_from limit s.0 s.1) (word_more r c)

-- where the first `repr` stands
abbrev pub first_at : Option Place → Place → Place
first_at None here = here
first_at (Some at) here = at

-- what is asked for with the words more that stand in the parentheses of a `repr`
unfoldable pub with_repr : Repr → Cursor → Result Repr SourceFault
with_repr r c = words_from (c.end - c.at) (record r { at = Some (first_at r.at (place c)) }) c
