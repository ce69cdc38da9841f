-- Lists of cells, and those that are all bytes.
use Rattle.std.proofs.Common.{Some, None, ◌≡◌, ℕ, zero, suc, ◌+◌, ◌*◌, ◌<◌, List, [], ◌∷◌, length, map, take, drop, reverse, arith, refl, sym, ap, ◌∙◌, subst, ⊎_elim}
use Rattle.std.proofs.lemmas.List.Elements.{All-nil, All-cons, All-head, All-tail, All-take, All-drop}
use Rattle.automata.specs.Cell.{Cell, IsCell, AreCells}
use Rattle.std.proofs.lemmas.List.{length-reverse}
use Rattle.abi_base.specs.declared.endian.Endian.{Endian}
use Rattle.abi_base.specs.declared.endian.Endian.TheVariants.{Little, Big}
use Rattle.abi_scalar.specs.Range.{numbers_of}
use Rattle.abi_tree.specs.Bytes.{AreBytes, bytes_at, little, number_of}
use Rattle.abi_tree.proofs.Bytes.BytesLemmas.{numbers_of-suc, AreBytes-reverse}
use Rattle.abi_bytes.specs.Holding.{cells_at}
use Rattle.abi_bytes.specs.Filling.{Fills, AreSet}

abbrev pub some : ℕ → Cell
some b = Some b

length-bytes : (b : List ℕ) → length (map some b) ≡ length b
length-bytes [] = refl
length-bytes (x ∷ b) = ap suc (length-bytes b)

take-bytes : (n : ℕ) (b : List ℕ) → take n (map some b) ≡ map some (take n b)
take-bytes zero b = refl
take-bytes (suc n) [] = refl
take-bytes (suc n) (x ∷ b) = ap (λ w. some x ∷ w) (take-bytes n b)

drop-bytes : (n : ℕ) (b : List ℕ) → drop n (map some b) ≡ map some (drop n b)
drop-bytes zero b = refl
drop-bytes (suc n) [] = refl
drop-bytes (suc n) (x ∷ b) = drop-bytes n b

pub length-map_some : (b : List ℕ) → length (map some b) ≡ length b
length-map_some = length-bytes

pub cells_at-bytes : (b : List ℕ) (offset n : ℕ) → cells_at (map some b) offset n ≡ map some (bytes_at b offset n)
cells_at-bytes b offset n = ap (take n) (drop-bytes offset b) ∙ take-bytes n (drop offset b)

abbrev byte_in : Cell → ℕ
byte_in (Some b) = b
byte_in None = 0

some_apart : (x y : ℕ) → some x ≡ some y → x ≡ y
some_apart x y e = ap byte_in e

abbrev pub head_of : List Cell → Cell
head_of [] = None
head_of (c ∷ w) = c

abbrev rest_of : List Cell → List Cell
rest_of [] = []
rest_of (c ∷ w) = w

-- no two lists of bytes are the same cells
pub map_some-apart : (b d : List ℕ) → map some b ≡ map some d → b ≡ d
map_some-apart [] [] e = refl
map_some-apart [] (y ∷ d) e = absurd (omega (arith, ap length e))
map_some-apart (x ∷ b) [] e = absurd (omega (arith, ap length e))
map_some-apart (x ∷ b) (y ∷ d) e = ap (λ z. z ∷ b) (some_apart x y (ap head_of e)) ∙ ap (λ l. y ∷ l) (map_some-apart b d (ap rest_of e))

pub AreCells-bytes : (b : List ℕ) → AreBytes b → AreCells (map some b)
AreCells-bytes [] all = All-nil IsCell
AreCells-bytes (x ∷ b) all = All-cons IsCell (some x) (map some b) (All-head (λ b. b < 256) x b all) (AreCells-bytes b (All-tail (λ b. b < 256) x b all))

pub AreCells-at : (w : List Cell) (offset n : ℕ) → AreCells w → AreCells (cells_at w offset n)
AreCells-at w offset n all = All-take IsCell n (drop offset w) (All-drop IsCell offset w all)

-- ---- cells that are set

pub AreSet-bytes : (b : List ℕ) → AreSet (map some b)
AreSet-bytes [] = tt
AreSet-bytes (x ∷ b) = ((x, refl), AreSet-bytes b)

-- set cells are bytes
pub bytes_of : (w : List Cell) → AreCells w → AreSet w → (b : List ℕ) × (w ≡ map some b) × AreBytes b
bytes_of [] all set = ([], refl, All-nil (λ b. b < 256))
bytes_of (c ∷ w) all set =
    let rest = bytes_of w (All-tail IsCell c w all) set.1 in
    let x : ℕ = set.0.0 in
    (x ∷ rest.0, ap (λ d. d ∷ w) set.0.1 ∙ ap (λ v. some x ∷ v) rest.1, All-cons (λ b. b < 256) x rest.0 (subst IsCell set.0.1 (All-head IsCell c w all)) rest.2)

-- ---- filling

pub length-Fills : (w u : List Cell) → Fills w u → length u ≡ length w
length-Fills [] [] h = refl
length-Fills [] (d ∷ u) h = absurd h
length-Fills (c ∷ w) [] h = absurd h
length-Fills (c ∷ w) (d ∷ u) h = ap suc (length-Fills w u h.1)

Fills-take : (n : ℕ) (w u : List Cell) → Fills w u → Fills (take n w) (take n u)
Fills-take zero w u h = tt
Fills-take (suc n) [] [] h = tt
Fills-take (suc n) [] (d ∷ u) h = absurd h
Fills-take (suc n) (c ∷ w) [] h = absurd h
Fills-take (suc n) (c ∷ w) (d ∷ u) h = (h.0, Fills-take n w u h.1)

Fills-drop : (n : ℕ) (w u : List Cell) → Fills w u → Fills (drop n w) (drop n u)
Fills-drop zero w u h = h
Fills-drop (suc n) [] [] h = tt
Fills-drop (suc n) [] (d ∷ u) h = absurd h
Fills-drop (suc n) (c ∷ w) [] h = absurd h
Fills-drop (suc n) (c ∷ w) (d ∷ u) h = Fills-drop n w u h.1

pub Fills-at : (w u : List Cell) (offset n : ℕ) → Fills w u → Fills (cells_at w offset n) (cells_at u offset n)
Fills-at w u offset n h = Fills-take n (drop offset w) (drop offset u) (Fills-drop offset w u h)

abbrev is_set : Cell → ℕ
is_set (Some b) = 1
is_set None = 0

set_apart : (x : ℕ) → some x ≡ None → ⊥
set_apart x e = let never : 1 ≡ 0 = ap is_set e in omega (arith, never)

-- bytes are filled by themselves alone
pub Fills-bytes : (b : List ℕ) (u : List Cell) → Fills (map some b) u → u ≡ map some b
Fills-bytes [] [] h = refl
Fills-bytes [] (d ∷ u) h = absurd h
Fills-bytes (x ∷ b) [] h = absurd h
Fills-bytes (x ∷ b) (d ∷ u) h =
    ⊎_elim (λ e. absurd (set_apart x e)) (λ e. ap (λ c. c ∷ u) (sym e) ∙ ap (λ v. some x ∷ v) (Fills-bytes b u h.1)) h.0

-- ---- numbers of bytes

little_small : (b : List ℕ) → AreBytes b → little b < numbers_of (length b)
little_small [] all = omega arith
little_small (x ∷ b) all =
    let rest = little_small b (All-tail (λ b. b < 256) x b all) in
    let here = All-head (λ b. b < 256) x b all in
    subst (λ n. x + 256 * little b < n) (sym (numbers_of-suc (length b))) (omega (arith, rest, here))

pub number_small : (order : Endian) (b : List ℕ) → AreBytes b → number_of order b < numbers_of (length b)
number_small Little b all = little_small b all
number_small Big b all = subst (λ n. little (reverse b) < numbers_of n) (length-reverse b) (little_small (reverse b) (AreBytes-reverse b all))
