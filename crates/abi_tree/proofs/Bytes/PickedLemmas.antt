-- Bytes at picked places: taken from a list, and put back into one.
use Rattle.std.proofs.Common.{◌≡◌, ℕ, zero, suc, ◌+◌, ◌<◌, List, [], ◌∷◌, Bool, true, false, length, get_or, arith, refl, ap, ◌∙◌, subst}
use Rattle.std.proofs.lemmas.List.Elements.{All-nil, All-cons, All-head, All-tail}
use Rattle.abi_tree.specs.Bytes.{AreBytes, put_if, picked_bytes, one_if, count_picked}

AreBytes-put_if : (t : Bool) (b : ℕ) (rest : List ℕ) → b < 256 → AreBytes rest → AreBytes (put_if t b rest)
AreBytes-put_if true b rest lt all = All-cons (λ b. b < 256) b rest lt all
AreBytes-put_if false b rest lt all = all

pub AreBytes-picked : (p : ℕ → Bool) (k : ℕ) (b : List ℕ) → AreBytes b → AreBytes (picked_bytes p k b)
AreBytes-picked p k [] all = all
AreBytes-picked p k (x ∷ b) all =
    AreBytes-put_if (p k) x (picked_bytes p (k + 1) b) (All-head (λ b. b < 256) x b all) (AreBytes-picked p (k + 1) b (All-tail (λ b. b < 256) x b all))

length-put_if : (t : Bool) (b : ℕ) (rest : List ℕ) → length (put_if t b rest) ≡ one_if t + length rest
length-put_if true b rest = omega arith
length-put_if false b rest = omega arith

-- as many are picked as there are places
pub length-picked : (p : ℕ → Bool) (k : ℕ) (b : List ℕ) → length (picked_bytes p k b) ≡ count_picked p k (length b)
length-picked p k [] = refl
length-picked p k (x ∷ b) = length-put_if (p k) x (picked_bytes p (k + 1) b) ∙ ap (λ n. one_if (p k) + n) (length-picked p (k + 1) b)

put_if-same : (t : Bool) (x y : ℕ) (xs ys : List ℕ) → (t ≡ true → x ≡ y) → xs ≡ ys → put_if t x xs ≡ put_if t y ys
put_if-same true x y xs ys here later = let first : x ≡ y = here refl in cc
put_if-same false x y xs ys here later = later

-- lists that agree at the picked places
pub picked-same : (p : ℕ → Bool) (k : ℕ) (xs ys : List ℕ) → length xs ≡ length ys → ((j : ℕ) → p (k + j) ≡ true → get_or xs j 0 ≡ get_or ys j 0) → picked_bytes p k xs ≡ picked_bytes p k ys
picked-same p k [] [] e agree = refl
picked-same p k [] (y ∷ ys) e agree = absurd (omega arith)
picked-same p k (x ∷ xs) [] e agree = absurd (omega arith)
picked-same p k (x ∷ xs) (y ∷ ys) e agree =
    let first : k ≡ k + 0 = omega arith in
    put_if-same (p k) x y (picked_bytes p (k + 1) xs) (picked_bytes p (k + 1) ys) (λ t. agree 0 (subst (λ i. p i ≡ true) first t))
    (picked-same p (k + 1) xs ys (omega arith) (λ j place. let at : k + 1 + j ≡ k + suc j = omega arith in agree (suc j) (subst (λ i. p i ≡ true) at place)))

put_if-head : (t : Bool) (x y : ℕ) (xs ys : List ℕ) → t ≡ true → put_if t x xs ≡ put_if t y ys → x ≡ y
put_if-head true x y xs ys is same = cc
put_if-head false x y xs ys is same = absurd (cc)

put_if-tail : (t : Bool) (x y : ℕ) (xs ys : List ℕ) → put_if t x xs ≡ put_if t y ys → xs ≡ ys
put_if-tail true x y xs ys same = cc
put_if-tail false x y xs ys same = same

-- lists of which the same is picked agree at the picked places
pub picked-agree : (p : ℕ → Bool) (k : ℕ) (xs ys : List ℕ) → length xs ≡ length ys → picked_bytes p k xs ≡ picked_bytes p k ys → (j : ℕ) → p (k + j) ≡ true → get_or xs j 0 ≡ get_or ys j 0
picked-agree p k [] [] e same j place = refl
picked-agree p k [] (y ∷ ys) e same j place = absurd (omega arith)
picked-agree p k (x ∷ xs) [] e same j place = absurd (omega arith)
picked-agree p k (x ∷ xs) (y ∷ ys) e same zero place =
    let first : k + 0 ≡ k = omega arith in
    put_if-head (p k) x y (picked_bytes p (k + 1) xs) (picked_bytes p (k + 1) ys) (subst (λ i. p i ≡ true) first place) same
picked-agree p k (x ∷ xs) (y ∷ ys) e same (suc j) place =
    let at : k + suc j ≡ k + 1 + j = omega arith in
    picked-agree p (k + 1) xs ys (omega arith) (put_if-tail (p k) x y (picked_bytes p (k + 1) xs) (picked_bytes p (k + 1) ys) same) j (subst (λ i. p i ≡ true) at place)

-- a byte from the content where the place is picked, else 0
abbrev spread_by : Bool → (List ℕ → List ℕ) → List ℕ → List ℕ
spread_by true rest [] = 0 ∷ rest []
spread_by true rest (b ∷ content) = b ∷ rest content
spread_by false rest content = 0 ∷ rest content

-- so many bytes, those at the picked places from the content
abbrev pub spread : (ℕ → Bool) → (k n : ℕ) → List ℕ → List ℕ
spread p k zero content = []
spread p k (suc n) content = spread_by (p k) (λ c. spread p (k + 1) n c) content

length-spread_by : (t : Bool) (rest : List ℕ → List ℕ) (n : ℕ) (content : List ℕ) → ((c : List ℕ) → length (rest c) ≡ n) → length (spread_by t rest content) ≡ suc n
length-spread_by true rest n [] h = ap suc (h [])
length-spread_by true rest n (b ∷ content) h = ap suc (h content)
length-spread_by false rest n content h = ap suc (h content)

pub length-spread : (p : ℕ → Bool) (k n : ℕ) (content : List ℕ) → length (spread p k n content) ≡ n
length-spread p k zero content = refl
length-spread p k (suc n) content = length-spread_by (p k) (λ c. spread p (k + 1) n c) n content (λ c. length-spread p (k + 1) n c)

AreBytes-spread_by : (t : Bool) (rest : List ℕ → List ℕ) (content : List ℕ) → ((c : List ℕ) → AreBytes c → AreBytes (rest c)) → AreBytes content → AreBytes (spread_by t rest content)
AreBytes-spread_by true rest [] h all = All-cons (λ b. b < 256) 0 (rest []) (omega arith) (h [] all)
AreBytes-spread_by true rest (b ∷ content) h all = All-cons (λ b. b < 256) b (rest content) (All-head (λ b. b < 256) b content all) (h content (All-tail (λ b. b < 256) b content all))
AreBytes-spread_by false rest content h all = All-cons (λ b. b < 256) 0 (rest content) (omega arith) (h content all)

pub AreBytes-spread : (p : ℕ → Bool) (k n : ℕ) (content : List ℕ) → AreBytes content → AreBytes (spread p k n content)
AreBytes-spread p k zero content all = All-nil (λ b. b < 256)
AreBytes-spread p k (suc n) content all = AreBytes-spread_by (p k) (λ c. spread p (k + 1) n c) content (λ c each. AreBytes-spread p (k + 1) n c each) all

picked-spread_by : (p : ℕ → Bool) (k m : ℕ) (rest : List ℕ → List ℕ) (t : Bool) (content : List ℕ) → ((c : List ℕ) → length c ≡ m → picked_bytes p (k + 1) (rest c) ≡ c) → p k ≡ t →
    length content ≡ one_if t + m → picked_bytes p k (spread_by t rest content) ≡ content
picked-spread_by p k m rest true [] h is long = absurd (omega arith)
picked-spread_by p k m rest true (b ∷ content) h is long =
    ap (λ t. put_if t b (picked_bytes p (k + 1) (rest content))) is ∙ ap (λ c. b ∷ c) (h content (omega arith))
picked-spread_by p k m rest false content h is long =
    ap (λ t. put_if t 0 (picked_bytes p (k + 1) (rest content))) is ∙ h content (omega arith)

none_left : (content : List ℕ) → length content ≡ 0 → [] ≡ content
none_left [] h = refl
none_left (b ∷ content) h = absurd (omega arith)

-- they are picked again
pub picked-spread : (p : ℕ → Bool) (k n : ℕ) (content : List ℕ) → length content ≡ count_picked p k n → picked_bytes p k (spread p k n content) ≡ content
picked-spread p k zero content long = none_left content long
picked-spread p k (suc n) content long =
    picked-spread_by p k (count_picked p (k + 1) n) (λ c. spread p (k + 1) n c) (p k) content (λ c each. picked-spread p (k + 1) n c each) refl long
