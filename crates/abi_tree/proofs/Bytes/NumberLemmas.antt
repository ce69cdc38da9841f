-- Numbers read from bytes, and the bytes of numbers.
use Rattle.std.proofs.Common.{◌≡◌, ℕ, zero, suc, ◌+◌, ◌-◌, ◌*◌, ◌/◌, ◌%◌, ◌^◌, ◌<◌, ◌≤◌, List, [], ◌∷◌, length, get_or, reverse, arith, sym, ap, ◌∙◌, subst}
use Rattle.std.proofs.Math.Nat.{div-div-eq-div-mul, mod-mod, mul-add-mod_self_right, pow-le-pow_right}
use Rattle.std.proofs.lemmas.List.{get_or-reverse, length-reverse}
use Rattle.std.proofs.lemmas.List.Elements.{All-head, All-tail}
use Rattle.std.proofs.lemmas.Nat.{mod-pow-add, pow-add}
use Rattle.abi_base.specs.declared.endian.Endian.TheVariants.{Big}
use Rattle.abi_scalar.specs.Range.{numbers_of}
use Rattle.abi_tree.specs.Bytes.{AreBytes, little, number_of}
use Rattle.abi_tree.proofs.Bytes.BytesLemmas.{AreBytes-reverse, numbers_of-suc}

numbers_of-more : (w : ℕ) → numbers_of (w + 1) ≡ numbers_of w * 256
numbers_of-more w = let next : w + 1 ≡ suc w = omega arith in ap numbers_of next ∙ numbers_of-suc w

numbers_of-le : (w : ℕ) → w ≤ 16 → numbers_of w ≤ 2 ^ 128
numbers_of-le w le =
    let bits : 8 * w ≤ 128 = omega arith in
    let pos : 0 < 2 = omega arith in
    pow-le-pow_right pos bits

-- a number with one byte more
pub more_fits : (n w first rest : ℕ) → n ≡ w + 1 → n ≤ 16 → first < 256 → rest < numbers_of w →
    (first + 256 * rest < numbers_of n) × (numbers_of n ≤ 2 ^ 128)
more_fits n w first rest e le byte lt =
    (subst (λ k. first + 256 * rest < numbers_of k) (sym e) (omega (arith, numbers_of-more w)), numbers_of-le n le)

-- a byte of the number that bytes make, the least first
pub little-byte : (b : List ℕ) (k : ℕ) → AreBytes b → k < length b → little b / 2 ^ (8 * k) % 256 ≡ get_or b k 0
little-byte [] k all lt = absurd (omega arith)
little-byte (x ∷ b) zero all lt =
    let byte : x < 256 = All-head (λ b. b < 256) x b all in
    let none : 8 * 0 ≡ 0 = omega arith in
    ap (λ i. (x + 256 * little b) / 2 ^ i % 256) none ∙ omega arith
little-byte (x ∷ b) (suc k) all lt =
    let byte : x < 256 = All-head (λ b. b < 256) x b all in
    let more : 8 * suc k ≡ 8 + 8 * k = omega arith in
    let rest : (x + 256 * little b) / 256 ≡ little b = omega arith in
    ap (λ i. (x + 256 * little b) / 2 ^ i % 256) more
    ∙ ap (λ m. (x + 256 * little b) / m % 256) (pow-add 2 8 (8 * k))
    ∙ ap (λ m. m % 256) (sym (div-div-eq-div-mul (x + 256 * little b) 256 (2 ^ (8 * k))))
    ∙ ap (λ m. m / 2 ^ (8 * k) % 256) rest
    ∙ little-byte b k (All-tail (λ b. b < 256) x b all) (omega arith)

-- the greatest first
pub big-byte : (b : List ℕ) (i : ℕ) → AreBytes b → i < length b → number_of Big b / 2 ^ (8 * (length b - 1 - i)) % 256 ≡ get_or b i 0
big-byte b i all lt =
    let back : length b - 1 - (length b - 1 - i) ≡ i = omega arith in
    little-byte (reverse b) (length b - 1 - i) (AreBytes-reverse b all) (omega (arith, length-reverse b))
    ∙ get_or-reverse b (length b - 1 - i) 0 (omega arith) ∙ ap (λ j. get_or b j 0) back

-- a number of 128 bits cut to a width is the number itself cut to it
pub cut_twice : (n width : ℕ) → width ≤ 16 → n % 2 ^ 128 % 2 ^ (width * 8) ≡ n % numbers_of width
cut_twice n width most =
    let bits : 128 ≡ (128 - 8 * width) + 8 * width = omega arith in
    let turned : width * 8 ≡ 8 * width = omega arith in
    ap (λ k. n % 2 ^ 128 % 2 ^ k) turned ∙ ap (λ k. n % 2 ^ k % 2 ^ (8 * width)) bits
    ∙ ap (λ m. m % 2 ^ (8 * width)) (mod-pow-add n (128 - 8 * width) (8 * width))
    ∙ mul-add-mod_self_right _ (2 ^ (8 * width)) (n % 2 ^ (8 * width)) ∙ mod-mod n (2 ^ (8 * width))

pub cut_width : (n width : ℕ) → n % 2 ^ (width * 8) ≡ n % numbers_of width
cut_width n width = let turned : width * 8 ≡ 8 * width = omega arith in ap (λ k. n % 2 ^ k) turned
