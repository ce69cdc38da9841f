-- The tag of each `repr(C)` enum that was laid out is C's integer, where none is named.
use Rattle.std.proofs.Common.{◌≡◌, ℕ, ◌+◌, ◌-◌, ◌*◌, ◌%◌, ◌^◌, ◌<◌, ◌≤◌, Bool, true, false, List, [], ◌∷◌, Option, None, Some, map, cond, get_or, refl, sym, ap, ap₂, ◌∙◌, subst, arith, inl, inr, Ok}
use Rattle.std.specs.Prelude.{◌&&◌, ◌||◌, ⊤, All, IsSome, filter, min, not, nat_le, nat_lt, option_map, unwrap_or, ℤ, pos, negsuc, ◌≤ℤ◌, if◌then◌else◌}
use Rattle.std.specs.List.{list_all}
use Rattle.std.proofs.lemmas.Bool.{and_from, and_parts, le-leb, leb-true, lt-ltb, ltb-true}
use Rattle.std.proofs.lemmas.Int.{ints}
use Rattle.std.proofs.lemmas.List.Elements.{All-cons, All-contains, All-head, All-map, All-nil, All-tail, All-weaker}
use Rattle.std.proofs.lemmas.Nat.{pow_pos}
use Rattle.abi_base.specs.declared.data_layout.TargetDataLayout.{TargetDataLayout}
use Rattle.abi_base.specs.declared.integer.Integer.{Integer}
use Rattle.abi_base.specs.declared.integer.Integer.TheVariants.{I8, I128}
use Rattle.abi_base.specs.declared.integer.IntegerType.{IntegerType}
use Rattle.abi_base.specs.declared.integer.IntegerType.TheVariants.{Pointer}
use Rattle.abi_base.specs.DataLayout.{IsLawfulDataLayout, IsPointerWidth, index_integer}
use Rattle.abi_base.specs.Integer.{integer_size}
use Rattle.abi_base.specs.IntegerType.{integer_of_type, is_signed_type}
use Rattle.abi_base.specs.Size.{signed_value}
use Rattle.abi_scalar.specs.declared.repr.ReprOptions.{ReprOptions}
use Rattle.abi_scalar.specs.Repr.{discr_type_of, is_c}
use Rattle.abi_calc.specs.Enums.EnumStrategy.{has_no_value, variant_at}
use Rattle.abi_calc.specs.Enums.Discriminants.{IsAskedWith, IsGreatestOf, IsLeastOf, counts, meant_by}
use Rattle.abi_tree.specs.Placed.{Placed, tagged}
use Rattle.abi_scalar.specs.Layout.{Layout}
use Rattle.abi_tree.specs.Tree.{Tree, Variants, no_variants, more_variants, enum}
use Rattle.rustc_abi.specs.Enums.{counted, discriminants_of, has_equal, holds_both, is_discriminant, is_negative, layouts_of, least_integer, least_tag, numbered_from, tag_integer}
use Rattle.rustc_abi.specs.Laying.{IsLaying, VariantsLaying, enum_fault, has_bad_align, has_bad_index, placed_enum}
use Rattle.guarantees.specs.Reference.CStruct.{IsPlainC}
use Rattle.guarantees.specs.Reference.FieldEnums.{IsCTag}
use Rattle.guarantees.specs.Reference.Tags.{HasEnumsOfIndex, HoldsEach, IsCEnumInteger, IsOf, IsTagInteger, discriminants}
use Rattle.guarantees.proofs.Enumed.{fitting}
use Rattle.guarantees.proofs.Integers.{IsSignedIn, first_integer, half_below, meaning, meant_high, meant_low, signed_by, whole_below}
use Rattle.guarantees.proofs.ReferenceLemmas.Beside.{index_size}
use Rattle.guarantees.proofs.ReferenceLemmas.CEnums.{c_is_asked}
use Rattle.guarantees.proofs.ReferenceLemmas.EnumLists.{IsTaggedBehind, of_tagged}
use Rattle.guarantees.proofs.ReferenceLemmas.PrimitiveEnums.{named_tag}

-- ---- numbers between the ends

-- the signed integer has it
abbrev IsWithin : Integer → ℤ → Type 0
IsWithin i (pos n) = n < 2 ^ (integer_size i * 8 - 1)
IsWithin i (negsuc n) = n < 2 ^ (integer_size i * 8 - 1)

-- the unsigned integer has it, if it isn't negative
abbrev IsBelow : Integer → ℤ → Type 0
IsBelow i (pos n) = n < 2 ^ (integer_size i * 8)
IsBelow i (negsuc n) = ⊤

both_held : (i : Integer) (least : ℤ) (greatest : ℕ) → IsWithin i least → IsWithin i (pos greatest) → holds_both least greatest i ≡ true
both_held i (pos l) greatest low high = lt-ltb greatest (2 ^ (integer_size i * 8)) (omega (arith, high, half_below i))
both_held i (negsuc l) greatest low high =
    and_from (nat_lt l (2 ^ (integer_size i * 8 - 1))) (nat_lt greatest (2 ^ (integer_size i * 8 - 1)))
    (lt-ltb l (2 ^ (integer_size i * 8 - 1)) low) (lt-ltb greatest (2 ^ (integer_size i * 8 - 1)) high)

own_within : (t : Integer) (n : ℕ) → IsSignedIn t n → IsWithin t (meaning t n)
own_within t n (short, inl low) = subst (IsWithin t) (sym (meant_low t n low)) low
own_within t n (short, inr high) = subst (IsWithin t) (sym (meant_high t n short high)) (omega (arith, short, high, half_below t, whole_below t))

half_small : (i : Integer) → 2 ^ (integer_size i * 8 - 1) ≤ 2 ^ 127
half_small I8 = omega arith
half_small _ = omega arith

half_narrow : (i : Integer) → integer_size i ≤ 8 → 2 ^ (integer_size i * 8 - 1) ≤ 2 ^ 63
half_narrow I128 le = absurd (omega arith)
half_narrow _ le = omega arith

-- another integer that has the number has what it stands for
other_within : (t j : Integer) (n : ℕ) → integer_size t ≤ 8 → IsSignedIn t n → IsOf true (integer_size j * 8) n → IsWithin j (meaning t n)
other_within t j n narrow (short, inl low) (inl small) = subst (IsWithin j) (sym (meant_low t n low)) small
other_within t j n narrow (short, inl low) (inr great) = absurd (omega (arith, low, great, half_small j, half_narrow t narrow))
other_within t j n narrow (short, inr high) (inl small) = absurd (omega (arith, high, small, half_small j, half_narrow t narrow))
other_within t j n narrow (short, inr high) (inr great) =
    subst (IsWithin j) (sym (meant_high t n short high)) (omega (arith, short, great, half_below j, whole_below j))

other_below : (t j : Integer) (n : ℕ) → IsSignedIn t n → IsOf false (integer_size j * 8) n → IsBelow j (meaning t n)
other_below t j n (short, inl low) small = subst (IsBelow j) (sym (meant_low t n low)) small
other_below t j n (short, inr high) small = subst (IsBelow j) (sym (meant_high t n short high)) tt

-- what lies between the ends, an integer that holds these has
naturals : (a b : ℕ) → pos a ≤ℤ pos b → a ≤ b
naturals a b h = omega (arith, ints)

backwards : (l m : ℕ) → negsuc l ≤ℤ negsuc m → m ≤ l
backwards l m h = omega (arith, ints)

has_low : (least : ℤ) (greatest n : ℕ) (i : Integer) → n ≤ greatest → holds_both least greatest i ≡ true → IsOf (is_negative least) (integer_size i * 8) n
has_low (pos l) greatest n i most holds = omega (arith, most, ltb-true greatest (2 ^ (integer_size i * 8)) holds)
has_low (negsuc l) greatest n i most holds =
    let parts = and_parts (nat_lt l (2 ^ (integer_size i * 8 - 1))) (nat_lt greatest (2 ^ (integer_size i * 8 - 1))) holds in
    inl (omega (arith, most, ltb-true greatest (2 ^ (integer_size i * 8 - 1)) parts.1))

has_high : (least : ℤ) (greatest n : ℕ) (i : Integer) → n < 2 ^ 128 → least ≤ℤ negsuc (2 ^ 128 - 1 - n) → holds_both least greatest i ≡ true
    → IsOf (is_negative least) (integer_size i * 8) n
has_high (pos l) greatest n i short above holds = absurd above.le
has_high (negsuc l) greatest n i short above holds =
    let most : 2 ^ 128 - 1 - n ≤ l = backwards l (2 ^ 128 - 1 - n) above in
    let parts = and_parts (nat_lt l (2 ^ (integer_size i * 8 - 1))) (nat_lt greatest (2 ^ (integer_size i * 8 - 1))) holds in
    inr (omega (arith, most, short, ltb-true l (2 ^ (integer_size i * 8 - 1)) parts.0))

has_between : (t i : Integer) (least : ℤ) (greatest n : ℕ) → IsSignedIn t n → least ≤ℤ meaning t n → meaning t n ≤ℤ pos greatest
    → holds_both least greatest i ≡ true → IsOf (is_negative least) (integer_size i * 8) n
has_between t i least greatest n (short, inl low) above below holds =
    has_low least greatest n i (naturals n greatest (subst (λ z. z ≤ℤ pos greatest) (meant_low t n low) below)) holds
has_between t i least greatest n (short, inr high) above below holds =
    has_high least greatest n i short (subst (λ z. least ≤ℤ z) (meant_high t n short high) above) holds

-- ---- the integer that is chosen

-- what is meant: 0, and what the numbers stand for
abbrev meant : Integer → List ℕ → List ℤ
meant t numbers = pos 0 ∷ map (meaning t) numbers

all_meant : (P : ℤ → Type 0) (t : Integer) (numbers : List ℕ) → P (pos 0) → All (λ n. P (meaning t n)) numbers → All P (meant t numbers)
all_meant P t numbers none each = All-cons P (pos 0) (map (meaning t) numbers) none (All-map P (meaning t) numbers each)

all_under : (P : ℤ → Type 0) (f : ℕ → ℤ) (xs : List ℕ) → All P (map f xs) → All (λ x. P (f x)) xs
all_under P f [] all = All-nil (λ x. P (f x))
all_under P f (x ∷ xs) all =
    All-cons (λ y. P (f y)) x xs (All-head P (f x) (map f xs) all) (all_under P f xs (All-tail P (f x) (map f xs) all))

module _ (t : Integer) (narrow : integer_size t ≤ 8) (numbers : List ℕ) (are : All (IsSignedIn t) numbers) (least : ℤ) (greatest : ℕ)
    (lowest : IsLeastOf (meant t numbers) least) (highest : IsGreatestOf (meant t numbers) (pos greatest)) where
  ends : (P : ℤ → Type 0) → P (pos 0) → All (λ n. P (meaning t n)) numbers → P least × P (pos greatest)
  ends P none each =
      let all = all_meant P t numbers none each in
      (All-contains P (meant t numbers) least all lowest.0, All-contains P (meant t numbers) (pos greatest) all highest.0)

  own_holds : holds_both least greatest t ≡ true
  own_holds =
      let both = ends (IsWithin t) (pow_pos (integer_size t * 8 - 1)) (All-weaker (IsSignedIn t) (λ n. IsWithin t (meaning t n)) (own_within t) numbers are) in
      both_held t least greatest both.0 both.1

  other_holds_by : (negative : Bool) → is_negative least ≡ negative → (j : Integer) → HoldsEach negative j numbers → holds_both least greatest j ≡ true
  other_holds_by true is j each =
      let both = ends (IsWithin j) (pow_pos (integer_size j * 8 - 1))
      (λ k d lt. other_within t j (get_or numbers k d) narrow (are k d lt) (each k d lt)) in
      both_held j least greatest both.0 both.1
  other_holds_by false is j each =
      let both = ends (IsBelow j) (pow_pos (integer_size j * 8)) (λ k d lt. other_below t j (get_or numbers k d) (are k d lt) (each k d lt)) in
      by_sign least is (lt-ltb greatest (2 ^ (integer_size j * 8)) both.1)
    where
      by_sign : (z : ℤ) → is_negative z ≡ false → nat_lt greatest (2 ^ (integer_size j * 8)) ≡ true → holds_both z greatest j ≡ true
      by_sign (pos l) sign h = h
      by_sign (negsuc l) sign h = absurd (cc)

  other_holds : (j : Integer) → HoldsEach (is_negative least) j numbers → holds_both least greatest j ≡ true
  other_holds j each = other_holds_by (is_negative least) refl j each

  holds_each : (i : Integer) → holds_both least greatest i ≡ true → HoldsEach (is_negative least) i numbers
  holds_each i holds =
      let low : All (λ n. least ≤ℤ meaning t n) numbers =
      all_under (λ z. least ≤ℤ z) (meaning t) numbers (All-tail (λ z. least ≤ℤ z) (pos 0) (map (meaning t) numbers) lowest.1) in
      let high : All (λ n. meaning t n ≤ℤ pos greatest) numbers =
      all_under (λ z. z ≤ℤ pos greatest) (meaning t) numbers (All-tail (λ z. z ≤ℤ pos greatest) (pos 0) (map (meaning t) numbers) highest.1) in
      λ k d lt. has_between t i least greatest (get_or numbers k d) (are k d lt) (low k d lt) (high k d lt) holds

  least_is_c : (dl : TargetDataLayout) (bytes : ℕ) → bytes ≡ integer_size dl.c_enum_min_size → bytes ≤ integer_size t
      → IsCEnumInteger dl (is_negative least) numbers (least_integer bytes least greatest)
  least_is_c dl bytes is wide =
      let test : Integer → Bool = λ i. nat_le bytes (integer_size i) && holds_both least greatest i in
      let passes : (j : Integer) → bytes ≤ integer_size j → holds_both least greatest j ≡ true → test j ≡ true =
      λ j enough holds. and_from (nat_le bytes (integer_size j)) (holds_both least greatest j) (le-leb bytes (integer_size j) enough) holds in
      let first = first_integer test t (passes t wide own_holds) in
      let found : Integer = least_integer bytes least greatest in
      let parts = and_parts (nat_le bytes (integer_size found)) (holds_both least greatest found) first.1 in
      record {
        enough = omega (arith, leb-true bytes (integer_size found) parts.0, is);
        holds = holds_each found parts.1;
        least = λ j enough each. (first_integer test j (passes j (omega (arith, enough, is)) (other_holds j each))).0;
      }

-- ---- the numbers of an enum without a named integer

narrow_index : (bytes : ℕ) → IsPointerWidth bytes → bytes ≤ 8
narrow_index bytes (inl is) = omega arith
narrow_index bytes (inr (inl is)) = omega arith
narrow_index bytes (inr (inr is)) = omega arith

low_index : (bytes n : ℕ) → IsPointerWidth bytes → n < 256 → n < 2 ^ (integer_size (index_integer bytes) * 8 - 1)
low_index bytes n (inl is) small = subst (λ b. n < 2 ^ (integer_size (index_integer b) * 8 - 1)) (sym is) (omega arith)
low_index bytes n (inr (inl is)) small = subst (λ b. n < 2 ^ (integer_size (index_integer b) * 8 - 1)) (sym is) (omega arith)
low_index bytes n (inr (inr is)) small = subst (λ b. n < 2 ^ (integer_size (index_integer b) * 8 - 1)) (sym is) (omega arith)

-- whether the number is one of the type
abbrev is_of : TargetDataLayout → IntegerType → ℕ → Bool
is_of dl type n =
    let half : ℕ = 2 ^ (integer_size (integer_of_type dl type) * 8 - 1) in
    if is_signed_type type then nat_lt n half || (nat_le (2 ^ 128 - half) n && nat_lt n (2 ^ 128))
    else nat_lt n (2 ^ (integer_size (integer_of_type dl type) * 8))

module _ (dl : TargetDataLayout) (law : IsLawfulDataLayout dl) (repr : ReprOptions) (isize : discr_type_of repr ≡ Pointer true) where
  abbrev index_type : Integer
  index_type = index_integer dl.default_address_space_pointer_spec.pointer_offset

  all_signed : (numbers : List ℕ) → list_all (is_discriminant dl repr) numbers ≡ true → All (IsSignedIn index_type) numbers
  all_signed [] fits = All-nil (IsSignedIn index_type)
  all_signed (n ∷ ns) fits =
      let parts = and_parts (is_discriminant dl repr n) (list_all (is_discriminant dl repr) ns) fits in
      All-cons (IsSignedIn index_type) n ns (signed_by index_type n (sym (ap (λ type. is_of dl type n) isize) ∙ parts.0)) (all_signed ns parts.1)

  -- what a number stands for, by its type
  abbrev meant_in : IntegerType → ℕ → ℤ
  meant_in type n =
      if is_signed_type type
      then signed_value (integer_size (integer_of_type dl type) * 8) (n % 2 ^ (integer_size (integer_of_type dl type) * 8))
      else pos n

  all_meanings : (numbers : List ℕ) → map (meant_by dl repr) numbers ≡ map (meaning index_type) numbers
  all_meanings [] = refl
  all_meanings (n ∷ ns) = ap₂ (λ (z : ℤ) (zs : List ℤ). z ∷ zs) (ap (λ type. meant_in type n) isize) (all_meanings ns)

  -- a number of a byte stands for itself
  pub low_meant : (n : ℕ) → n < 256 → meant_by dl repr n ≡ pos n
  low_meant n small = ap (λ type. meant_in type n) isize ∙ meant_low index_type n (low_index dl.default_address_space_pointer_spec.pointer_offset n law.index small)

  -- under C each counts
  all_count : is_c repr ≡ true → (layouts : List (List Layout)) (from : ℕ) (numbers : List ℕ)
      → map (λ item. item.1) (filter (counts (λ i. i) repr layouts) (numbered_from from numbers)) ≡ numbers
  all_count c layouts from [] = refl
  all_count c layouts from (n ∷ ns) =
      let test = counts (λ (i : ℕ). i) repr layouts in
      let more = filter test (numbered_from (from + 1) ns) in
      let keeps : test (from, n) ≡ true = ap (λ b. b || not (has_no_value (variant_at layouts from))) c in
      ap (λ b. map (λ (item : ℕ × ℕ). item.1) (cond b ((from, n) ∷ more) more)) keeps
      ∙ ap (λ (ms : List ℕ). n ∷ ms) (all_count c layouts (from + 1) ns)

  c_integer : is_c repr ≡ true → HasEnumsOfIndex dl → (numbers : List ℕ) (variants : List (List Placed))
      → list_all (is_discriminant dl repr) numbers ≡ true → (least : ℤ) (greatest : ℕ)
      → IsAskedWith dl repr (counted repr numbers variants) least greatest
      → IsCEnumInteger dl (is_negative least) numbers (least_integer (least_tag dl repr) least greatest)
  c_integer c enough numbers variants fits least greatest asked =
      let bytes : ℕ = dl.default_address_space_pointer_spec.pointer_offset in
      let size : integer_size index_type ≡ bytes = index_size bytes law.index in
      let all : map (meant_by dl repr) (counted repr numbers variants) ≡ map (meaning index_type) numbers =
      ap (map (meant_by dl repr)) (all_count c (layouts_of variants) 0 numbers) ∙ all_meanings numbers in
      let low : IsLeastOf (meant index_type numbers) least = subst (λ zs. IsLeastOf (pos 0 ∷ zs) least) all asked.0 in
      let high : IsGreatestOf (meant index_type numbers) (pos greatest) = subst (λ zs. IsGreatestOf (pos 0 ∷ zs) (pos greatest)) all asked.1 in
      let tag : least_tag dl repr ≡ integer_size dl.c_enum_min_size =
      ap (λ b. if b then min (integer_size dl.c_enum_min_size) bytes else 1) c ∙ omega (arith, enough) in
      least_is_c index_type (omega (arith, size, narrow_index bytes law.index)) numbers (all_signed numbers fits) least greatest low high dl
      (least_tag dl repr) tag (omega (arith, tag, enough, size))

-- ---- the tag

pub same_numbers : (all : Variants) → discriminants_of all ≡ discriminants all
same_numbers no_variants = refl
same_numbers (more_variants d ts others) = ap (λ (ns : List ℕ). d ∷ ns) (same_numbers others)

-- which is asked for where none is named
unnamed : (dl : TargetDataLayout) (repr : ReprOptions) (least : ℤ) (greatest : ℕ) → repr.int ≡ None
    → tag_integer dl repr least greatest ≡ (least_integer (least_tag dl repr) least greatest, is_negative least)
unnamed dl repr least greatest none =
    ap (λ o. unwrap_or (option_map (λ type. (integer_of_type dl type, is_signed_type type)) o) (least_integer (least_tag dl repr) least greatest, is_negative least)) none

not_plain : (dl : TargetDataLayout) (repr : ReprOptions) (all : Variants) → (IsPlainC repr → ⊥) → (p : Placed) → IsCTag dl (enum repr all) p
not_plain dl repr all isnt (tagged layout mark offset tag encoding tagged_variants) = λ plain. absurd (isnt plain)
not_plain dl repr all isnt _ = tt

module _ (dl : TargetDataLayout) (law : IsLawfulDataLayout dl) (enough : HasEnumsOfIndex dl) (repr : ReprOptions) (all : Variants) where
  abbrev numbers : List ℕ
  numbers = discriminants_of all

  by_name : (named : Option IntegerType) → repr.int ≡ named → is_c repr ≡ true → (variants : List (List Placed)) (layout : Layout)
      → list_all (is_discriminant dl repr) numbers ≡ true → (b : IsTaggedBehind dl repr numbers variants layout)
      → IsTagInteger dl repr.int numbers b.signed b.asked
  by_name (Some type) is c variants layout fits b = named_tag dl repr.int numbers b.asked b.signed _ (subst IsSome (sym is) refl) b.for.3
  by_name None is c variants layout fits b =
      let same : (b.asked, b.signed) ≡ (least_integer (least_tag dl repr) b.for.0 b.for.1, is_negative b.for.0) =
      b.for.3 ∙ unnamed dl repr b.for.0 b.for.1 is in
      let own = c_integer dl law repr (ap (λ o. unwrap_or o (Pointer true)) is) c enough numbers variants fits b.for.0 b.for.1 b.for.2 in
      subst (λ o. IsTagInteger dl o numbers b.signed b.asked) (sym is)
      (subst (λ (x : Integer × Bool). IsCEnumInteger dl x.1 numbers x.0) (sym same) own)

  tag_lies : (v : List Placed) (vs : List (List Placed)) (layout : Layout) → VariantsLaying dl all (Ok (v ∷ vs)) → enum_fault dl repr numbers (v ∷ vs) ≡ None
      → IsTaggedBehind dl repr numbers (v ∷ vs) layout → IsCTag dl (enum repr all) (placed_enum dl repr numbers (v ∷ vs) layout)
  tag_lies v vs layout there none b =
      let fits : list_all (is_discriminant dl repr) numbers ≡ true =
      fitting (has_bad_index (v ∷ vs)) (has_bad_align repr) (has_equal numbers) (list_all (is_discriminant dl repr) numbers) none in
      subst (λ (l : Layout). IsCTag dl (enum repr all) (placed_enum dl repr numbers (v ∷ vs) l)) (sym b.is) (λ plain. (
        b.asked,
        b.signed,
        subst (λ ns. IsTagInteger dl repr.int ns b.signed b.asked) (same_numbers all)
            (by_name repr.int refl plain.0 (v ∷ vs) layout fits b),
        (refl, refl),
      ))

  pub enum_tag : (p : Placed) → IsLaying dl (enum repr all) (Ok p) → IsCTag dl (enum repr all) p
  enum_tag =
      of_tagged dl repr all (IsCTag dl (enum repr all))
      (λ free. not_plain dl repr all (λ plain. let no : true ≡ false = sym free ∙ c_is_asked repr plain.0 in absurd (cc))) (λ none. tt) tag_lies

pub laid_c_tag : (dl : TargetDataLayout) → HasEnumsOfIndex dl → IsLawfulDataLayout dl → (t : Tree) (p : Placed) → IsLaying dl t (Ok p) → IsCTag dl t p
laid_c_tag dl enough law (enum repr all) p h = enum_tag dl law enough repr all p h
laid_c_tag dl enough law _ p h = tt
