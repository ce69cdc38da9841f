-- Lists of fields with layouts.
use Rattle.std.proofs.Common.{◌≡◌, ℕ, ◌+◌, ◌-◌, ◌%◌, ◌^◌, ◌<◌, ◌≤◌, Bool, true, false, List, [], ◌∷◌, Option, None, Some, Err, inl, inr, length, map, take, refl, sym, ap, subst, ◌∙◌, arith}
use Rattle.std.specs.Prelude.{◌⊎◌, All, IfSome, is_some, unwrap_or, if◌then◌else◌, sum_by}
use Rattle.std.proofs.lemmas.List.{length-map, take-map}
use Rattle.std.proofs.lemmas.List.Elements.{All-head, All-tail, All-nil, All-cons, All-get_or}
use Rattle.abi_base.specs.declared.data_layout.TargetDataLayout.{TargetDataLayout}
use Rattle.abi_base.specs.declared.struct_kind.StructKind.{StructKind}
use Rattle.abi_base.specs.declared.struct_kind.StructKind.TheVariants.{AlwaysSized, MaybeUnsized, Prefixed}
use Rattle.abi_base.specs.DataLayout.{IsLawfulDataLayout, alignments_of, size_bound}
use Rattle.abi_scalar.specs.declared.layout_data.LayoutData.{LayoutData}
use Rattle.abi_scalar.specs.declared.repr.ReprOptions.{ReprOptions}
use Rattle.abi_scalar.specs.Lawful.{IsLawfulLayout}
use Rattle.abi_univariant.specs.declared.order.NicheBias.TheVariants.{Start}
use Rattle.abi_univariant.specs.declared.part.Part.{Part}
use Rattle.abi_univariant.specs.declared.fields_repr.FieldsRepr.{FieldsRepr}
use Rattle.abi_univariant.specs.declared.placing.FieldsFault.{FieldsFault}
use Rattle.abi_univariant.specs.declared.placing.FieldsFault.TheVariants.{Unsized, TooLarge, OutOfMemory}
use Rattle.abi_scalar.specs.declared.error.LayoutCalculatorError.{LayoutCalculatorError}
use Rattle.abi_scalar.specs.declared.error.LayoutCalculatorError.TheVariants.{SizeOverflow, UnexpectedUnsized, OutOfMemory as NoMemory}
use Rattle.abi_univariant.specs.Answer.{IsAnswer}
use Rattle.abi_univariant.specs.Fault.{IsErrorOf, IsFaultIndex, fault_in}
use Rattle.abi_univariant.specs.List.{HasLawfulAligns, IsUnivariantError, list_seed}
use Rattle.abi_univariant.specs.ListView.{list_view}
use Rattle.abi_univariant.specs.Order.{IsNamedOrder, movable_front}
use Rattle.abi_univariant.specs.Part.{part_of, parts_of}
use Rattle.abi_univariant.specs.LawfulPart.{IsLawfulPart}
use Rattle.abi_univariant.specs.Placement.{IsWellFormedPrefix, IsWellFormedRepr, IsNonEmptyIfUnsized, fields_repr, own_align}
use Rattle.abi_univariant.specs.Run.{IsFaultOf}
use Rattle.abi_univariant.proofs.Placed.FaultLemmas.{unsized_in}
use Rattle.abi_univariant.proofs.Views.Lawful.{aggregate_small}
use Rattle.abi_univariant.proofs.Sorted.Least.{allowed_permutes, named_allowed}
use Rattle.abi_univariant.proofs.Sorted.Sorting.{within_order}

part_lawful_of : {F V : Type 0} (dl : TargetDataLayout) (l : LayoutData F V) → IsLawfulLayout dl l → IsLawfulPart dl (part_of dl l)
part_lawful_of dl l h = record { aligned = h.limit; whole = h.multiple; niche = h.niche; view = h.view; niche_of_view = h.niche_of_view; counted = refl }

pub parts_lawful : {F V H : Type 0} (layout_of : H → LayoutData F V) (dl : TargetDataLayout) (fields : List H) → All (λ f. IsLawfulLayout dl (layout_of f)) fields → All (IsLawfulPart dl) (parts_of dl (map layout_of fields))
parts_lawful layout_of dl [] h = All-nil (IsLawfulPart dl)
parts_lawful layout_of dl (f ∷ fs) h =
    All-cons (IsLawfulPart dl) (part_of dl (layout_of f)) (parts_of dl (map layout_of fs)) (part_lawful_of dl (layout_of f) (All-head (λ f. IsLawfulLayout dl (layout_of f)) f fs h))
    (parts_lawful layout_of dl fs (All-tail (λ f. IsLawfulLayout dl (layout_of f)) f fs h))

pub length-parts : {F V H : Type 0} (layout_of : H → LayoutData F V) (dl : TargetDataLayout) (fields : List H) → length (parts_of dl (map layout_of fields)) ≡ length fields
length-parts layout_of dl fields = length-map (map layout_of fields) (λ f. part_of dl f) ∙ length-map fields layout_of

byte_small : (dl : TargetDataLayout) → IsLawfulDataLayout dl → dl.i8_align ≤ 29
byte_small dl h = All-get_or (λ a. a ≤ 29) (alignments_of dl) 1 0 (omega arith) h.limit

pub own_small : (b : Bool) (dl : TargetDataLayout) → IsLawfulDataLayout dl → (if b then dl.i8_align else dl.aggregate_align) ≤ 29
own_small true dl h = byte_small dl h
own_small false dl h = aggregate_small dl h

option_small : (a : Option ℕ) → IfSome a (λ n. n ≤ 29) → unwrap_or a 0 ≤ 29
option_small None h = omega arith
option_small (Some n) h = h

pub repr_lawful : (dl : TargetDataLayout) (repr : ReprOptions) (kind : StructKind) (count : ℕ) → IsLawfulDataLayout dl → HasLawfulAligns repr → IsWellFormedPrefix kind (size_bound dl) → IsNonEmptyIfUnsized kind count
    → IsWellFormedRepr (fields_repr dl repr kind) count (size_bound dl)
repr_lawful dl repr kind count law aligns prefix tail =
    let own : own_align dl repr ≤ 29 = own_small (is_some repr.pack) dl law in
    let raised : unwrap_or repr.align 0 ≤ 29 = option_small repr.align aligns.align in
    record { aligned = omega arith; kind = tail; starts = prefix }

-- the field that a fault names is there
pub fault_index : (repr : FieldsRepr) (dl : TargetDataLayout) (parts : List Part) (order : List ℕ) (fault : FieldsFault) → fault_in repr (size_bound dl) parts order ≡ Some fault → All (λ i. i < length parts) order
    → IsFaultIndex (length parts) fault
fault_index repr dl parts order (Unsized i) e within = (unsized_in repr (size_bound dl) parts order (λ i. i < length parts) i e within).0
fault_index repr dl parts order TooLarge e within = tt
fault_index repr dl parts order OutOfMemory e within = tt

pub memory_index : (count : ℕ) (fault : FieldsFault) → fault ≡ OutOfMemory → IsFaultIndex count fault
memory_index count (Unsized i) e = cc
memory_index count TooLarge e = tt
memory_index count OutOfMemory e = tt

pub fault_named : (repr : FieldsRepr) (dl : TargetDataLayout) (parts : List Part) (fault : FieldsFault) → IsNonEmptyIfUnsized repr.kind (length parts) → IsFaultOf dl repr Start parts fault → IsFaultIndex (length parts) fault
fault_named repr dl parts fault tail (inl f) =
    fault_index repr dl parts f.0 fault f.2 (within_order (length parts) f.0 (allowed_permutes repr (length parts) f.0 (named_allowed repr Start parts f.0 tail f.1)))
fault_named repr dl parts fault tail (inr e) = memory_index (length parts) fault e

-- ---- errors

pub error_large : {H : Type 0} (fields : List H) (fault : FieldsFault) (error : LayoutCalculatorError H) → IsErrorOf fields fault error → error ≡ SizeOverflow → fault ≡ TooLarge
error_large fields (Unsized i) error h e = let other : error ≡ UnexpectedUnsized h.0 = h.2 in cc
error_large fields TooLarge error h e = refl
error_large fields OutOfMemory error h e = cc

pub error_answer : {A H : Type 0} (fields : List H) (fault : FieldsFault) (error : LayoutCalculatorError H) → (fault ≡ TooLarge) ⊎ (fault ≡ OutOfMemory) → IsErrorOf fields fault error
    → IsAnswer {A = A} (Err SizeOverflow) (Err error)
error_answer fields (Unsized i) error (inl e) h = cc
error_answer fields TooLarge error (inl e) h = inl (ap (λ x. Err x) h)
error_answer fields OutOfMemory error (inl e) h = cc
error_answer fields (Unsized i) error (inr e) h = cc
error_answer fields TooLarge error (inr e) h = cc
error_answer fields OutOfMemory error (inr e) h = inr (ap (λ x. Err x) h)

pub memory_error : {H : Type 0} (fields : List H) (fault : FieldsFault) (error : LayoutCalculatorError H) → IsErrorOf fields fault error → fault ≡ OutOfMemory → error ≡ NoMemory
memory_error fields (Unsized i) error h e = cc
memory_error fields TooLarge error h e = cc
memory_error fields OutOfMemory error h e = h

pub error_exact : {F V H : Type 0} (layout_of : H → LayoutData F V) (dl : TargetDataLayout) (repr : ReprOptions) (kind : StructKind) (list : FieldsRepr) (fields : List H) (fault : FieldsFault) (error : LayoutCalculatorError H)
    → IsFaultOf dl list Start (parts_of dl (map layout_of fields)) fault → IsErrorOf fields fault error → list ≡ fields_repr dl repr kind
    → IsUnivariantError layout_of dl repr kind fields error ⊎ (error ≡ NoMemory)
error_exact layout_of dl repr kind list fields fault error (inl f) h e =
    inl (
      f.0,
      subst (λ (r : FieldsRepr). IsNamedOrder r Start (parts_of dl (map layout_of fields)) f.0) e f.1,
      fault,
      subst (λ (r : FieldsRepr). fault_in r (size_bound dl) (parts_of dl (map layout_of fields)) f.0 ≡ Some fault) e f.2,
      h,
    )
error_exact layout_of dl repr kind list fields fault error (inr m) h e = inr (memory_error fields fault error h m)

-- ---- the layout's parts

pub view_same : (dl : TargetDataLayout) (fixed fixed2 : Bool) (size align align2 : ℕ) (ps ps2 : List Part) (os os2 : List ℕ) → fixed ≡ fixed2 → align ≡ align2 → ps ≡ ps2 → os ≡ os2
    → list_view dl fixed size align ps os ≡ list_view dl fixed2 size align2 ps2 os2
view_same dl fixed fixed2 size align align2 ps ps2 os os2 a b c d = rw (a, b, c, d) refl

pub movable_front-map : {A B : Type 0} (f : A → B) (kind : StructKind) (fields : List A) → map f (movable_front kind fields) ≡ movable_front kind (map f fields)
movable_front-map f AlwaysSized fields = refl
movable_front-map f MaybeUnsized fields = sym (take-map f (length fields - 1) fields) ∙ ap (λ n. take (n - 1) (map f fields)) (sym (length-map fields f))
movable_front-map f (Prefixed size align) fields = refl

pub seed_same : {F V H : Type 0} (layout_of : H → LayoutData F V) (repr : ReprOptions) (kind : StructKind) (fields front : List H) → front ≡ movable_front kind fields
    → (sum_by (λ f. f.randomization_seed) (map layout_of front) + repr.field_shuffle_seed) % 2 ^ 64 ≡ list_seed repr kind (map layout_of fields)
seed_same layout_of repr kind fields front e =
    ap (λ fs. (sum_by (λ f. f.randomization_seed) fs + repr.field_shuffle_seed) % 2 ^ 64) (ap (map layout_of) e ∙ movable_front-map layout_of kind fields)
