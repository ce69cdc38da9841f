-- Which types aren't `Copy`, and which a union's fields may be of.
use Rattle.std.specs.Prelude.{ℕ, zero, suc, ◌&&◌, ◌||◌, nat_eq, not, Bool, true, false, List, [], ◌∷◌, Option, Some, None, Ok, Err, if◌then◌else◌}
use Rattle.rust_source.specs.declared.item.Field.{Field}
use Rattle.rust_source.specs.declared.item.Item.{Item}
use Rattle.rust_source.specs.declared.item.ItemKind.{ItemKind}
use Rattle.rust_source.specs.declared.item.ItemKind.TheVariants.{Enum as EnumItem, Struct as StructItem, Union as UnionItem}
use Rattle.rust_source.specs.declared.item.Variant.{Variant}
use Rattle.abi_rust.specs.declared.budget.Context.{Context}
use Rattle.abi_rust.specs.declared.fault.FaultKind.TheVariants.{UnionField}
use Rattle.abi_rust.specs.declared.ty.Primitive.{Primitive}
use Rattle.abi_rust.specs.declared.ty.Primitive.TheVariants.{Str}
use Rattle.abi_rust.specs.declared.words.Word.TheVariants as word
use Rattle.abi_rust.specs.Kinds.{item_at}
use Rattle.abi_rust.specs.Meaning.{Meaning, then_meant, fault_at}
use Rattle.abi_rust.specs.Resolving.{inside_item, is_item, item_in, most_deep, resolved}
use Rattle.abi_rust.specs.Tails.{is_of_std}
use Rattle.abi_rust.specs.Types.{GenericArgsRead, TyRead, TysRead, Where, adt, array, dyn, list_given, more_types, no_types, primitive, reference, slice, tuple}

-- the primitive type is `str`
abbrev pub is_str : Primitive → Bool
is_str Str = true
is_str _ = false

module _ (cx : Context) where
  -- an item of the standard library's that no `derive` of `Copy` stands at
  abbrev pub is_never_copy : Item → Bool
  is_never_copy it = is_of_std cx it && not it.derives_copy

  module _ (lacks : TyRead → Bool) where
    -- a type that can't be found out may be `Copy`
    abbrev pub meant_lacks : Meaning TyRead → Bool
    meant_lacks (Ok t) = lacks t
    meant_lacks (Err e) = false

    abbrev pub fields_lack : Where → List Field → Bool
    fields_lack w [] = false
    fields_lack w (f ∷ fs) = meant_lacks (resolved cx w f.ty) || fields_lack w fs

    abbrev pub variants_lack : Where → List Variant → Bool
    variants_lack w [] = false
    variants_lack w (v ∷ vs) = fields_lack w v.fields.all.items || variants_lack w vs

    abbrev pub parts_lack : TysRead → Bool
    parts_lack no_types = false
    parts_lack (more_types t ts) = lacks t || parts_lack ts

    -- a field of what an item defines isn't `Copy`
    abbrev pub kind_lacks : Where → ItemKind → Bool
    kind_lacks w (StructItem fields) = fields_lack w fields.all.items
    kind_lacks w (UnionItem fields) = fields_lack w fields.all.items
    kind_lacks w (EnumItem all) = variants_lack w all.variants.items
    kind_lacks w _ = false

    abbrev pub item_lacks_by : ℕ → GenericArgsRead → Option Item → Bool
    item_lacks_by n gs None = false
    item_lacks_by n gs (Some it) = is_never_copy it || kind_lacks (inside_item n it (list_given gs)) it.kind

    unfoldable pub item_lacks : ℕ → GenericArgsRead → Bool
    item_lacks n gs = item_lacks_by n gs (item_at cx.items.now cx.scope.now n)

    -- a type isn't `Copy`, for certain, by its parts
    unfoldable pub lacks_copy_with : TyRead → Bool
    lacks_copy_with (primitive p) = is_str p
    lacks_copy_with dyn = true
    lacks_copy_with (slice t) = true
    lacks_copy_with (reference is_mutable t) = is_mutable
    lacks_copy_with (array t count) = lacks t
    lacks_copy_with (tuple ts) = parts_lack ts
    lacks_copy_with (adt n gs) = item_lacks n gs
    lacks_copy_with _ = false

  -- a type isn't `Copy`, for certain, as far as types within one another so deep tell: of the standard library's, one that
  -- no `derive` of `Copy` stands at, and of all items, one with a field that isn't (Rust Reference, "Copy")
  unfoldable pub lacks_copy : (depth_left : ℕ) → TyRead → Bool
  lacks_copy zero t = false
  lacks_copy (suc depth_left) t = lacks_copy_with (lacks_copy depth_left) t

  -- the item is `ManuallyDrop`
  abbrev pub is_manually_dropped : ℕ → Bool
  is_manually_dropped n = is_item (item_in cx word.Mem word.ManuallyDrop) n

  abbrev mutual
    -- a union's field may be of the type, as far as that can be found out: of one that is `Copy`, a reference,
    -- `ManuallyDrop`, or a tuple or an array of these (Rust Reference, "Unions")
    pub fits_union : TyRead → Bool
    fits_union (reference is_mutable t) = true
    fits_union (tuple ts) = all_fit_union ts
    fits_union (array t count) = fits_union t
    fits_union (adt n gs) = is_manually_dropped n || not (lacks_copy most_deep (adt n gs))
    fits_union t = not (lacks_copy most_deep t)

    pub all_fit_union : TysRead → Bool
    all_fit_union no_types = true
    all_fit_union (more_types t ts) = fits_union t && all_fit_union ts

  -- a fault where a union's field is of another type
  abbrev pub union_type_checked : Field → TyRead → Meaning Bool
  union_type_checked f t = if fits_union t then Ok true else fault_at f.start UnionField

  -- the fields of a union, up to the first with a fault
  abbrev pub union_fields_checked : Where → List Field → Meaning Bool
  union_fields_checked w [] = Ok true
  union_fields_checked w (f ∷ fs) = then_meant (λ _. union_fields_checked w fs) (then_meant (union_type_checked f) (resolved cx w f.ty))
