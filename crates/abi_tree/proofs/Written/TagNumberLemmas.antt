-- The number that a tag has for a variant, and its bytes put at the tag's offset.
use Rattle.std.proofs.Common.{◌≡◌, ℕ, ◌+◌, ◌-◌, ◌*◌, ◌%◌, ◌^◌, ◌≤◌, List, length, get_or, true, refl, sym, ap, ◌∙◌, subst}
use Rattle.std.specs.Prelude.{Bool, false, ◌&&◌, nat_le, nat_lt}
use Rattle.abi_scalar.specs.declared.variants.TagEncoding.{TagEncoding}
use Rattle.abi_scalar.specs.declared.variants.TagEncoding.TheVariants.{Direct}
use Rattle.abi_tree.specs.Placed.{Placed}
use Rattle.abi_tree.specs.Tag.{Names}
use Rattle.abi_tree.specs.Nodes.{tagged_variants_in}
use Rattle.abi_tree.specs.Bytes.{bytes_at}
use Rattle.abi_tree.specs.Covering.{is_byte_at}
use Rattle.abi_tree.specs.Writing.{IsPutOver}
use Rattle.abi_tree.proofs.Bytes.NumberLemmas.{cut_width}
use Rattle.abi_tree.proofs.Found.NamedLemmas.{from_direct}
use Rattle.abi_tree.proofs.Bytes.PutOverLemmas.{put_like, put_part}

-- directly, the tag's number is the variant's own, cut to the tag's width
pub direct_number : (encoding : TagEncoding ℕ) (done : List Placed) (vs : List (ℕ × ℕ)) (width tag i : ℕ) (d : ℕ × ℕ) → encoding ≡ Direct →
    Names encoding width (tagged_variants_in done vs) tag i → (get_or vs i d).0 % 2 ^ (width * 8) ≡ tag
direct_number encoding done vs width tag i d is names =
    cut_width (get_or vs i d).0 width ∙ (from_direct done width tag vs i d (subst (λ e. Names e width (tagged_variants_in done vs) tag i) is names)).1

-- a test beside itself
twice : (p q : Bool) → ((p && q) && q) ≡ (p && q)
twice true true = refl
twice true false = refl
twice false true = refl
twice false false = refl

-- a number of the tag's width, put at its offset: the bytes of the tag, where the variant has a number of its own
pub put_tag : (tag_layout : Bool) (at offset width n : ℕ) (b old new : List ℕ) → tag_layout ≡ true → n ≡ width → offset + width ≤ length b →
    IsPutOver (λ k. nat_lt k n) (at + offset) (bytes_at b offset width) old new → IsPutOver (λ k. tag_layout && is_byte_at offset width k) at b old new
put_tag tag_layout at offset width n b old new is same inside over =
    put_like (λ k. is_byte_at offset width k && nat_lt (k - offset) n) (λ k. tag_layout && is_byte_at offset width k) at b old new
    (λ k. ap (λ w. is_byte_at offset width k && nat_lt (k - offset) w) same ∙ twice (nat_le offset k) (nat_lt (k - offset) width)
    ∙ ap (λ t. t && is_byte_at offset width k) (sym is))
    (put_part (λ k. nat_lt k n) at offset width b old new inside over)
