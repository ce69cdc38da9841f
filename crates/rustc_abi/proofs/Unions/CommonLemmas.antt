-- What unions keep of their fields' bytes, wherever they stand in a type.
use Rattle.std.proofs.Common.{◌≡◌, ℕ, ◌+◌, ◌-◌, ◌*◌, ◌<◌, ◌≤◌, List, ◌++◌, true, length, replicate, get_or, arith, refl, sym, ◌∙◌, subst, length-append}
use Rattle.std.specs.Prelude.{◌==◌, ◌&&◌, nat_le}
use Rattle.std.proofs.lemmas.Bool.{and_parts, leb-true}
use Rattle.std.proofs.lemmas.List.{length-replicate}
use Rattle.std.proofs.lemmas.List.Elements.{All-replicate}
use Rattle.abi_base.specs.declared.data_layout.TargetDataLayout.{TargetDataLayout}
use Rattle.abi_base.specs.declared.endian.Endian.{Endian}
use Rattle.abi_tree.specs.Bytes.{bytes_at, picked_bytes}
use Rattle.abi_tree.specs.Value.{number, two, list, variant, state, bytes}
use Rattle.abi_tree.specs.declared.mark.Mark.{Mark}
use Rattle.abi_tree.specs.Placed.{Placed, scalar, pair, never, elements, vector, fields, union, single, tagged, states, Parts, no_parts, part, TaggedVariants, nothing_tagged, tagged_variant, size_of}
use Rattle.abi_scalar.specs.Layout.{Layout}
use Rattle.abi_tree.specs.Places.{is_data_place, is_place_of_part}
use Rattle.abi_tree.specs.Room.{has_room, have_room, tagged_variants_have_room}
use Rattle.abi_tree.specs.Faithful.{PaddingDecidesNothing}
use Rattle.abi_tree.specs.Unions.{Begins, IsCommon, EachPart, InUnions, InUnionsOf, InUnionsOfTaggedVariants}
use Rattle.abi_tree.proofs.Bytes.HoldLemmas.{length-Holds, length-bytes_at, AgreeOn-bytes_at}
use Rattle.abi_tree.proofs.Bytes.PickedLemmas.{picked-agree}

-- ---- bytes of a field begin bytes of the union

module _ (order : Endian) where
  begins_union : (layout : Layout) (mark : Mark) (all : Parts) (field : Placed) → size_of field ≤ layout.size → Begins order field (union layout mark all)
  begins_union layout mark all field fits = λ b v are h.
      let long : length b ≡ size_of field = length-Holds order field b v h in
      let more : List ℕ = replicate (layout.size - length b) 0 in
      let whole : length (b ++ more) ≡ layout.size = omega (arith, length-append b more, length-replicate {A = ℕ} (layout.size - length b) 0) in
      (more, bytes (picked_bytes (is_data_place (union layout mark all)) 0 (b ++ more)), All-replicate (λ b. b < 256) (layout.size - length b) 0 (omega arith), (whole, refl))

  each_begins : (layout : Layout) (mark : Mark) (all parts : Parts) → have_room layout.size parts ≡ true → EachPart (λ field. Begins order field (union layout mark all)) parts
  each_begins layout mark all no_parts room = tt
  each_begins layout mark all (part offset placed parts) room =
      let both = and_parts (nat_le (offset + size_of placed) layout.size && has_room placed) (have_room layout.size parts) room in
      let here = and_parts (nat_le (offset + size_of placed) layout.size) (has_room placed) both.0 in
      (begins_union layout mark all placed (omega (arith, leb-true (offset + size_of placed) layout.size here.0)), each_begins layout mark all parts both.1)

  mutual
    -- in each union whose fields end inside it
    pub begins_room : (placed : Placed) → has_room placed ≡ true → InUnions (Begins order) placed
    begins_room (scalar layout s) room = tt
    begins_room (pair layout parts) room = begins_have layout.size parts room
    begins_room (never layout mark) room = tt
    begins_room (elements layout count element) room = begins_room element (and_parts (layout.size == size_of element * count) (has_room element) room).1
    begins_room (vector layout lanes) room = begins_room lanes (and_parts (nat_le (size_of lanes) layout.size) (has_room lanes) room).1
    begins_room (fields layout mark parts) room = begins_have layout.size parts room
    begins_room (union layout mark parts) room = (each_begins layout mark parts parts room, begins_have layout.size parts room)
    begins_room (single layout mark index parts) room = begins_have layout.size parts room
    begins_room (tagged layout mark offset tag encoding tagged_variants) room =
        let both = and_parts (nat_le (offset + size_of tag) layout.size && has_room tag) (tagged_variants_have_room layout.size tagged_variants) room in
        let of_tag = and_parts (nat_le (offset + size_of tag) layout.size) (has_room tag) both.0 in
        (begins_room tag of_tag.1, begins_tagged_variants layout.size tagged_variants both.1)
    begins_room (states layout prefix offset tag tagged_variants) room =
        let first = and_parts (have_room layout.size prefix) ((nat_le (offset + size_of tag) layout.size && has_room tag) && tagged_variants_have_room layout.size tagged_variants) room in
        let both = and_parts (nat_le (offset + size_of tag) layout.size && has_room tag) (tagged_variants_have_room layout.size tagged_variants) first.1 in
        let of_tag = and_parts (nat_le (offset + size_of tag) layout.size) (has_room tag) both.0 in
        (begins_have layout.size prefix first.0, begins_room tag of_tag.1, begins_tagged_variants layout.size tagged_variants both.1)

    begins_have : (size : ℕ) (parts : Parts) → have_room size parts ≡ true → InUnionsOf (Begins order) parts
    begins_have size no_parts room = tt
    begins_have size (part offset placed parts) room =
        let both = and_parts (nat_le (offset + size_of placed) size && has_room placed) (have_room size parts) room in
        let here = and_parts (nat_le (offset + size_of placed) size) (has_room placed) both.0 in
        (begins_room placed here.1, begins_have size parts both.1)

    begins_tagged_variants : (size : ℕ) (tagged_variants : TaggedVariants) → tagged_variants_have_room size tagged_variants ≡ true → InUnionsOfTaggedVariants (Begins order) tagged_variants
    begins_tagged_variants size nothing_tagged room = tt
    begins_tagged_variants size (tagged_variant code layout mark parts tagged_variants) room =
        let both = and_parts (have_room size parts) (tagged_variants_have_room size tagged_variants) room in
        (begins_have size parts both.0, begins_tagged_variants size tagged_variants both.1)

-- ---- bytes that hold one value of the union hold the same values of a field

pub common_field : (dl : TargetDataLayout) (layout : Layout) (mark : Mark) (all : Parts) (field : Placed) → ((j : ℕ) → is_data_place field j ≡ true → is_place_of_part all j ≡ true) →
    PaddingDecidesNothing dl field → IsCommon dl.endian field (union layout mark all)
common_field dl layout mark all field place padding xs ys (bytes content) w hx hy h =
    let n : ℕ = size_of field in
    let same : length xs ≡ length ys = hx.0 ∙ sym hy.0 in
    let in_xs : length (bytes_at xs 0 n) ≡ n = length-Holds dl.endian field _ w h in
    let in_ys : length (bytes_at ys 0 n) ≡ n = omega (arith, length-bytes_at xs 0 n, length-bytes_at ys 0 n) in
    let agree : (j : ℕ) → is_data_place field j ≡ true → get_or xs (0 + j) 0 ≡ get_or ys (0 + j) 0 = λ j there.
    picked-agree (is_data_place (union layout mark all)) 0 xs ys same (sym hx.1 ∙ hy.1) (0 + j)
    (let at : j ≡ 0 + (0 + j) = omega arith in subst (λ i. is_place_of_part all i ≡ true) at (place j there)) in
    padding (bytes_at xs 0 n) (bytes_at ys 0 n) w in_xs in_ys (AgreeOn-bytes_at field xs ys 0 n same agree) h
common_field dl layout mark all field place padding xs ys (list vs) w hx hy h = absurd hx
common_field dl layout mark all field place padding xs ys (number n) w hx hy h = absurd hx
common_field dl layout mark all field place padding xs ys (two n m) w hx hy h = absurd hx
common_field dl layout mark all field place padding xs ys (variant i vs) w hx hy h = absurd hx
common_field dl layout mark all field place padding xs ys (state i ps vs) w hx hy h = absurd hx
