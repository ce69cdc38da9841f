-- Lists that grow at their end.
use Rattle.std.proofs.Common.{◌≡◌, List, [], ◌∷◌, ◌++◌, length, take, refl, ◌∙◌, arith}
use Rattle.std.proofs.Math.Seq.{take-length}
use Rattle.std.proofs.lemmas.List.{take-append-le}
use Rattle.rust_source.specs.declared.item.Items.{Items}
use Rattle.rust_source.specs.Growth.{BeginsWith, KeepsItems}

pub begins_same : {A : Type 0} (xs : List A) → BeginsWith xs xs
begins_same xs = take-length xs

pub begins_pushed : {A : Type 0} (xs : List A) (x : A) → BeginsWith (xs ++ x ∷ []) xs
begins_pushed xs x = take-append-le (length xs) xs (x ∷ []) (omega arith) ∙ take-length xs

pub begins_more : {A : Type 0} (xs ys zs : List A) → BeginsWith ys xs → BeginsWith zs ys → BeginsWith zs xs
begins_more [] ys zs h k = refl
begins_more (x ∷ xs) [] zs h k = cc
begins_more (x ∷ xs) (y ∷ ys) [] h k = cc
begins_more (x ∷ xs) (y ∷ ys) (z ∷ zs) h k =
    let first : y ≡ x = cc in
    let next : z ≡ y = cc in
    let front : take (length xs) ys ≡ xs = cc in
    let more : take (length ys) zs ≡ ys = cc in
    let rest = begins_more xs ys zs front more in
    cc

pub keeps_same : (items : Items) → KeepsItems items items
keeps_same items = record { modules = begins_same _; items = begins_same _; uses = begins_same _ }

pub keeps_more : (a b c : Items) → KeepsItems a b → KeepsItems b c → KeepsItems a c
keeps_more a b c h k = record {
  modules = begins_more _ _ _ h.modules k.modules;
  items = begins_more _ _ _ h.items k.items;
  uses = begins_more _ _ _ h.uses k.uses;
}
