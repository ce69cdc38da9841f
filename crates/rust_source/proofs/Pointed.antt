-- What stands before a type.
use Rattle.std.proofs.Common.{◌≡◌, List, [], ◌∷◌, ◌++◌, refl, sym, ap, ◌∙◌}
use Rattle.rust_source.specs.declared.reader.types.Pointing.{Pointing}
use Rattle.rust_source.specs.Simple.{pointed, pointing_to}
use Rattle.rust_source.specs.Syntax.{TypeRead}

-- the last of what stands before a type is the nearest
pub pointed_last : (t more : TypeRead) (all front : List Pointing) (p : Pointing) → more ≡ pointing_to t p → all ≡ front ++ p ∷ [] → pointed more front ≡ pointed t all
pointed_last t more all [] p same is = same ∙ ap (pointed t) (sym is)
pointed_last t more all (q ∷ front) p same is =
    ap (λ x. pointing_to x q) (pointed_last t more (front ++ p ∷ []) front p same refl) ∙ ap (pointed t) (sym is)
