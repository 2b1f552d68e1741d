-- A reach that lies within another.
use Rattle.std.specs.Prelude.{◌≡◌, List, [], ◌∷◌, IsTrue}
use Rattle.pua_audit.specs.Reach.{Scope, Pair, is_reached, reach}

-- each member of the first list is one of the second, in the same order
pub data SubList {A : Type 0} : List A → List A → Type 0 where
  nothing : SubList [] []
  both : {x : A} {xs ys : List A} → SubList xs ys → SubList (x ∷ xs) (x ∷ ys)
  more : {y : A} {xs ys : List A} → SubList xs ys → SubList xs (y ∷ ys)

-- over the same letters and with the same limit, who is allowed no further pair reaches none
abbrev pub FewerReachLess : Type 0
FewerReachLess = (few many : Scope) → few.alphabet ≡ many.alphabet → few.limit ≡ many.limit →
    ((pair : Pair) → IsTrue (is_reached few pair) → IsTrue (is_reached many pair)) → SubList (reach few) (reach many)
