-- What inputs hold under their names, and which were asked for.
use Rattle.std.specs.Prelude.{◌≡◌, ℕ, List, ◌++◌, Option, Some, None, IfSome}

-- the bytes under each name, or None where that isn't known
abbrev pub Held : Type 0
Held = Option (List ℕ → Option (List ℕ))

-- these bytes are held under the name, where that is known
abbrev pub Holds : Held → List ℕ → List ℕ → Type 0
Holds held name bytes = IfSome held (λ under. under name ≡ Some bytes)

-- nothing is held under the name, where that is known
abbrev pub HoldsNothing : Held → List ℕ → Type 0
HoldsNothing held name = IfSome held (λ under. under name ≡ None)

-- the names of the inputs that were asked for so far, the last of them last, or None where that isn't known
abbrev pub Asked : Type 0
Asked = Option (List (List ℕ))

-- these were asked for behind the others, where those are known
abbrev pub AsksFor : Asked → Asked → List (List ℕ) → Type 0
AsksFor old new names = IfSome old (λ before. new ≡ Some (before ++ names))

-- the first of these, or all, were asked for, and no others
pub record AsksForFront (old new : Asked) (names : List (List ℕ)) : Type 0 where
  pub front : List (List ℕ)
  pub rest : List (List ℕ)
  pub parts : names ≡ front ++ rest
  pub asks : AsksFor old new front
