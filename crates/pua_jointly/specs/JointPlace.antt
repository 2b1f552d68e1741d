-- The one place of each fact in the table of a crew.
use Rattle.std.specs.Prelude.{◌≡◌, ℕ, suc, List, Some, slice_get}
use Rattle.pua_policy.specs.declared.answer.Cover.{Cover}
use Rattle.pua_policy.specs.declared.answer.Cover.TheVariants.{All, Nothing, Only}
use Rattle.pua_ever.specs.Ever.{New, NewDir, NewOthers, NewFile, NewLink, NewSock, NewFifo}

-- a list has each thing once
abbrev pub Once : {X : Type 0} → List X → Type 0
Once {X = X} xs = (i j : ℕ) (x : X) → slice_get xs i ≡ Some x → slice_get xs j ≡ Some x → i ≡ j

-- the bit of a cover, and of what can be made
abbrev pub cover_bit : Cover → ℕ
cover_bit All = 0
cover_bit Nothing = 1
cover_bit (Only perms) = suc (suc perms)

abbrev pub new_bit : New → ℕ
new_bit NewDir = 0
new_bit NewOthers = 1
new_bit NewFile = 2
new_bit NewLink = 3
new_bit NewSock = 4
new_bit NewFifo = 5
