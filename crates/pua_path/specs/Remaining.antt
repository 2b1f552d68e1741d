-- The parts still to be resolved, kept as texts that lie one on another.
use Rattle.std.specs.Prelude.{ℕ, Bool, true, false, not, ◌&&◌, ◌||◌, if◌then◌else◌, List, [], ◌∷◌, ◌++◌, length, map, nat_lt, nat_le, ◌==◌}
use Rattle.std.specs.List.{list_all}
use Rattle.std.specs.Borrow.{Bor}
use Rattle.pua_tree.specs.Limits.{most_name}
use Rattle.pua_tree.specs.Names.{is_name_byte, has_byte, components, has_short_components}
use Rattle.pua_path.specs.Paths.{part_of, ends_in_slash}
use Rattle.pua_path.specs.declared.found.Part.{Part}
use Rattle.pua_path.specs.declared.found.Part.TheVariants.{Dot}

-- the parts that are left, and how many links may still be followed
pub record Remaining : Type 0 where
  pub parts : List Part
  pub left : ℕ

-- a slash at the end of a text adds a dot
abbrev pub slash_part : Bool → List Part
slash_part slash = if slash then Dot ∷ [] else []

-- the parts of what is left of a text after its first slashes, or after a part
abbrev pub rest_parts : List ℕ → List Part
rest_parts text = map part_of (components text) ++ slash_part (ends_in_slash text)

-- the parts of texts that lie one on another, the last one on top
abbrev pub pending_parts : List (Bor (List ℕ)) → List Part
pending_parts [] = []
pending_parts (text ∷ texts) = pending_parts texts ++ rest_parts text.now

-- no NUL, and no long component
abbrev pub is_readable : List ℕ → Bool
is_readable text = not (has_byte 0 text) && has_short_components text

-- no text that waits is empty, so each has a part
abbrev pub can_wait : Bor (List ℕ) → Bool
can_wait text = nat_lt 0 (length text.now) && is_readable text.now

-- texts that can be read lie one on another, and the one on top has a part, if any has
abbrev pub is_stack : List ℕ → List (Bor (List ℕ)) → Bool
is_stack top waiting = is_readable top && (list_all can_wait waiting && (nat_lt 0 (length top) || (length waiting == 0)))

-- a piece between slashes that is a part: bytes that may stand in a name, at least one and no more than a name has
abbrev pub is_piece : List ℕ → Bool
is_piece piece = nat_lt 0 (length piece) && (nat_le (length piece) most_name && list_all is_name_byte piece)

-- no part is left
abbrev pub has_no_part : List Part → Bool
has_no_part [] = true
has_no_part (part ∷ parts) = false

-- the text from its first byte other than a slash on
abbrev pub after_slashes : List ℕ → List ℕ
after_slashes [] = []
after_slashes (b ∷ more) = if b == 47 then after_slashes more else (b ∷ more)
