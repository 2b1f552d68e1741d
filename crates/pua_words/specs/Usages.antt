-- Which line tells how the program is used, and by which words a text about it is asked for.
use Rattle.std.specs.Prelude.{◌≡◌, ◌<◌, ◌||◌, ⊤, ℕ, Bool, true, List, [], ◌∷◌, length, get_or, codes, string_bytes, if◌then◌else◌}
use Rattle.std.specs.Str.{bytes_eq}
use Rattle.pua_words.specs.declared.usage.UsageLine.{UsageLine}
use Rattle.pua_words.specs.declared.usage.UsageLine.TheVariants.{Program, Objects, Why, Tree, Tight, How}
use Rattle.pua_words.specs.declared.words.Stop.{Stop}
use Rattle.pua_words.specs.declared.words.Stop.TheVariants.{Usage, Display, OutOfMemory}

-- the first word alone decides which line is told for words that are no command
abbrev pub line_for : List (List ℕ) → UsageLine
line_for [] = Program
line_for (first ∷ more) = if bytes_eq first (codes "objects") then Objects
    else (if bytes_eq first (codes "why") then Why
    else (if bytes_eq first (codes "tree") then Tree
    else (if bytes_eq first (codes "tight") then Tight else (if bytes_eq first (codes "how") then How else Program))))

abbrev pub usage_line_text : UsageLine → List ℕ
usage_line_text Program =
    codes "pua: usage: pua run [--table FILE] TREE SCRIPT; pua audit --limit N [--process P] [--base root|cwd] [--after CALL:PATH] [--table FILE] TREE SCRIPT [NAME...]"
usage_line_text Objects =
    codes "pua: usage: pua objects [--ever] [--how|--why] [--images] [--process P,...|all] [--beside Q,...|all] [--below PATH] [--at N] [--rules profile|openbsd] [--table FILE] TREE SCRIPT"
usage_line_text Why = codes "pua: usage: pua why [--process P] [--at N] [--rules profile|openbsd] [--table FILE] TREE SCRIPT CALL [ARG...]"
usage_line_text Tree = codes "pua: usage: pua tree [--at N] [--rules profile|openbsd] [--table FILE] TREE SCRIPT"
usage_line_text Tight = codes "pua: usage: pua tight [--why] [--rules profile|openbsd] [--table FILE] TREE SCRIPT"
usage_line_text How =
    codes "pua: usage: pua how [--process P] [--at N] [--rules profile|openbsd] [--table FILE] TREE SCRIPT CALL PATH [KIND]"

-- the words by which help or the version is asked for
abbrev pub is_about : List ℕ → Bool
is_about word =
    bytes_eq word (codes "help") || bytes_eq word (codes "--help") || bytes_eq word (codes "-h") || bytes_eq word (codes "--version")
    || bytes_eq word (codes "-V")

-- one of the words is such a word
abbrev pub AsksAbout : List (List ℕ) → Type 0
AsksAbout words = (i : ℕ) × (i < length words) × (is_about (get_or words i []) ≡ true)

-- words that are no command have their line, and a text about the program, of some bytes, is one that they ask for
abbrev pub IsStop : List (List ℕ) → Stop → Type 0
IsStop words (Usage told) = told ≡ line_for words
IsStop words (Display text) = AsksAbout words × (0 < length (string_bytes text))
IsStop words OutOfMemory = ⊤
