-- What the code reads of an audit's beginning.
use Rattle.std.specs.Prelude.{◌≡◌, ◌<◌, ◌≤◌, ◌*◌, suc, ℕ, Bool, List, length, Option, Some, None, Result, Ok, option_map, IfSome}
use Rattle.std.specs.Prelude.{MatchBool}
use Rattle.std.specs.List.{AllByRecursion}
use Rattle.pua_tree.specs.Tree.{Tree, WellFormed}
use Rattle.pua_tree.specs.Steps.{◌>>=◌}
use Rattle.pua_calls.specs.Calls.{CallTable}
use Rattle.pua_policy.specs.States.{ProcessState}
use Rattle.pua_audit.specs.Reach.{Word, Pair, Scope}
use Rattle.pua_audit.specs.Limits.{most_letters, most_path}
use Rattle.pua_audit.specs.Begin.{Beginning, longest, resume_in, word_within}
use Rattle.pua_audit.specs.Ready.{word_of}
use Rattle.pua_audit.specs.declared.base.Base.{Base}
use Rattle.pua_audit.specs.declared.fault.AuditFault.{AuditFault}
use Rattle.pua_audit.specs.declared.beginning.Checked.{Checked}
use Rattle.pua_audit.specs.declared.resume_text.Resumption.{Resumption}

-- places of the alphabet that are a word of at most so many letters
pub record AreLetters (letters : List (List ℕ)) (limit : ℕ) (places : List ℕ) : Type 0 where
  pub within : length places ≤ limit
  pub there : AllByRecursion (λ i. i < length letters) places

-- whether there is a word within the limit, and its places in the alphabet
abbrev pub IsRead : List (List ℕ) → ℕ → Option Word → Bool → List ℕ → Type 0
IsRead letters limit word result places =
    MatchBool result ((word_within limit word ≡ Some (word_of letters places)) × AreLetters letters limit places)
    (word_within limit word ≡ None)

-- the word of some places, and the call
abbrev pub pair_in : List (List ℕ) → Resumption → Pair
pair_in letters r = (word_of letters r.word.items, r.call)

-- a word has no more letters than it may have, and no path of a word is too long
pub record AreSound (limit : ℕ) (letters : List (List ℕ)) : Type 0 where
  pub few : limit ≤ most_letters
  pub short : limit * suc (longest letters) ≤ most_path

-- what is audited by words of these letters
abbrev pub scope_with : Tree → CallTable → ProcessState → Base → ℕ → List (List ℕ) → Scope
scope_with t table h base limit letters =
    record { tree = t; table = table; process = h; base = base; alphabet = letters; limit = limit }

-- the beginning of an audit, by its resume text
abbrev pub begun_in : Scope → Option (List ℕ) → Result Beginning AuditFault
begun_in s after = resume_in s after >>= λ pair. Ok (record { scope = s; after = pair })

-- the beginning that letters and a pair are
abbrev pub beginning_with : Tree → CallTable → ProcessState → Base → ℕ → Checked → Beginning
beginning_with t table h base limit b =
    record {
      scope = scope_with t table h base limit b.letters;
      after = option_map (pair_in b.letters) b.after;
    }

-- its letters are sound, and its word is one of them
pub record IsChecked (t : Tree) (limit : ℕ) (b : Checked) : Type 0 where
  pub tree : WellFormed t
  pub sound : AreSound limit b.letters
  pub after : IfSome b.after (λ r. AreLetters b.letters limit r.word.items)
