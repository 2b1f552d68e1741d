-- What an audit is of, and the path of a word of it.
use Rattle.std.specs.Prelude.{◌≤◌, ℕ, suc, List, [], ◌∷◌, map, get_or, ◌*◌, codes}
use Rattle.pua_tree.specs.Tree.{WellFormed}
use Rattle.pua_audit.specs.Limits.{most_path}
use Rattle.pua_audit.specs.Reach.{Word, Scope}
use Rattle.pua_audit.specs.Begin.{longest}
use Rattle.pua_audit.specs.declared.base.Base.{Base}
use Rattle.pua_audit.specs.declared.base.Base.TheVariants.{Root, Cwd}
use Rattle.pua_audit.specs.Judge.{Judge, judge_of}
use Rattle.pua_audit.specs.declared.terms.Terms.{Terms}

abbrev pub judge_in : Terms → Judge
judge_in a = judge_of a.seen.tree a.table a.base a.process

-- what is audited
abbrev pub scope_in : Terms → Scope
scope_in a = record {
  tree = a.seen.tree;
  table = a.table;
  process = a.process;
  base = a.base;
  alphabet = a.letters;
  limit = a.limit;
}

-- the letters at some places of the alphabet
unfoldable pub word_of : List (List ℕ) → List ℕ → Word
word_of letters places = map (λ i. get_or letters i []) places

-- the tree is one, and no path of a word is too long
pub record IsSound (a : Terms) : Type 0 where
  pub tree : WellFormed a.seen.tree
  pub short : a.limit * suc (longest a.letters) ≤ most_path

-- the path that is lent: the base itself, or the letters, and before the first a slash only from the root
abbrev pub lent_path : Base → List ℕ → List ℕ
lent_path Root [] = codes "/"
lent_path Root (b ∷ bs) = b ∷ bs
lent_path Cwd [] = codes "."
lent_path Cwd (b ∷ bs) = bs
