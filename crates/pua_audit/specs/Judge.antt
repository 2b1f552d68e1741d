-- What a walk asks, letter by letter: where a word leads, and which calls are allowed on it.
use Rattle.std.specs.Prelude.{ℕ, Bool, false, not, ◌&&◌, ◌||◌, List, [], ◌∷◌, Option, Some, None, Result, Ok, Err, filter, codes}
use Rattle.pua_tree.specs.Tree.{Tree, is_dir}
use Rattle.pua_tree.specs.Names.{is_name, same_bytes}
use Rattle.pua_path.specs.Paths.{part_of}
use Rattle.pua_path.specs.Resolution.{step, last, RootedTree, seen_from}
use Rattle.pua_path.specs.declared.errno.Errno.{Errno}
use Rattle.pua_path.specs.declared.found.Way.{Way}
use Rattle.pua_path.specs.declared.found.Way.TheVariants.{Dot, Top}
use Rattle.pua_path.specs.declared.found.Found.{Found}
use Rattle.pua_path.specs.declared.found.Found.TheVariants.{Whole}
use Rattle.pua_calls.specs.Calls.{CallTable, calls, last_of}
use Rattle.pua_policy.specs.States.{ProcessState, root_dir, working_dir, is_ended}
use Rattle.pua_policy.specs.Verdict.{verdict_of, is_allowed}
use Rattle.pua_calls.specs.declared.call.Call.{Call}
use Rattle.pua_audit.specs.Reach.{Word, Pair, Scope, pairs}
use Rattle.pua_audit.specs.declared.base.Base.{Base}
use Rattle.pua_audit.specs.declared.base.Base.TheVariants.{Root, Cwd}

-- a directory to which a word leads, and how many links were followed on the way
pub record JudgeState : Type 0 where
  pub dir : ℕ
  pub used : ℕ

-- where a word ends: the empty one at the start, another at its last letter in a directory
pub data WordEnd : Type 0 where
  Start : WordEnd
  Below : JudgeState → List ℕ → WordEnd

-- the directory and the links used after a place, if words go on from there, and whether a call is allowed there
pub record Judge : Type 0 where
  pub step : WordEnd → Option JudgeState
  pub own : WordEnd → Call → Bool

-- the calls that are allowed at a place, in their order
unfoldable pub allowed_at : Judge → WordEnd → List Call
allowed_at w x = filter (w.own x) calls

-- the tree as the paths of a process see it
abbrev pub seen_by : Tree → ProcessState → RootedTree
seen_by t h = seen_from t h.start

-- the directory in which the first letter stands
abbrev pub base_dir : Base → ProcessState → ℕ
base_dir Root h = root_dir h
base_dir Cwd h = working_dir h

-- how the base itself is named
abbrev pub base_way : Base → Way
base_way Root = Top
base_way Cwd = Dot

-- what the path of a word names, by its last letter
abbrev pub found_at_end : Tree → Base → ProcessState → WordEnd → Call → Result Found Errno
found_at_end t base h Start call = Ok (Whole (base_dir base h) (base_way base))
found_at_end t base h (Below s letter) call = last (seen_by t h) s.dir s.used (part_of letter) (last_of call)

abbrev pub state_of : Result (ℕ × ℕ) Errno → Option JudgeState
state_of (Ok at) = Some (record { dir = at.0; used = at.1 })
state_of (Err errno) = None

abbrev pub state_behind : Tree → Base → ProcessState → WordEnd → Option JudgeState
state_behind t base h Start = Some (record { dir = base_dir base h; used = 0 })
state_behind t base h (Below s letter) = state_of (step (seen_by t h) s.dir s.used (part_of letter))

abbrev pub judge_of : Tree → CallTable → Base → ProcessState → Judge
judge_of t table base h = record {
  step = state_behind t base h;
  own = λ place call. is_allowed (verdict_of t table h call (found_at_end t base h place call));
}

abbrev pub judge_for : Scope → Judge
judge_for s = judge_of s.tree s.table s.base s.process

abbrev pub if_some : Option JudgeState → (JudgeState → Bool) → Bool
if_some None test = false
if_some (Some s) test = test s

-- whether a call is allowed on a word that goes on from a place
abbrev pub is_allowed_along : Judge → WordEnd → Word → Call → Bool
is_allowed_along w place [] call = w.own place call
is_allowed_along w place (letter ∷ word) call = if_some (w.step place) (λ s. is_allowed_along w (Below s letter) word call)

-- the pairs that are allowed, judged letter by letter
abbrev pub reach_along : Judge → List (List ℕ) → ℕ → List Pair
reach_along w alphabet limit = filter (λ pair. is_allowed_along w Start pair.0 pair.1) (pairs alphabet limit)

-- a letter is a name or two dots
abbrev pub is_letter : List ℕ → Bool
is_letter letter = is_name letter || same_bytes letter (codes "..")

-- something may be allowed: the process lives, and so does the directory at the base
abbrev pub is_open : Scope → Bool
is_open s = not (is_ended s.process) && is_dir s.tree (base_dir s.base s.process)
