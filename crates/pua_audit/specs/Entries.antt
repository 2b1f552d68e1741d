-- What a letter that is followed once, with no link used before it, tells of the letter after any number of links.
use Rattle.std.specs.Prelude.{◌≡◌, ◌≤◌, ◌+◌, ℕ, Bool, false, cond, nat_le, List, Option, Some, None, option_map, Result, Ok, Err}
use Rattle.pua_tree.specs.Tree.{Tree}
use Rattle.pua_path.specs.Limits.{most_links}
use Rattle.pua_path.specs.Paths.{part_of}
use Rattle.pua_path.specs.Resolution.{follow, last}
use Rattle.pua_path.specs.declared.errno.Errno.{Errno}
use Rattle.pua_path.specs.declared.found.Last.TheVariants.{Followed, Kept}
use Rattle.pua_path.specs.declared.found.Way.TheVariants.{Top}
use Rattle.pua_path.specs.declared.found.Found.{Found}
use Rattle.pua_path.specs.declared.found.Found.TheVariants.{Whole, Slot}
use Rattle.pua_calls.specs.Calls.{CallTable, last_of}
use Rattle.pua_calls.specs.CallSets.{has}
use Rattle.pua_policy.specs.States.{ProcessState}
use Rattle.pua_tree.specs.declared.node.Kind.TheVariants.{Known, Link}
use Rattle.pua_tree.specs.declared.node.FileType.TheVariants.{Plain, Sock, Fifo, Dev}
use Rattle.pua_policy.specs.Verdict.{Object, Is, IsMissing, IsFile, IsProg, cover, covered_verdict, verdict_of, is_allowed}
use Rattle.pua_calls.specs.declared.call.Call.{Call}
use Rattle.pua_audit.specs.Judge.{Below, judge_of, seen_by}
use Rattle.pua_audit.specs.Spots.{AreUnveiled}
use Rattle.pua_audit.specs.declared.base.Base.{Base}
use Rattle.pua_audit.specs.declared.table.within.Within.{Within}

abbrev pub links_of : Result (Found × ℕ) Errno → ℕ
links_of (Ok found) = found.1
links_of (Err errno) = 0

abbrev pub found_of : Result (Found × ℕ) Errno → Result Found Errno
found_of (Ok found) = Ok found.0
found_of (Err errno) = Err errno

-- the directory that was found
abbrev pub leads_to : Result Found Errno → Option ℕ
leads_to (Ok (Whole dir way)) = Some dir
leads_to (Ok (Slot dir name _)) = None
leads_to (Err errno) = None

-- whether a call that keeps a final link is allowed
abbrev pub allowed_kept : Tree → CallTable → ProcessState → ℕ → List ℕ → Call → Bool
allowed_kept t table h dir letter call = is_allowed (verdict_of t table h call (last (seen_by t h) dir 0 (part_of letter) Kept))

-- whether a call is allowed where the letter's links may be followed, and where they may not
abbrev pub allowed_near : Tree → CallTable → ProcessState → ℕ → List ℕ → Result (Found × ℕ) Errno → Call → Bool
allowed_near t table h dir letter r call =
    elim (last_of call) [ Followed ↦ is_allowed (verdict_of t table h call (found_of r)) | Kept ↦ allowed_kept t table h dir letter call ]

abbrev pub allowed_far : Tree → CallTable → ProcessState → ℕ → List ℕ → Call → Bool
allowed_far t table h dir letter call = elim (last_of call) [ Followed ↦ false | Kept ↦ allowed_kept t table h dir letter call ]

-- whether a call is allowed on such an object in a directory whose name has no veil of its own: what the veils leave of
-- it is what they leave of the directory
abbrev pub allowed_within : Tree → CallTable → ProcessState → ℕ → Object → Call → Bool
allowed_within t table h dir object call = is_allowed (covered_verdict t table h call (cover t h (Whole dir Top)) object)

-- the calls that are allowed on names of a directory that have no veil of their own, by what stands there
pub record AreWithin (t : Tree) (table : CallTable) (h : ProcessState) (dir : ℕ) (w : Within) : Type 0 where
  pub missing : (call : Call) → has w.missing call ≡ allowed_within t table h dir IsMissing call
  pub file : (call : Call) → has w.file call ≡ allowed_within t table h dir IsFile call
  pub program : (call : Call) → has w.program call ≡ allowed_within t table h dir IsProg call
  pub plain : (call : Call) → has w.plain call ≡ allowed_within t table h dir (Is (Known Plain)) call
  pub socket : (call : Call) → has w.socket call ≡ allowed_within t table h dir (Is (Known Sock)) call
  pub fifo : (call : Call) → has w.fifo call ≡ allowed_within t table h dir (Is (Known Fifo)) call
  pub device : (call : Call) → has w.device call ≡ allowed_within t table h dir (Is (Known Dev)) call
  pub link : (call : Call) → has w.link call ≡ allowed_within t table h dir (Is Link) call
  pub bare : w.veiled ≡ false → AreUnveiled h dir

-- what the letter is, for each number of links used before
pub record IsEntryAt (t : Tree) (table : CallTable) (base : Base) (h : ProcessState) (dir : ℕ) (letter : List ℕ) (r : Result (Found × ℕ) Errno)
    (used : ℕ) : Type 0 where
  pub own : (call : Call) → (judge_of t table base h).own (Below (record { dir = dir; used = used }) letter) call
      ≡ cond (nat_le (used + links_of r) most_links) (allowed_near t table h dir letter r call) (allowed_far t table h dir letter call)
  pub step : (judge_of t table base h).step (Below (record { dir = dir; used = used }) letter)
      ≡ cond (nat_le (used + links_of r) most_links) (option_map (λ d. record { dir = d; used = used + links_of r })
      (leads_to (found_of r))) None

-- a letter that is followed once tells it after any number of links
abbrev pub EntriesStand : Type 0
EntriesStand = (t : Tree) (table : CallTable) (base : Base) (h : ProcessState) (dir : ℕ) (letter : List ℕ) (used : ℕ) → used ≤ most_links →
    IsEntryAt t table base h dir letter (follow (seen_by t h) dir (part_of letter)) used
