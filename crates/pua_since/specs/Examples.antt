-- Worked rows: which requests may have changed a world, what they touch of it, and since which lines of a script something is so.
use Rattle.std.specs.Prelude.{◌≡◌, ℕ, true, false, List, [], ◌∷◌, map, flat_map, Option, Some, None, Result, Ok, codes, refl}
use Rattle.std.specs.Fmt.{digits}
use Rattle.pua_tree.specs.Examples.{text_of_lines}
use Rattle.pua_tree.specs.Listing.{listing}
use Rattle.pua_tree.specs.Tree.{Tree}
use Rattle.pua_tree.specs.declared.fault.ListingFault.{ListingFault}
use Rattle.pua_path.specs.Traces.{trace_from}
use Rattle.pua_path.specs.declared.errno.Errno.TheVariants.{EAGAIN, EEXIST}
use Rattle.pua_calls.specs.Promises.{reading}
use Rattle.pua_calls.specs.Calls.{standard_table}
use Rattle.pua_calls.specs.declared.call.Call.TheVariants as call
use Rattle.pua_policy.specs.declared.place.Place.{Place}
use Rattle.pua_policy.specs.declared.place.Place.TheVariants as place
use Rattle.pua_policy.specs.declared.reason.Covering.TheVariants.{InView, By}
use Rattle.pua_script.specs.AnswerTexts.{with_end}
use Rattle.pua_script.specs.Decide.{Sole}
use Rattle.pua_script.specs.Examples.{root_alone, example}
use Rattle.pua_script.specs.Requests.{Asked}
use Rattle.pua_script.specs.Replay.{new_world}
use Rattle.pua_script.specs.Scripts.{script}
use Rattle.pua_script.specs.declared.fault.ScriptFault.{ScriptFault}
use Rattle.pua_script.specs.declared.answer.Answer.{Answer}
use Rattle.pua_script.specs.declared.answer.Answer.TheVariants.{Okay, Failed, Killed}
use Rattle.pua_script.specs.declared.request.Action.{Action}
use Rattle.pua_script.specs.declared.request.Action.TheVariants.{OnPath, Fork, Hold, Chroot, Take}
use Rattle.pua_why.specs.Examples.{why_of}
use Rattle.pua_why.specs.Facts.{Under}
use Rattle.pua_why.specs.Reasons.{NeverMade, Ended}
use Rattle.pua_why.specs.Texts.{date_of}
use Rattle.pua_since.specs.Changes.{has_changed, has_forked}
use Rattle.pua_since.specs.Concerns.{touched_by}
use Rattle.pua_since.specs.Dates.{veil_date, veil_told}
use Rattle.pua_since.specs.Watched.{forebear_by, forks_done}
use Rattle.pua_since.specs.declared.touched.Touched.{Touched}
use Rattle.pua_since.specs.declared.touched.Touched.TheVariants.{Process, Anything}

abbrev pub stat : List ℕ → Action
stat path = OnPath call.Stat path

abbrev pub mkdir : List ℕ → Action
mkdir path = OnPath call.Mkdir path

abbrev pub fork : ℕ → ℕ → Asked
fork parent child = record { process = parent; action = Fork child }

-- which requests may have changed something, and which have made a process
pub record ChangeRows : Type 0 where
  pub made : has_changed (mkdir (codes "/d")) Okay ≡ true
  pub there_before : has_changed (mkdir (codes "/d")) (Failed EEXIST) ≡ false
  pub looked : has_changed (stat (codes "/d")) Okay ≡ false
  pub rooted : has_changed (Chroot (codes "/d")) Okay ≡ true
  pub killed : has_changed (stat (codes "/d")) Killed ≡ true
  pub forked : has_forked (Fork 2) Okay ≡ true
  pub refused_fork : has_forked (Fork 2) (Failed EAGAIN) ≡ false
  pub killed_fork : has_forked (Fork 2) Killed ≡ false

pub change_rows : ChangeRows
change_rows = record {
  made = refl;
  there_before = refl;
  looked = refl;
  rooted = refl;
  killed = refl;
  forked = refl;
  refused_fork = refl;
  killed_fork = refl;
}

-- what process 1 touches
abbrev pub touched : Action → Answer → Touched
touched action answer = touched_by (record { process = 1; action = action }) answer

pub record TouchRows : Type 0 where
  pub file_made : touched (OnPath call.Create (codes "/tmp/new")) Okay ≡ Anything
  pub dir_made : touched (mkdir (codes "/d")) Okay ≡ Anything
  pub forked : touched (Fork 2) Okay ≡ Anything
  pub moved : touched (OnPath call.Chdir (codes "/tmp")) Okay ≡ Process 1
  pub killed : touched (mkdir (codes "/d")) Killed ≡ Process 1
  pub failed : touched (mkdir (codes "/etc")) (Failed EEXIST) ≡ Process 1
  pub held : touched (Hold 3 call.OpenRead (codes "/etc/passwd")) Okay ≡ Process 1
  pub taken : touched (Take 3 2 4) Okay ≡ Process 1
  pub rooted : touched (Chroot (codes "/tmp")) Okay ≡ Process 1

pub touch_rows : TouchRows
touch_rows = record {
  file_made = refl;
  dir_made = refl;
  forked = refl;
  moved = refl;
  killed = refl;
  failed = refl;
  held = refl;
  taken = refl;
  rooted = refl;
}

-- since which lines of a script veils have their letters, each with the number of its process
abbrev pub dates_over : Result Tree ListingFault → Result (List Asked) ScriptFault → List (ℕ × Place) → List (Option ℕ)
dates_over (Ok t) (Ok asks) veils = map (veil_date standard_table (new_world t) asks) veils
dates_over _ _ veils = []

abbrev pub dates_of : List (List ℕ) → List (List ℕ) → List (ℕ × Place) → List (Option ℕ)
dates_of tree lines veils = dates_over (listing (text_of_lines tree)) (script (text_of_lines lines)) veils

pub record SinceRows : Type 0 where
  -- `/etc` has r since line 1, and `/tmp` since line 3, for the child as for its parent; the root never had a veil
  pub veils : dates_of example (codes "1 unveil /etc r" ∷ codes "1 unveil /tmp rw" ∷ codes "1 unveil /tmp r" ∷ codes "1 fork 2" ∷ [])
      ((1, place.Dir 1) ∷ (1, place.Dir 3) ∷ (2, place.Dir 3) ∷ (1, place.Dir 0) ∷ []) ≡
      Some 1 ∷ Some 3 ∷ Some 3 ∷ None ∷ []
  pub veil_of_fact : veil_told (Under Sole (By (place.Dir 1) reading)) ≡ Some (place.Dir 1)
  pub no_veil_of_fact : veil_told (Under Sole InView) ≡ None
  pub never_made : date_of NeverMade (Some 3) ≡ None
  pub ended : date_of Ended (Some 3) ≡ Some 3
  pub forks : forks_done (fork 1 2 ∷ fork 1 2 ∷ fork 2 3 ∷ []) (Okay ∷ Failed EAGAIN ∷ Okay ∷ []) ≡ (1, 2) ∷ (2, 3) ∷ []
  pub grandchild : forebear_by ((1, 2) ∷ (2, 3) ∷ []) 3 ≡ 1
  pub first_of_all : forebear_by ((1, 2) ∷ (2, 3) ∷ []) 1 ≡ 1
  pub text : flat_map with_end (why_of root_alone (codes "1 exit" ∷ codes "1 stat /" ∷ [])) ≡
      text_of_lines (codes "1 ok" ∷ codes "2 gone ended since line 1" ∷ [])

pub since_rows : SinceRows
unfolding digits trace_from
since_rows = record {
  veils = refl;
  veil_of_fact = refl;
  no_veil_of_fact = refl;
  never_made = refl;
  ended = refl;
  forks = refl;
  grandchild = refl;
  first_of_all = refl;
  text = refl;
}
