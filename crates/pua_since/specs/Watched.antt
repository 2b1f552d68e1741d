-- Questions that are asked of each world of a replay, as the code keeps them.
use Rattle.std.specs.Prelude.{◌≡◌, ◌≤◌, ℕ, Bool, true, false, ◌==◌, if◌then◌else◌, List, [], ◌∷◌, length, map, reverse}
use Rattle.std.specs.Prelude.{slice_get, Option, Some, None, All}
use Rattle.std.specs.Option.{option_eq, option_map_or}
use Rattle.pua_tree.specs.Names.{same_bytes}
use Rattle.pua_calls.specs.Calls.{CallTable}
use Rattle.pua_policy.specs.States.{perms_kept}
use Rattle.pua_policy.specs.declared.place.Place.{Place}
use Rattle.pua_script.specs.Requests.{Asked}
use Rattle.pua_script.specs.Replay.{World, kept_at, answers_to, apply, world_after}
use Rattle.pua_script.specs.declared.answer.Answer.{Answer}
use Rattle.pua_script.specs.declared.answer.Answer.TheVariants.{Okay}
use Rattle.pua_script.specs.declared.request.Action.{Action}
use Rattle.pua_script.specs.declared.request.Action.TheVariants.{Fork}
use Rattle.pua_why.specs.Checked.{reason_checked}
use Rattle.pua_why.specs.Keys.{reason_key}
use Rattle.pua_why.specs.Since.{Test, forebear, since}
use Rattle.pua_since.specs.Concerns.{is_concerned}
use Rattle.pua_since.specs.declared.touched.Touched.{Touched}
use Rattle.pua_since.specs.declared.watch.Question.{Question}
use Rattle.pua_since.specs.declared.watch.Question.TheVariants as asks
use Rattle.pua_since.specs.declared.watch.Told.{Told}
use Rattle.pua_since.specs.declared.watch.Told.TheVariants as tells
use Rattle.pua_since.specs.declared.watch.Watch.{Watch}
use Rattle.pua_since.specs.declared.watches.Fork.{Fork as Made}
use Rattle.pua_since.specs.declared.watches.Watches.{Watches}

-- the letters of the veil that a process keeps at a place
abbrev pub kept_in : World → ℕ → Place → Option ℕ
kept_in w process place = option_map_or (λ h. perms_kept h place) (kept_at w process) None

-- what a world tells of a question about a process: the key of what the checks of a request tell, or the letters of a veil
abbrev pub IsToldOf : CallTable → World → ℕ → Question → Told → Type 0
IsToldOf table w process (asks.Request action) (tells.Reason key) =
    key ≡ reason_key (reason_checked table w (record { process = process; action = action.now }))
IsToldOf table w process (asks.Veil place) (tells.Veil perms) = perms ≡ kept_in w process place.now
IsToldOf table w process _ _ = ⊥

-- both tell the same
abbrev pub is_same_told : Told → Told → Bool
is_same_told (tells.Reason key) (tells.Reason other) = same_bytes key other
is_same_told (tells.Veil perms) (tells.Veil others) = option_eq ◌==◌ perms others
is_same_told _ _ = false

-- the test of a question that this is told of it
abbrev pub is_told : CallTable → Question → Told → Test
is_told table (asks.Request action) (tells.Reason key) w process =
    same_bytes (reason_key (reason_checked table w (record { process = process; action = action.now }))) key
is_told table (asks.Veil place) (tells.Veil perms) w process = option_eq ◌==◌ (kept_in w process place.now) perms
is_told table _ _ w process = false

-- a question about a process, whose answer is wanted behind so many lines
pub record IsAbout (process : ℕ) (question : Question) (last : ℕ) (watch : Watch) : Type 0 where
  pub process_kept : watch.process ≡ process
  pub question_kept : watch.question ≡ question
  pub last_kept : watch.last ≡ last

-- it was asked of the world in which the replay begins, by who its process was there
pub record IsBegunIn (table : CallTable) (w : World) (asker : ℕ) (watch : Watch) : Type 0 where
  pub told : IsToldOf table w asker watch.question watch.told
  pub line : watch.line ≡ None

-- the same question about the same process, whose answer is wanted at least as long
pub record IsSameTopic (old new : Watch) : Type 0 where
  pub process : new.process ≡ old.process
  pub question : new.question ≡ old.question
  pub wanted : old.last ≤ new.last

-- a question that was asked again behind this line, by who its process was there, if its answer is still wanted there and what was
-- touched concerns it
pub record IsAskedOnce (table : CallTable) (w : World) (asker : ℕ) (touched : Touched) (line : ℕ) (old new : Watch) : Type 0 where
  pub process_kept : new.process ≡ old.process
  pub question_kept : new.question ≡ old.question
  pub last_kept : new.last ≡ old.last
  pub spared : is_concerned touched asker old.question ≡ false → new ≡ old
  pub told : line ≤ old.last → is_concerned touched asker old.question ≡ true → IsToldOf table w asker old.question new.told
  pub turned : line ≤ old.last → is_concerned touched asker old.question ≡ true →
      new.line ≡ (if is_same_told new.told old.told then old.line else Some line)

-- a question, where some requests were served and others are not yet: while its answer is wanted, what is told, and since when
pub record IsWatched (table : CallTable) (w : World) (done left : List Asked) (watch : Watch) : Type 0 where
  pub told : length done ≤ watch.last →
      IsToldOf table (world_after table w done) (forebear table (world_after table w done) left watch.process) watch.question watch.told
  pub line : length done ≤ watch.last →
      watch.line ≡ since (is_told table watch.question watch.told) table w 1 done
      (forebear table (world_after table w done) left watch.process)

-- the forks that were done
abbrev pub forks_with : Asked → Action → List (ℕ × ℕ) → List (ℕ × ℕ)
forks_with ask (Fork new) more = (ask.process, new) ∷ more
forks_with ask _ more = more

abbrev pub fork_told : Asked → Answer → List (ℕ × ℕ) → List (ℕ × ℕ)
fork_told ask Okay more = forks_with ask ask.action more
fork_told ask _ more = more

abbrev pub forks_done : List Asked → List Answer → List (ℕ × ℕ)
forks_done (ask ∷ asks) (answer ∷ told) = fork_told ask answer (forks_done asks told)
forks_done _ _ = []

-- who a process was before these forks
abbrev pub forebear_by : List (ℕ × ℕ) → ℕ → ℕ
forebear_by [] process = process
forebear_by (fork ∷ forks) process = let later : ℕ = forebear_by forks process in if fork.1 == later then fork.0 else later

abbrev pub fork_seen : Made → ℕ × ℕ
fork_seen fork = (fork.parent, fork.child)

-- forks of which the last one stands first, in their order
abbrev pub made_by : List Made → List (ℕ × ℕ)
made_by forks = map fork_seen (reverse forks)

abbrev pub forks_left : Watches → List (ℕ × ℕ)
forks_left s = made_by s.forks.items

-- the questions of a replay: the forks that are still to be done, and each question
pub record AreWatched (table : CallTable) (w : World) (done left : List Asked) (s : Watches) : Type 0 where
  pub forks : forks_left s ≡ forks_done left (answers_to table (world_after table w done) left)
  pub each : All (IsWatched table w done left) s.watches.items

-- the same behind a further request, as long as no question was asked again: what is told is what was told before the request
pub record AreServed (table : CallTable) (w : World) (done : List Asked) (ask : Asked) (left : List Asked) (s : Watches) : Type 0 where
  pub forks : forks_left s ≡ forks_done left (answers_to table (apply table (world_after table w done) ask).1 left)
  pub each : All (IsWatched table w done (ask ∷ left)) s.watches.items

-- at a place stands this question about this process, and its answer is wanted behind so many lines
pub record IsTopicAt (watches : List Watch) (place process : ℕ) (question : Question) (lines : ℕ) : Type 0 where
  pub watch : Watch
  pub stands : slice_get watches place ≡ Some watch
  pub about : watch.process ≡ process
  pub asks : watch.question ≡ question
  pub wanted : lines ≤ watch.last

-- each question stays at its place, and its answer is wanted at least as long
abbrev pub IsKeptThrough : List Watch → List Watch → Type 0
IsKeptThrough old new = (place process : ℕ) (question : Question) (lines : ℕ) → IsTopicAt old place process question lines →
    IsTopicAt new place process question lines

-- since which line the question at a place is told what it is
abbrev pub line_at : List Watch → ℕ → Option ℕ
line_at watches place = option_map_or (λ watch. watch.line) (slice_get watches place) None
