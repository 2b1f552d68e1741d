-- What a list says of the state of a process: by which rules, its promises, whether it may put veils, whether it may still receive what
-- others have open, its root, what promises open by themselves, its veils with where their places stand, and what it has open.
use Rattle.std.specs.Prelude.{◌↔◌, ◌⊎◌, ◌≡◌, ℕ, Bool, true, false, map, if◌then◌else◌, List, [], ◌∷◌, ◌++◌, flat_map, reverse, Option}
use Rattle.std.specs.Prelude.{Some, None, codes, decimal, unwrap_or, bit_or}
use Rattle.std.specs.List.{Contains}
use Rattle.pua_tree.specs.Tree.{Tree, is_dir}
use Rattle.pua_calls.specs.Promises.{holds, unveil, keyword_rows, keywords_of, no_promises, perm_letters, promises_of, recvfd}
use Rattle.pua_calls.specs.declared.rules.Rules.{Rules}
use Rattle.pua_calls.specs.declared.rules.Rules.TheVariants.{Standard, Openbsd}
use Rattle.pua_calls.specs.Calls.{CallTable, about_rules}
use Rattle.pua_calls.specs.declared.call.Call.{Call}
use Rattle.pua_policy.specs.States.{ProcessState, has_veil, held_set, held_for_exec, is_ended, is_locked, pledged_set, veils}
use Rattle.pua_policy.specs.declared.place.Place.{Place}
use Rattle.pua_policy.specs.declared.place.Place.TheVariants.{Dir, Slot}
use Rattle.pua_script.specs.Laws.{IsConfined}
use Rattle.pua_script.specs.OpeningLaws.{may_open}
use Rattle.pua_script.specs.Openings.{Opening, holds_named, opening_of, openings, opens_call}
use Rattle.pua_audit.specs.Reach.{Word, printed_path}
use Rattle.pua_audit.specs.declared.base.Base.TheVariants.{Root}
use Rattle.pua_objects.specs.Objects.{with_commas}
use Rattle.pua_ever.specs.declared.lasting_list.ExecBound.{ExecBound}
use Rattle.pua_ever.specs.declared.lasting_list.ExecBound.TheVariants.{Never, Bounded, Open}
use Rattle.pua_why.specs.Texts.{dir_names}
use Rattle.pua_texts.specs.FileLines.{files_lines}
use Rattle.pua_texts.specs.RootLines.{root_line}
use Rattle.pua_texts.specs.Lines.{with_end}
use Rattle.pua_texts.specs.Openings.{opening_line, opening_lines}
use Rattle.pua_texts.specs.declared.state.Heading.{Heading}
use Rattle.pua_texts.specs.declared.state.Time.{Time}
use Rattle.pua_texts.specs.declared.state.Time.TheVariants.{Now, Before, Ever}
-- a text, or `=` where it is empty
pub use Rattle.pua_why.specs.Texts.{or_equals}

-- the keywords of promises, in their order; `-` where no pledge gave any
abbrev pub pledged_text : Option ℕ → List ℕ
pledged_text None = codes "-"
pledged_text (Some promises) = or_equals (with_commas (keywords_of promises))

-- whether the process may still put veils: what it held before its first pledge has `unveil`
abbrev pub unveil_word : ProcessState → List ℕ
unveil_word h = if is_locked h then codes "locked" else (if holds (held_set h) unveil then codes "open" else codes "given-up")

-- whose rules they are; the standard ones have no line
abbrev pub rules_line : Rules → List ℕ
rules_line rules = if (about_rules rules).is_told then with_end (codes "rules " ++ (about_rules rules).word) else []

-- what a list for ever says of execs: nothing where none can ever succeed
abbrev pub exec_line : ExecBound → List ℕ
exec_line Never = []
exec_line Bounded = with_end (codes "exec bounded")
exec_line Open = with_end (codes "exec open")

abbrev pub execs_told : Time → List ℕ
execs_told Now = []
execs_told (Before line) = []
execs_told (Ever execs) = exec_line execs

-- the promises by which something is opened: those that were pledged; and at some time each one that can still be, also by
-- what is started, where the list has what that can touch
abbrev pub opening_set : Time → ProcessState → ℕ
opening_set Now h = unwrap_or (pledged_set h) no_promises
opening_set (Before line) h = unwrap_or (pledged_set h) no_promises
opening_set (Ever Never) h = held_set h
opening_set (Ever Bounded) h = bit_or (held_set h) (unwrap_or (held_for_exec h) no_promises)
opening_set (Ever Open) h = held_set h

-- that files can still be received, by promises that a list for ever counts; scripts by the standard rules know of no open file
abbrev pub receive_line : Rules → ℕ → List ℕ
receive_line Standard promises = []
receive_line Openbsd promises = if holds promises recvfd then with_end (codes "receive open") else []

abbrev pub receives_told : Rules → Time → ProcessState → List ℕ
receives_told rules Now h = []
receives_told rules (Before line) h = []
receives_told rules (Ever execs) h = receive_line rules (opening_set (Ever execs) h)

-- what promises open by themselves, which the standard rules know nothing of
abbrev pub openings_told : Rules → Time → ProcessState → List ℕ
openings_told rules time h = if (about_rules rules).has_openings then opening_lines (keywords_of (opening_set time h)) else []

-- that there is none, where a process keeps no veil
abbrev pub unveiled_line : ProcessState → List ℕ
unveiled_line h = if has_veil (veils h) then [] else with_end (codes "no veils")

-- by which rules, what a process holds, and whether it may put veils
abbrev pub held_lines : Rules → ProcessState → List ℕ
held_lines rules h = rules_line rules ++ with_end (codes "promises " ++ pledged_text (pledged_set h))
    ++ with_end (codes "execpromises " ++ pledged_text (held_for_exec h)) ++ with_end (codes "unveil " ++ unveil_word h)

-- what becomes of a list for ever at an exec, that files can still be received, the line of a root that is given, what promises open by
-- themselves, and that there is no veil
abbrev pub bound_lines : Rules → Time → List ℕ → ProcessState → List ℕ
bound_lines rules time root h =
    execs_told time ++ receives_told rules time h ++ root ++ openings_told rules time h ++ unveiled_line h

-- the lines of a living process before those of its veils
abbrev pub living_lines : Heading → List ℕ → ProcessState → List ℕ
living_lines head root h = with_end (codes "process alive") ++ held_lines head.rules h ++ bound_lines head.rules head.time root h

-- an ended process has one line
abbrev pub own_lines : Heading → List ℕ → ProcessState → List ℕ
own_lines head root h = if is_ended h then with_end (codes "process ended") else living_lines head root h

-- the veils that a living process keeps, in the order in which their places were first kept
abbrev pub living_veils : ProcessState → List (Place × ℕ)
living_veils h = if is_ended h then [] else veils h

abbrev pub title_of : Time → List ℕ
title_of Now = codes "objects"
title_of (Before line) = codes "objects"
title_of (Ever execs) = codes "ever"

-- the line of the script before which it was, of a list of what was allowed
abbrev pub moment_text : Time → List ℕ
moment_text (Before line) = codes " before " ++ decimal line
moment_text _ = []

-- the heading of a list, by what it is a list of, the number of its process, and when it was, unless that is now or ever
abbrev pub heading_line : Heading → List ℕ
heading_line head = (title_of head.time ++ 32 ∷ decimal head.number) ++ with_end (moment_text head.time)

-- the names of a directory and of those above it, up to the root
abbrev pub names_over : Tree → ℕ → Word
names_over t dir = reverse (dir_names t dir)

-- the directory of a place
abbrev pub place_dir : Place → ℕ
place_dir (Dir dir) = dir
place_dir (Slot dir name) = dir

-- the name at which a place is kept, unless it is at a directory
abbrev pub own_name : Place → Word
own_name (Dir dir) = []
own_name (Slot dir name) = name ∷ []

-- the names of a place and of the directories above it, up to the root
abbrev pub place_names : Tree → Place → Word
place_names t place = own_name place ++ names_over t (place_dir place)

-- where a place stands now; `-` where its directory was removed
abbrev pub path_or_hyphen : Bool → Word → List ℕ
path_or_hyphen stands word = if stands then printed_path Root word else codes "-"

abbrev pub veil_place_text : Tree → Place → List ℕ
veil_place_text t place = path_or_hyphen (is_dir t (place_dir place)) (reverse (place_names t place))

abbrev pub veil_line : Tree → (Place × ℕ) → List ℕ
veil_line t veil = with_end (codes "veil " ++ veil_place_text t veil.0 ++ 32 ∷ or_equals (perm_letters veil.1))

abbrev pub veil_lines : Tree → List (Place × ℕ) → List ℕ
veil_lines t vs = flat_map (veil_line t) vs

-- the veils of a process, and what it has open
abbrev pub kept_lines : Tree → ProcessState → List ℕ
kept_lines t h = veil_lines t (living_veils h) ++ files_lines t h

-- what stands before the lines of a list: its heading, and the state of its process
abbrev pub head_lines : Tree → Heading → ProcessState → List ℕ
head_lines t head h = (heading_line head ++ own_lines head (root_line t h) h) ++ kept_lines t h

-- the laws: a process that can put no veil any more prints `locked` or `given-up`, and only such a one does
abbrev pub ConfinedIsPrinted : Type 0
ConfinedIsPrinted = (h : ProcessState) → IsConfined h ↔ ((unveil_word h ≡ codes "locked") ⊎ (unveil_word h ≡ codes "given-up"))

-- what is printed of promises: `-` where no pledge gave any; or else the keywords of rows, in which each keyword is whose
-- promise is among them, and no other; `=` for none
abbrev pub TellsPromises : Option ℕ → List ℕ → Type 0
TellsPromises None text = text ≡ codes "-"
TellsPromises (Some set) text = (rows : List (List ℕ × ℕ)) × (text ≡ or_equals (with_commas (map (λ row. row.0) rows))) ×
    ((row : List ℕ × ℕ) → Contains rows row ↔ (Contains keyword_rows row × (holds set row.1 ≡ true)))

-- the lines of a living process before those of its veils, with that of its root, and what their words say
pub record TellsState (head : Heading) (root : List ℕ) (h : ProcessState) (text : List ℕ) : Type 0 where
  pub promises : List ℕ
  pub for_exec : List ℕ
  pub unveils : List ℕ
  pub lines : text ≡ with_end (codes "process alive") ++ rules_line head.rules ++ with_end (codes "promises " ++ promises)
      ++ with_end (codes "execpromises " ++ for_exec) ++ with_end (codes "unveil " ++ unveils)
      ++ execs_told head.time ++ receives_told head.rules head.time h ++ root ++ openings_told head.rules head.time h ++ unveiled_line h
  pub held : TellsPromises (pledged_set h) promises
  pub held_for_exec : TellsPromises (held_for_exec h) for_exec
  pub confined : IsConfined h ↔ ((unveils ≡ codes "locked") ⊎ (unveils ≡ codes "given-up"))

-- so do the lines that are printed of a process that has not ended
abbrev pub StateIsPrinted : Type 0
StateIsPrinted = (head : Heading) (root : List ℕ) (h : ProcessState) → is_ended h ≡ false → TellsState head root h (own_lines head root h)

-- the line of an opening stands among lines
abbrev pub HasOpening : List ℕ → Opening → Type 0
HasOpening lines o = (before : List ℕ) × (after : List ℕ) × (lines ≡ before ++ opening_line o ++ after)

-- by rules that know of openings each opening of a promise by which something is opened at such a time has its line, also among what a
-- list says of a process that has not ended; so what is opened to the process has its line in what a list says of it now, and whatever a
-- promise that it holds opens has one in a list for ever
pub record OpeningsArePrinted : Type 0 where
  pub told : (rules : Rules) (time : Time) (h : ProcessState) (o : Opening) → (about_rules rules).has_openings ≡ true →
      Contains openings o → holds_named (opening_set time h) (promises_of o.promise) ≡ true → HasOpening (openings_told rules time h) o
  pub each : (head : Heading) (root : List ℕ) (h : ProcessState) (o : Opening) → is_ended h ≡ false → (about_rules head.rules).has_openings ≡ true →
      Contains openings o → holds_named (opening_set head.time h) (promises_of o.promise) ≡ true → HasOpening (own_lines head root h) o
  pub now : (head : Heading) (root : List ℕ) (table : CallTable) (h : ProcessState) (call : Call) (text : List ℕ) (o : Opening) →
      table.whose ≡ head.rules → head.time ≡ Now → opening_of table h call text ≡ Some o →
      (opens_call call text o ≡ true) × HasOpening (own_lines head root h) o
  pub ever : (head : Heading) (root : List ℕ) (execs : ExecBound) (h : ProcessState) (call : Call) (text : List ℕ) → is_ended h ≡ false →
      head.time ≡ Ever execs → (about_rules head.rules).has_openings ≡ true → may_open h call text ≡ true →
      (o : Opening) × (opens_call call text o ≡ true) × HasOpening (own_lines head root h) o

-- each veil that such a process keeps has its line, with where its place stands and its letters
abbrev pub VeilsArePrinted : Type 0
VeilsArePrinted = (t : Tree) (h : ProcessState) (place : Place) (perms : ℕ) → is_ended h ≡ false → Contains (veils h) (place, perms) →
    (before : List ℕ) × (after : List ℕ) × (veil_lines t (living_veils h)
    ≡ before ++ with_end (codes "veil " ++ veil_place_text t place ++ 32 ∷ or_equals (perm_letters perms)) ++ after)
