-- What a process and all that it forks can ever touch by their own doing, once they can put no veil any
-- more: each thing that stands or could stand in the tree now, or can be made, with the calls that can
-- ever be allowed on it. A thing **has c** where what covers it has the letter `c`; where there is no veil
-- at all, everything has. What has no `c` is never moved, replaced or removed, nor is a mount point; but where
-- link needs less of its old name, a thing can be given a further one. What has `c` is moved where rename's old
-- name needs no more.
use Rattle.std.specs.Prelude.{ℕ, Bool, true, false, not, ◌&&◌, ◌||◌, if◌then◌else◌, List, [], ◌∷◌, ◌++◌, map, filter, filter_map, flat_map}
use Rattle.std.specs.Prelude.{◌==◌, Option, Some, None, is_some, is_none, nat_lt, length, codes}
use Rattle.std.specs.List.{list_any, list_all}
use Rattle.pua_tree.specs.Tree.{Tree, Node, Spot, has_no_row, is_dir_kind, is_dir, is_mount, look, kind_at, climb, device, empty_tree}
use Rattle.pua_tree.specs.declared.node.Kind.{Kind}
use Rattle.pua_tree.specs.declared.node.Kind.TheVariants as kind
use Rattle.pua_tree.specs.declared.node.FileType.TheVariants as file_type
use Rattle.pua_path.specs.Fits.{is_link_kind}
use Rattle.pua_path.specs.declared.found.Found.TheVariants.{Whole, Slot}
use Rattle.pua_path.specs.declared.found.Way.{Way}
use Rattle.pua_path.specs.declared.found.Way.TheVariants.{Named, Top}
use Rattle.pua_calls.specs.Calls.{CallTable, about, rule_of, calls, call_name, file_by_rules}
use Rattle.pua_calls.specs.CallSets.{keeps_link, is_kept}
use Rattle.pua_calls.specs.Promises.{holds, fattr, writing}
use Rattle.pua_policy.specs.States.{ProcessState, perms_kept, veils, may_any, held_set}
use Rattle.pua_policy.specs.declared.open_file.OpenFile.{OpenFile}
use Rattle.pua_policy.specs.declared.answer.May.{May}
use Rattle.pua_policy.specs.declared.answer.May.TheVariants.{Yes}
use Rattle.pua_policy.specs.Verdict.{Object, IsDir, Is, IsProg, IsMissing, object_of, cover, cover_fault, covered_verdict, is_allowed}
use Rattle.pua_policy.specs.declared.answer.Cover.{Cover}
use Rattle.pua_policy.specs.declared.answer.Cover.TheVariants.{Only}
use Rattle.pua_calls.specs.declared.call.Call.{Call}
use Rattle.pua_calls.specs.declared.call.Call.TheVariants as call
use Rattle.pua_policy.specs.declared.place.Place.{Place}
use Rattle.pua_policy.specs.declared.place.Place.TheVariants as place
use Rattle.pua_script.specs.Decide.{made_by}
use Rattle.pua_script.specs.Confinement.{object_in, has_c, changes_names}
use Rattle.pua_audit.specs.Reach.{Word, printed_path}
use Rattle.pua_audit.specs.declared.base.Base.TheVariants.{Root}
use Rattle.pua_objects.specs.Objects.{Subject, At, Others, Item, items, cover_in, is_named_by, subject_word, with_commas}

-- what covers that which stands in a row
abbrev pub row_cover : Tree → ProcessState → Spot → ℕ → Cover
row_cover t h spot node = cover t h (object_in t spot node)

-- what stands in a row can come to leave it: it has `c`, and no file system is mounted there
abbrev pub can_leave : Tree → ProcessState → Spot → ℕ → Bool
can_leave t h spot node = has_c (row_cover t h spot node) && not (is_mount t node)

-- a name can come to be free: nothing stands there, or what does can leave it
abbrev pub is_free : Tree → ProcessState → Spot → Bool
is_free t h spot = by (look t spot.0 spot.1)
  where
    by : Option ℕ → Bool
    by None = true
    by (Some node) = can_leave t h spot node

-- a directory can come to be empty: each thing in it can leave it
abbrev pub can_empty : Tree → ProcessState → ℕ → Bool
can_empty t h dir = list_all (λ row. not (row.0.0 == dir) || can_leave t h row.0 row.1) t.rows

-- a veil with `c` at a name of this directory that can come to be free
abbrev pub opens_at : Tree → ProcessState → ℕ → Place → ℕ → Bool
opens_at t h dir (place.Slot other name) perms =
    other == dir && (has_c (Only perms) && is_free t h (other, name))
opens_at t h dir (place.Dir other) perms = false

-- the living directories
abbrev pub is_dir_entry : (ℕ × Node) → Bool
is_dir_entry entry = is_dir_kind (Some entry.1.kind)

abbrev pub directories : Tree → List ℕ
directories t = map (λ entry. entry.0) (filter is_dir_entry t.nodes)

-- a directory is the other, or below it
abbrev pub is_below : Tree → ℕ → ℕ → Bool
is_below t other dir = list_any (λ over. over == other) (climb t dir)

-- there is something with `c` that is neither a directory nor in it: a directory, or a name with a veil
-- of its own
abbrev pub opens_outside : Tree → ℕ → Place → ℕ → Bool
opens_outside t inner (place.Slot dir name) perms =
    is_dir t dir && (not (is_below t inner dir) && has_c (Only perms))
opens_outside t inner (place.Dir dir) perms = false

abbrev pub has_c_outside : Tree → ProcessState → ℕ → Bool
has_c_outside t h inner =
    list_any (λ dir. not (is_below t inner dir) && has_c (cover_in t h dir)) (directories t)
    || list_any (λ veil. opens_outside t inner veil.0 veil.1) (veils h)

-- a directory that has `c` can yield its name to another that is moved onto it: no file system is mounted
-- there, it can come to be empty, and something outside of it has `c`, from where the other can come
abbrev pub can_yield : Tree → ProcessState → ℕ → Bool
can_yield t h dir = not (is_mount t dir) && (can_empty t h dir && has_c_outside t h dir)

-- a directory that stands in this one gives way to another: it has `c` and can yield
abbrev pub gives_way : Tree → ProcessState → ℕ → (Spot × ℕ) → Bool
gives_way t h dir row = row.0.0 == dir && (is_dir t row.1 && (has_c (cover_in t h row.1) && can_yield t h row.1))

-- a directory can come to stand in this one: by a further name, by a name with a veil of its own, or in
-- the place of another directory
abbrev pub is_way_in : Tree → ProcessState → ℕ → Bool
is_way_in t h dir =
    has_c (cover_in t h dir)
    || (list_any (λ veil. opens_at t h dir veil.0 veil.1) (veils h) || list_any (gives_way t h dir) t.rows)

-- what is moved stays on its device, and so do further names: this device, or any
abbrev pub is_device : Option ℕ → ℕ → Bool
is_device None found = true
is_device (Some on) found = found == on

abbrev pub is_on : Tree → Option ℕ → ℕ → Bool
is_on t on dir = is_device on (device t dir)

-- a mount point with `c` and without a veil of its own goes with the directory in which it stands, and so do the covers of all that is
-- mounted there
abbrev pub goes_along : Tree → ProcessState → ℕ → Bool
goes_along t h mount = is_none (perms_kept h (place.Dir mount)) && has_c (cover_in t h mount)

-- where the directories are under whose covers things on a device can come: on that device, and on any where it goes along
abbrev pub kept_on : Tree → ProcessState → ℕ → Option ℕ
kept_on t h on = if goes_along t h on then None else Some on

abbrev pub stays_on : Tree → ProcessState → ℕ → Option ℕ
stays_on t h dir = kept_on t h (device t dir)

-- the covers there under which a directory can come that is moved or made
abbrev pub dir_covers : Tree → ProcessState → Option ℕ → List Cover
dir_covers t h on = map (cover_in t h) (filter (λ dir. is_on t on dir && is_way_in t h dir) (directories t))

-- the covers of names with a veil of their own to which something else can be moved
abbrev pub veil_cover_at : Tree → ProcessState → Option ℕ → Place → ℕ → Option Cover
veil_cover_at t h on (place.Slot dir name) perms =
    if is_dir t dir && (is_on t on dir && (has_c (Only perms) && is_free t h (dir, name))) then Some (Only perms) else None
veil_cover_at t h on (place.Dir dir) perms = None

abbrev pub name_covers : Tree → ProcessState → Option ℕ → List Cover
name_covers t h on = filter_map (λ veil. veil_cover_at t h on veil.0 veil.1) (veils h)

-- those of the directories that have `c`, in which a file can be put
abbrev pub open_covers : Tree → ProcessState → Option ℕ → List Cover
open_covers t h on = filter has_c (map (cover_in t h) (filter (is_on t on) (directories t)))

-- the tree can change by them at all: they may give a new name by rename or link, or make one of the calls that make a name or
-- take one away
abbrev pub edit_calls : List Call
edit_calls = filter changes_names calls

abbrev pub is_yes : May → Bool
is_yes Yes = true
is_yes _ = false

abbrev pub may_edit : CallTable → ProcessState → Bool
may_edit table h =
    is_yes (may_any h table.rename.new.needs.alternatives)
    || (is_yes (may_any h table.link.new.needs.alternatives)
    || list_any (λ edit. is_yes (may_any h (rule_of table edit).alternatives)) edit_calls)

-- the promises of both of rename's names are held
abbrev pub may_rename : CallTable → ProcessState → Bool
may_rename table h =
    is_yes (may_any h table.rename.old.needs.alternatives) && is_yes (may_any h table.rename.new.needs.alternatives)

-- a thing can be moved: what covers it now has `c`, and what rename's old name needs, which may be more
abbrev pub can_move : CallTable → ProcessState → Cover → Bool
can_move table h now =
    may_rename table h && (has_c now && is_none (cover_fault now table.rename.old.needs.perms))

-- some directory with `c` can be moved, and what was put into it with it
abbrev pub some_dir_moves : Tree → CallTable → ProcessState → Option ℕ → Bool
some_dir_moves t table h on = list_any (can_move table h) (open_covers t h on)

-- the covers under which anything else can come
abbrev pub file_covers : Tree → CallTable → ProcessState → Option ℕ → List Cover
file_covers t table h on =
    name_covers t h on ++ (open_covers t h on ++ (if some_dir_moves t table h on then dir_covers t h on else []))

-- the promises of both of link's names are held
abbrev pub may_link : CallTable → ProcessState → Bool
may_link table h =
    is_yes (may_any h table.link.old.needs.alternatives) && is_yes (may_any h table.link.new.needs.alternatives)

-- a file, program or link can be given a further name by link: what covers it now has what link's old name
-- needs, which may be less than `c`, and of links link takes those alone that it doesn't follow
abbrev pub can_link : CallTable → ProcessState → Option Kind → Cover → Bool
can_link table h kind now =
    may_link table h
    && (is_none (cover_fault now table.link.old.needs.perms)
    && (not (is_link_kind kind) || is_kept table.link.old.last))

-- all covers under which a thing can come, by whether it can be moved, what covers it now and those to which it can be
-- moved
abbrev pub ever_covers : Bool → Cover → List Cover → List Cover
ever_covers moves now others = if moves then others else now ∷ []

-- those of a file, program or link, which can also come under another cover by a further name, and keep what
-- covers it now by this one
abbrev pub named_covers : Tree → CallTable → ProcessState → Option ℕ → Option Kind → Cover → List Cover
named_covers t table h on kind now =
    if can_move table h now then file_covers t table h on
    else now ∷ (if can_link table h kind now then file_covers t table h on else [])

-- a directory with a veil of its own keeps its cover wherever it is
abbrev pub covers_of_dir : Tree → CallTable → ProcessState → ℕ → List Cover
covers_of_dir t table h dir =
    ever_covers (is_none (perms_kept h (place.Dir dir)) && can_move table h (cover_in t h dir)) (cover_in t h dir) (dir_covers t h (stays_on t h dir))

-- and a missing name keeps its own veil
abbrev pub covers_of : Tree → CallTable → ProcessState → Subject → List Cover
covers_of t table h (At (Whole dir way)) = covers_of_dir t table h dir
covers_of t table h (Others dir) = covers_of_dir t table h dir
covers_of t table h (At (Slot dir name (Some node))) =
    named_covers t table h (stays_on t h dir) (kind_at t node) (cover t h (Slot dir name (Some node)))
covers_of t table h (At (Slot dir name None)) = cover t h (Slot dir name None) ∷ []

-- a thing as the last check of a call sees it, which asks for its kind; rmdir asks more of a directory: one
-- that has a name and is no mount point can be removed where it can come to be empty; by who edits no names, where
-- it is empty now. No tree is asked any more
abbrev pub removable_dir : Object
removable_dir = IsDir 0 (Named 0 [])

abbrev pub lasting_dir : Object
lasting_dir = IsDir 0 Top

abbrev pub is_named_way : Way → Bool
is_named_way (Named dir name) = true
is_named_way _ = false

abbrev pub ever_object : Tree → CallTable → ProcessState → Subject → Object
ever_object t table h (At (Whole dir way)) =
    if is_named_way way && (not (is_mount t dir) && (can_empty t h dir && (may_edit table h || has_no_row t dir)))
    then removable_dir else lasting_dir
ever_object t table h (Others dir) = IsMissing
ever_object t table h (At (Slot dir name node)) = object_of t (Slot dir name node)

-- a call is allowed on such an object under one of these covers
abbrev pub is_allowed_under : CallTable → ProcessState → List Cover → Object → Call → Bool
is_allowed_under table h covers object call =
    list_any (λ left. is_allowed (covered_verdict empty_tree table h call left object)) covers

-- by these calls a file can come to be a program: a kernel starts what was written, once its mode lets it. In a script a
-- kind never changes
abbrev pub turning_calls : List Call
turning_calls = filter (λ call. (about call).turns) calls

abbrev pub is_exec_call : Call → Bool
is_exec_call call.Exec = true
is_exec_call _ = false

-- the call is exec, and allowed on a program under one of these covers
abbrev pub starts_under : CallTable → ProcessState → List Cover → Call → Bool
starts_under table h covers call = is_exec_call call && is_allowed_under table h covers IsProg call

-- a descriptor stands for this node, and by it the node can be written or its mode be set: what was opened to write is
-- written, and who may set modes sets that of whatever is open. No veil and no letter is asked for either
abbrev pub is_turned_by : Bool → ℕ → (ℕ × OpenFile) → Bool
is_turned_by sets_modes node held = held.1.node == node && (sets_modes || holds held.1.letters writing)

-- so a process holds it
abbrev pub is_turned_held : ProcessState → ℕ → Bool
is_turned_held h node = list_any (is_turned_by (holds (held_set h) fattr) node) h.files

-- and what stands at a name
abbrev pub is_turned_there : ProcessState → Option ℕ → Bool
is_turned_there h None = false
is_turned_there h (Some node) = is_turned_held h node

abbrev pub is_turned : ProcessState → Subject → Bool
is_turned h (At (Slot dir name node)) = is_turned_there h node
is_turned h _ = false

-- a file that is a plain one or may be: no kernel starts a socket, a fifo or a device, whatever is written to it
abbrev pub may_start : Kind → Bool
may_start kind.File = true
may_start (kind.Known file_type.Plain) = true
may_start _ = false

abbrev pub may_start_at : Option Kind → Bool
may_start_at None = false
may_start_at (Some kind) = may_start kind

-- a call can be allowed on such a thing under these covers: as it is, or, where it is a file that can be made a program, as
-- that; by what is open it can, whatever covers it
abbrev pub can_allow : CallTable → ProcessState → Bool → List Cover → Object → Call → Bool
can_allow table h turned covers (Is kind) call =
    if may_start kind
    then is_allowed_under table h covers (Is kind) call
    || ((turned || list_any (is_allowed_under table h covers (Is kind)) turning_calls) && starts_under table h covers call)
    else is_allowed_under table h covers (Is kind) call
can_allow table h turned covers object call = is_allowed_under table h covers object call

-- the calls that can ever be allowed on what stands or could stand now
abbrev pub is_ever_allowed : Tree → CallTable → ProcessState → Subject → Call → Bool
is_ever_allowed t table h subject call =
    is_named_by t call subject
    && can_allow table h (is_turned h subject) (covers_of t table h subject) (ever_object t table h subject) call

abbrev pub ever_calls : Tree → CallTable → ProcessState → Subject → List Call
ever_calls t table h subject = filter (is_ever_allowed t table h subject) calls

-- what can be made: a directory, the further names of such a directory, a file, a link, a socket, a fifo
pub data New : Type 0 where
  NewDir : New
  NewOthers : New
  NewFile : New
  NewLink : New
  NewSock : New
  NewFifo : New

-- what is made, as a node: of a file, what the rules of the table know of it
abbrev pub new_kind : CallTable → New → Kind
new_kind table NewDir = kind.Dir
new_kind table NewOthers = kind.Dir
new_kind table NewFile = file_by_rules table.whose
new_kind table NewLink = kind.Link
new_kind table NewSock = kind.Known file_type.Sock
new_kind table NewFifo = kind.Known file_type.Fifo

-- the calls that make a file
abbrev pub is_some_file : Option Kind → Bool
is_some_file (Some kind.File) = true
is_some_file _ = false

abbrev pub file_makers : List Call
file_makers = filter (λ maker. is_some_file (made_by maker)) calls

-- a call that makes it passes a test
abbrev pub is_made_by : (Call → Bool) → New → Bool
is_made_by passes NewDir = passes call.Mkdir
is_made_by passes NewOthers = passes call.Mkdir
is_made_by passes NewFile = list_any passes file_makers
is_made_by passes NewLink = passes call.Symlink
is_made_by passes NewSock = passes call.Bind
is_made_by passes NewFifo = passes call.Mknod

-- the covers under which it can come, on whatever device it is made, and what it is
abbrev pub new_covers : Tree → CallTable → ProcessState → New → List Cover
new_covers t table h NewDir = dir_covers t h None
new_covers t table h NewOthers = dir_covers t h None
new_covers t table h NewFile = file_covers t table h None
new_covers t table h NewLink = file_covers t table h None
new_covers t table h NewSock = file_covers t table h None
new_covers t table h NewFifo = file_covers t table h None

abbrev pub new_object : CallTable → New → Object
new_object table NewDir = removable_dir
new_object table NewOthers = IsMissing
new_object table new = Is (new_kind table new)

abbrev pub is_new_named : New → Call → Bool
is_new_named NewLink call = keeps_link call
is_new_named _ call = true

-- it can be made where a call that makes it is allowed on a missing name, under some cover that a name can have
abbrev pub can_make : Tree → CallTable → ProcessState → New → Bool
can_make t table h new = is_made_by (is_allowed_under table h (name_covers t h None ++ dir_covers t h None) IsMissing) new

-- a call can be allowed on it under these covers; a file is made with any mode, so as a program too
abbrev pub can_allow_new : Tree → CallTable → ProcessState → New → Call → Bool
can_allow_new t table h NewFile call =
    is_allowed_under table h (file_covers t table h None) (new_object table NewFile) call || starts_under table h (file_covers t table h None) call
can_allow_new t table h new call = is_allowed_under table h (new_covers t table h new) (new_object table new) call

abbrev pub is_new_allowed : Tree → CallTable → ProcessState → New → Call → Bool
is_new_allowed t table h new call = is_new_named new call && can_allow_new t table h new call

abbrev pub new_calls : Tree → CallTable → ProcessState → New → List Call
new_calls t table h new =
    if may_edit table h && can_make t table h new then filter (is_new_allowed t table h new) calls else []

-- what a line is about
pub data Thing : Type 0 where
  Stands : Subject → Thing
  Comes : New → Thing

-- a line: the names that lead now to what it is about, and the calls that can ever be allowed on it
pub record EverLine : Type 0 where
  pub word : Word
  pub thing : Thing
  pub calls : List Call

-- the name at which a thing stands
abbrev pub own_spot : Subject → Option Spot
own_spot (At (Slot dir name (Some node))) = Some (dir, name)
own_spot (At (Whole dir (Named parent name))) = Some (parent, name)
own_spot _ = None

-- a name has a veil of its own, and can come to be free
abbrev pub can_be_freed : Tree → CallTable → ProcessState → Spot → Bool
can_be_freed t table h spot = is_some (perms_kept h (place.Slot spot.0 spot.1)) && (may_edit table h && is_free t h spot)

abbrev pub freed_at : Tree → CallTable → ProcessState → Option Spot → List Subject
freed_at t table h None = []
freed_at t table h (Some spot) = if can_be_freed t table h spot then At (Slot spot.0 spot.1 None) ∷ [] else []

-- where something stands at a name with a veil of its own and can be taken away, the name is a thing too
abbrev pub names_to_free : Tree → CallTable → ProcessState → Subject → List Subject
names_to_free t table h subject = freed_at t table h (own_spot subject)

abbrev pub subjects_of : Tree → CallTable → ProcessState → Item → List (Word × Subject)
subjects_of t table h item =
    (item.word, item.subject) ∷ map (λ subject. (item.word, subject)) (names_to_free t table h item.subject)

abbrev pub all_new : List New
all_new = NewDir ∷ NewOthers ∷ NewFile ∷ NewLink ∷ NewSock ∷ NewFifo ∷ []

abbrev pub ever_line : Tree → CallTable → ProcessState → (Word × Subject) → EverLine
ever_line t table h about =
    record { word = about.0; thing = Stands about.1; calls = ever_calls t table h about.1 }

abbrev pub new_line : Tree → CallTable → ProcessState → New → EverLine
new_line t table h new = record { word = []; thing = Comes new; calls = new_calls t table h new }

abbrev pub has_ever_calls : EverLine → Bool
has_ever_calls line = nat_lt 0 (length line.calls)

-- all that can ever be touched: what stands or could stand now, in the order of the objects, and then what
-- can be made
abbrev pub ever : Tree → CallTable → ProcessState → List EverLine
ever t table h =
    filter has_ever_calls
    (map (ever_line t table h) (flat_map (subjects_of t table h) (items t (veils h)))
    ++ map (new_line t table h) all_new)

-- a line's text: the kind, the path of now as it is printed, or `new`, and the calls
abbrev pub new_word : New → List ℕ
new_word NewDir = codes "dir"
new_word NewOthers = codes "other"
new_word NewFile = codes "file"
new_word NewLink = codes "link"
new_word NewSock = codes "sock"
new_word NewFifo = codes "fifo"

abbrev pub thing_text : Tree → Word → Thing → List ℕ
thing_text t word (Stands subject) = subject_word t subject ++ 32 ∷ printed_path Root word
thing_text t word (Comes new) = new_word new ++ 32 ∷ codes "new"

abbrev pub ever_line_text : Tree → EverLine → List ℕ
ever_line_text t line = thing_text t line.word line.thing ++ 32 ∷ with_commas (map call_name line.calls)
