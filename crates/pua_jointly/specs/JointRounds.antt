-- What follows from the table of a crew whose state has been worked out, as the code finds it: whole words.
use Rattle.std.specs.Prelude.{◌+◌, ◌-◌, ◌^◌, ◌==◌, ◌&&◌, ◌||◌, not, true, false, ℕ, Bool, List, Option, Some, None, get_or, slice_get}
use Rattle.std.specs.Prelude.{if◌then◌else◌}
use Rattle.std.specs.Int.{bit_at}
use Rattle.std.specs.Int.Bits.{bit_or}
use Rattle.std.specs.List.{fold, list_any}
use Rattle.pua_tree.specs.Tree.{Tree, is_dir_kind, parent}
use Rattle.pua_tree.specs.declared.node.Kind.{Kind}
use Rattle.pua_policy.specs.States.{perms_kept}
use Rattle.pua_policy.specs.declared.answer.Cover.TheVariants.{Only}
use Rattle.pua_policy.specs.declared.place.Place.TheVariants as place
use Rattle.pua_script.specs.Confinement.{has_c}
use Rattle.pua_ever.specs.Ever.{New, NewDir, NewOthers, NewFile, NewLink, NewSock, NewFifo}
use Rattle.pua_jointly.specs.JointPlace.{new_bit}
use Rattle.pua_jointly.specs.JointWords.{word_at, covers_in, clear_by, landing_word, meets, moves_at, moved_word, apart_word, made_word, with_c}
use Rattle.pua_jointly.specs.JointWords.{dropped_word, some_meets, making, carried_kind, carrying}
use Rattle.pua_jointly.specs.JointOld.{above_word, asked_word, old_word}
use Rattle.pua_jointly.specs.JointSides.{is_top}
use Rattle.pua_jointly.specs.declared.agent.Agent.{Agent}
use Rattle.pua_jointly.specs.JointGround.{Ground, ground_of}
use Rattle.pua_jointly.specs.declared.crew.Crew.{Crew}
use Rattle.pua_jointly.specs.declared.crew.Side.{Side}
use Rattle.pua_jointly.specs.declared.mover.Mover.{Mover}
use Rattle.pua_jointly.specs.declared.crew.Entry.{Entry}
use Rattle.pua_jointly.specs.declared.crew.Mark.{Mark}
use Rattle.pua_jointly.specs.declared.crew.Watch.{Watch}
use Rattle.pua_jointly.specs.declared.shape.Row.{Row}
use Rattle.pua_jointly.specs.declared.shape.Row.TheVariants as rows
use Rattle.pua_jointly.specs.declared.shape.Part.{Part}
use Rattle.pua_jointly.specs.declared.shape.Part.TheVariants as parts

-- a bit of a word, and one by itself
abbrev pub has_one : ℕ → ℕ → Bool
has_one word bit = bit_at word bit == 1

abbrev pub flag : Bool → ℕ → ℕ
flag set bit = if set then 2 ^ bit else 0

-- what stands at a name can be taken away; the name can come to be free
abbrev pub is_taken : ℕ → ℕ → List ℕ → ℕ → Bool
is_taken columns common told row = has_one (word_at told columns row common) 0

abbrev pub is_freed : Ground → List ℕ → Option ℕ → Bool
is_freed c told None = true
is_freed c told (Some row) = is_taken c.columns c.common told row

-- the covers of a name with a veil; some of these is among others, and the name can come to be free
abbrev pub mark_word : Ground → List ℕ → Agent → Mark → ℕ
mark_word c told of mark = asked_word of.named of.process.now told c.columns mark.dir mark.name.now of.place

abbrev pub opens : Ground → List ℕ → Agent → ℕ → Mark → Bool
opens c told of covers mark = is_freed c told mark.row && meets (mark_word c told of mark) covers

-- a watched directory can come to be neither another one nor above it, and that one is entered
abbrev pub is_clear : Ground → List ℕ → ℕ → Watch → Bool
is_clear c told seat watch = has_one (word_at told c.columns seat watch.column) 0

abbrev pub is_entered : Ground → List ℕ → ℕ → Mover → Bool
is_entered c told seat by = has_one (word_at told c.columns seat by.place) 18

-- the process can put another directory in the place of a watched one, which stands here or comes here
abbrev pub is_parent : Option ℕ → ℕ → Bool
is_parent None dir = false
is_parent (Some above) dir = above == dir

abbrev pub stands_in : Tree → ℕ → ℕ → Bool
stands_in t dir seat = not (dir == 0) && is_parent (parent t dir) seat

abbrev pub brings : Ground → List ℕ → ℕ → ℕ → Mover → Bool
brings c told dir seat by = moves_at told c.columns dir by && is_entered c told seat by

abbrev pub comes_in : Ground → List ℕ → ℕ → Watch → Bool
comes_in c told seat watch = is_clear c told seat watch && list_any (brings c told watch.dir seat) c.movers

abbrev pub is_turned : Tree → Ground → List ℕ → Agent → ℕ → Watch → Bool
is_turned t c told of seat watch =
    has_one (word_at told c.columns watch.dir of.place) 19 && (stands_in t watch.dir seat || comes_in c told seat watch)

abbrev pub opens_in : Ground → List ℕ → Agent → ℕ → Mark → Bool
opens_in c told of seat mark = (mark.dir == seat) && opens c told of with_c mark

abbrev pub can_enter : Tree → Ground → List ℕ → Agent → ℕ → Bool
can_enter t c told of seat =
    meets (word_at told c.columns seat of.place) with_c
    || (list_any (opens_in c told of seat) c.marks || list_any (is_turned t c told of seat) c.here)

-- it has a veil with `c` on a watched directory that can be emptied, and can move another one to its place
abbrev pub stays_in : ℕ → ℕ → List ℕ → ℕ → Entry → Bool
stays_in columns common told dir entry = (entry.dir == dir) && not (is_taken columns common told entry.row)

abbrev pub replaces : Ground → List ℕ → Agent → Watch → ℕ → Bool
replaces c told of watch seat =
    not (seat == watch.dir) && (meets (word_at told c.columns seat of.place) of.moving && is_clear c told seat watch)

abbrev pub turns_at : Ground → List ℕ → Agent → ℕ → Watch → Bool
turns_at c told of dir watch = (watch.dir == dir) && list_any (replaces c told of watch) c.seats

abbrev pub gives_c : Option ℕ → Bool
gives_c None = false
gives_c (Some perms) = has_c (Only perms)

abbrev pub can_turn : Ground → List ℕ → Agent → ℕ → Bool
can_turn c told of dir =
    gives_c (perms_kept of.process.now (place.Dir dir))
    && (not (list_any (stays_in c.columns c.common told dir) c.entries) && list_any (turns_at c told of dir) c.here)

-- where it makes something
abbrev pub can_create : Ground → List ℕ → Agent → New → Bool
can_create c told of new =
    some_meets told c.columns of.place (making of new) c.seats || list_any (opens c told of (making of new)) c.marks

-- where one puts what is no directory, the covers by the veils of another
abbrev pub put_at : Ground → List ℕ → Agent → Agent → Mark → ℕ
put_at c told by of mark = if opens c told by with_c mark then mark_word c told of mark else 0

abbrev pub drops_word : Ground → List ℕ → Agent → Agent → ℕ
drops_word c told by of =
    bit_or (dropped_word told c.columns by.place of.place c.seats)
    (fold (λ word mark. bit_or word (put_at c told by of mark)) 0 c.marks)

-- what it can carry on from where others put it
abbrev pub finds : Ground → List ℕ → Agent → Kind → Mover → Bool
finds c told of kind by = meets (word_at told c.columns by.drops of.place) (carrying of kind)

abbrev pub carries_on : Ground → List ℕ → ℕ → ℕ → Agent → Kind → Mover → Bool
carries_on c told row bit of kind by = has_one (word_at told c.columns row by.place) bit && finds c told of kind by

abbrev pub carries_at : Ground → List ℕ → Agent → Entry → Bool
carries_at c told of entry =
    not (is_dir_kind (Some entry.kind))
    && meets (asked_word of.named of.process.now told c.columns entry.dir entry.name.now of.place) (carrying of entry.kind)

abbrev pub can_carry_row : Ground → List ℕ → Agent → Entry → Bool
can_carry_row c told of entry =
    carries_at c told of entry || list_any (carries_on c told entry.row 0 of entry.kind) c.movers

abbrev pub carries_born : Ground → List ℕ → Mover → New → Agent → Bool
carries_born c told maker new of =
    has_one (word_at told c.columns maker.drops c.common) (new_bit new) && finds c told of (carried_kind new) maker

abbrev pub can_carry_new : Ground → List ℕ → ℕ → Mover → New → Agent → Bool
can_carry_new c told row maker new of =
    carries_born c told maker new of || list_any (carries_on c told row (19 + new_bit new) of (carried_kind new)) c.movers

-- what stands at a name can be taken away by a process
abbrev pub takes_at : Ground → List ℕ → Entry → Agent → Bool
takes_at c told entry by =
    by.may_take
    && meets (if is_dir_kind (Some entry.kind) then word_at told c.columns entry.node by.place
    else asked_word by.named by.process.now told c.columns entry.dir entry.name.now by.place) with_c

-- and by some process, if it is no mount point
abbrev pub is_taken_away : Ground → List ℕ → Entry → Bool
is_taken_away c told entry = not (is_top c.devices entry.node) && list_any (takes_at c told entry) c.agents

-- the bits in a column of where a directory comes when it is moved, by its own column if it is watched
abbrev pub come_by : Ground → List ℕ → ℕ → ℕ → Option ℕ → ℕ
come_by c told dir column None = moved_word told c.columns c.movers dir column
come_by c told dir column (Some watch) = apart_word told c.columns c.movers c.seats dir watch column

abbrev pub come_word : Ground → List ℕ → ℕ → ℕ → ℕ
come_word c told dir column = come_by c told dir column (get_or c.watch_columns dir None)

-- whether the one bit of a watched directory's column is among them
abbrev pub comes_clear_by : Ground → List ℕ → ℕ → ℕ → Option ℕ → Bool
comes_clear_by c told dir column None = has_one (moved_word told c.columns c.movers dir column) 0
comes_clear_by c told dir column (Some watch) = list_any (clear_by told c.columns c.seats dir watch column) c.movers

abbrev pub comes_clear : Ground → List ℕ → ℕ → ℕ → Bool
comes_clear c told dir column = comes_clear_by c told dir column (get_or c.watch_columns dir None)

-- the words of a process
abbrev pub dir_word : Tree → Ground → List ℕ → Agent → ℕ → ℕ
dir_word t c told of dir =
    bit_or (covers_in (old_word t of.process.now told c.columns dir of.place (come_word c told dir of.place)))
    (bit_or (flag (can_enter t c told of dir) 18) (flag (can_turn c told of dir) 19))

abbrev pub carried_flag : Ground → List ℕ → ℕ → Mover → Agent → New → ℕ
carried_flag c told row maker of new = flag (can_carry_new c told row maker new of) (19 + new_bit new)

abbrev pub carried_word : Ground → List ℕ → ℕ → Mover → Agent → ℕ
carried_word c told row maker of =
    bit_or (bit_or (bit_or (carried_flag c told row maker of NewDir) (carried_flag c told row maker of NewOthers))
    (bit_or (carried_flag c told row maker of NewFile) (carried_flag c told row maker of NewLink)))
    (bit_or (carried_flag c told row maker of NewSock) (carried_flag c told row maker of NewFifo))

abbrev pub new_word : Tree → Ground → List ℕ → ℕ → Mover → Agent → ℕ
new_word t c told row maker of =
    bit_or (covers_in (made_word told c.columns c.movers c.common row maker of.place))
    (bit_or (flag (can_enter t c told of row) 18) (carried_word c told row maker of))

abbrev pub create_flag : Ground → List ℕ → Agent → New → ℕ
create_flag c told of new = flag (can_create c told of new) (new_bit new)

abbrev pub makers_word : Ground → List ℕ → Agent → ℕ
makers_word c told of =
    bit_or (bit_or (bit_or (create_flag c told of NewDir) (create_flag c told of NewOthers))
    (bit_or (create_flag c told of NewFile) (create_flag c told of NewLink)))
    (bit_or (create_flag c told of NewSock) (create_flag c told of NewFifo))

-- the one bit of a watched directory's column
abbrev pub clears_dir : Tree → Ground → List ℕ → ℕ → Watch → Bool
clears_dir t c told dir watch =
    not (dir == watch.dir)
    && ((dir == 0) || (has_one (above_word t told c.columns dir watch.column) 0 || comes_clear c told dir watch.column))

abbrev pub clears_new : Ground → List ℕ → ℕ → Mover → Watch → Bool
clears_new c told row maker watch =
    has_one (made_word told c.columns c.movers c.common row maker watch.column) 0

abbrev pub clears_landing : Ground → List ℕ → Mover → Watch → Bool
clears_landing c told by watch = has_one (landing_word told c.columns by.place watch.column c.seats) 0

-- by what a row and a column are about
abbrev pub made_by_word : Tree → Ground → List ℕ → ℕ → Agent → Option Mover → ℕ
made_by_word t c told row of None = 0
made_by_word t c told row of (Some maker) = new_word t c told row maker of

abbrev pub landed_word : Ground → List ℕ → Agent → Option Mover → ℕ
landed_word c told of None = 0
landed_word c told of (Some by) = covers_in (landing_word told c.columns by.place of.place c.seats)

abbrev pub dropped_by_word : Ground → List ℕ → Agent → Option Agent → ℕ
dropped_by_word c told of None = 0
dropped_by_word c told of (Some by) = covers_in (drops_word c told by of)

abbrev pub row_word : Ground → List ℕ → Agent → Option Entry → ℕ
row_word c told of None = 0
row_word c told of (Some entry) = flag (can_carry_row c told of entry) 0

abbrev pub agent_word : Tree → Ground → List ℕ → ℕ → Row → Agent → ℕ
agent_word t c told at (rows.Dir dir) of = dir_word t c told of dir
agent_word t c told at (rows.Made i) of = made_by_word t c told at of (slice_get c.movers (i - c.first))
agent_word t c told at (rows.Landing i) of = landed_word c told of (slice_get c.movers (i - c.first))
agent_word t c told at (rows.Drops i) of = dropped_by_word c told of (slice_get c.agents (i - c.first))
agent_word t c told at (rows.Name i) of = row_word c told of (slice_get c.entries i)

abbrev pub taken_word : Ground → List ℕ → Option Entry → ℕ
taken_word c told None = 0
taken_word c told (Some entry) = flag (is_taken_away c told entry) 0

abbrev pub made_by : Ground → List ℕ → Option Agent → ℕ
made_by c told None = 0
made_by c told (Some of) = makers_word c told of

abbrev pub common_word : Ground → List ℕ → Row → ℕ
common_word c told (rows.Drops i) = made_by c told (slice_get c.agents (i - c.first))
common_word c told (rows.Name i) = taken_word c told (slice_get c.entries i)
common_word c told (rows.Dir dir) = 0
common_word c told (rows.Made i) = 0
common_word c told (rows.Landing i) = 0

abbrev pub clear_new_word : Ground → List ℕ → ℕ → Watch → Option Mover → ℕ
clear_new_word c told at watch None = 0
clear_new_word c told at watch (Some maker) = flag (clears_new c told at maker watch) 0

abbrev pub clear_landing_word : Ground → List ℕ → Watch → Option Mover → ℕ
clear_landing_word c told watch None = 0
clear_landing_word c told watch (Some by) = flag (clears_landing c told by watch) 0

abbrev pub watched_word : Tree → Ground → List ℕ → ℕ → Row → Watch → ℕ
watched_word t c told at (rows.Dir dir) watch = flag (clears_dir t c told dir watch) 0
watched_word t c told at (rows.Made i) watch = clear_new_word c told at watch (slice_get c.movers (i - c.first))
watched_word t c told at (rows.Landing i) watch = clear_landing_word c told watch (slice_get c.movers (i - c.first))
watched_word t c told at (rows.Drops i) watch = 0
watched_word t c told at (rows.Name i) watch = 0

abbrev pub by_agent_word : Tree → Ground → List ℕ → ℕ → Row → Option Agent → ℕ
by_agent_word t c told at about None = 0
by_agent_word t c told at about (Some of) = agent_word t c told at about of

abbrev pub by_watch_word : Tree → Ground → List ℕ → ℕ → Row → Option Watch → ℕ
by_watch_word t c told at about None = 0
by_watch_word t c told at about (Some watch) = watched_word t c told at about watch

-- by the row's place, and what the row and the column are about
abbrev pub part_word : Tree → Ground → List ℕ → ℕ → Row → Part → ℕ
part_word t c told at about (parts.Agent i) = by_agent_word t c told at about (slice_get c.agents i)
part_word t c told at about parts.Common = common_word c told about
part_word t c told at about (parts.Watched i) = by_watch_word t c told at about (slice_get c.watches i)

-- what follows for a word by its own covers: that directories can be put into one with `c`
abbrev pub agent_at_once : Ground → List ℕ → Row → Agent → ℕ
agent_at_once c told (rows.Dir dir) of = flag (meets (word_at told c.columns dir of.place) with_c) 18
agent_at_once c told _ of = 0

abbrev pub by_agent_at_once : Ground → List ℕ → Row → Option Agent → ℕ
by_agent_at_once c told about None = 0
by_agent_at_once c told about (Some of) = agent_at_once c told about of

abbrev pub part_at_once : Ground → List ℕ → Row → Part → ℕ
part_at_once c told about (parts.Agent i) = by_agent_at_once c told about (slice_get c.agents i)
part_at_once c told about _ = 0

-- a word of a name has one bit alone, and that of all processes none on a directory
abbrev pub is_full : Row → Part → ℕ → Bool
is_full (rows.Name i) p word = has_one word 0
is_full (rows.Dir dir) parts.Common word = true
is_full _ p word = false

-- the same on the device of the row, if it has one
abbrev pub side_word : Tree → Crew → List ℕ → ℕ → Row → Part → Option Side → ℕ
side_word t c told at about p None = 0
side_word t c told at about p (Some side) = part_word t (ground_of c side) told at about p

abbrev pub side_at_once : Crew → List ℕ → Row → Part → Option Side → ℕ
side_at_once c told about p None = 0
side_at_once c told about p (Some side) = part_at_once (ground_of c side) told about p
