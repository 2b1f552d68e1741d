-- What follows from the table of a crew, word by word, as the code finds it.
use Rattle.std.specs.Prelude.{◌≡◌, ◌<◌, ◌+◌, ◌*◌, ◌^◌, ◌==◌, ◌&&◌, ◌||◌, not, ℕ, Bool, true, false, List, Some, get_or, slice_get}
use Rattle.std.specs.Prelude.{if◌then◌else◌}
use Rattle.std.specs.Int.{bit_at}
use Rattle.std.specs.Int.Bits.{bit_and, bit_or}
use Rattle.std.specs.BTreeSet.{BTreeSet, contains}
use Rattle.std.specs.List.{fold, list_any}
use Rattle.std.specs.Ordering.{nat_cmp}
use Rattle.pua_tree.specs.declared.node.Kind.{Kind}
use Rattle.pua_tree.specs.declared.node.Kind.TheVariants as kind
use Rattle.pua_tree.specs.declared.node.FileType.TheVariants.{Sock, Fifo}
use Rattle.pua_calls.specs.Calls.{CallTable}
use Rattle.pua_policy.specs.States.{ProcessState, veils}
use Rattle.pua_policy.specs.declared.answer.Cover.{Cover}
use Rattle.pua_policy.specs.declared.place.Place.{Place}
use Rattle.pua_policy.specs.declared.place.Place.TheVariants as place
use Rattle.pua_jointly.specs.Closing.{has_bit}
use Rattle.pua_ever.specs.Ever.{New, NewDir, NewOthers, NewFile, NewLink, NewSock, NewFifo, can_move, can_link}
use Rattle.pua_jointly.specs.Jointly.{is_turned_open, may_take, sends_to_set}
use Rattle.pua_jointly.specs.JointCovers.{AreCallsByCover}
use Rattle.pua_jointly.specs.JointFacts.{makes_under, turns_under}
use Rattle.pua_jointly.specs.JointPlace.{cover_bit}
use Rattle.pua_jointly.specs.declared.agent.Agent.{Agent}
use Rattle.pua_jointly.specs.declared.mover.Mover.{Mover}

-- the word at a row and a column of a table with so many columns
abbrev pub word_at : List ℕ → ℕ → ℕ → ℕ → ℕ
word_at told columns row column = get_or told (row * columns + column) 0

-- the covers of a word
abbrev pub covers_in : ℕ → ℕ
covers_in word = bit_and word 262143

-- the covers of a directory by the veils of one process, if another one can come to put a directory into it
abbrev pub landed_at : List ℕ → ℕ → ℕ → ℕ → ℕ → ℕ
landed_at told columns by agent seat =
    if bit_at (word_at told columns seat by) 18 == 1 then covers_in (word_at told columns seat agent) else 0

-- those of all directories
abbrev pub landing_word : List ℕ → ℕ → ℕ → ℕ → List ℕ → ℕ
landing_word told columns by agent seats = fold (λ word seat. bit_or word (landed_at told columns by agent seat)) 0 seats

-- some cover of a word is one of these
abbrev pub meets : ℕ → ℕ → Bool
meets word covers = not (bit_and word covers == 0)

-- covers of which a test holds
pub record AreCovers (covers : ℕ) (test : Cover → Bool) : Type 0 where
  pub all : (k : Cover) → cover_bit k < 18 → (bit_at covers (cover_bit k) == 1) ≡ test k
  pub only : (bit : ℕ) → has_bit covers bit → bit < 18
  pub small : covers < 2 ^ 32

-- the covers under which a process can make something, and carry something
abbrev pub making : Agent → New → ℕ
making agent NewDir = agent.making_dirs
making agent NewOthers = agent.making_dirs
making agent NewFile = agent.making_files
making agent NewLink = agent.making_links
making agent NewSock = agent.making_sockets
making agent NewFifo = agent.making_fifos

abbrev pub carrying : Agent → Kind → ℕ
carrying agent kind.Link = agent.carrying_links
carrying agent _ = agent.carrying

-- what is made, as far as it is asked of what is carried: whether it is a link
abbrev pub carried_kind : New → Kind
carried_kind NewDir = kind.Dir
carried_kind NewOthers = kind.Dir
carried_kind NewFile = kind.File
carried_kind NewLink = kind.Link
carried_kind NewSock = kind.Known Sock
carried_kind NewFifo = kind.Known Fifo

-- a process has a veil at a name
abbrev pub is_name : Place → Bool
is_name (place.Slot dir name) = true
is_name (place.Dir dir) = false

abbrev pub has_named : ProcessState → Bool
has_named h = list_any (λ (veil : Place × ℕ). is_name veil.0) (veils h)

-- the nodes that a process has open so that programs can be made of them, by whether it can send what it has open
abbrev pub IsOpenSet : Bool → ProcessState → BTreeSet ℕ → Type 0
IsOpenSet sends b nodes = (node : ℕ) → contains nat_cmp nodes node ≡ is_turned_open sends b node

-- what is asked of a process of the crew, by its place: itself, the covers under which it can do something, and what it has open so that
-- programs can be made of it
pub record IsAgent (table : CallTable) (crew : List ProcessState) (i : ℕ) (b : ProcessState) (agent : Agent) : Type 0 where
  pub process : agent.process.now ≡ b
  pub place : agent.place ≡ i
  pub moving : AreCovers agent.moving (can_move table b)
  pub carries : (kind : Kind) → AreCovers (carrying agent kind) (λ k. can_move table b k || can_link table b (Some kind) k)
  pub makes : (new : New) → AreCovers (making agent new) (makes_under table b new)
  pub takes : agent.may_take ≡ may_take table b
  pub named : agent.named ≡ has_named b
  pub turning : AreCovers agent.turning (turns_under table b (sends_to_set table crew b))
  pub turned : IsOpenSet (sends_to_set table crew b) b agent.turned
  pub calls : AreCallsByCover table b agent.calls.items

-- of each process, by its place
pub record AreAgents (table : CallTable) (crew : List ProcessState) (agents : List Agent) : Type 0 where
  pub each : (i : ℕ) (b : ProcessState) → slice_get crew i ≡ Some b →
      (agent : Agent) × (slice_get agents i ≡ Some agent) × IsAgent table crew i b agent
  pub only : (i : ℕ) (agent : Agent) → slice_get agents i ≡ Some agent →
      (b : ProcessState) × (slice_get crew i ≡ Some b) × IsAgent table crew i b agent

-- of a process on a device, by the number of the hands before those of the device: the rows of what it makes there, and of where it can
-- put directories and other things
pub record IsMover (table : CallTable) (dirs hands first i : ℕ) (b : ProcessState) (mover : Mover) : Type 0 where
  pub place : mover.place ≡ i
  pub moving : AreCovers mover.moving (can_move table b)
  pub made : mover.made ≡ dirs + (first + i)
  pub landing : mover.landing ≡ dirs + (hands + (first + i))
  pub drops : mover.drops ≡ dirs + (hands + (hands + (first + i)))

pub record AreMovers (table : CallTable) (crew : List ProcessState) (dirs hands first : ℕ) (movers : List Mover) : Type 0 where
  pub each : (i : ℕ) (b : ProcessState) → slice_get crew i ≡ Some b →
      (mover : Mover) × (slice_get movers i ≡ Some mover) × IsMover table dirs hands first i b mover
  pub only : (i : ℕ) (mover : Mover) → slice_get movers i ≡ Some mover →
      (b : ProcessState) × (slice_get crew i ≡ Some b) × IsMover table dirs hands first i b mover

-- a process can move a directory
abbrev pub moves_at : List ℕ → ℕ → ℕ → Mover → Bool
moves_at told columns seat mover = meets (word_at told columns seat mover.place) mover.moving

-- the covers under which those come that can move a directory
abbrev pub moved_at : List ℕ → ℕ → ℕ → ℕ → Mover → ℕ
moved_at told columns seat of mover =
    if moves_at told columns seat mover then covers_in (word_at told columns mover.landing of) else 0

abbrev pub moved_word : List ℕ → ℕ → List Mover → ℕ → ℕ → ℕ
moved_word told columns movers seat of = fold (λ word mover. bit_or word (moved_at told columns seat of mover)) 0 movers

-- the same of a watched directory, whose column says where it can come to stand
abbrev pub apart_at : List ℕ → ℕ → ℕ → ℕ → ℕ → ℕ → ℕ
apart_at told columns by watch of into =
    if (bit_at (word_at told columns into by) 18 == 1) && (bit_at (word_at told columns into watch) 0 == 1)
    then covers_in (word_at told columns into of) else 0

abbrev pub apart_by : List ℕ → ℕ → List ℕ → ℕ → ℕ → ℕ → Mover → ℕ
apart_by told columns seats seat watch of mover =
    if moves_at told columns seat mover
    then fold (λ word into. bit_or word (apart_at told columns mover.place watch of into)) 0 seats else 0

abbrev pub apart_word : List ℕ → ℕ → List Mover → List ℕ → ℕ → ℕ → ℕ → ℕ
apart_word told columns movers seats seat watch of =
    fold (λ word mover. bit_or word (apart_by told columns seats seat watch of mover)) 0 movers

-- whether one of those is one that another watched directory is not above, by the column of that
abbrev pub clear_at : List ℕ → ℕ → ℕ → ℕ → ℕ → ℕ → Bool
clear_at told columns by watch of into =
    (bit_at (word_at told columns into by) 18 == 1)
    && ((bit_at (word_at told columns into watch) 0 == 1) && (bit_at (word_at told columns into of) 0 == 1))

abbrev pub clear_by : List ℕ → ℕ → List ℕ → ℕ → ℕ → ℕ → Mover → Bool
clear_by told columns seats seat watch of mover =
    moves_at told columns seat mover && list_any (clear_at told columns mover.place watch of) seats

-- the covers of what a process makes, by the column of what is so of all: where it is made, and where it is moved
abbrev pub born_at : List ℕ → ℕ → ℕ → Mover → ℕ → ℕ
born_at told columns common maker of =
    if bit_at (word_at told columns maker.drops common) 0 == 1 then covers_in (word_at told columns maker.landing of) else 0

abbrev pub made_word : List ℕ → ℕ → List Mover → ℕ → ℕ → Mover → ℕ → ℕ
made_word told columns movers common seat maker of =
    bit_or (moved_word told columns movers seat of) (born_at told columns common maker of)

-- the covers with `c`
abbrev pub with_c : ℕ
with_c = 261121

-- the covers of a directory by the veils of one process, if another one has `c` on it
abbrev pub dropped_at : List ℕ → ℕ → ℕ → ℕ → ℕ → ℕ
dropped_at told columns by agent seat =
    if meets (word_at told columns seat by) with_c then covers_in (word_at told columns seat agent) else 0

abbrev pub dropped_word : List ℕ → ℕ → ℕ → ℕ → List ℕ → ℕ
dropped_word told columns by agent seats = fold (λ word seat. bit_or word (dropped_at told columns by agent seat)) 0 seats

-- some directory has one of these covers
abbrev pub some_meets : List ℕ → ℕ → ℕ → ℕ → List ℕ → Bool
some_meets told columns agent covers seats = list_any (λ seat. meets (word_at told columns seat agent) covers) seats
