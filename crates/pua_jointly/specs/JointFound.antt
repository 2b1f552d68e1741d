-- The covers of things that the table of a crew has, and what is found of several processes.
use Rattle.std.specs.Prelude.{◌≡◌, ◌<◌, ◌+◌, ◌&&◌, ◌||◌, ◌==◌, ℕ, Bool, List, Option, Some, None, false, get_or, length, if◌then◌else◌}
use Rattle.std.specs.Int.Bits.{bit_or}
use Rattle.std.specs.List.{fold, list_any}
use Rattle.std.specs.BTreeSet.{contains}
use Rattle.std.specs.Ordering.{nat_cmp}
use Rattle.pua_tree.specs.Tree.{Tree}
use Rattle.pua_calls.specs.Calls.{CallTable}
use Rattle.pua_policy.specs.States.{ProcessState}
use Rattle.pua_ever.specs.Ever.{New, may_start}
use Rattle.pua_jointly.specs.JointFacts.{watches}
use Rattle.pua_jointly.specs.JointMembers.{SameMembers}
use Rattle.pua_jointly.specs.JointOld.{asked_word}
use Rattle.pua_jointly.specs.JointPlace.{new_bit}
use Rattle.pua_jointly.specs.JointRounds.{has_one, stays_in}
use Rattle.pua_jointly.specs.Closing.{IsClosed}
use Rattle.pua_jointly.specs.JointSetup.{FollowsTold, IsWorkedOut, dir_side, count_told, crew_told, dirs_of, layout_told}
use Rattle.pua_jointly.specs.JointTable.{HasFacts}
use Rattle.pua_jointly.specs.JointWords.{covers_in, meets, word_at}
use Rattle.pua_jointly.specs.declared.agent.Agent.{Agent}
use Rattle.pua_jointly.specs.declared.crew.Crew.{Crew}
use Rattle.pua_jointly.specs.declared.crew.Entry.{Entry}
use Rattle.pua_jointly.specs.declared.crew.Side.{Side}
use Rattle.pua_jointly.specs.declared.mover.Mover.{Mover}
use Rattle.pua_jointly.specs.declared.facts.Facts.{Facts}

-- of the directories that processes make
abbrev pub made_in : Crew → List ℕ → Agent → Mover → ℕ
made_in c told of maker = covers_in (word_at told c.columns maker.made of.place)

abbrev pub made_on : Crew → List ℕ → Agent → Side → ℕ
made_on c told of side = fold (λ word maker. bit_or word (made_in c told of maker)) 0 side.movers.items

abbrev pub made_words : Crew → List ℕ → Agent → ℕ
made_words c told of = fold (λ word side. bit_or word (made_on c told of side)) 0 c.sides.items

-- of what others carry on a device, by the row and the bit that say so
abbrev pub carried_by : Crew → List ℕ → Agent → ℕ → ℕ → Mover → ℕ
carried_by c told of row bit by =
    if has_one (word_at told c.columns row by.place) bit then covers_in (word_at told c.columns by.drops of.place) else 0

abbrev pub carried_covers : Crew → List ℕ → Agent → ℕ → ℕ → Side → ℕ
carried_covers c told of row bit side = fold (λ word by. bit_or word (carried_by c told of row bit by)) 0 side.movers.items

abbrev pub side_covers : Crew → List ℕ → Agent → ℕ → ℕ → Option Side → ℕ
side_covers c told of row bit None = 0
side_covers c told of row bit (Some side) = carried_covers c told of row bit side

-- of what stands at a name
abbrev pub entry_word : Crew → List ℕ → Agent → Entry → ℕ
entry_word c told of entry =
    bit_or (asked_word of.named of.process.now told c.columns entry.dir entry.name.now of.place)
    (side_covers c told of entry.row 0 (dir_side c entry.dir))

-- of what processes make that is no directory: where it is made, and where it is carried
abbrev pub born_in : Crew → List ℕ → Agent → New → Side → Mover → ℕ
born_in c told of new side by =
    bit_or (if has_one (word_at told c.columns by.drops c.shape.agents) (new_bit new) then covers_in (word_at told c.columns by.drops of.place) else 0)
    (carried_covers c told of by.made (19 + new_bit new) side)

abbrev pub born_on : Crew → List ℕ → Agent → New → Side → ℕ
born_on c told of new side = fold (λ word by. bit_or word (born_in c told of new side by)) 0 side.movers.items

abbrev pub new_covers : Crew → List ℕ → Agent → New → ℕ
new_covers c told of new = fold (λ word side. bit_or word (born_on c told of new side)) 0 c.sides.items

-- a call by which the file at a name can come to be a program is allowed to one of the processes, or that holds it open so that it can
abbrev pub turned_by : Crew → List ℕ → Entry → Agent → Bool
turned_by c told entry of = meets (entry_word c told of entry) of.turning || contains nat_cmp of.turned entry.node

abbrev pub turns : Crew → List ℕ → Entry → Bool
turns c told entry = may_start entry.kind && list_any (turned_by c told entry) c.agents.items

abbrev pub turns_in : Crew → List ℕ → ℕ → Entry → Bool
turns_in c told node entry = (entry.node == node) && turns c told entry

-- the numbers below a count of which some name passes a test
abbrev pub AreMarked : (ℕ → Entry → Bool) → List Entry → ℕ → List Bool → Type 0
AreMarked test entries count marked = (n : ℕ) → n < count → get_or marked n false ≡ list_any (test n) entries

-- what was found is what several processes can come to do
pub record AreFacts (t : Tree) (table : CallTable) (crew : List ProcessState) (facts : Facts) : Type 0 where
  pub worked : IsWorkedOut t table facts.crew
  pub members : SameMembers crew (crew_told facts.crew)
  pub full : length facts.told.items ≡ count_told facts.crew
  pub closed : IsClosed (FollowsTold t table facts.crew) facts.told.items
  pub has : HasFacts t table (crew_told facts.crew) (watches t (crew_told facts.crew)) (layout_told facts.crew) facts.told.items
  pub held : AreMarked (stays_in facts.crew.columns facts.crew.shape.agents facts.told.items) facts.crew.entries.items (dirs_of facts.crew) facts.held.items
  pub turned : AreMarked (turns_in facts.crew facts.told.items) facts.crew.entries.items (dirs_of facts.crew) facts.turned.items
