-- What the lines of a list for ever are about stands now.
use Rattle.std.proofs.Common.{◌≡◌, true}
use Rattle.std.specs.List.{Contains}
use Rattle.pua_tree.specs.Tree.{Tree, WellFormed, is_dir}
use Rattle.pua_path.specs.declared.found.Found.TheVariants.{Whole, Slot}
use Rattle.pua_calls.specs.Calls.{CallTable}
use Rattle.pua_policy.specs.States.{ProcessState}
use Rattle.pua_audit.specs.Reach.{Word}
use Rattle.pua_objects.specs.Objects.{Subject, At, Others}
use Rattle.pua_ever.specs.Ever.{Thing, Stands, Comes, EverLine, ever}
use Rattle.pua_ever.specs.ShownForEver.{shown_lasting}
use Rattle.pua_ever.specs.Through.{ever_lasting}
use Rattle.pua_how.proofs.NamesLeadToThing.{IsPlaced, lasting_placed, listed_placed, shown_placed}

module _ (t : Tree) where
  -- a directory lives, and so does that of further names
  abbrev pub Lives : Subject → Type 0
  Lives (At (Whole dir way)) = is_dir t dir ≡ true
  Lives (At (Slot dir name _)) = Unit {0}
  Lives (Others dir) = is_dir t dir ≡ true

  abbrev pub LivesThing : Thing → Type 0
  LivesThing (Stands subject) = Lives subject
  LivesThing (Comes new) = Unit {0}

  placed_lives : (h : ProcessState) (word : Word) (thing : Thing) → IsPlaced t h word thing → LivesThing thing
  placed_lives h word (Stands (At (Whole dir way))) placed = placed.1
  placed_lives h word (Stands (At (Slot dir name _))) placed = tt
  placed_lives h word (Stands (Others dir)) placed = placed.1
  placed_lives h word (Comes new) placed = tt

  pub listed_lives : (h : ProcessState) → WellFormed t → (table : CallTable) → (line : EverLine) → Contains (ever t table h) line →
      LivesThing line.thing
  listed_lives h well table line listed = placed_lives h line.word line.thing (listed_placed t h well table line listed)

pub lasting_lives : (t : Tree) (table : CallTable) (h : ProcessState) → WellFormed t → (line : EverLine) →
    Contains (ever_lasting t table h) line → LivesThing t line.thing
lasting_lives t table h well line listed = placed_lives t h line.word line.thing (lasting_placed t table h well line listed)

pub shown_lives : (t : Tree) (table : CallTable) (h : ProcessState) → WellFormed t → (line : EverLine) →
    Contains (shown_lasting t table h) line → LivesThing t line.thing
shown_lives t table h well line listed = placed_lives t h line.word line.thing (shown_placed t table h well line listed)
