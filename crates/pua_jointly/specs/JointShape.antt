-- What the code says that a word of the table of a crew is about, by its place in the crew and among the names.
use Rattle.std.specs.Prelude.{ℕ, List, Option, Some, option_map, slice_get}
use Rattle.pua_tree.specs.Tree.{Spot}
use Rattle.pua_policy.specs.States.{ProcessState}
use Rattle.pua_jointly.specs.Jointly.{Hand}
use Rattle.pua_jointly.specs.JointTable.{Entity, DirAt, MadeBy, LandingOf, DropsOf, NameAt, Column, ByAgent, Common, Watching}
use Rattle.pua_jointly.specs.declared.shape.Row.{Row}
use Rattle.pua_jointly.specs.declared.shape.Row.TheVariants as row
use Rattle.pua_jointly.specs.declared.shape.Part.{Part}
use Rattle.pua_jointly.specs.declared.shape.Part.TheVariants as part

abbrev pub entity_of : List Hand → List Spot → Row → Option Entity
entity_of hands spots (row.Dir d) = Some (DirAt d)
entity_of hands spots (row.Made i) = option_map MadeBy (slice_get hands i)
entity_of hands spots (row.Landing i) = option_map LandingOf (slice_get hands i)
entity_of hands spots (row.Drops i) = option_map DropsOf (slice_get hands i)
entity_of hands spots (row.Name i) = option_map NameAt (slice_get spots i)

abbrev pub column_of : List ProcessState → List ℕ → Part → Option Column
column_of crew guarded (part.Agent i) = option_map ByAgent (slice_get crew i)
column_of crew guarded part.Common = Some Common
column_of crew guarded (part.Watched i) = option_map Watching (slice_get guarded i)
