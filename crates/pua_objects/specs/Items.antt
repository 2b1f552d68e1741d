-- An item of the code, beside the definition's.
use Rattle.std.specs.Prelude.{◌≡◌, IsTrue}
use Rattle.pua_tree.specs.Tree.{Tree, look, is_dir}
use Rattle.pua_path.specs.Fits.{FoundFits, StandsAsNamed}
use Rattle.pua_path.specs.declared.found.Way.TheVariants.{Named, Top}
use Rattle.pua_path.specs.declared.found.Found.TheVariants.{Whole, Slot}
use Rattle.pua_policy.specs.States.{ProcessState}
use Rattle.pua_policy.specs.Objects.{object_seen}
use Rattle.pua_policy.specs.Verdict.{object_of, cover}
use Rattle.pua_policy.specs.declared.answer.Cover.{Cover}
use Rattle.pua_policy.specs.declared.object.Object as seen
use Rattle.pua_policy.specs.declared.object.Object.TheVariants as see
use Rattle.pua_objects.specs.Objects.{Subject, At, Others, cover_in}
use Rattle.pua_objects.specs.declared.item.Item as given
use Rattle.pua_objects.specs.declared.item.Subject as told
use Rattle.pua_objects.specs.declared.item.Subject.TheVariants as about

-- what an item is about
abbrev pub subject_given : Tree → told.Subject → Subject
subject_given t about.Root = At (Whole 0 Top)
subject_given t (about.Dir id dir name) = At (Whole id (Named dir name.now))
subject_given t (about.Others dir) = Others dir
subject_given t (about.Name dir name) = At (Slot dir name.now (look t dir name.now))

-- what a call is on there, and what covers it
abbrev pub object_on : Tree → Subject → seen.Object
object_on t (At found) = object_seen t (object_of t found)
object_on t (Others dir) = see.Missing

abbrev pub cover_on : Tree → ProcessState → Subject → Cover
cover_on t h (At found) = cover t h found
cover_on t h (Others dir) = cover_in t h dir

-- the item tells what it is about, what a call is on there, and what covers it
pub record IsItemOn (t : Tree) (h : ProcessState) (thing : Subject) (item : given.Item) : Type 0 where
  pub subject : subject_given t item.subject ≡ thing
  pub object : item.object ≡ object_on t thing
  pub cover : item.cover ≡ cover_on t h thing

-- what it is about is of the tree: its directory lives, and at a name it is what stands there
abbrev pub SubjectFits : Tree → Subject → Type 0
SubjectFits t (At found) = FoundFits t found × StandsAsNamed t found
SubjectFits t (Others dir) = IsTrue (is_dir t dir)
