-- Worked rows on the veils under which things come to stand.
use Rattle.std.specs.Prelude.{◌≡◌, ◌+◌, Bool, true, false, [], ◌∷◌, Some, None, codes, refl}
use Rattle.pua_tree.specs.Tree.{Tree, Node, empty_tree}
use Rattle.pua_tree.specs.declared.node.Kind.{Kind}
use Rattle.pua_tree.specs.declared.node.Kind.TheVariants as kind
use Rattle.pua_path.specs.declared.found.Found.TheVariants.{Whole, Slot}
use Rattle.pua_path.specs.declared.found.Way.TheVariants.{Named}
use Rattle.pua_calls.specs.Calls.{standard_table}
use Rattle.pua_calls.specs.Promises.{creating, executing, reading}
use Rattle.pua_policy.specs.States.{ProcessState}
use Rattle.pua_policy.specs.declared.place.Place.TheVariants.{Dir, Slot as Name}
use Rattle.pua_objects.specs.Objects.{At, Others}
use Rattle.pua_ever.specs.Comings.{places_on}
use Rattle.pua_ever.specs.Ever.{Comes, NewFile, Stands}
use Rattle.pua_ever.specs.Examples.{carried_mount_process, carried_mount_tree, in_the_place_process, in_the_place_tree, locked_with}
use Rattle.pua_ever.specs.Examples.{mounted_on_tree, moved_on_process, moved_on_tree, one_area_process, one_area_tree}
use Rattle.pua_ever.specs.Examples.{other_name_process, other_name_tree}

abbrev node : Kind → Bool → Node
node of mount = record { kind = of; target = None; mount = mount }

-- `/` has rx; `/k`, where `/k/h` stays, and `/m/x` and `/m/y` have c; `/m` is a mount point: a directory comes in the place of another one
-- in `/m` alone, under the veil of `/`
abbrev pub apart_tree : Tree
apart_tree = record empty_tree {
  rows =
      ((0, codes "k"), 1) ∷ ((0, codes "m"), 2) ∷ ((1, codes "f"), 5) ∷ ((1, codes "h"), 6) ∷ ((2, codes "x"), 3) ∷ ((2, codes "y"), 4)
      ∷ ((4, codes "p"), 7) ∷ [];
  nodes =
      (0, node kind.Dir false) ∷ (1, node kind.Dir false) ∷ (2, node kind.Dir true) ∷ (3, node kind.Dir false) ∷ (4, node kind.Dir false)
      ∷ (5, node kind.File false) ∷ (6, node kind.File false) ∷ (7, node kind.Prog false) ∷ [];
  next = 8;
}

abbrev pub apart_process : ProcessState
apart_process =
    locked_with (
    (Dir 0, reading + executing)
    ∷ (Dir 1, creating)
    ∷ (Name 1 (codes "h"), reading)
    ∷ (Dir 3, creating)
    ∷ (Dir 4, creating)
    ∷ [])

pub record ComingRows : Type 0 where
  -- a directory with a veil of its own keeps that
  pub kept : places_on moved_on_tree standard_table moved_on_process (Stands (Others 2)) ≡ Dir 2 ∷ []
  -- what stands in `/b` comes into `/a`, and back
  pub moved : places_on moved_on_tree standard_table moved_on_process (Stands (At (Whole 3 (Named 2 (codes "x"))))) ≡ Dir 1 ∷ Dir 2 ∷ []
  pub made : places_on moved_on_tree standard_table moved_on_process (Comes NewFile) ≡ Dir 1 ∷ Dir 2 ∷ []
  -- a directory comes in the place of `/a` and of `/b`, under the veil of `/`, and the program in it with it
  pub in_place : places_on in_the_place_tree standard_table in_the_place_process (Stands (At (Slot 3 (codes "p") (Some 4))))
      ≡ Dir 1 ∷ Dir 2 ∷ Dir 0 ∷ Dir 0 ∷ []
  -- nothing outside of `/a` has c, so nothing comes in its place
  pub one_area : places_on one_area_tree standard_table one_area_process (Stands (At (Slot 2 (codes "p") (Some 3)))) ≡ Dir 1 ∷ []
  -- what is moved stays on its file system, and so do the veils under which it comes; what is made comes under those of all
  pub mounted : places_on mounted_on_tree standard_table moved_on_process (Stands (At (Whole 3 (Named 2 (codes "x"))))) ≡ Dir 2 ∷ []
  pub made_on_any : places_on mounted_on_tree standard_table moved_on_process (Comes NewFile) ≡ Dir 1 ∷ Dir 2 ∷ []
  pub other_name : places_on other_name_tree standard_table other_name_process (Stands (At (Slot 1 (codes "f") (Some 3)))) ≡ Dir 1 ∷ []
  pub own_name : places_on other_name_tree standard_table other_name_process (Stands (At (Slot 2 (codes "g") (Some 4))))
      ≡ Name 0 (codes "n") ∷ Dir 2 ∷ []
  -- what goes along comes under those of all
  pub carried : places_on carried_mount_tree standard_table carried_mount_process (Stands (At (Slot 4 (codes "f") (Some 5))))
      ≡ Dir 1 ∷ Dir 2 ∷ []
  -- the veil of `/` covers what comes into `/m`, though that is another file system; nothing comes so into `/`
  pub around : places_on apart_tree standard_table apart_process (Stands (At (Slot 4 (codes "p") (Some 7))))
      ≡ Dir 3 ∷ Dir 4 ∷ Dir 0 ∷ Dir 0 ∷ []
  pub not_around : places_on apart_tree standard_table apart_process (Stands (At (Slot 1 (codes "f") (Some 5)))) ≡ Dir 1 ∷ []

pub coming_rows : ComingRows
coming_rows = record {
  kept = refl;
  moved = refl;
  made = refl;
  in_place = refl;
  one_area = refl;
  mounted = refl;
  made_on_any = refl;
  other_name = refl;
  own_name = refl;
  carried = refl;
  around = refl;
  not_around = refl;
}
