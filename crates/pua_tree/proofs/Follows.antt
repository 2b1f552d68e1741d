-- A test of an entry, and what it says.
use Rattle.pua_tree.proofs.Common.{◌≡◌, ℕ, List, Option, Some, None, Tree, true, false, is_some, IsTrue, refl, and_parts}
use Rattle.pua_tree.proofs.Common.{eqb-true, leb-true, ltb-true, not-true, is_dir, look, Enters, Follows}
use Rattle.pua_tree.proofs.Common.{entry_at, ltb, option_map, is_living}
use Rattle.pua_tree.proofs.Common.{◌&&◌, not, leb, le-leb, lt-ltb, eq-eqb, Entry, Node}
use Rattle.std.proofs.lemmas.Bool.{not-false}
use Rattle.pua_tree.proofs.Base.{past, tested}
use Rattle.pua_tree.specs.Names.{is_name}
use Rattle.pua_tree.specs.Reading.{follows, said_node, node_follows, row_follows}
use Rattle.pua_tree.specs.Edits.{has_name_room}
use Rattle.pua_tree.specs.declared.fault.TreeFault.TheVariants.{NotDir, Taken, Missing, IsDir, Full}
use Rattle.pua_tree.specs.declared.gathered.LineNode.{LineNode}
use Rattle.pua_tree.specs.declared.gathered.MadeNode.{MadeNode}

-- an entry that may follow passes the test
pub passes : (t : Tree) (e : Entry) → Follows t e → follows t e ≡ true
passes t e f = by e.made f.enters
  where
    number : leb t.next e.number ≡ true
    number = le-leb t.next e.number f.number

    small : ltb e.number 4294967295 ≡ true
    small = lt-ltb e.number _ f.not_last

    by : (made : Option Node) → Enters t e made →
        (is_dir t e.parent && (node_follows t e.number e.node made && row_follows t e.number e.parent e.name)) ≡ true
    by None tied =
        let in_dir = past (not (is_dir t e.parent)) NotDir _ _ tied in
        let lives = past (not (is_living t e.node)) Missing _ _ in_dir.1 in
        let other = past (is_dir t e.node) IsDir _ _ lives.1 in
        let free = past (is_some (look t e.parent e.name)) Taken _ _ other.1 in
        let room = tested (has_name_room t) Full _ _ free.1 in
        rw (not-false _ in_dir.0, number, small, free.0, room.0, not-false _ lives.0, other.0) refl
    by (Some made) added =
        let in_dir = past (not (is_dir t e.parent)) NotDir _ _ added.3 in
        let free = past (is_some (look t e.parent e.name)) Taken _ _ in_dir.1 in
        let room = and_parts (has_name_room t) _ (tested (has_name_room t && ltb e.number 4294967295) Full _ _ free.1).0 in
        rw (not-false _ in_dir.0, number, small, free.0, room.0, eq-eqb e.node e.number added.0) refl

-- a spot to which an entry may come has no row
pub free_where : (t : Tree) (e : Entry) → follows t e ≡ true → is_some (look t e.parent e.name) ≡ false
free_where t e h =
    let in_dir = and_parts (is_dir t e.parent) _ h in
    let node = and_parts (node_follows t e.number e.node e.made) _ in_dir.1 in
    let number = and_parts _ _ node.1 in
    let not_last = and_parts _ _ number.1 in
    not-true _ (and_parts _ _ not_last.1).0

-- an entry that passes the test may follow
pub follows_from : (t : Tree) (dir : ℕ) (name : List ℕ) (stands : LineNode) → IsTrue (is_name name) →
    follows t (entry_at dir name stands) ≡ true → Follows t (entry_at dir name stands)
follows_from t dir name stands named h =
    let in_dir = and_parts _ _ h in
    let node = and_parts (node_follows t stands.number stands.node (option_map said_node stands.made)) _ in_dir.1 in
    let number = and_parts _ _ node.1 in
    let not_last = and_parts _ _ number.1 in
    let free = and_parts _ _ not_last.1 in
    record {
      number = leb-true t.next stands.number number.0;
      not_last = ltb-true stands.number _ not_last.0;
      named = named;
      enters = enters not_last.0 in_dir.0 (not-true _ free.0) free.1 stands.made node.0;
    }
  where
    enters : ltb stands.number 4294967295 ≡ true → is_dir t dir ≡ true → is_some (look t dir name) ≡ false → has_name_room t ≡ true →
        (made : Option MadeNode) → node_follows t stands.number stands.node (option_map said_node made) ≡ true →
        Enters t (entry_at dir name stands) (option_map said_node made)
    enters small in_dir free few None h =
        let other = and_parts (is_living t stands.node) _ h in
        let living : is_living t stands.node ≡ true = other.0 in
        let no_dir : is_dir t stands.node ≡ false = not-true _ other.1 in
        rw (in_dir, living, no_dir, free, few) refl
    enters small in_dir free few (Some made) h = (eqb-true stands.node stands.number h, made.fits, made.mounts, rw (in_dir, free, few, small) refl)
