-- What is asked about, and the line of the list for ever that is about it.
use Rattle.std.proofs.Common.{◌≡◌, ℕ, ◌<◌, ◌≤◌, Bool, false, true, List, refl, sym, ap, ◌∙◌, arith}
use Rattle.std.proofs.Common.{Option, Some, None}
use Rattle.std.proofs.lemmas.Bool.{and_parts, and_from, eqb-true, eq-eqb, false≢true, ltb-true}
use Rattle.std.specs.Prelude.{◌==◌, ◌&&◌, nat_lt, is_some, is_none, option_map}
use Rattle.std.specs.List.{Contains}
use Rattle.pua_tree.specs.Names.{same_bytes}
use Rattle.pua_tree.specs.Tree.{Tree, WellFormed, Node, is_dir, is_dir_kind, is_living, kind_at, node_at}
use Rattle.pua_tree.specs.declared.node.Kind.{Kind}
use Rattle.pua_tree.specs.declared.node.Kind.TheVariants as kind
use Rattle.pua_tree.specs.declared.node.FileType.TheVariants.{Plain, Sock, Fifo, Dev}
use Rattle.pua_tree.proofs.ForCallers.{None≢Some, Some≢None, row_says, sound_from}
use Rattle.pua_path.specs.Fits.{is_link_kind}
use Rattle.pua_path.specs.declared.found.Found.{Found}
use Rattle.pua_path.specs.declared.found.Found.TheVariants.{Whole, Slot}
use Rattle.pua_calls.specs.Calls.{call_number}
use Rattle.pua_calls.specs.declared.call.Call.{Call}
use Rattle.pua_policy.specs.States.{ProcessState, perms_kept}
use Rattle.pua_policy.specs.declared.place.Place.{Place}
use Rattle.pua_policy.specs.declared.place.Place.TheVariants as place
use Rattle.pua_objects.proofs.ForCallers.{among_contained}
use Rattle.pua_ever.proofs.ForCallers.{any_among}
use Rattle.pua_ever.specs.Ever.{EverLine, Thing, may_start_at}
use Rattle.pua_ever.specs.Laws.{IsLineOf, of_dir, of_row, of_name, of_others, of_new_dir, of_new_file, of_new_link, of_new_sock, of_new_fifo, of_new_others}
use Rattle.pua_how.specs.Targets.{is_of, is_about, is_sock_kind, is_fifo_kind, IsLast, IsGiven, has_call, line_has, is_listed}
use Rattle.pua_how.specs.declared.target.Target.{Target}
use Rattle.pua_how.specs.declared.target.Target.TheVariants as target
use Rattle.pua_how.proofs.Lived.{LivesThing}

-- a line about it that has the call makes it listed
pub listed_by : (lines : List EverLine) (asked : Target) (call : Call) (line : EverLine) → Contains lines line →
    is_about asked line.thing ≡ true → Contains line.calls call → is_listed lines asked call ≡ true
listed_by lines asked call line listed about allows =
    any_among (line_has asked call) lines line (among_contained lines line listed)
    (and_from (is_about asked line.thing) (has_call line.calls call) about
    (any_among (λ other. call_number other == call_number call) line.calls call (among_contained line.calls call allows)
    (eq-eqb (call_number call) (call_number call) refl)))

-- a number that was given is none of those that came later
given_is : (asked found next : ℕ) → asked < next → next ≤ found → (found == asked) ≡ true → ⊥
given_is asked found next below new same = let is : found ≡ asked = eqb-true found asked same in omega (arith, below, new, is)

-- what lives is not above the last one
kind_is : (t : Tree) (last node : ℕ) (o : Option Kind) → kind_at t node ≡ o → is_some o ≡ true → IsLast t last →
    nat_lt last node ≡ true → ⊥
kind_is t last node (Some k) is some given old =
    let below : node ≤ last = given node k is in let above : last < node = ltb-true last node old in omega (arith, below, above)
kind_is t last node None is some given old = false≢true some

dir_is : (t : Tree) (last dir : ℕ) → is_dir t dir ≡ true → IsLast t last → nat_lt last dir ≡ true → ⊥
dir_is t last dir living given old = kind_is t last dir (kind_at t dir) refl (some (kind_at t dir) living) given old
  where
    some : (o : Option Kind) → is_dir_kind o ≡ true → is_some o ≡ true
    some (Some k) e = refl
    some None e = absurd (false≢true e)

node_is : (t : Tree) (last node : ℕ) → is_living t node ≡ true → IsLast t last → nat_lt last node ≡ true → ⊥
node_is t last node living given old = kind_is t last node (kind_at t node) refl (some (node_at t node) living) given old
  where
    some : (o : Option Node) → is_some o ≡ true → is_some (option_map (λ (n : Node). n.kind) o) ≡ true
    some (Some n) e = refl
    some None e = absurd (false≢true e)

some_none : (o : Option ℕ) (perms : ℕ) → o ≡ Some perms → is_none o ≡ true → ⊥
some_none (Some other) perms is none = false≢true none
some_none None perms is none = None≢Some perms is

none_some : (o : Option ℕ) → o ≡ None → is_some o ≡ true → ⊥
none_some None is some = false≢true some
none_some (Some other) is some = Some≢None other is

-- what is of one kind is of no other
apart : (test : Option Kind → Bool) (one : Kind) (o : Option Kind) → o ≡ Some one → test (Some one) ≡ false → test o ≡ true → ⊥
apart test one o is other so = false≢true (sym (ap test is ∙ other) ∙ so)

-- nor is a file that may be a plain one
file_apart : (o : Option Kind) → may_start_at o ≡ true →
    (is_link_kind o ≡ false) × (is_sock_kind o ≡ false) × (is_fifo_kind o ≡ false)
file_apart None e = absurd (false≢true e)
file_apart (Some kind.File) e = (refl, refl, refl)
file_apart (Some (kind.Known Plain)) e = (refl, refl, refl)
file_apart (Some (kind.Known Sock)) e = absurd (false≢true e)
file_apart (Some (kind.Known Fifo)) e = absurd (false≢true e)
file_apart (Some (kind.Known Dev)) e = absurd (false≢true e)
file_apart (Some kind.Dir) e = absurd (false≢true e)
file_apart (Some kind.Prog) e = absurd (false≢true e)
file_apart (Some kind.Link) e = absurd (false≢true e)

-- the line of what a path named is about what was asked, if that is what it named
pub line_about : (t later : Tree) (h : ProcessState) → WellFormed t → (asked : Target) → IsGiven t asked → (thing : Thing) →
    LivesThing t thing → (object : Found) → IsLineOf t later h thing object → is_of later h asked object ≡ true →
    is_about asked thing ≡ true
line_about t later h well (target.Directory asked) given thing lives (Whole dir way) (of_dir below) e = e
line_about t later h well (target.Directory asked) given thing lives (Whole dir way) (of_new_dir new) e =
    absurd (given_is asked dir t.next given new e)
line_about t later h well (target.Directory asked) given thing lives (Slot dir name _) line e = absurd (false≢true e)
line_about t later h well (target.Others asked) given thing lives (Whole dir way) line e = absurd (false≢true e)
line_about t later h well (target.Others asked) given thing lives (Slot dir name (Some node)) line e = absurd (false≢true e)
line_about t later h well (target.Others asked) given thing lives (Slot dir name None) (of_name perms kept) e =
    absurd (some_none (perms_kept h (place.Slot dir name)) perms kept (and_parts (dir == asked) _ e).1)
line_about t later h well (target.Others asked) given thing lives (Slot dir name None) (of_others below kept) e =
    (and_parts (dir == asked) _ e).0
line_about t later h well (target.Others asked) given thing lives (Slot dir name None) (of_new_others new) e =
    absurd (given_is asked dir t.next given new (and_parts (dir == asked) _ e).0)
line_about t later h well (target.Node asked) given thing lives (Whole dir way) line e = absurd (false≢true e)
line_about t later h well (target.Node asked) given thing lives (Slot dir name None) line e = absurd (false≢true e)
line_about t later h well (target.Node asked) given thing lives (Slot dir name (Some node)) (of_row row at there) e = e
line_about t later h well (target.Node asked) given thing lives (Slot dir name (Some node)) (of_new_file new kinds) e =
    absurd (given_is asked node t.next given new e)
line_about t later h well (target.Node asked) given thing lives (Slot dir name (Some node)) (of_new_link new kinds) e =
    absurd (given_is asked node t.next given new e)
line_about t later h well (target.Node asked) given thing lives (Slot dir name (Some node)) (of_new_sock new kinds) e =
    absurd (given_is asked node t.next given new e)
line_about t later h well (target.Node asked) given thing lives (Slot dir name (Some node)) (of_new_fifo new kinds) e =
    absurd (given_is asked node t.next given new e)
line_about t later h well (target.Name asked asked_name) given thing lives (Whole dir way) line e = absurd (false≢true e)
line_about t later h well (target.Name asked asked_name) given thing lives (Slot dir name (Some node)) line e = absurd (false≢true e)
line_about t later h well (target.Name asked asked_name) given thing lives (Slot dir name None) (of_name perms kept) e =
    let parts = and_parts (dir == asked) _ e in
    and_from (dir == asked) (same_bytes name asked_name) parts.0 (and_parts (same_bytes name asked_name) _ parts.1).0
line_about t later h well (target.Name asked asked_name) given thing lives (Slot dir name None) (of_others below kept) e =
    absurd (none_some (perms_kept h (place.Slot dir name)) kept (and_parts _ _ (and_parts (dir == asked) _ e).1).1)
line_about t later h well (target.Name asked asked_name) given thing lives (Slot dir name None) (of_new_others new) e =
    absurd (given_is asked dir t.next given new (and_parts (dir == asked) _ e).0)
line_about t later h well (target.NewDirectory last) given thing lives (Whole dir way) (of_dir below) e =
    absurd (dir_is t last dir lives given e)
line_about t later h well (target.NewDirectory last) given thing lives (Whole dir way) (of_new_dir new) e = refl
line_about t later h well (target.NewDirectory last) given thing lives (Slot dir name _) line e = absurd (false≢true e)
line_about t later h well (target.NewOthers last) given thing lives (Whole dir way) line e = absurd (false≢true e)
line_about t later h well (target.NewOthers last) given thing lives (Slot dir name (Some node)) line e = absurd (false≢true e)
line_about t later h well (target.NewOthers last) given thing lives (Slot dir name None) (of_name perms kept) e =
    absurd (some_none (perms_kept h (place.Slot dir name)) perms kept (and_parts (nat_lt last dir) _ e).1)
line_about t later h well (target.NewOthers last) given thing lives (Slot dir name None) (of_others below kept) e =
    absurd (dir_is t last dir lives given (and_parts (nat_lt last dir) _ e).0)
line_about t later h well (target.NewOthers last) given thing lives (Slot dir name None) (of_new_others new) e = refl
line_about t later h well (target.NewFile last) given thing lives (Whole dir way) line e = absurd (false≢true e)
line_about t later h well (target.NewFile last) given thing lives (Slot dir name None) line e = absurd (false≢true e)
line_about t later h well (target.NewFile last) given thing lives (Slot dir name (Some node)) (of_row row at there) e =
    absurd (node_is t last node (row_says t (sound_from t well) row node at).2 given (and_parts (nat_lt last node) _ e).0)
line_about t later h well (target.NewFile last) given thing lives (Slot dir name (Some node)) (of_new_file new kinds) e = refl
line_about t later h well (target.NewFile last) given thing lives (Slot dir name (Some node)) (of_new_link new kinds) e =
    absurd (apart may_start_at kind.Link (kind_at later node) kinds refl (and_parts (nat_lt last node) _ e).1)
line_about t later h well (target.NewFile last) given thing lives (Slot dir name (Some node)) (of_new_sock new kinds) e =
    absurd (apart may_start_at (kind.Known Sock) (kind_at later node) kinds refl (and_parts (nat_lt last node) _ e).1)
line_about t later h well (target.NewFile last) given thing lives (Slot dir name (Some node)) (of_new_fifo new kinds) e =
    absurd (apart may_start_at (kind.Known Fifo) (kind_at later node) kinds refl (and_parts (nat_lt last node) _ e).1)
line_about t later h well (target.NewLink last) given thing lives (Whole dir way) line e = absurd (false≢true e)
line_about t later h well (target.NewLink last) given thing lives (Slot dir name None) line e = absurd (false≢true e)
line_about t later h well (target.NewLink last) given thing lives (Slot dir name (Some node)) (of_row row at there) e =
    absurd (node_is t last node (row_says t (sound_from t well) row node at).2 given (and_parts (nat_lt last node) _ e).0)
line_about t later h well (target.NewLink last) given thing lives (Slot dir name (Some node)) (of_new_file new kinds) e =
    absurd (false≢true (sym (file_apart (kind_at later node) kinds).0 ∙ (and_parts (nat_lt last node) _ e).1))
line_about t later h well (target.NewLink last) given thing lives (Slot dir name (Some node)) (of_new_link new kinds) e = refl
line_about t later h well (target.NewLink last) given thing lives (Slot dir name (Some node)) (of_new_sock new kinds) e =
    absurd (apart is_link_kind (kind.Known Sock) (kind_at later node) kinds refl (and_parts (nat_lt last node) _ e).1)
line_about t later h well (target.NewLink last) given thing lives (Slot dir name (Some node)) (of_new_fifo new kinds) e =
    absurd (apart is_link_kind (kind.Known Fifo) (kind_at later node) kinds refl (and_parts (nat_lt last node) _ e).1)
line_about t later h well (target.NewSock last) given thing lives (Whole dir way) line e = absurd (false≢true e)
line_about t later h well (target.NewSock last) given thing lives (Slot dir name None) line e = absurd (false≢true e)
line_about t later h well (target.NewSock last) given thing lives (Slot dir name (Some node)) (of_row row at there) e =
    absurd (node_is t last node (row_says t (sound_from t well) row node at).2 given (and_parts (nat_lt last node) _ e).0)
line_about t later h well (target.NewSock last) given thing lives (Slot dir name (Some node)) (of_new_file new kinds) e =
    absurd (false≢true (sym (file_apart (kind_at later node) kinds).1 ∙ (and_parts (nat_lt last node) _ e).1))
line_about t later h well (target.NewSock last) given thing lives (Slot dir name (Some node)) (of_new_link new kinds) e =
    absurd (apart is_sock_kind kind.Link (kind_at later node) kinds refl (and_parts (nat_lt last node) _ e).1)
line_about t later h well (target.NewSock last) given thing lives (Slot dir name (Some node)) (of_new_sock new kinds) e = refl
line_about t later h well (target.NewSock last) given thing lives (Slot dir name (Some node)) (of_new_fifo new kinds) e =
    absurd (apart is_sock_kind (kind.Known Fifo) (kind_at later node) kinds refl (and_parts (nat_lt last node) _ e).1)
line_about t later h well (target.NewFifo last) given thing lives (Whole dir way) line e = absurd (false≢true e)
line_about t later h well (target.NewFifo last) given thing lives (Slot dir name None) line e = absurd (false≢true e)
line_about t later h well (target.NewFifo last) given thing lives (Slot dir name (Some node)) (of_row row at there) e =
    absurd (node_is t last node (row_says t (sound_from t well) row node at).2 given (and_parts (nat_lt last node) _ e).0)
line_about t later h well (target.NewFifo last) given thing lives (Slot dir name (Some node)) (of_new_file new kinds) e =
    absurd (false≢true (sym (file_apart (kind_at later node) kinds).2 ∙ (and_parts (nat_lt last node) _ e).1))
line_about t later h well (target.NewFifo last) given thing lives (Slot dir name (Some node)) (of_new_link new kinds) e =
    absurd (apart is_fifo_kind kind.Link (kind_at later node) kinds refl (and_parts (nat_lt last node) _ e).1)
line_about t later h well (target.NewFifo last) given thing lives (Slot dir name (Some node)) (of_new_sock new kinds) e =
    absurd (apart is_fifo_kind (kind.Known Sock) (kind_at later node) kinds refl (and_parts (nat_lt last node) _ e).1)
line_about t later h well (target.NewFifo last) given thing lives (Slot dir name (Some node)) (of_new_fifo new kinds) e = refl

-- only the veils of a process are asked
pub same_veils_same : (t : Tree) (a b : ProcessState) → ((at : Place) → perms_kept a at ≡ perms_kept b at) → (asked : Target) (object : Found) →
    is_of t a asked object ≡ is_of t b asked object
same_veils_same t a b same (target.Directory asked) (Whole dir way) = refl
same_veils_same t a b same (target.Directory asked) (Slot dir name _) = refl
same_veils_same t a b same (target.Others asked) (Whole dir way) = refl
same_veils_same t a b same (target.Others asked) (Slot dir name (Some node)) = refl
same_veils_same t a b same (target.Others asked) (Slot dir name None) =
    ap (λ kept. (dir == asked) && is_none kept) (same (place.Slot dir name))
same_veils_same t a b same (target.Node asked) (Whole dir way) = refl
same_veils_same t a b same (target.Node asked) (Slot dir name None) = refl
same_veils_same t a b same (target.Node asked) (Slot dir name (Some node)) = refl
same_veils_same t a b same (target.Name asked asked_name) (Whole dir way) = refl
same_veils_same t a b same (target.Name asked asked_name) (Slot dir name (Some node)) = refl
same_veils_same t a b same (target.Name asked asked_name) (Slot dir name None) =
    ap (λ kept. (dir == asked) && (same_bytes name asked_name && is_some kept)) (same (place.Slot dir name))
same_veils_same t a b same (target.NewDirectory last) (Whole dir way) = refl
same_veils_same t a b same (target.NewDirectory last) (Slot dir name _) = refl
same_veils_same t a b same (target.NewOthers last) (Whole dir way) = refl
same_veils_same t a b same (target.NewOthers last) (Slot dir name (Some node)) = refl
same_veils_same t a b same (target.NewOthers last) (Slot dir name None) =
    ap (λ kept. nat_lt last dir && is_none kept) (same (place.Slot dir name))
same_veils_same t a b same (target.NewFile last) (Whole dir way) = refl
same_veils_same t a b same (target.NewFile last) (Slot dir name None) = refl
same_veils_same t a b same (target.NewFile last) (Slot dir name (Some node)) = refl
same_veils_same t a b same (target.NewLink last) (Whole dir way) = refl
same_veils_same t a b same (target.NewLink last) (Slot dir name None) = refl
same_veils_same t a b same (target.NewLink last) (Slot dir name (Some node)) = refl
same_veils_same t a b same (target.NewSock last) (Whole dir way) = refl
same_veils_same t a b same (target.NewSock last) (Slot dir name None) = refl
same_veils_same t a b same (target.NewSock last) (Slot dir name (Some node)) = refl
same_veils_same t a b same (target.NewFifo last) (Whole dir way) = refl
same_veils_same t a b same (target.NewFifo last) (Slot dir name None) = refl
same_veils_same t a b same (target.NewFifo last) (Slot dir name (Some node)) = refl
