-- What a call of anyone can make a program, or what is open, has exec in the list of whoever can come to start it.
use Rattle.pua_jointly.proofs.Common.{◌≡◌, ◌<◌, ◌∙◌, ℕ, Bool, true, false, List, refl, sym, ap, arith, inl, inr, Option, Some, None, false≢true, Tree, WellFormed}
use Rattle.pua_jointly.proofs.Common.{CallTable, ProcessState, Call, Kind, kind_at, look, Object, object_of_kind, row_says, sound_from, Slot}
use Rattle.std.specs.List.{Contains}
use Rattle.pua_tree.specs.declared.node.Kind.TheVariants as kinds
use Rattle.pua_tree.specs.declared.node.FileType.TheVariants.{Sock, Fifo}
use Rattle.pua_policy.specs.States.{new_process}
use Rattle.pua_policy.specs.Verdict.{Is}
use Rattle.pua_ever.specs.Ever.{Thing, may_start, may_start_at}
use Rattle.pua_jointly.specs.Jointly.{CanTurn, IsJointlyAllowed, IsJointlyStarted, is_turned_open, sends_to_set, turning_by}
use Rattle.pua_jointly.specs.JointStarts.{JointHeldListed, JointStartsListed}
use Rattle.pua_ever.specs.Laws.{IsLineOf, of_row, of_new_file, of_new_link, of_new_sock, of_new_fifo}
use Rattle.pua_ever.proofs.ForCallers.{below_next}
use Rattle.pua_jointly.proofs.JointAllowed.{shown}

abbrev starts_as : Object → Bool
starts_as (Is kind) = may_start kind
starts_as _ = false

-- what shows itself as a file that may be a plain one
startable : (o : Option Kind) (is : Kind) → may_start is ≡ true → Is is ≡ object_of_kind o → may_start_at o ≡ true
startable None is starts e = sym (ap starts_as e) ∙ starts
startable (Some kind) is starts e = sym (ap starts_as e) ∙ starts

-- and what is made as another thing doesn't
no_start : (is other : Kind) → may_start other ≡ false → may_start is ≡ true → Is is ≡ Is other → ⊥
no_start is other stays starts e = false≢true (sym stays ∙ sym (ap starts_as e) ∙ starts)

module _ (t : Tree) (well : WellFormed t) (table : CallTable) (crew : List ProcessState) (mid later : Tree) (b a : ProcessState)
    (among : Contains crew b) (turning : Call) (turns : Contains (turning_by (sends_to_set table crew b)) turning) where
  old : (dir : ℕ) (name : List ℕ) (node : ℕ) → look t dir name ≡ Some node → node < t.next
  old dir name node e = below_next t new_process well node (row_says t (sound_from t well) (dir, name) node e).2

  turned : (first thing : Thing) (dir into node : ℕ) (name word : List ℕ) → IsLineOf t mid b first (Slot dir name (Some node)) →
      IsJointlyAllowed t table crew b first turning → IsLineOf t later a thing (Slot into word (Some node)) → IsJointlyStarted t table crew a thing →
      CanTurn t table crew thing
  turned first thing dir into node name word (of_row row found there) can (of_row begun stood here) started = record {
    agent = b;
    among = among;
    row = row;
    at = found;
    file = startable (kind_at t node) started.is started.starts (shown t table crew a started.shows).2;
    by = inl (record { call = turning; turns = turns; allowed = can });
  }
  turned first thing dir into node name word (of_new_file from made) can (of_row begun stood here) started =
      let low = old begun.0 begun.1 node stood in absurd (omega (arith, low, from))
  turned first thing dir into node name word (of_new_link from made) can (of_row begun stood here) started =
      let low = old begun.0 begun.1 node stood in absurd (omega (arith, low, from))
  turned first thing dir into node name word (of_new_sock from made) can (of_row begun stood here) started =
      let low = old begun.0 begun.1 node stood in absurd (omega (arith, low, from))
  turned first thing dir into node name word (of_new_fifo from made) can (of_row begun stood here) started =
      let low = old begun.0 begun.1 node stood in absurd (omega (arith, low, from))
  turned first thing dir into node name word line can (of_new_file from made) started = tt
  turned first thing dir into node name word line can (of_new_link from made) started =
      absurd (no_start started.is kinds.Link refl started.starts (shown t table crew a started.shows).2)
  turned first thing dir into node name word line can (of_new_sock from made) started =
      absurd (no_start started.is (kinds.Known Sock) refl started.starts (shown t table crew a started.shows).2)
  turned first thing dir into node name word line can (of_new_fifo from made) started =
      absurd (no_start started.is (kinds.Known Fifo) refl started.starts (shown t table crew a started.shows).2)

held_open : (t : Tree) (table : CallTable) (crew : List ProcessState) (later : Tree) (b a : ProcessState) → Contains crew b → (node : ℕ) →
    is_turned_open (sends_to_set table crew b) b node ≡ true → (thing : Thing) (into : ℕ) (word : List ℕ) → IsLineOf t later a thing (Slot into word (Some node)) →
    IsJointlyStarted t table crew a thing → CanTurn t table crew thing
held_open t table crew later b a among node held thing into word (of_row row found there) started = record {
  agent = b;
  among = among;
  row = row;
  at = found;
  file = startable (kind_at t node) started.is started.starts (shown t table crew a started.shows).2;
  by = inr held;
}
held_open t table crew later b a among node held thing into word (of_new_file from made) started = tt
held_open t table crew later b a among node held thing into word (of_new_link from made) started =
    absurd (no_start started.is kinds.Link refl started.starts (shown t table crew a started.shows).2)
held_open t table crew later b a among node held thing into word (of_new_sock from made) started =
    absurd (no_start started.is (kinds.Known Sock) refl started.starts (shown t table crew a started.shows).2)
held_open t table crew later b a among node held thing into word (of_new_fifo from made) started =
    absurd (no_start started.is (kinds.Known Fifo) refl started.starts (shown t table crew a started.shows).2)

pub joint_held_listed : JointHeldListed
joint_held_listed t well table crew later b among node held a thing into word on started =
    inr (refl, started, held_open t table crew later b a among node held thing into word on started)

pub joint_starts_listed : JointStartsListed
joint_starts_listed t well table crew mid later b among turning turns first dir node name line can a thing into word on started =
    inr (refl, started, turned t well table crew mid later b a among turning turns first thing dir into node name word line can on started)
