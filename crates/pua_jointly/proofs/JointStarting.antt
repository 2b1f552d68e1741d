-- On what exec can ever be allowed to one of several processes: a file or program that stands at a name, or a file that is made.
use Rattle.pua_jointly.proofs.Common.{◌≡◌, ◌∙◌, ◌⊎◌, ℕ, Bool, true, false, List, refl, sym, ap, subst, inl, inr, Option, Some, None, false≢true}
use Rattle.pua_jointly.proofs.Common.{CallTable, ProcessState, Tree, Kind, Cover, Object, kind_at, is_dir, is_dir_kind, empty_tree, same_Some}
use Rattle.pua_jointly.proofs.Common.{covered_verdict, is_allowed, object_of_kind, look, At, Slot, Stands, Comes, NewFile, contained, IsMissing}
use Rattle.std.specs.List.{Contains}
use Rattle.pua_tree.specs.declared.node.Kind.TheVariants as kind
use Rattle.pua_tree.specs.declared.node.FileType.TheVariants.{Plain, Sock, Fifo, Dev}
use Rattle.pua_path.specs.declared.errno.Errno.{Errno}
use Rattle.pua_calls.specs.Calls.{rule_of}
use Rattle.pua_calls.specs.declared.call.Call.TheVariants as call
use Rattle.pua_policy.specs.States.{may_any}
use Rattle.pua_policy.specs.Verdict.{IsDir, Is, allowed_unless, cover_fault, if_promised, object_fault, or_fault}
use Rattle.pua_policy.specs.declared.answer.May.{May}
use Rattle.pua_policy.specs.declared.answer.May.TheVariants.{Yes, Enosys, Death}
use Rattle.pua_ever.specs.Ever.{Thing, may_start}
use Rattle.pua_jointly.specs.JointCalls.{IsOf}
use Rattle.pua_jointly.specs.JointFound.{AreFacts}
use Rattle.pua_jointly.specs.JointPrograms.{HasExec, SomeStart}
use Rattle.pua_jointly.specs.Jointly.{Shows, shows_dir, shows_emptied, shows_others, shows_row, shows_name, shows_new_dir, shows_new_others}
use Rattle.pua_jointly.specs.Jointly.{shows_new_file, shows_new_link, shows_new_sock, shows_new_fifo, IsJointlyListed}
use Rattle.pua_jointly.specs.declared.agent.Agent.{Agent}
use Rattle.pua_jointly.specs.declared.crew.Entry.{Entry}
use Rattle.pua_jointly.specs.declared.facts.Facts.{Facts}
use Rattle.pua_jointly.proofs.JointPlaced.{got_among}
use Rattle.pua_jointly.proofs.JointShown as show
use Rattle.pua_jointly.proofs.JointTold.{place_of_entry}

-- what exec is for
abbrev plain : Object → Bool
plain (Is kind.Prog) = true
plain (Is kind) = may_start kind
plain _ = false

starts_plain : (is : Kind) → may_start is ≡ true → plain (Is is) ≡ true
starts_plain kind.Prog starts = refl
starts_plain kind.File starts = starts
starts_plain (kind.Known type) starts = starts
starts_plain kind.Dir starts = starts
starts_plain kind.Link starts = starts

never : (table : CallTable) (a : ProcessState) (k : Cover) (o : Object) (e : Errno) → object_fault table.whose empty_tree call.Exec o ≡ Some e →
    is_allowed (covered_verdict empty_tree table a call.Exec k o) ≡ true → ⊥
never table a k o e fault allowed =
    by (may_any a (rule_of table call.Exec).alternatives) (cover_fault k (rule_of table call.Exec).perms)
    (ap (λ f. is_allowed (if_promised (may_any a (rule_of table call.Exec).alternatives)
    (allowed_unless (or_fault (cover_fault k (rule_of table call.Exec).perms) f)))) (sym fault) ∙ allowed)
  where
    by : (m : May) (c : Option Errno) → is_allowed (if_promised m (allowed_unless (or_fault c (Some e)))) ≡ true → ⊥
    by Yes None x = false≢true x
    by Yes (Some f) x = false≢true x
    by Enosys c x = false≢true x
    by Death c x = false≢true x

plain_of : (table : CallTable) (a : ProcessState) (k : Cover) (o : Object) →
    is_allowed (covered_verdict empty_tree table a call.Exec k o) ≡ true → plain o ≡ true
plain_of table a k (Is kind.File) e = refl
plain_of table a k (Is kind.Prog) e = refl
plain_of table a k (Is (kind.Known Plain)) e = refl
plain_of table a k (Is (kind.Known Sock)) e = absurd (never table a k (Is (kind.Known Sock)) _ refl e)
plain_of table a k (Is (kind.Known Fifo)) e = absurd (never table a k (Is (kind.Known Fifo)) _ refl e)
plain_of table a k (Is (kind.Known Dev)) e = absurd (never table a k (Is (kind.Known Dev)) _ refl e)
plain_of table a k (Is kind.Dir) e = absurd (never table a k (Is kind.Dir) _ refl e)
plain_of table a k (Is kind.Link) e = absurd (never table a k (Is kind.Link) _ refl e)
plain_of table a k (IsDir dir way) e = absurd (never table a k (IsDir dir way) _ refl e)
plain_of table a k IsMissing e = absurd (never table a k IsMissing _ refl e)

-- where it stands
pub record StandsPlain (t : Tree) (thing : Thing) : Type 0 where
  pub dir : ℕ
  pub name : List ℕ
  pub node : ℕ
  pub is : thing ≡ Stands (At (Slot dir name (Some node)))
  pub here : look t dir name ≡ Some node
  pub other : is_dir t node ≡ false

module _ (t : Tree) (table : CallTable) (crew : List ProcessState) (a : ProcessState) where
  on_plain : {thing : Thing} {k : Cover} {o : Object} → Shows t table crew a thing k o → plain o ≡ true → StandsPlain t thing ⊎ (thing ≡ Comes NewFile)
  on_plain (shows_dir can) e = absurd (false≢true e)
  on_plain (shows_emptied other none can free) e = absurd (false≢true e)
  on_plain (shows_others can) e = absurd (false≢true e)
  on_plain (shows_name is own free) e = absurd (false≢true e)
  on_plain (shows_new_dir m can) e = absurd (false≢true e)
  on_plain (shows_new_others m can) e = absurd (false≢true e)
  on_plain (shows_new_link m d name stands over) e = absurd (false≢true e)
  on_plain (shows_new_sock m d name stands over) e = absurd (false≢true e)
  on_plain (shows_new_fifo m d name stands over) e = absurd (false≢true e)
  on_plain (shows_new_file m d name stands over) e = inr refl
  on_plain (shows_row {dir = dir} {name = name} {x = x} d other here stands over) e = inl (record {
    dir = dir;
    name = name;
    node = x;
    is = refl;
    here = here;
    other = by (kind_at t x) e;
  })
    where
      by : (o : Option Kind) → plain (object_of_kind o) ≡ true → is_dir_kind o ≡ false
      by None e = refl
      by (Some kind.File) e = refl
      by (Some kind.Prog) e = refl
      by (Some kind.Link) e = refl
      by (Some (kind.Known type)) e = refl
      by (Some kind.Dir) e = absurd (false≢true e)

  pub exec_on : (thing : Thing) → IsJointlyListed t table crew a thing call.Exec → StandsPlain t thing ⊎ (thing ≡ Comes NewFile)
  exec_on thing listed = elim listed [
    | inl can ↦ on_plain can.shows (plain_of table a can.cover can.object can.allowed)
    | inr program ↦ on_plain program.1.shows (starts_plain program.1.is program.1.starts)
  ]

-- what stands at a name is one of the entries that are asked about
module _ (t : Tree) (table : CallTable) (crew : List ProcessState) (facts : Facts) (a : ProcessState) (of : Agent)
    (is : IsOf t table crew facts a of) where
  abbrev are : AreFacts t table crew facts
  are = is.facts_are

  pub kind_of_entry : (entry : Entry) → Contains facts.crew.entries.items entry → kind_at t entry.node ≡ Some entry.kind
  kind_of_entry entry among =
      let g = place_of_entry t table crew facts a of is entry among in
      show.kind_there t table facts.crew are.worked facts.told.items are.full are.closed are.has is.at a of is.got is.process g.at entry g.is

  pub record EntryThere (dir : ℕ) (name : List ℕ) (node : ℕ) : Type 0 where
    pub entry : Entry
    pub among : Contains facts.crew.entries.items entry
    pub dir_is : entry.dir ≡ dir
    pub name_is : entry.name.now ≡ name
    pub node_is : entry.node ≡ node

  pub entry_there : (dir : ℕ) (name : List ℕ) (node : ℕ) → look t dir name ≡ Some node → EntryThere dir name node
  entry_there dir name node here =
      let one = show.entry_at t table facts.crew are.worked facts.told.items are.full are.closed are.has is.at a of is.got is.process dir name node here in
      record {
        entry = one.1;
        among = contained facts.crew.entries.items one.1 (got_among facts.crew.entries.items one.0 one.1 one.2);
        dir_is = one.3;
        name_is = one.4;
        node_is = same_Some one.1.node node
            (sym (show.stands_there t table facts.crew are.worked facts.told.items are.full are.closed are.has is.at a of is.got is.process one.0 one.1
            one.2)
            ∙ (λ z. look t (one.3 z) (one.4 z)) ∙ here);
      }

  pub exec_found : HasExec t table crew a → SomeStart t table crew a facts.crew.entries.items ⊎ IsJointlyListed t table crew a (Comes NewFile) call.Exec
  exec_found has = elim (exec_on t table crew a has.thing has.listed) [
    | inl stands ↦
        (let one = entry_there stands.dir stands.name stands.node stands.here in
        inl (record {
          entry = one.entry;
          among = one.among;
          starts = (
            ap (is_dir t) one.node_is ∙ stands.other,
            subst (λ thing. IsJointlyListed t table crew a thing call.Exec)
                (stands.is ∙ (λ z. Stands (At (Slot (sym one.dir_is z) (sym one.name_is z) (Some (sym one.node_is z)))))) has.listed,
          );
        }))
    | inr new ↦ inr (subst (λ thing. IsJointlyListed t table crew a thing call.Exec) new has.listed)
  ]

  pub from_entry : SomeStart t table crew a facts.crew.entries.items → HasExec t table crew a
  from_entry found = record {
    thing = Stands (At (Slot found.entry.dir found.entry.name.now (Some found.entry.node)));
    listed = found.starts.1;
  }
