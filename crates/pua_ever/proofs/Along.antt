-- What is known of each row stays known over a list of requests of a family.
use Rattle.pua_ever.proofs.Common.{◌≡◌, ◌⊎◌, subst, ℕ, List, [], ◌∷◌, true, false, sym, ap, ◌∙◌, inl, inr, None, Ok, not, ◌&&◌, ◌||◌, is_none}
use Rattle.pua_ever.proofs.Common.{and_parts, and_from, Tree, WellFormed, Spot, is_dir, kind_at, has_no_row, empty_tree}
use Rattle.pua_ever.proofs.Common.{is_link_kind, Found, Whole, Slot, Top, CallTable, is_kept, ProcessState, may_any, IsMissing, cover}
use Rattle.pua_ever.proofs.Common.{cover_fault, covered_verdict, is_allowed, Asked, World, apply, world_after, is_member}
use Rattle.pua_ever.proofs.Common.{family_then, NoCallNeedsError, TreesAlong, has_c, IsWithin, verdicts_within}
use Rattle.pua_ever.proofs.Common.{Members, first_tree, cover_in, covers_descend, is_yes}
use Rattle.pua_ever.proofs.Common.{Call, EditsNeedC, VeilsStand, Cover, can_move, may_rename, Bool, Option, rule_of, allowed_unless}
use Rattle.pua_ever.proofs.Common.{if_promised, or_fault}
use Rattle.pua_path.specs.declared.errno.Errno.{Errno}
use Rattle.pua_calls.specs.TmpTable.{tmp_table}
use Rattle.pua_calls.proofs.ForCallers.{tmp_table_needs_no_error}
use Rattle.pua_script.specs.Confinement.{object_in}
use Rattle.pua_script.proofs.ForCallers.{same_cover}
use Rattle.pua_script.proofs.ForCallers.{each_spares, by_other}
use Rattle.pua_ever.specs.Ever.{may_link}
use Rattle.pua_ever.specs.Laws.{MembersEdit, NoExecLoosens}
use Rattle.pua_ever.proofs.Execs.{members_still}
use Rattle.pua_ever.proofs.Grown.{Grown, Written, by_name, by_turn, From, IsNear, TurnsNear, is_new, is_moved, is_linked, Put, Born, name_cover}
use Rattle.pua_ever.proofs.Growing.{takes, requests_grow}
use Rattle.pua_ever.proofs.KindFaults.{plain_alike}
use Rattle.pua_ever.proofs.Origins.{Stays}
use Rattle.pua_ever.proofs.Unedited.{yes_before}
use Rattle.pua_ever.proofs.RequestKeepsRows.{stays_then}

-- what has grown by a tightened process has grown by the one that it tightens
module _ (table : CallTable) (sound : NoCallNeedsError table) (now a : ProcessState) (within : IsWithin now a) (t : Tree) (well : WellFormed t)
  where
    pub same : (object : Found) → cover t a object ≡ cover t now object
    same object = same_cover a now within.tightens.unveils t object

    same_in : (d : ℕ) → is_dir t d ≡ true → cover_in t a d ≡ cover_in t now d
    same_in d is = sym ((covers_descend t a well).directory d Top is) ∙ same (Whole d Top) ∙ (covers_descend t now well).directory d Top is

    -- a call on a missing name, by the fault of its kind
    abbrev on_name : Call → Spot → ProcessState → Option Errno → Bool
    on_name c s h fault =
        is_allowed (if_promised (may_any h (rule_of table c).alternatives)
        (allowed_unless (or_fault (cover_fault (name_cover table t h s) (rule_of table c).perms) fault)))

    makes_within : (maker : Call) (s : Spot) → is_allowed (covered_verdict empty_tree table a maker (name_cover table t a s) IsMissing)
        ≡ true
        → is_allowed (covered_verdict empty_tree table now maker (name_cover table t now s) IsMissing) ≡ true
    makes_within maker s e =
        sym (ap (on_name maker s now) (plain_alike table.whose t maker None)) ∙
        verdicts_within now a within table sound t maker (Ok (Slot s.0 s.1 None)) (ap (on_name maker s a) (plain_alike table.whose t maker None) ∙ e)

    written_within : (s : Spot) (x : ℕ) (written : Written table t a s x) → TurnsNear table t a s x written →
        (written : Written table t now s x) × TurnsNear table t now s x written
    written_within s x (by_name has) near = (by_name (ap has_c (sym (same (Slot s.0 s.1 None))) ∙ has), near)
    written_within s x (by_turn y at empty has is) near =
        (by_turn y at empty (ap has_c (sym (same_in y (and_parts (is_dir t y) (has_no_row t y) empty).0)) ∙ has) is, near)

    -- who may link by what is left may by all that was held
    pub link_within : may_link table a ≡ true → may_link table now ≡ true
    link_within e =
        let two = and_parts (is_yes (may_any a table.link.old.needs.alternatives)) _ e in
        and_from (is_yes (may_any now table.link.old.needs.alternatives)) _
        (yes_before table sound now a within table.link.old.needs.alternatives sound.link.0 two.0)
        (yes_before table sound now a within table.link.new.needs.alternatives sound.link.1 two.1)

    -- and so it is of who may rename
    pub move_within : (left : Cover) → can_move table a left ≡ true → can_move table now left ≡ true
    move_within left can =
        let parts = and_parts (may_rename table a) _ can in
        let two = and_parts (is_yes (may_any a table.rename.old.needs.alternatives)) _ parts.0 in
        and_from (may_rename table now) _
        (and_from (is_yes (may_any now table.rename.old.needs.alternatives)) _
        (yes_before table sound now a within table.rename.old.needs.alternatives sound.rename.0 two.0)
        (yes_before table sound now a within table.rename.new.needs.alternatives sound.rename.1 two.1)) parts.1

    from_within : (to x : ℕ) (from : From table t a x) → IsNear table t a to x from →
        (from : From table t now x) × IsNear table t now to x from
    from_within to x (is_new e) near = (is_new e, near)
    from_within to x (is_moved r e can) near =
        (is_moved r e (ap (can_move table now) (sym (same (object_in t r x))) ∙ move_within (cover t a (object_in t r x)) can), near)
    from_within to x (is_linked r e plain can) near =
        let parts = and_parts (may_link table a) _ can in (
          is_linked r e plain
              (and_from (may_link table now) _ (link_within parts.0)
              (ap (λ left. is_none (cover_fault left table.link.old.needs.perms)
              && (not (is_link_kind (kind_at t x)) || is_kept table.link.old.last)) (sym (same (object_in t r x))) ∙ parts.1)),
          near,
        )

    put_within : (s : Spot) (x : ℕ) → Put table t a s x → Put table t now s x
    put_within s x put =
        let written = written_within s x put.written put.turns in
        let from = from_within s.0 x put.from put.near in
        record { lives = put.lives; written = written.0; from = from.0; near = from.1; turns = written.1 }

    born_within : (u : Tree) (x : ℕ) → Born table t a u x → Born table t now u x
    born_within u x born =
        let makes = born.makes in
        record {
          new = born.new;
          made = born.made;
          kinds = born.kinds;
          makes = record {
            spot = makes.spot;
            lives = makes.lives;
            free = makes.free;
            maker = makes.maker;
            makes = makes.makes;
            allowed = makes_within makes.maker makes.spot makes.allowed;
            covered = ap has_c (sym (same (Slot makes.spot.0 makes.spot.1 None))) ∙ makes.covered;
          };
          only = born.only;
          unmarked = born.unmarked;
        }

    pub grown_within : (u : Tree) → Grown table t a u → Grown table t now u
    grown_within u grown = record {
      rows = λ s x e. elim (grown.rows s x e) [ inl there ↦ inl there | inr put ↦ inr (put_within s x put) ];
      nodes = λ x l. elim (grown.nodes x l) [ inl same_node ↦ inl same_node | inr born ↦ inr (born_within u x born) ];
      next = grown.next;
      mounts = grown.mounts;
    }

module _ (table : CallTable) (sound : NoCallNeedsError table) (needs : EditsNeedC table) (t0 : Tree) (now : ProcessState) (well0 : WellFormed t0)
    (stand : VeilsStand t0 now) where
  abbrev tmp : CallTable
  tmp = tmp_table table

  pub stays_along : (asks : List Asked) (w : World) (members : List ℕ) → Members w members now false →
      NoExecLoosens table now w asks members
      → MembersEdit table w asks members → TreesAlong table w asks → Stays tmp t0 now well0 stand w.tree →
      Stays tmp t0 now well0 stand (world_after table w asks).tree
  stays_along [] w members are none edit trees k = k
  stays_along (ask ∷ asks) w members are none edit trees k =
      stays_along asks (apply table w ask).1 (family_then table w ask members)
      (members_still table now w ask members are none.0) none.1 edit.1 trees.1 (step edit.0)
    where
      step : (is_member members ask.process ≡ true) ⊎ ((apply table w ask).1.tree ≡ w.tree) →
          Stays tmp t0 now well0 stand (apply table w ask).1.tree
      step (inl belongs) =
          let asker = are ask.process belongs in
          let after = (apply table w ask).1 in
          let well = first_tree table after asks trees.1 in
          let spared = by_other asker.0 now asker.2.within.tightens.unveils w.tree after.tree
          (each_spares table (takes table needs) w ask asker.0 trees.0 well asker.1) in
          let grown = grown_within tmp (tmp_table_needs_no_error table sound) now asker.0 asker.2.within w.tree trees.0 after.tree
          (requests_grow table needs w ask asker.0 trees.0 asker.1) in
          stays_then tmp t0 now well0 stand w.tree after.tree k well grown spared
      step (inr same) = subst (Stays tmp t0 now well0 stand) (sym same) k
