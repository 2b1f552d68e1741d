-- The calls of a thing, by what was found for them.
use Rattle.pua_ever.proofs.Common.{◌≡◌, ◌⊎◌, ℕ, List, [], ◌∷◌, Bool, true, false, cond, refl, sym, ap, ◌∙◌, inl, inr, Option, Some, None}
use Rattle.pua_ever.proofs.Common.{option_map, not, ◌&&◌, ◌||◌, ◌==◌, is_none, list_any, list_all, false≢true, and_parts, and_from, Tree}
use Rattle.pua_ever.proofs.Common.{Spot, is_dir, is_empty, has_no_row, empty_tree, Way, Named, Top, Dot, DotDot}
use Rattle.pua_ever.proofs.Common.{Whole, CallTable, rule_of, has, keeps_link, ProcessState, perms_kept, may_any, object_seen, Object, IsDir}
use Rattle.pua_ever.proofs.Common.{object_fault, cover_fault, or_fault, allowed_unless, if_promised, covered_verdict, is_allowed, Call}
use Rattle.pua_ever.proofs.Common.{Cover, May, has_c, At, cover_in, can_empty, can_leave, dir_covers, may_edit, removable_dir, lasting_dir}
use Rattle.pua_ever.proofs.Common.{is_named_way, is_allowed_under, is_ever_allowed, EditsNeedC, can_move, may_rename, is_yes, or_left, is_mount}
use Rattle.pua_policy.specs.Misfits.{misfit_errno, named_misfit}
use Rattle.std.specs.BTreeSet.{contains}
use Rattle.std.specs.Ordering.{nat_cmp}
use Rattle.pua_ever.proofs.Grown.{moved_has_c}
use Rattle.pua_path.specs.declared.errno.Errno.{Errno}
use Rattle.pua_calls.specs.declared.call.Call.TheVariants as call
use Rattle.pua_policy.specs.declared.place.Place.TheVariants as place
use Rattle.pua_policy.specs.declared.answer.May.TheVariants as may
use Rattle.pua_policy.specs.declared.object.Object as seen
use Rattle.pua_policy.specs.declared.object.Object.TheVariants as see
use Rattle.pua_tree.specs.declared.node.Kind.TheVariants as kind
use Rattle.pua_script.proofs.ForCallers.{c_from_cover}
use Rattle.pua_ever.specs.Ever.{can_allow, ever_covers, stays_on}
use Rattle.pua_ever.specs.Movable.{IsMovable}
use Rattle.pua_ever.specs.declared.movable.Movable.{Movable}
use Rattle.pua_ever.specs.Prospects.{IsProspects}
use Rattle.pua_ever.specs.declared.prospects.Prospects.{Prospects}
use Rattle.pua_calls.specs.declared.rules.Rules.{Rules}
use Rattle.pua_ever.proofs.KindFaults.{dir_as}
use Rattle.std.proofs.Math.Bool.{or-true}

pub last : (b : Bool) → b ≡ (b || false)
last true = refl
last false = refl

-- but for rmdir it is the same whether a directory can be removed
rmdir_alone : (whose : Rules) (c : Call) →
    (c ≡ call.Rmdir) ⊎ (object_fault whose empty_tree c removable_dir ≡ object_fault whose empty_tree c lasting_dir)
rmdir_alone whose call.Rmdir = inl refl
rmdir_alone whose _ = inr refl

module _ (table : CallTable) (needs : EditsNeedC table) (h : ProcessState) where
  abbrev passes : Cover → Object → Call → Bool
  passes cover object c = is_allowed (covered_verdict empty_tree table h c cover object)

  no_errno : (m : May) (e : Errno) → is_allowed (if_promised m (allowed_unless (Some e))) ≡ false
  no_errno may.Yes e = refl
  no_errno may.Enosys e = refl
  no_errno may.Death e = refl

  -- without `c` nothing is removed
  lacks_rmdir : (cover : Cover) (object : Object) → has_c cover ≡ false → passes cover object call.Rmdir ≡ false
  lacks_rmdir cover object lacks = by (cover_fault cover (rule_of table call.Rmdir).perms) refl
    where
      by : (o : Option Errno) → cover_fault cover (rule_of table call.Rmdir).perms ≡ o
          → is_allowed (if_promised (may_any h (rule_of table call.Rmdir).alternatives)
          (allowed_unless (or_fault o (object_fault table.whose empty_tree call.Rmdir object)))) ≡ false
      by None fine = absurd (false≢true (sym lacks ∙ c_from_cover cover (rule_of table call.Rmdir).perms (needs.calls call.Rmdir refl) fine))
      by (Some e) fault = no_errno (may_any h (rule_of table call.Rmdir).alternatives) e

  -- so without `c` it makes no difference
  dir_passes : (cover : Cover) (a b : Bool) (c : Call) → (has_c cover ≡ true → a ≡ b) →
      passes cover (dir_as a) c ≡ passes cover (dir_as b) c
  dir_passes cover a b c same = by (has_c cover) refl
    where
      alike : object_fault table.whose empty_tree c removable_dir ≡ object_fault table.whose empty_tree c lasting_dir → (x : Bool) →
          passes cover (dir_as x) c ≡ passes cover lasting_dir c
      alike e true = ap (λ o. is_allowed (if_promised (may_any h (rule_of table c).alternatives)
          (allowed_unless (or_fault (cover_fault cover (rule_of table c).perms) o)))) e
      alike e false = refl

      lacks : has_c cover ≡ false → passes cover (dir_as a) c ≡ passes cover (dir_as b) c
      lacks none = elim (rmdir_alone table.whose c) [
        | inl is ↦ ap (passes cover (dir_as a)) is ∙ lacks_rmdir cover (dir_as a) none ∙
            sym (ap (passes cover (dir_as b)) is ∙ lacks_rmdir cover (dir_as b) none)
        | inr e ↦ alike e a ∙ sym (alike e b)
      ]

      by : (x : Bool) → has_c cover ≡ x → passes cover (dir_as a) c ≡ passes cover (dir_as b) c
      by true has = ap (λ x. passes cover (dir_as x) c) (same has)
      by false none = lacks none

module _ (t : Tree) (h : ProcessState) where
  -- a directory in which nothing stands can come to be empty
  abbrev passes_in : ℕ → Spot × ℕ → Bool
  passes_in dir row = not (row.0.0 == dir) || can_leave t h row.0 row.1

  empty_rows : (dir : ℕ) (rows : List (Spot × ℕ)) → not (list_any (λ row. row.0.0 == dir) rows) ≡ true →
      list_all (passes_in dir) rows ≡ true
  empty_rows dir [] none = refl
  empty_rows dir (row ∷ rows) none = by (row.0.0 == dir) refl (empty_rows dir rows) none
    where
      by : (b : Bool) → (row.0.0 == dir) ≡ b → (not (list_any (λ row. row.0.0 == dir) rows) ≡ true → list_all (passes_in dir) rows ≡ true)
          → not (b || list_any (λ row. row.0.0 == dir) rows) ≡ true → (passes_in dir row && list_all (passes_in dir) rows) ≡ true
      by true here more none = absurd (false≢true none)
      by false other more none = and_from (passes_in dir row) _ (ap (λ b. not b || can_leave t h row.0 row.1) other) (more none)

  pub empty_can : (dir : ℕ) → not (list_any (λ row. row.0.0 == dir) t.rows) ≡ true → can_empty t h dir ≡ true
  empty_can dir none = empty_rows dir t.rows none

-- who may rename may edit the tree
rename_edits : (table : CallTable) (h : ProcessState) → may_rename table h ≡ true → may_edit table h ≡ true
rename_edits table h both =
    or_left (is_yes (may_any h table.rename.new.needs.alternatives)) _
    (and_parts (is_yes (may_any h table.rename.old.needs.alternatives)) _ both).1

module _ (t : Tree) (table : CallTable) (h : ProcessState) (p : Prospects) (is : IsProspects t table h p) where
  module _ (dir : ℕ) (way : Way) (living : is_dir t dir ≡ true) (m : Movable) (finds : IsMovable t table h (stays_on t h dir) m) where
    abbrev moves : Bool
    moves = is_none (perms_kept h (place.Dir dir)) && can_move table h (cover_in t h dir)

    abbrev stays : Bool
    stays = contains nat_cmp p.destinations.held dir

    -- it may leave its name
    abbrev leaves : Bool
    leaves = is_named_way way && not (is_mount t dir)

    -- whether rmdir is asked of it
    abbrev empties : Bool
    empties = is_named_way way && (not (is_mount t dir) && (can_empty t h dir && (may_edit table h || has_no_row t dir)))

    -- a directory is no file
    dir_allows : (covers : List Cover) (b : Bool) (call : Call) →
        is_allowed_under table h covers (dir_as b) call ≡ can_allow table h false covers (dir_as b) call
    dir_allows covers true call = refl
    dir_allows covers false call = refl

    under : (call : Call) (covers : List Cover) → ever_covers moves (cover_in t h dir) (dir_covers t h (stays_on t h dir)) ≡ covers →
        is_allowed_under table h covers (dir_as empties) call ≡ is_ever_allowed t table h (At (Whole dir way)) call
    under call covers same =
        ap (λ cs. is_allowed_under table h cs (dir_as empties) call) (sym same)
        ∙ dir_allows (ever_covers moves (cover_in t h dir) (dir_covers t h (stays_on t h dir))) empties call
        ∙ ap (λ b. b && can_allow table h false (ever_covers moves (cover_in t h dir) (dir_covers t h (stays_on t h dir))) (dir_as empties) call)
        (sym (or-true (keeps_link call)))

    -- one that can be moved
    pub moved_calls : moves ≡ true → (emptied : Bool) → emptied ≡ (leaves && not stays)
        → (call : Call) → has (cond emptied m.emptied m.dir) call ≡ is_ever_allowed t table h (At (Whole dir way)) call
    moved_calls can emptied same call =
        found emptied
        ∙ ap (λ b. is_allowed_under table h (dir_covers t h (stays_on t h dir)) (dir_as b) call) (same ∙ test)
        ∙ under call (dir_covers t h (stays_on t h dir)) (ap (λ b. cond b (dir_covers t h (stays_on t h dir)) (cover_in t h dir ∷ [])) can)
      where
        found : (b : Bool) → has (cond b m.emptied m.dir) call ≡ is_allowed_under table h (dir_covers t h (stays_on t h dir)) (dir_as b) call
        found true = finds.emptied call
        found false = finds.dir call

        can_be : can_move table h (cover_in t h dir) ≡ true
        can_be = (and_parts (is_none (perms_kept h (place.Dir dir))) _ can).1

        edits : may_edit table h ≡ true
        edits = rename_edits table h (and_parts (may_rename table h) _ can_be).0

        right : (b : Bool) → (b && true) ≡ b
        right true = refl
        right false = refl

        both : (a b c : Bool) → ((a && b) && c) ≡ (a && (b && c))
        both true b c = refl
        both false b c = refl

        test : (leaves && not stays) ≡ empties
        test = ap (λ b. leaves && b)
            (sym (is.held dir living (moved_has_c table h (cover_in t h dir) can_be)) ∙ sym (right (can_empty t h dir)) ∙
            ap (λ b. can_empty t h dir && (b || has_no_row t dir)) (sym edits))
            ∙ both (is_named_way way) (not (is_mount t dir)) (can_empty t h dir && (may_edit table h || has_no_row t dir))

    -- one that can't
    pub still_calls : EditsNeedC table → moves ≡ false → (object : seen.Object) →
        object ≡ cond ((leaves && not stays) && may_edit table h) see.Removable (object_seen t (IsDir dir way))
        → (set : ℕ) → ((o : Object) → object ≡ object_seen empty_tree o → (call : Call) →
        has set call ≡ is_allowed (covered_verdict empty_tree table h call (cover_in t h dir) o))
        → (call : Call) → has set call ≡ is_ever_allowed t table h (At (Whole dir way)) call
    still_calls needs can object same set allowed call =
        allowed (dir_as removed) (same ∙ sees) call
        ∙ dir_passes table needs h (cover_in t h dir) removed empties call (λ has. agree has)
        ∙ last (is_allowed (covered_verdict empty_tree table h call (cover_in t h dir) (dir_as empties)))
        ∙ under call (cover_in t h dir ∷ []) (ap (λ b. cond b (dir_covers t h (stays_on t h dir)) (cover_in t h dir ∷ [])) can)
      where
        empty_now : Way → Bool
        empty_now way = is_named_way way && (is_empty t dir && not (is_mount t dir))

        removed : Bool
        removed = ((leaves && not stays) && may_edit table h) || empty_now way

        seen_as : (b : Bool) → cond b see.Removable (see.Node kind.Dir) ≡ object_seen empty_tree (dir_as b)
        seen_as true = refl
        seen_as false = refl

        own : (w : Way) → object_seen t (IsDir dir w) ≡ cond (empty_now w) see.Removable (see.Node kind.Dir)
        own (Named parent name) = by (is_mount t dir) (is_empty t dir)
          where
            by : (m b : Bool) → cond (is_none (option_map misfit_errno (named_misfit m b))) see.Removable (see.Node kind.Dir)
                ≡ cond (b && not m) see.Removable (see.Node kind.Dir)
            by true true = refl
            by true false = refl
            by false true = refl
            by false false = refl
        own Top = refl
        own Dot = refl
        own DotDot = refl

        sees : cond ((leaves && not stays) && may_edit table h) see.Removable (object_seen t (IsDir dir way))
            ≡ object_seen empty_tree (dir_as removed)
        sees = ap (cond ((leaves && not stays) && may_edit table h) see.Removable) (own way) ∙
            by ((leaves && not stays) && may_edit table h) ∙ seen_as removed
          where
            by : (b : Bool) → cond b see.Removable (cond (empty_now way) see.Removable (see.Node kind.Dir)) ≡ cond (b || empty_now way)
                see.Removable (see.Node kind.Dir)
            by true = refl
            by false = refl

        agree : has_c (cover_in t h dir) ≡ true → removed ≡ empties
        agree has =
            (λ i. ((leaves && sym (is.held dir living has) i) && may_edit table h)
            || (is_named_way way && ((living i && has_no_row t dir) && not (is_mount t dir))))
            ∙ tidy (is_named_way way) (not (is_mount t dir)) (can_empty t h dir) (may_edit table h) (has_no_row t dir) (empty_can t h dir)
          where
            tidy : (n m c e r : Bool) → (r ≡ true → c ≡ true) → ((((n && m) && c) && e) || (n && (r && m))) ≡ (n && (m && (c && (e || r))))
            tidy false m c e r some = refl
            tidy true true true true r some = refl
            tidy true true true false true some = refl
            tidy true true true false false some = refl
            tidy true true false e false some = refl
            tidy true true false e true some = absurd (false≢true (some refl))
            tidy true false c e true some = refl
            tidy true false c e false some = refl
