-- No request takes a row away that isn't covered with `c`.
use Rattle.pua_script.proofs.Common.{◌≡◌, ℕ, Bool, true, false, cond, refl, sym, ap, ◌∙◌, Some, None, is_some, nat_le, eqb-true, and_parts}
use Rattle.pua_script.proofs.Common.{not-true, Tree, WellFormed, Spot, is_dir, look, spot_named, EAGAIN, Dropped, Found, Whole, Slot, holds}
use Rattle.pua_script.proofs.Common.{CallTable, rule_of, ending_of, last_of, ProcessState, start, cover, cover_fault, Call, Cover, All}
use Rattle.pua_script.proofs.Common.{Asked, Change, AddNode, CutRow, ShiftRow, TieRow, CopyAs, NameFits, World, Fails, Copies, kept_at}
use Rattle.pua_script.proofs.Common.{apply, change_effect, tree_left, Action, has_c, most_processes, TakeFile, Errno, OpenFile, Result, Ok, Err}
use Rattle.pua_script.proofs.Common.{is_pledged, sent_by, take_effect}
use Rattle.std.specs.Prelude.{◌||◌, length}
use Rattle.std.proofs.lemmas.Nat.{and_comm}
use Rattle.pua_path.specs.declared.errno.Errno.TheVariants.{EACCES}
use Rattle.pua_path.specs.declared.found.Way.TheVariants as way
use Rattle.pua_calls.specs.Promises.{creating}
use Rattle.pua_calls.specs.TmpTable.{tmp_table}
use Rattle.pua_policy.proofs.ForCallers.{second_holds}
use Rattle.pua_calls.specs.declared.call.Call.TheVariants as call
use Rattle.pua_policy.specs.declared.answer.Cover.TheVariants.{Nothing, Only}
use Rattle.pua_script.specs.Confinement.{NeedsC, TakingNeedsC}
use Rattle.pua_script.proofs.Applied.{by_own_tree}
use Rattle.pua_script.proofs.Guarding.{grounds}
use Rattle.pua_script.proofs.Grounds.{Grounds, takes}
use Rattle.pua_script.proofs.Possible.{name_fits}
use Rattle.pua_script.proofs.Sparing.{Spares, SpotHasC, spares_all, spares_add, spares_tie, spares_cut, spares_shift}

-- a cover that has what needs `c` has `c`
pub c_from_cover : (c : Cover) (perms : ℕ) → holds perms creating ≡ true → cover_fault c perms ≡ None → has_c c ≡ true
c_from_cover All perms needs e = refl
c_from_cover Nothing perms needs e = cc
c_from_cover (Only given) perms needs e = by (holds given perms) refl e
  where
    by : (b : Bool) → holds given perms ≡ b → cond b None (Some EACCES) ≡ None → holds given creating ≡ true
    by true is none = second_holds perms given creating (ap (λ s. holds s creating) (and_comm perms given ∙ eqb-true _ _ is) ∙ needs)
    by false is none = cc

-- and has what `c` alone needs
pub covered_by_c : (c : Cover) (perms : ℕ) → holds perms creating ≡ true → cover_fault c perms ≡ None → cover_fault c creating ≡ None
covered_by_c All perms needs e = refl
covered_by_c Nothing perms needs e = cc
covered_by_c (Only given) perms needs e = ap (λ b. cond b None (Some EACCES)) (c_from_cover (Only given) perms needs e)

module _ (t : Tree) (h : ProcessState) where
  -- what was found is what stands in its row, as veils see it
  pub spot_has_c : (object : Found) (spot : Spot) → NameFits t object → spot_named object ≡ Some spot → has_c (cover t h object) ≡ true →
      SpotHasC t h spot
  spot_has_c (Whole dir (way.Named parent name)) spot fits named has x here =
      let place : (parent, name) ≡ spot = cc in
      let here_too : look t parent name ≡ Some x = ap (λ (s : Spot). look t s.0 s.1) place ∙ here in
      let same : dir ≡ x = is_same _ _ (sym fits.named.1 ∙ here_too) in
      ap (λ y. has_c (cover t h (cond (is_dir t y) (Whole y (way.Named spot.0 spot.1)) (Slot spot.0 spot.1 (Some y))))) (sym same)
      ∙ ap (λ b. has_c (cover t h (cond b (Whole dir (way.Named spot.0 spot.1)) (Slot spot.0 spot.1 (Some dir))))) fits.fits ∙ has
    where
      is_same : (a b : ℕ) → Some a ≡ Some b → a ≡ b
      is_same a b e = cc
  spot_has_c (Whole dir way.Dot) spot fits named has x here = cc
  spot_has_c (Whole dir way.DotDot) spot fits named has x here = cc
  spot_has_c (Whole dir way.Top) spot fits named has x here = cc
  spot_has_c (Slot dir name None) spot fits named has x here =
      let place : (dir, name) ≡ spot = cc in
      absurd (no_row x (sym fits.named.1 ∙ ap (λ (s : Spot). look t s.0 s.1) place ∙ here))
    where
      no_row : (x : ℕ) → None ≡ Some x → ⊥
      no_row x e = cc
  spot_has_c (Slot dir name (Some y)) spot fits named has x here =
      let place : (dir, name) ≡ spot = cc in
      let same : y ≡ x = is_same _ _ (sym fits.named.1 ∙ ap (λ (s : Spot). look t s.0 s.1) place ∙ here) in
      let other : is_dir t y ≡ false = not-true _ (and_parts _ _ (and_parts (is_dir t dir) _ fits.fits).1).1 in
      ap (λ z. has_c (cover t h (cond (is_dir t z) (Whole z (way.Named spot.0 spot.1)) (Slot spot.0 spot.1 (Some z))))) (sym same)
      ∙ ap (λ b. has_c (cover t h (cond b (Whole y (way.Named spot.0 spot.1)) (Slot spot.0 spot.1 (Some y))))) other
      ∙ ap (λ (s : Spot). has_c (cover t h (Slot s.0 s.1 (Some y)))) (sym place) ∙ has
    where
      is_same : (a b : ℕ) → Some a ≡ Some b → a ≡ b
      is_same a b e = cc

  -- the rows that a change takes away are covered with `c`
  abbrev HasC : Change → Type 0
  HasC (CutRow spot) = SpotHasC t h spot
  HasC (ShiftRow old new) = SpotHasC t h old × SpotHasC t h new
  HasC _ = Unit {0}

  module _ (well : WellFormed t) (table : CallTable) (needs : TakingNeedsC table) where
    pub has_spot : (x : Found) → NameFits t x → (perms : ℕ) → holds perms creating ≡ true → cover_fault (cover t h x) perms ≡ None →
        (s : Spot) → spot_named x ≡ Some s → SpotHasC t h s
    has_spot x fits perms has covered s is = spot_has_c x s fits is (c_from_cover (cover t h x) perms has covered)

    taking_needs : (c : Call) → takes c ≡ true → NeedsC (rule_of (tmp_table table) c)
    taking_needs call.Rmdir taken = needs.rmdir
    taking_needs call.Unlink taken = needs.unlink
    taking_needs _ taken = cc

    has_c_by : (action : Action) (c : Change) → Grounds table t h action c → HasC c
    has_c_by action (CutRow spot) g =
        let fits = name_fits t well (start h) (ending_of g.call) g.path (last_of g.call) g.object g.on.found in
        has_spot g.object fits _ (taking_needs g.call g.taken) g.on.covered spot g.at
    has_c_by action (ShiftRow from to) g = (
      has_spot g.old (name_fits t well (start h) Dropped g.old_path table.rename.old.last g.old g.two.found_old) _ needs.rename_old
          g.two.covered_old from g.at_old,
      has_spot g.new (name_fits t well (start h) Dropped g.new_path table.rename.new.last g.new g.two.found_new) _ needs.rename_new
          g.two.covered_new to g.at_new,
    )
    has_c_by action _ g = tt

spares_made : (w : World) → WellFormed w.tree → (h : ProcessState) (c : Change) → HasC w.tree h c →
    Spares w.tree h (tree_left w.tree (change_effect w h c))
spares_made w well h (AddNode spot node) has = spares_add w.tree h well spot.0 spot.1 node
spares_made w well h (CutRow spot) has = spares_cut w.tree h spot.0 spot.1 has
spares_made w well h (ShiftRow old new) has = spares_shift w.tree h old.0 new.0 old.1 new.1 has.0 has.1
spares_made w well h (TieRow spot x) has = spares_tie w.tree h spot.0 spot.1 x
spares_made w well h (CopyAs new) has = by (is_some (kept_at w new) || nat_le most_processes (length w.processes))
  where
    by : (full : Bool) → Spares w.tree h (tree_left w.tree (cond full (Fails EAGAIN) (Copies new)))
    by true = spares_all w.tree h
    by false = spares_all w.tree h
spares_made w well h (TakeFile number from theirs) has = by (sent_by (is_pledged h) (kept_at w from) theirs)
  where
    by : (r : Result OpenFile Errno) → Spares w.tree h (tree_left w.tree (take_effect w h number r))
    by (Ok file) = spares_all w.tree h
    by (Err errno) = spares_all w.tree h
spares_made w well h _ has = spares_all w.tree h

-- each row that the caller's state doesn't cover with `c` is there after the request, with its node
pub requests_spare : (table : CallTable) → TakingNeedsC table → (w : World) (ask : Asked) (h : ProcessState) →
    WellFormed w.tree → kept_at w ask.process ≡ Some h → Spares w.tree h (apply table w ask).1.tree
requests_spare table needs w ask h well here = by_own_tree table w ask h here (Spares w.tree h) (spares_all w.tree h)
    (λ c guards. spares_made w well h c (has_c_by w.tree h well table needs ask.action c (grounds table w.tree h ask.action c guards)))
