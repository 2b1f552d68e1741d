-- What processes within one another come to.
use Rattle.std.proofs.Common.{◌≡◌, ℕ, List, [], ◌∷◌, length, refl, sym, ap, ◌∙◌, Bool, true, false, cond, suc}
use Rattle.std.specs.List.{list_any}
use Rattle.std.specs.Prelude.{Option, Some, None, IsTrue, map, ◌-◌}
use Rattle.pua_tree.specs.Tree.{Tree, climb}
use Rattle.pua_path.specs.declared.found.Found.{Found}
use Rattle.pua_path.specs.declared.found.Start.{Start}
use Rattle.pua_path.specs.declared.errno.Errno.{Errno}
use Rattle.pua_path.specs.declared.errno.Errno.TheVariants.{EACCES}
use Rattle.pua_calls.specs.Promises.{holds, all_promises, error}
use Rattle.pua_calls.specs.declared.rules.ExecPromises.{ExecPromises}
use Rattle.pua_calls.specs.declared.rules.ExecPromises.TheVariants.{Unset, Stay}
use Rattle.pua_policy.specs.States.{ProcessState, Event, Pledged, Unveiled, Locked, Moved, Ended, Filed, set_file, start_after, state_after, state_by_exec, after_exec}
use Rattle.pua_policy.specs.States.{left_for_exec, held_set, has_error, may_any, has_veil, veil_at, with_veil, same_place}
use Rattle.pua_policy.specs.Verdict.{cover_with, cover_fault, nearest, directories_over, place_of}
use Rattle.pua_policy.specs.declared.open_file.OpenFile.{OpenFile}
use Rattle.pua_policy.specs.declared.place.Place.{Place}
use Rattle.pua_policy.specs.declared.place.Place.TheVariants.{Dir}
use Rattle.pua_policy.specs.declared.answer.Cover.{Cover}
use Rattle.pua_policy.specs.declared.answer.Cover.TheVariants.{All, Nothing, Only}
use Rattle.pua_policy.specs.declared.answer.May.TheVariants.{Yes, Enosys, Death}
use Rattle.pua_policy.proofs.ForCallers.{holds_through}
use Rattle.pua_tight.specs.Narrower.{SetWithin, unset, within, VeilsWithin, no_veils, veils_too, StateWithin}
use Rattle.pua_tight.proofs.Sets.{any_more, holds_self, set_self, narrowed_within, default_within, chosen_within}

pub all_within : {p q e f : Option ℕ} {vs ws : List (Place × ℕ)} {a b c d : Bool} {m n : Start} {x y : List (ℕ × OpenFile)} →
    SetWithin p q → SetWithin e f → VeilsWithin vs ws → a ≡ b → m ≡ n → c ≡ d → x ≡ y →
    StateWithin (record { promises = p; execpromises = e; veils = vs; locked = a; start = m; ended = c; files = x })
    (record { promises = q; execpromises = f; veils = ws; locked = b; start = n; ended = d; files = y })
all_within p e veils locked start ended files =
    record { promises = p; execpromises = e; veils = veils; locked = locked; start = start; ended = ended; files = files }

-- each within itself
pub veils_self : (vs : List (Place × ℕ)) → VeilsWithin vs vs
veils_self [] = no_veils
veils_self (v ∷ vs) = veils_too (holds_self v.1) (veils_self vs)

pub state_self : (h : ProcessState) → StateWithin h h
state_self h = all_within (set_self h.promises) (set_self h.execpromises) (veils_self h.veils) refl refl refl refl

-- after an event of both, or one of fewer words
pub pledged_within : {h k : ProcessState} {p q e f : Option ℕ} → SetWithin p q → SetWithin e f → StateWithin h k →
    StateWithin (state_after (Pledged p e) h) (state_after (Pledged q f) k)
pledged_within p e w = all_within (narrowed_within w.promises p) (narrowed_within w.execpromises e) w.veils w.locked w.start w.ended w.files

veil_put : (place : Place) (a b : ℕ) {vs ws : List (Place × ℕ)} → holds b a ≡ true → VeilsWithin vs ws →
    VeilsWithin (with_veil place a vs) (with_veil place b ws)
veil_put place a b less no_veils = veils_too less no_veils
veil_put place a b less (veils_too {place = p} {a = c} {b = d} {vs = vs} {ws = ws} there rest) =
    by (same_place place p) (veil_put place a b less rest)
  where
    by : (x : Bool) → VeilsWithin (with_veil place a vs) (with_veil place b ws) →
        VeilsWithin (cond x ((p, a) ∷ vs) ((p, c) ∷ with_veil place a vs)) (cond x ((p, b) ∷ ws) ((p, d) ∷ with_veil place b ws))
    by true further = veils_too less rest
    by false further = veils_too there further

pub unveiled_within : {h k : ProcessState} (place : Place) (a b : ℕ) → holds b a ≡ true → StateWithin h k →
    StateWithin (state_after (Unveiled place a) h) (state_after (Unveiled place b) k)
unveiled_within place a b less w = all_within w.promises w.execpromises (veil_put place a b less w.veils) w.locked w.start w.ended w.files

pub after_within : (event : Event) {h k : ProcessState} → StateWithin h k → StateWithin (state_after event h) (state_after event k)
after_within (Pledged p e) w = pledged_within (set_self p) (set_self e) w
after_within (Unveiled place a) w = unveiled_within place a a (holds_self a) w
after_within Locked w = all_within w.promises w.execpromises w.veils refl w.start w.ended w.files
after_within (Moved move) w = all_within w.promises w.execpromises w.veils w.locked (ap (start_after move) w.start) w.ended w.files
after_within Ended w = all_within w.promises w.execpromises w.veils w.locked w.start refl w.files
after_within (Filed number file) w = all_within w.promises w.execpromises w.veils w.locked w.start w.ended (ap (set_file number file) w.files)

-- and after an exec
pub exec_within : (left : ExecPromises) {h k : ProcessState} → StateWithin h k → StateWithin (after_exec left h) (after_exec left k)
exec_within left {h = h} {k = k} w = by w.execpromises
  where
    by : {p q : Option ℕ} → SetWithin p q → StateWithin (state_by_exec left p h) (state_by_exec left q k)
    by unset = all_within unset unset no_veils refl w.start refl w.files
    by (within {a = a} {b = b} less) = all_within (within less) (stays left) w.veils w.locked w.start w.ended w.files
      where
        stays : (left : ExecPromises) → SetWithin (left_for_exec left a) (left_for_exec left b)
        stays Unset = unset
        stays Stay = within less

pub held_within : {h k : ProcessState} → StateWithin h k → holds (held_set k) (held_set h) ≡ true
held_within w = default_within (all_promises - error) w.promises

pub kept_within : {vs ws : List (Place × ℕ)} → VeilsWithin vs ws → (place : Place) → SetWithin (veil_at vs place) (veil_at ws place)
kept_within no_veils place = unset
kept_within (veils_too {place = other} {a = a} {b = b} less rest) place =
    chosen_within (same_place place other) a b less (kept_within rest place)

pub as_many : {vs ws : List (Place × ℕ)} → VeilsWithin vs ws → length vs ≡ length ws
as_many no_veils = refl
as_many (veils_too less rest) = ap suc (as_many rest)

-- covers of one kind, with letters within the other's
pub data CoverWithin : Cover → Cover → Type 0 where
  all : CoverWithin All All
  nothing : CoverWithin Nothing Nothing
  only : {a b : ℕ} → IsTrue (holds b a) → CoverWithin (Only a) (Only b)

picked : {p q : Option ℕ} (xs ys : List (Option ℕ)) → SetWithin p q → CoverWithin (nearest xs) (nearest ys) →
    CoverWithin (nearest (p ∷ xs)) (nearest (q ∷ ys))
picked xs ys unset further = further
picked xs ys (within less) further = only less

abbrev at_dirs : List (Place × ℕ) → List ℕ → List (Option ℕ)
at_dirs vs dirs = map (λ dir. veil_at vs (Dir dir)) dirs

dirs_within : {vs ws : List (Place × ℕ)} → VeilsWithin vs ws → (dirs : List ℕ) →
    CoverWithin (nearest (at_dirs vs dirs)) (nearest (at_dirs ws dirs))
dirs_within w [] = nothing
dirs_within {vs = vs} {ws = ws} w (dir ∷ dirs) = picked (at_dirs vs dirs) (at_dirs ws dirs) (kept_within w (Dir dir)) (dirs_within w dirs)

where_veiled : {vs ws : List (Place × ℕ)} → VeilsWithin vs ws → {c d : Cover} → CoverWithin c d →
    CoverWithin (cond (has_veil vs) c All) (cond (has_veil ws) d All)
where_veiled no_veils less = all
where_veiled (veils_too _ _) less = less

pub cover_within : {vs ws : List (Place × ℕ)} → VeilsWithin vs ws → (t : Tree) (object : Found) →
    CoverWithin (cover_with (has_veil vs) (veil_at vs) t object) (cover_with (has_veil ws) (veil_at ws) t object)
cover_within {vs = vs} {ws = ws} w t object =
    let over : List ℕ = directories_over t object in
    where_veiled w (picked (at_dirs vs over) (at_dirs ws over) (kept_within w (place_of object)) (dirs_within w over))

-- so of the further names of a directory
pub in_within : {vs ws : List (Place × ℕ)} → VeilsWithin vs ws → (t : Tree) (dir : ℕ) →
    CoverWithin (cond (has_veil vs) (nearest (at_dirs vs (climb t dir))) All) (cond (has_veil ws) (nearest (at_dirs ws (climb t dir))) All)
in_within w t dir = where_veiled w (dirs_within w (climb t dir))

pub fault_within : {c d : Cover} → CoverWithin c d → (perms : ℕ) → cover_fault c perms ≡ None → cover_fault d perms ≡ None
fault_within all perms e = refl
fault_within nothing perms e = cc
fault_within (only {a = a} {b = b} less) perms e =
    ap (λ x. cond x None (Some EACCES)) (holds_through b a perms less (if_none (holds a perms) e))
  where
    if_none : (x : Bool) → cond {A = Option Errno} x None (Some EACCES) ≡ None → x ≡ true
    if_none true e = refl
    if_none false e = cc

pub may_within : (h k : ProcessState) → StateWithin h k → (sets : List ℕ) → may_any h sets ≡ Yes → may_any k sets ≡ Yes
may_within h k w sets e = by h.ended (list_any (holds (held_set h)) sets) (has_error h) refl refl e
  where
    by : (a b c : Bool) → h.ended ≡ a → list_any (holds (held_set h)) sets ≡ b →
        cond a Death (cond b Yes (cond c Enosys Death)) ≡ Yes → may_any k sets ≡ Yes
    by true b c ends some is = cc
    by false true c ends some is =
        ap (λ x. cond x Death (cond (list_any (holds (held_set k)) sets) Yes (cond (has_error k) Enosys Death)))
        (sym w.ended ∙ ends)
        ∙ ap (λ x. cond x Yes (cond (has_error k) Enosys Death))
        (any_more _ _ (λ set. holds_through (held_set k) (held_set h) set (held_within w)) sets some)
    by false false true ends some is = cc
    by false false false ends some is = cc
