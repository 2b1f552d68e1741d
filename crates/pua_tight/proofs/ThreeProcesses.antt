-- Three processes: the middle one lacks of the last one only what the first one lacks too.
use Rattle.std.proofs.Common.{◌≡◌, ℕ, List, [], ◌∷◌, refl, sym, ap, ◌∙◌, Bool, true, false, cond, min, arith}
use Rattle.std.proofs.lemmas.Bool.{eq-eqb, eqb-true}
use Rattle.std.proofs.lemmas.Nat.{and_assoc}
use Rattle.std.proofs.lemmas.Nat.Bits.{bit_at_and, same_from_bits}
use Rattle.std.specs.Int.{bit_at}
use Rattle.std.specs.Int.Bits.{and_self, and_zero_r}
use Rattle.std.specs.Prelude.{Option, Some, None, IsTrue, map, ◌-◌, ◌==◌, bit_and, unwrap_or}
use Rattle.pua_tree.specs.Tree.{Tree}
use Rattle.pua_path.specs.declared.found.Found.{Found}
use Rattle.pua_path.specs.declared.found.Start.{Start}
use Rattle.pua_calls.specs.Promises.{holds, all_promises, error}
use Rattle.pua_calls.specs.declared.rules.ExecPromises.{ExecPromises}
use Rattle.pua_calls.specs.declared.rules.ExecPromises.TheVariants.{Unset, Stay}
use Rattle.pua_policy.specs.States.{ProcessState, Event, Pledged, Unveiled, Locked, Moved, Ended, Filed, set_file, start_after, state_after, state_by_exec, after_exec}
use Rattle.pua_policy.specs.States.{left_for_exec, narrowed_set, held_set, has_error, has_veil, veil_at, with_veil, same_place}
use Rattle.pua_policy.specs.Verdict.{cover_with, nearest, directories_over, place_of}
use Rattle.pua_policy.specs.declared.open_file.OpenFile.{OpenFile}
use Rattle.pua_policy.specs.declared.place.Place.{Place}
use Rattle.pua_policy.specs.declared.place.Place.TheVariants.{Dir}
use Rattle.pua_policy.specs.declared.answer.Cover.{Cover}
use Rattle.pua_policy.specs.declared.answer.Cover.TheVariants.{All, Nothing, Only}
use Rattle.pua_policy.proofs.ForCallers.{holds_through}
use Rattle.pua_tight.proofs.Sets.{holds_both}

pub both_hold : (a b w : ℕ) → holds a w ≡ true → holds b w ≡ true → holds (bit_and a b) w ≡ true
both_hold a b w p q = ap (holds (bit_and a b)) (sym (and_self w)) ∙ holds_both w a w b p q

-- what the first and the last have, the middle one has
pub has_both : (a b c w : ℕ) → holds b (bit_and c a) ≡ true → holds c w ≡ true → holds a w ≡ true → holds b w ≡ true
has_both a b c w e p q = holds_through b (bit_and c a) w e (both_hold c a w p q)

crossed : (p q r s : ℕ) → min (min p q) (min r s) ≡ min (min p r) (min q s)
crossed p q r s = omega arith

cross : (c d a b : ℕ) → bit_and (bit_and c d) (bit_and a b) ≡ bit_and (bit_and c a) (bit_and d b)
cross c d a b = same_from_bits _ _ (λ i.
    bit_at_and (bit_and c d) (bit_and a b) i ∙ ap (λ x. min x (bit_at (bit_and a b) i)) (bit_at_and c d i)
    ∙ ap (min (min (bit_at c i) (bit_at d i))) (bit_at_and a b i) ∙ crossed (bit_at c i) (bit_at d i) (bit_at a i) (bit_at b i)
    ∙ ap (λ x. min x (min (bit_at d i) (bit_at b i))) (sym (bit_at_and c a i)) ∙ ap (min (bit_at (bit_and c a) i)) (sym (bit_at_and d b i))
    ∙ sym (bit_at_and (bit_and c a) (bit_and d b) i))

pub same_truth : (x y : Bool) → (x ≡ true → y ≡ true) → (y ≡ true → x ≡ true) → x ≡ y
same_truth true true p q = refl
same_truth false false p q = refl
same_truth true false p q = sym (p refl)
same_truth false true p q = q refl

met_alike : (k a b c d : ℕ) → bit_and a k ≡ bit_and c k → bit_and b k ≡ bit_and d k → bit_and (bit_and a b) k ≡ bit_and (bit_and c d) k
met_alike k a b c d p q =
    ap (bit_and (bit_and a b)) (sym (and_self k)) ∙ cross a b k k ∙ (λ i. bit_and (p i) (q i))
    ∙ sym (cross c d k k) ∙ ap (bit_and (bit_and c d)) (and_self k)

-- what lies within members that two sets have alike they have alike
pub alike_in : (k set a c : ℕ) → holds k set ≡ true → bit_and a k ≡ bit_and c k → holds a set ≡ holds c set
alike_in k set a c lies same =
    let is : bit_and k set ≡ set = eqb-true _ _ lies in
    ap (λ n. n == set) (ap (bit_and a) (sym is) ∙ sym (and_assoc set a k) ∙ ap (λ n. bit_and n set) same ∙ and_assoc set c k ∙ ap (bit_and c) is)

pub last_two : (a c : ℕ) → holds c (bit_and c a) ≡ true
last_two a c = eq-eqb _ _ (sym (and_assoc a c c) ∙ ap (λ x. bit_and x a) (and_self c))

-- sets, of which the first and the last have these members alike
pub data SetThree : ℕ → Option ℕ → Option ℕ → Option ℕ → Type 0 where
  three_unset : {kept : ℕ} → SetThree kept None None None
  three_some : {kept a b c : ℕ} → IsTrue (holds b (bit_and c a)) → bit_and a kept ≡ bit_and c kept → SetThree kept (Some a) (Some b) (Some c)

pub set_three : {kept : ℕ} (p : Option ℕ) → SetThree kept p p p
set_three None = three_unset
set_three (Some a) = three_some (last_two a a) refl

-- what is given after three requests
narrowed_three : {kept : ℕ} {p q r x y z : Option ℕ} → SetThree kept p q r → SetThree kept x y z →
    SetThree kept (narrowed_set p x) (narrowed_set q y) (narrowed_set r z)
narrowed_three given three_unset = given
narrowed_three three_unset (three_some has same) = three_some has same
narrowed_three {kept = kept} (three_some {a = x} {b = y} {c = z} h e) (three_some {a = a} {b = b} {c = c} has same) =
    three_some (ap (holds (bit_and b y)) (cross c z a x) ∙ holds_both (bit_and c a) b (bit_and z x) y has h) (met_alike kept a x c z same e)

-- veils of the same places in one order
pub data VeilsThree : List (Place × ℕ) → List (Place × ℕ) → List (Place × ℕ) → Type 0 where
  three_no_veils : VeilsThree [] [] []
  three_veils : {place : Place} {a b c : ℕ} {us vs ws : List (Place × ℕ)} → IsTrue (holds b (bit_and c a)) → VeilsThree us vs ws →
      VeilsThree ((place, a) ∷ us) ((place, b) ∷ vs) ((place, c) ∷ ws)

-- promises that the first and the last have alike, `error` among them; and all but promises and veils is the same in the first two.
-- That the last one has all of the middle one is said apart (StateWithin)
pub record StateThree (kept : ℕ) (l m s : ProcessState) : Type 0 where
  pub erring : IsTrue (holds kept error)
  pub promises : SetThree kept l.promises m.promises s.promises
  pub execpromises : SetThree kept l.execpromises m.execpromises s.execpromises
  pub veils : VeilsThree l.veils m.veils s.veils
  pub locked : l.locked ≡ m.locked
  pub start : l.start ≡ m.start
  pub ended : l.ended ≡ m.ended
  pub files : l.files ≡ m.files

all_three : {kept : ℕ} {p q r e f g : Option ℕ} {us vs ws : List (Place × ℕ)} {a b c x y z : Bool} {i j k : Start}
    {u v w : List (ℕ × OpenFile)} → holds kept error ≡ true →
    SetThree kept p q r → SetThree kept e f g → VeilsThree us vs ws → a ≡ b → i ≡ j → x ≡ y → u ≡ v →
    StateThree kept (record { promises = p; execpromises = e; veils = us; locked = a; start = i; ended = x; files = u })
    (record { promises = q; execpromises = f; veils = vs; locked = b; start = j; ended = y; files = v })
    (record { promises = r; execpromises = g; veils = ws; locked = c; start = k; ended = z; files = w })
all_three erring p e veils locked start ended files =
    record { erring = erring; promises = p; execpromises = e; veils = veils; locked = locked; start = start; ended = ended; files = files }

veils_three : (vs : List (Place × ℕ)) → VeilsThree vs vs vs
veils_three [] = three_no_veils
veils_three (v ∷ vs) = three_veils (last_two v.1 v.1) (veils_three vs)

pub state_three : {kept : ℕ} → holds kept error ≡ true → (h : ProcessState) → StateThree kept h h h
state_three erring h = all_three erring (set_three h.promises) (set_three h.execpromises) (veils_three h.veils) refl refl refl refl

-- after three events of one kind
pub pledged_three : {kept : ℕ} {l m s : ProcessState} {p q r e f g : Option ℕ} → SetThree kept p q r → SetThree kept e f g →
    StateThree kept l m s → StateThree kept (state_after (Pledged p e) l) (state_after (Pledged q f) m) (state_after (Pledged r g) s)
pledged_three p e w = all_three w.erring (narrowed_three w.promises p) (narrowed_three w.execpromises e) w.veils w.locked w.start w.ended w.files

veil_put : (place : Place) (a b c : ℕ) {us vs ws : List (Place × ℕ)} → holds b (bit_and c a) ≡ true → VeilsThree us vs ws →
    VeilsThree (with_veil place a us) (with_veil place b vs) (with_veil place c ws)
veil_put place a b c has three_no_veils = three_veils has three_no_veils
veil_put place a b c has (three_veils {place = p} {a = x} {b = y} {c = z} {us = us} {vs = vs} {ws = ws} h rest) =
    by (same_place place p) (veil_put place a b c has rest)
  where
    by : (k : Bool) → VeilsThree (with_veil place a us) (with_veil place b vs) (with_veil place c ws) →
        VeilsThree (cond k ((p, a) ∷ us) ((p, x) ∷ with_veil place a us)) (cond k ((p, b) ∷ vs) ((p, y) ∷ with_veil place b vs))
        (cond k ((p, c) ∷ ws) ((p, z) ∷ with_veil place c ws))
    by true further = three_veils has rest
    by false further = three_veils h further

pub unveiled_three : {kept : ℕ} {l m s : ProcessState} (place : Place) (a b c : ℕ) → holds b (bit_and c a) ≡ true →
    StateThree kept l m s → StateThree kept (state_after (Unveiled place a) l) (state_after (Unveiled place b) m) (state_after (Unveiled place c) s)
unveiled_three place a b c has w = all_three w.erring w.promises w.execpromises (veil_put place a b c has w.veils) w.locked w.start w.ended w.files

pub after_three : (event : Event) {kept : ℕ} {l m s : ProcessState} → StateThree kept l m s →
    StateThree kept (state_after event l) (state_after event m) (state_after event s)
after_three (Pledged p e) w = pledged_three (set_three p) (set_three e) w
after_three (Unveiled place a) w = unveiled_three place a a a (last_two a a) w
after_three Locked w = all_three w.erring w.promises w.execpromises w.veils refl w.start w.ended w.files
after_three (Moved move) w = all_three w.erring w.promises w.execpromises w.veils w.locked (ap (start_after move) w.start) w.ended w.files
after_three Ended w = all_three w.erring w.promises w.execpromises w.veils w.locked w.start refl w.files
after_three (Filed number file) w =
    all_three w.erring w.promises w.execpromises w.veils w.locked w.start w.ended (ap (set_file number file) w.files)

-- and after an exec
pub exec_three : (left : ExecPromises) {kept : ℕ} {l m s : ProcessState} → StateThree kept l m s →
    StateThree kept (after_exec left l) (after_exec left m) (after_exec left s)
exec_three left {kept = kept} {l = l} {m = m} {s = s} w = by w.execpromises
  where
    by : {p q r : Option ℕ} → SetThree kept p q r → StateThree kept (state_by_exec left p l) (state_by_exec left q m) (state_by_exec left r s)
    by three_unset = all_three w.erring three_unset three_unset three_no_veils refl w.start refl w.files
    by (three_some {a = a} {b = b} {c = c} has same) = all_three w.erring (three_some has same) (stays left) w.veils w.locked w.start w.ended w.files
      where
        stays : (left : ExecPromises) → SetThree kept (left_for_exec left a) (left_for_exec left b) (left_for_exec left c)
        stays Unset = three_unset
        stays Stay = three_some has same

pub default_three : (d : ℕ) {kept : ℕ} {p q r : Option ℕ} → SetThree kept p q r → holds (unwrap_or q d) (bit_and (unwrap_or r d) (unwrap_or p d)) ≡ true
default_three d three_unset = last_two d d
default_three d (three_some has same) = has

pub default_alike : (d : ℕ) {kept : ℕ} {p q r : Option ℕ} → SetThree kept p q r → bit_and (unwrap_or p d) kept ≡ bit_and (unwrap_or r d) kept
default_alike d three_unset = refl
default_alike d (three_some has same) = same

pub held_three : {kept : ℕ} {l m s : ProcessState} → StateThree kept l m s → holds (held_set m) (bit_and (held_set s) (held_set l)) ≡ true
held_three w = default_three (all_promises - error) w.promises

pub error_outer : {kept : ℕ} {l m s : ProcessState} → StateThree kept l m s → has_error l ≡ has_error s
error_outer {kept = kept} w = alike_in kept error _ _ w.erring (default_alike (all_promises - error) w.promises)

-- letters, of which none has to be had alike
abbrev pub LettersThree : Option ℕ → Option ℕ → Option ℕ → Type 0
LettersThree p q r = SetThree 0 p q r

chosen_three : (x : Bool) {a b c : ℕ} {p q r : Option ℕ} → LettersThree (Some a) (Some b) (Some c) → LettersThree p q r →
    LettersThree (cond x (Some a) p) (cond x (Some b) q) (cond x (Some c) r)
chosen_three true here rest = here
chosen_three false here rest = rest

pub kept_three : {us vs ws : List (Place × ℕ)} → VeilsThree us vs ws → (place : Place) →
    LettersThree (veil_at us place) (veil_at vs place) (veil_at ws place)
kept_three three_no_veils place = three_unset
kept_three (three_veils {place = other} {a = a} {c = c} has rest) place =
    chosen_three (same_place place other) (three_some has (and_zero_r a ∙ sym (and_zero_r c))) (kept_three rest place)

pub data CoverThree : Cover → Cover → Cover → Type 0 where
  three_all : CoverThree All All All
  three_nothing : CoverThree Nothing Nothing Nothing
  three_only : {a b c : ℕ} → IsTrue (holds b (bit_and c a)) → CoverThree (Only a) (Only b) (Only c)

picked : {p q r : Option ℕ} (xs ys zs : List (Option ℕ)) → LettersThree p q r → CoverThree (nearest xs) (nearest ys) (nearest zs) →
    CoverThree (nearest (p ∷ xs)) (nearest (q ∷ ys)) (nearest (r ∷ zs))
picked xs ys zs three_unset further = further
picked xs ys zs (three_some has same) further = three_only has

where_veiled : {us vs ws : List (Place × ℕ)} → VeilsThree us vs ws → {c d e : Cover} → CoverThree c d e →
    CoverThree (cond (has_veil us) c All) (cond (has_veil vs) d All) (cond (has_veil ws) e All)
where_veiled three_no_veils less = three_all
where_veiled (three_veils _ _) less = less

module _ {us vs ws : List (Place × ℕ)} (w : VeilsThree us vs ws) where
  abbrev at_dirs : List (Place × ℕ) → List ℕ → List (Option ℕ)
  at_dirs veils dirs = map (λ dir. veil_at veils (Dir dir)) dirs

  dirs_three : (dirs : List ℕ) → CoverThree (nearest (at_dirs us dirs)) (nearest (at_dirs vs dirs)) (nearest (at_dirs ws dirs))
  dirs_three [] = three_nothing
  dirs_three (dir ∷ dirs) = picked (at_dirs us dirs) (at_dirs vs dirs) (at_dirs ws dirs) (kept_three w (Dir dir)) (dirs_three dirs)

  pub cover_three : (t : Tree) (object : Found) → CoverThree (cover_with (has_veil us) (veil_at us) t object)
      (cover_with (has_veil vs) (veil_at vs) t object) (cover_with (has_veil ws) (veil_at ws) t object)
  cover_three t object =
      let over : List ℕ = directories_over t object in
      where_veiled w (picked (at_dirs us over) (at_dirs vs over) (at_dirs ws over) (kept_three w (place_of object)) (dirs_three over))
