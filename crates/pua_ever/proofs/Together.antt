-- Several processes are within one that holds and hands down what any of them does, so its list is theirs together.
use Rattle.pua_ever.proofs.Common.{◌≡◌, ◌⊎◌, ℕ, List, [], ◌∷◌, Bool, true, false, cond, map, refl, sym, ap, subst, ◌∙◌, inl, inr, Option}
use Rattle.pua_ever.proofs.Common.{Some, None, same_Some, not, ◌&&◌, ◌||◌, ◌==◌, CallTable, ProcessState}
use Rattle.pua_ever.proofs.Common.{false≢true, and_parts, eqb-true, World, world_after, kept_at, is_member}
use Rattle.pua_ever.proofs.Common.{VeilsStand, Among, among_contained, ever, first_tree, Asked, EditsNeedC, NoCallNeedsError, ◌≢◌}
use Rattle.std.specs.List.{AllByRecursion}
use Rattle.pua_calls.specs.Promises.{fattr, holds, unveil}
use Rattle.pua_calls.specs.TmpTable.{tmp_table}
use Rattle.pua_calls.specs.declared.call.Call.TheVariants as call
use Rattle.pua_policy.specs.States.{held_set, held_for_exec, is_locked}
use Rattle.pua_script.specs.Replay.{new_world}
use Rattle.pua_script.specs.Bytes.{IsByteTree, are_in_bytes}
use Rattle.pua_script.specs.Confinement.{TreesAlong}
use Rattle.pua_script.specs.Family.{HasKept, is_exec, none_done}
use Rattle.pua_script.proofs.ForCallers.{replays_keep_trees, replays_keep_byte_trees, listings_list_byte_trees, scripts_ask_in_bytes}
use Rattle.pua_ever.specs.Laws.{ActsWithin, ForeseesIn, MembersEdit, PlacesStand}
use Rattle.pua_ever.specs.Through.{AreWithin, HandsDown, HoldsOne, GoesAlong, GoAlong, is_promised_by, bound_of, has_exec}
use Rattle.pua_ever.specs.Through.{ever_lasting, execs_of}
use Rattle.pua_ever.specs.declared.lasting_list.ExecBound.TheVariants.{Open}
use Rattle.pua_ever.specs.Together.{Joint, handed_down, either_given, joint_of, with_one, joint_after, confined_part, joined, ActTogether, IsOneOf}
use Rattle.pua_ever.specs.Together.{EverTogether, JoinedTurns, TogetherLasts, TogetherStarts, TogetherAfterRead, files_together}
use Rattle.pua_ever.proofs.Common.{EverLine}
use Rattle.pua_ever.proofs.Chosen.{bound_too, lasting_alone, lasting_through, lasting_unbounded, starts_open}
use Rattle.pua_ever.proofs.Complete.{all_within, ever_beside, starts_foreseen}
use Rattle.pua_ever.proofs.NoExec.{none_along}
use Rattle.pua_ever.proofs.Origins.{at_first}
use Rattle.pua_ever.proofs.VeilPlacesGiven.{replays_keep_places, new_places}
use Rattle.pua_ever.proofs.Holding.{lock_parts, bound_parts}
use Rattle.pua_ever.proofs.Through.{no_line, ever_through_execs}
use Rattle.pua_ever.proofs.Gathered.{turned_by_more, turned_together, within_first, within_second}

-- what a process hands down, or that it can start nothing
abbrev Hands : CallTable → ProcessState → Option ℕ → Type 0
Hands table h None = Unit {0}
Hands table h (Some given) = HandsDown h given ⊎ (is_promised_by table (held_set h) call.Exec ≡ false)

hands_own : (table : CallTable) (h : ProcessState) → Hands table h (handed_down table h)
hands_own table h = by (is_promised_by table (held_set h) call.Exec) (held_for_exec h) refl refl
  where
    by : (b : Bool) (o : Option ℕ) → is_promised_by table (held_set h) call.Exec ≡ b → held_for_exec h ≡ o → Hands table h (cond b o (Some 0))
    by true None starts set = tt
    by true (Some given) starts set = inl (record { left = given; set = set; within = λ s fine holding. holding })
    by false o starts set = inr starts

hands_first : (table : CallTable) (h : ProcessState) (a b : Option ℕ) → Hands table h a → Hands table h (either_given a b)
hands_first table h None b hands = tt
hands_first table h (Some a) None hands = tt
hands_first table h (Some a) (Some b) hands = elim hands [
  | inl own ↦ inl (record { left = own.left; set = own.set; within = λ s fine holding. within_first a b s (own.within s fine holding) })
  | inr none ↦ inr none
]

hands_second : (table : CallTable) (h : ProcessState) (a b : Option ℕ) → Hands table h b → Hands table h (either_given a b)
hands_second table h None b hands = tt
hands_second table h (Some a) None hands = tt
hands_second table h (Some a) (Some b) hands = elim hands [
  | inl own ↦ inl (record { left = own.left; set = own.set; within = λ s fine holding. within_second a b s (own.within s fine holding) })
  | inr none ↦ inr none
]

-- what is so of one of those that a joint stands for
record IsIn (table : CallTable) (joint : Joint) (h : ProcessState) : Type 0 where
  held : (set : ℕ) → holds (held_set h) set ≡ true → holds joint.held set ≡ true
  hands : Hands table h joint.given
  lock : joint.locked ≡ true → is_locked h ≡ true

in_first : (table : CallTable) (h : ProcessState) → IsIn table (joint_of table h) h
in_first table h = record { held = λ set holding. holding; hands = hands_own table h; lock = λ locked. locked }

in_then : (table : CallTable) (joint : Joint) (other h : ProcessState) → IsIn table joint h → IsIn table (with_one table joint other) h
in_then table joint other h k = record {
  held = λ set holding. within_first joint.held (held_set other) set (k.held set holding);
  hands = hands_first table h joint.given (handed_down table other) k.hands;
  lock = λ locked. k.lock (and_parts joint.locked _ locked).0;
}

in_last : (table : CallTable) (joint : Joint) (h : ProcessState) → IsIn table (with_one table joint h) h
in_last table joint h = record {
  held = λ set holding. within_second joint.held (held_set h) set holding;
  hands = hands_second table h joint.given (handed_down table h) (hands_own table h);
  lock = λ locked. (and_parts joint.locked _ locked).1;
}

in_after : (table : CallTable) (more : List ProcessState) (joint : Joint) (h : ProcessState) → IsIn table joint h → IsIn table (joint_after table joint more) h
in_after table [] joint h k = k
in_after table (other ∷ more) joint h k = in_after table more (with_one table joint other) h (in_then table joint other h k)

in_more : (table : CallTable) (more : List ProcessState) (joint : Joint) (h : ProcessState) → Among more h → IsIn table (joint_after table joint more) h
in_more table [] joint h a = absurd a
in_more table (other ∷ more) joint h (inl same) =
    subst (λ x. IsIn table (joint_after table (with_one table joint other) more) x) same
    (in_after table more (with_one table joint other) other (in_last table joint other))
in_more table (other ∷ more) joint h (inr later) = in_more table more (with_one table joint other) h later

all_in : (table : CallTable) (first : ProcessState) (more : List ProcessState) (h : ProcessState) → Among (first ∷ more) h →
    IsIn table (joint_after table (joint_of table first) more) h
all_in table first more h (inl same) =
    subst (λ x. IsIn table (joint_after table (joint_of table first) more) x) same
    (in_after table more (joint_of table first) first (in_first table first))
all_in table first more h (inr later) = in_more table more (joint_of table first) h later

among_all : (P : ProcessState → Type 0) (hs : List ProcessState) → AllByRecursion P hs → (h : ProcessState) → Among hs h → P h
among_all P [] all h a = absurd a
among_all P (x ∷ hs) all h (inl same) = subst P same all.0
among_all P (x ∷ hs) all h (inr later) = among_all P hs all.1 h later

abbrev first_or : {A : Type 0} → A → List A → A
first_or x [] = x
first_or x (y ∷ ys) = y

abbrev rest_of : {A : Type 0} → List A → List A
rest_of [] = []
rest_of (y ∷ ys) = ys

same_first : {A : Type 0} (a b : A) (xs ys : List A) → a ∷ xs ≡ b ∷ ys → a ≡ b
same_first a b xs ys e = ap (first_or a) e

same_rest : {A : Type 0} (a b : A) (xs ys : List A) → a ∷ xs ≡ b ∷ ys → xs ≡ ys
same_rest a b xs ys e = ap rest_of e

-- each member is among them
member_among : (w : World) (members : List ℕ) (hs : List ProcessState) → map (kept_at w) members ≡ map Some hs → (member : ℕ) →
    is_member members member ≡ true → HasKept w member (Among hs)
member_among w [] hs e member belongs = absurd (false≢true belongs)
member_among w (m ∷ members) [] e member belongs = let never : kept_at w m ∷ map (kept_at w) members ≡ [] = e in cc
member_among w (m ∷ members) (h ∷ hs) e member belongs =
    by (m == member) refl belongs
    (member_among w members hs (same_rest (kept_at w m) (Some h) (map (kept_at w) members) (map Some hs) e) member)
  where
    by : (b : Bool) → (m == member) ≡ b → (b || is_member members member) ≡ true →
        (is_member members member ≡ true → HasKept w member (Among hs)) → HasKept w member (Among (h ∷ hs))
    by true is belongs later = (
      h,
      ap (kept_at w) (sym (eqb-true m member is)) ∙
          same_first (kept_at w m) (Some h) (map (kept_at w) members) (map Some hs) e,
      inl refl,
    )
    by false is belongs later = let found = later belongs in (found.0, found.1, inr found.2)

module _ (table : CallTable) (first : ProcessState) (more : List ProcessState) (alike : AllByRecursion (IsOneOf first) (first ∷ more)) where
  abbrev joint : Joint
  joint = joint_after table (joint_of table first) more

  abbrev one : ProcessState
  one = joined table first more

  within_one : (h : ProcessState) → IsIn table joint h → AreWithin (held_set h) (held_set one)
  within_one h k set fine holding = within_second (held_set first) joint.held set (k.held set holding)

  -- so each is within it
  acts_within : (w : World) (members : List ℕ) → map (kept_at w) members ≡ map Some (first ∷ more) → ActsWithin w one members
  acts_within w members processes m belongs =
      let here = member_among w members (first ∷ more) processes m belongs in
      let is = among_all (IsOneOf first) (first ∷ more) alike here.0 here.2 in (
        here.0,
        here.1,
        (
          record {
            unveils = record { any = is.unveils.any; kept = is.unveils.kept };
            promises = within_one here.0 (all_in table first more here.0 here.2);
            confined = is.confined;
          },
          λ lives. alike.0.lives,
        ),
      )

  module _ (given : ℕ) (bound : bound_of table one ≡ Some given) where
    abbrev Confined : ℕ → Type 0
    Confined left = (joint.locked || (not (holds (held_set one) unveil) && not (holds left unveil))) ≡ true

    -- what it hands down is what they do, and nothing puts a veil
    parts : (joint.given ≡ Some given) × Confined given
    parts = by joint.given (bound_parts table one given bound).set
      where
        only : (left : ℕ) (b : Bool) → (joint.locked || (not (holds (held_set one) unveil) && not (holds left unveil))) ≡ b →
            cond b (Some left) None ≡ Some given → (Some left ≡ Some given) × Confined given
        only left true is e = (e, subst Confined (same_Some left given e) is)
        only left false is e = let never : None ≡ Some given = e in cc

        by : (o : Option ℕ) → confined_part joint.locked (held_set one) o ≡ Some given → (o ≡ Some given) × Confined given
        by None e = let never : None ≡ Some given = e in cc
        by (Some left) e = only left _ refl e

    -- and goes along with it
    goes_along : (h : ProcessState) → Among (first ∷ more) h → GoesAlong table one given h
    goes_along h a =
        let is = among_all (IsOneOf first) (first ∷ more) alike h a in
        let k = all_in table first more h a in
        record {
          unveils = record { any = is.unveils.any; kept = is.unveils.kept };
          lock = lock (lock_parts joint.locked (holds (held_set one) unveil) (holds given unveil) refl refl refl parts.1) k;
          ended = λ lives. alike.0.lives;
          promises = promises (subst (Hands table h) parts.0 k.hands) (within_one h k);
        }
      where
        lock : (joint.locked ≡ true) ⊎ ((holds (held_set one) unveil ≡ false) × (holds given unveil ≡ false)) → IsIn table joint h →
            (is_locked h ≡ true) ⊎ ((holds (held_set one) unveil ≡ false) × (holds given unveil ≡ false))
        lock (inl locked) k = inl (k.lock locked)
        lock (inr lacking) k = inr lacking

        promises : Hands table h (Some given) → AreWithin (held_set h) (held_set one) →
            HoldsOne table one given h ⊎ (AreWithin (held_set h) (held_set one) × (is_promised_by table (held_set h) call.Exec ≡ false))
        promises (inl hands) within = inl (inl (within, hands))
        promises (inr none) within = inr (within, none)

    go_along : (w : World) (members : List ℕ) → map (kept_at w) members ≡ map Some (first ∷ more) → GoAlong table w one given members
    go_along w members processes m belongs =
        let here = member_among w members (first ∷ more) processes m belongs in
        (here.0, here.1, goes_along here.0 here.2)

pub ever_together : EverTogether
ever_together table sound needs w asks members first more acts stand trees none edits member belongs =
    ever_beside table sound needs w asks members (joined table first more) (acts_within table first more acts.alike w members acts.processes)
    stand trees none edits member belongs

pub together_starts : TogetherStarts
together_starts table sound needs w asks members first more acts stand trees none edits member belongs =
    starts_foreseen table sound needs w asks members (joined table first more) (acts_within table first more acts.alike w members acts.processes)
    stand trees none edits member belongs

-- what any of them has open so that it can be made a program, the one has open so
pub joined_turns : JoinedTurns
joined_turns table first more h among node turned =
    let a = among_contained (first ∷ more) h among in
    let joint = joint_after table (joint_of table first) more in
    let modes = λ (holding : holds (held_set h) fattr ≡ true). within_second (held_set first) joint.held fattr ((all_in table first more h a).held fattr holding) in
    turned_by_more (holds (held_set h) fattr) (holds (held_set (joined table first more)) fattr) modes node (files_together first more)
    (turned_together (holds (held_set h) fattr) node first more h a turned)

-- where no line has exec, none of theirs can succeed
none_together : (table : CallTable) → NoCallNeedsError table → EditsNeedC table →
    (w : World) (asks : List Asked) (members : List ℕ) (first : ProcessState) (more : List ProcessState) → ActTogether w members first more →
    VeilsStand w.tree (joined table first more) → TreesAlong table w asks → MembersEdit table w asks members →
    has_exec (ever w.tree (tmp_table table) (joined table first more)) ≡ false → none_done is_exec table w asks members ≡ true
none_together table sound needs w asks members first more acts stand trees edits quiet =
    let one = joined table first more in
    let within = acts_within table first more acts.alike w members acts.processes in
    let well = first_tree table w asks trees in
    none_along table sound needs w.tree one well stand (no_line w.tree (tmp_table table) one quiet) asks w members
    (all_within w members one within) edits trees (at_first (tmp_table table) w.tree one well stand) (inr refl)

pub together_lasts : TogetherLasts
together_lasts table sound needs w asks members first more acts given bound stand trees edits member belongs =
    by (has_exec (ever w.tree (tmp_table table) one)) refl
  where
    one : ProcessState
    one = joined table first more

    Seen : List EverLine → Type 0
    Seen lines = HasKept (world_after table w asks) member (ForeseesIn lines w.tree (tmp_table table) one (world_after table w asks).tree)

    by : (b : Bool) → has_exec (ever w.tree (tmp_table table) one) ≡ b → Seen (ever_lasting w.tree (tmp_table table) one)
    by true is =
        subst Seen (sym (lasting_through w.tree (tmp_table table) one given (bound_too table one ∙ bound) is))
        (ever_through_execs table sound needs w asks members one given (bound_parts table one given bound).bounded
        (go_along table first more acts.alike given bound w members acts.processes) stand trees edits member belongs)
    by false is =
        subst Seen (sym (lasting_alone w.tree (tmp_table table) one given (bound_too table one ∙ bound) is))
        (ever_together table sound needs w asks members first more acts stand trees
        (none_together table sound needs w asks members first more acts stand trees edits is) edits member belongs)

-- the veils of each stand
veils_stand : (w : World) → PlacesStand w → (members : List ℕ) (hs : List ProcessState) → map (kept_at w) members ≡ map Some hs →
    AllByRecursion (VeilsStand w.tree) hs
veils_stand w places [] [] e = tt
veils_stand w places [] (h ∷ hs) e = let never : [] ≡ Some h ∷ map Some hs = e in cc
veils_stand w places (m ∷ members) [] e = tt
veils_stand w places (m ∷ members) (h ∷ hs) e = (
  places m h (same_first (kept_at w m) (Some h) (map (kept_at w) members) (map Some hs) e),
  veils_stand w places members hs (same_rest (kept_at w m) (Some h) (map (kept_at w) members) (map Some hs) e),
)

pub together_after_read : TogetherAfterRead
together_after_read table sound needs rules tree_bytes script_bytes t before asks listed scripted bytes members first more acts held edits
    member belongs = by (bound_of table one) refl
  where
    w : World
    w = world_after table (new_world t) before

    one : ProcessState
    one = joined table first more

    said : are_in_bytes before ≡ true
    said = scripts_ask_in_bytes rules script_bytes before scripted

    tree : IsByteTree t
    tree = listings_list_byte_trees tree_bytes t listed

    trees : TreesAlong table w asks
    trees = replays_keep_trees table w asks (replays_keep_byte_trees table (new_world t) before tree said) bytes

    stand : VeilsStand w.tree one
    stand = (veils_stand w (replays_keep_places table needs (new_world t) before (replays_keep_trees table (new_world t) before tree said)
        (new_places t)) members (first ∷ more) acts.processes).0

    -- none of theirs is answered ok, where nothing is bounded
    quiet : bound_of table one ≡ None → (b : Bool) → has_exec (ever w.tree (tmp_table table) one) ≡ b →
        (execs_of w.tree (tmp_table table) one ≢ Open) ⊎ (none_done is_exec table w asks members ≡ true) → none_done is_exec table w asks members ≡ true
    quiet unbound b is (inr alone) = alone
    quiet unbound true is (inl shut) = absurd (shut (starts_open w.tree (tmp_table table) one is (bound_too table one ∙ unbound)))
    quiet unbound false is (inl shut) = none_together table sound needs w asks members first more acts stand trees edits is

    by : (o : Option ℕ) → bound_of table one ≡ o →
        HasKept (world_after table w asks) member
        (ForeseesIn (ever_lasting w.tree (tmp_table table) one) w.tree (tmp_table table) one (world_after table w asks).tree)
    by (Some given) bound = together_lasts table sound needs w asks members first more acts given bound stand trees edits member belongs
    by None unbound =
        subst (λ lines. HasKept (world_after table w asks) member (ForeseesIn lines w.tree (tmp_table table) one (world_after table w asks).tree))
        (sym (lasting_unbounded w.tree (tmp_table table) one (bound_too table one ∙ unbound)))
        (ever_together table sound needs w asks members first more acts stand trees
        (quiet unbound (has_exec (ever w.tree (tmp_table table) one)) refl held) edits member belongs)
