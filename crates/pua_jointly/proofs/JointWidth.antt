-- Which words of the table of a crew can ever have a fact: of a number at which no directory stands none can, if it isn't watched.
use Rattle.pua_jointly.proofs.Common.{◌≡◌, ◌<◌, ◌≤◌, ◌∙◌, ap, arith, Bool, CallTable, contained, false, false≢true, is_dir}
use Rattle.pua_jointly.proofs.Common.{length, List, None, None≢Some, Option, option_map, ProcessState, refl, row_says, Some, sound_from}
use Rattle.pua_jointly.proofs.Common.{subst, suc, sym, Tree, true, WellFormed, ℕ}
use Rattle.std.specs.Prelude.{⊤, ◌+◌, ◌-◌, ◌*◌, ◌/◌, ◌%◌, get_or, slice_get, IsTrue}
use Rattle.std.specs.List.{Contains}
use Rattle.std.proofs.lemmas.Nat.{div-mul-add, mod-mul-add}
use Rattle.pua_jointly.specs.Closing.{Reached, reached, Step}
use Rattle.pua_jointly.specs.Jointly.{Fact, StandsIn, NotAbove, DirCover, WayIn, Made, Maker, Old, Row, is_standing}
use Rattle.pua_jointly.specs.JointFacts.{Kept, Covers, Enters, Lands, Clear, LandsClear, Turns, Taken, Creates, Drops, Carries, Follows, Means}
use Rattle.pua_jointly.specs.JointFacts.{WatchesEnough, turns_by, watches}
use Rattle.pua_jointly.specs.JointSetup.{AreStanding, FollowsTold, IsWorkedOut, crew_told, devices_told, dirs_of, guarded_told, hands_told, layout_told, spots_told}
use Rattle.pua_jointly.specs.JointTable.{Entity, DirAt, MadeBy, LandingOf, DropsOf, NameAt, Column, ByAgent, Watching, bit_says}
use Rattle.pua_jointly.specs.JointTable.{IsTold, columns, entities}
use Rattle.pua_jointly.specs.declared.crew.Crew.{Crew}
use Rattle.pua_jointly.specs.declared.crew.Watch.{Watch}
use Rattle.pua_objects.proofs.ForCallers.{Among, among_contained, map_among}
use Rattle.pua_jointly.proofs.JointPlaced.{column_fits, entity_fits, got_among}
use Rattle.pua_jointly.proofs.JointPlaces.{Says, said}
use Rattle.pua_jointly.proofs.JointRows.{guarded_column}
use Rattle.pua_jointly.proofs.JointTabled.{means_reached}
use Rattle.pua_jointly.proofs.JointWatched.{watches_enough}
use Rattle.pua_jointly.proofs.JointlyClosed.{Closed, least}

-- whatever comes somewhere is made, or a directory that stands
abbrev OfStanding : Tree → Fact → Type 0
OfStanding t (StandsIn d p) = IsTrue (is_standing t d) × IsTrue (is_standing t p)
OfStanding t (NotAbove (Old y) d) = IsTrue (is_standing t d)
OfStanding t (DirCover a d k) = IsTrue (is_standing t d)
OfStanding t (WayIn a d) = IsTrue (is_standing t d)
OfStanding t _ = ⊤

of_standing : (t : Tree) → WellFormed t → (table : CallTable) (crew : List ProcessState) → Closed t table crew (OfStanding t)
of_standing t well table crew = record {
  stays_in = λ {dir} {d} name at is. (is, (row_says t (sound_from t well) (dir, name) d at).0);
  moved_in = λ a k among cover can way apart near. (cover, way);
  born_in = λ among makes way near. (refl, way);
  not_above_root = λ other. well.root;
  not_above_up = λ p other stands above. stands.0;
  not_above_made = tt;
  dir_own = λ stands own. stands;
  dir_root = λ none. well.root;
  dir_within = λ p none stands cover. stands.0;
  name_own = λ stands own. tt;
  name_within = λ none cover. tt;
  free_none = λ none. tt;
  free_made = tt;
  free_dir = λ a d k among may at is none cover has. tt;
  free_other = λ a x k among may at is cover has. tt;
  way_in_by_c = λ k cover has. cover;
  way_in_by_name = λ name perms stands own has free. stands;
  way_in_by_turn = λ y perms other k stands own has empty cover can differs above here near. stands.1;
  writes_at = λ k cover has free. tt;
  makes_at = λ d name k cover free made near. tt;
  stays_at = λ x at is. tt;
  moved_at = λ a d name k among stands cover can writes near. tt;
  born_at = λ among makes writes near. tt;
}

-- behind the words of processes and of all nothing is said of where a process puts things that are no directories, and of a name
abbrev pub IsOfName : Option Entity → Type 0
IsOfName None = ⊤
IsOfName (Some (DropsOf b)) = ⊤
IsOfName (Some (NameAt s)) = ⊤
IsOfName _ = ⊥

no_bits_watch : (e : Option Entity) (y : ℕ) → IsOfName e → (bit : ℕ) → bit_says e (Some (Watching y)) bit ≡ None
no_bits_watch None y of bit = refl
no_bits_watch (Some (DropsOf b)) y of bit = refl
no_bits_watch (Some (NameAt s)) y of bit = refl
no_bits_watch (Some (DirAt d)) y of bit = absurd of
no_bits_watch (Some (MadeBy m)) y of bit = absurd of
no_bits_watch (Some (LandingOf m)) y of bit = absurd of

no_column : (e : Option Entity) (bit : ℕ) → bit_says e None bit ≡ None
no_column None bit = refl
no_column (Some e) bit = refl

abbrev dir_of_row : Entity → ℕ
dir_of_row (DirAt d) = d
dir_of_row _ = 0

abbrev is_dir_row : Entity → Bool
is_dir_row (DirAt d) = true
is_dir_row _ = false

module _ (t : Tree) (table : CallTable) (c : Crew) (out : IsWorkedOut t table c) where
  abbrev crew : List ProcessState
  crew = crew_told c

  abbrev watched : ℕ → Bool
  watched = watches t crew

  abbrev es : List Entity
  es = entities (hands_told c) (dirs_of c) (spots_told c)

  abbrev cs : List Column
  cs = columns crew (guarded_told c)

  abbrev follows : Step
  follows = FollowsTold t table c

  enough : WatchesEnough t table crew watched
  enough = watches_enough t out.0 table crew

  -- nothing can be said of this
  module _ (d : ℕ) (absent : is_dir t d ≡ false) (unwatched : watched d ≡ false) (T : Kept → Type 0) where
    away : (e : ℕ) → DirAt e ≡ DirAt d → is_dir t e ≡ true → ⊥
    away e same is = false≢true (sym absent ∙ ap (is_dir t) (sym (ap dir_of_row same)) ∙ is)

    never : (x : Kept) (column : Column) (bit : ℕ) → Says (DirAt d) column bit x → ((a : ProcessState) → column ≡ ByAgent a → Contains crew a) →
        Means t table crew x → Follows t table crew watched T x → ⊥
    never (Covers a (Old e) k) column bit in_word by means new = away e in_word.0 (least t table crew (OfStanding t) (of_standing t out.0 table crew) means)
    never (Covers a (Made m) k) column bit in_word by means new = false≢true (ap is_dir_row in_word.0)
    never (Enters a (Old e)) column bit in_word by means new = away e in_word.0 (least t table crew (OfStanding t) (of_standing t out.0 table crew) means)
    never (Enters a (Made m)) column bit in_word by means new = false≢true (ap is_dir_row in_word.0)
    never (Lands b a k) column bit in_word by means new = false≢true (ap is_dir_row in_word.0)
    never (Clear y (Old e)) column bit in_word by means new = away e in_word.0 (least t table crew (OfStanding t) (of_standing t out.0 table crew) means)
    never (Clear y (Made m)) column bit in_word by means new = false≢true (ap is_dir_row in_word.0)
    never (LandsClear b y) column bit in_word by means new = false≢true (ap is_dir_row in_word.0)
    never (Turns a y) column bit in_word by means (turns_by perms other k own has empty cover can differs clear near) =
        false≢true (sym unwatched ∙ ap watched (sym (ap dir_of_row in_word.0)) ∙ enough.turned y a perms (by a in_word.1.0) own has)
    never (Taken dir name) column bit in_word by means new = false≢true (ap is_dir_row in_word.0)
    never (Creates a new_one) column bit in_word by means new = false≢true (ap is_dir_row in_word.0)
    never (Drops b a k) column bit in_word by means new = false≢true (ap is_dir_row in_word.0)
    never (Carries (Row spot) a) column bit in_word by means new = false≢true (ap is_dir_row in_word.0)
    never (Carries (Maker what m) a) column bit in_word by means new = false≢true (ap is_dir_row in_word.0)

  -- no fact leads to the word at a row and a column
  abbrev pub IsVoid : ℕ → ℕ → Type 0
  IsVoid row column = (count bit : ℕ) → Reached follows count (row * c.columns + column) bit → ⊥

  unwatched_by : (d : ℕ) → get_or c.watch_columns.items d None ≡ None → watched d ≡ false
  unwatched_by d none = by (watched d) refl
    where
      by : (b : Bool) → watched d ≡ b → watched d ≡ false
      by false e = e
      by true e =
          let in_guarded = among_contained (guarded_told c) d (out.1.fits.watches d e) in
          let watch = map_among (λ (w : Watch). w.dir) c.watches.items d in_guarded in
          absurd (None≢Some _ (sym none ∙ ap (λ n. get_or c.watch_columns.items n None) (sym watch.2)
          ∙ out.1.watch_columns.all watch.0 (contained c.watches.items watch.0 watch.1)))

  module _ (row column : ℕ) (low : column < c.columns) where
    within : column < length cs
    within = subst (λ n. column < n) out.1.columns low

    at_row : (row * c.columns + column) / length cs ≡ row
    at_row = (λ z. (row * out.1.columns z + column) / length cs) ∙ div-mul-add row (length cs) column within

    at_column : (row * c.columns + column) % length cs ≡ column
    at_column = (λ z. (row * out.1.columns z + column) % length cs) ∙ mod-mul-add row (length cs) column within

    pub no_dir : (standing : List Bool) → AreStanding t (dirs_of c) standing → (d : ℕ) → slice_get es row ≡ Some (DirAt d) →
        get_or standing d false ≡ false → get_or c.watch_columns.items d None ≡ None → IsVoid row column
    no_dir standing are d is unmarked none count bit (reached told full all low_at new) =
        let below = entity_fits t table crew (devices_told c) watched (dirs_of c) (spots_told c) (guarded_told c) out.1.fits (DirAt d) (got_among es row (DirAt d) is) in
        let absent : is_dir t d ≡ false = sym (are d below) ∙ unmarked in
        let place : ℕ = row * c.columns + column in
        let s = said es cs place bit new.fact new.says in
        let here : s.entity ≡ DirAt d = same_some (sym s.in_rows ∙ (λ z. slice_get es (at_row z)) ∙ is) in
        never d absent (unwatched_by d none) (IsTold (layout_told c) told) new.fact s.column bit
        (subst (λ e. Says e s.column bit new.fact) here s.in_word) (λ a is_agent.
        contained crew a (column_fits t table crew (devices_told c) watched (dirs_of c) (spots_told c) (guarded_told c) out.1.fits (ByAgent a)
        (subst (Among cs) is_agent (got_among cs (place % length cs) s.column s.in_columns))))
        (means_reached t out.0 table crew watched enough (layout_told c) count (reached told full all low_at new) new.fact new.says)
        new.follows
      where
        same_some : {a b : Entity} → Some a ≡ Some b → a ≡ b
        same_some {a} {b} e = ap (λ o. entity_or a o) e
          where
            entity_or : Entity → Option Entity → Entity
            entity_or x None = x
            entity_or x (Some y) = y

    -- a word in which no bit says anything
    pub no_bits : (e : Option Entity) (k : Option Column) → slice_get es row ≡ e → slice_get cs column ≡ k →
        ((bit : ℕ) → bit_says e k bit ≡ None) → IsVoid row column
    no_bits e k is_row is_column none count bit (reached told full all low_at new) =
        None≢Some new.fact (sym (none bit)
        ∙ (λ z. bit_says (sym is_row z) (sym is_column z) bit)
        ∙ (λ z. bit_says (slice_get es (sym at_row z)) (slice_get cs (sym at_column z)) bit) ∙ new.says)

  -- of a number at which no directory stands and none is watched, no word has a fact; else those alone of processes, of all, or none
  module _ (row column : ℕ) (low : column < c.columns) (e : Option Entity) (is : slice_get es row ≡ e) where
    past_watch : (i : ℕ) → column ≡ length crew + suc i → IsOfName e → IsVoid row column
    past_watch i at of = by (slice_get (guarded_told c) i) refl
      where
        by : (o : Option ℕ) → slice_get (guarded_told c) i ≡ o → IsVoid row column
        by None none = no_bits row column low e None is (ap (slice_get cs) at ∙ guarded_column crew (guarded_told c) i ∙ ap (option_map Watching) none)
            (no_column e)
        by (Some y) some = no_bits row column low e (Some (Watching y)) is
            (ap (slice_get cs) at ∙ guarded_column crew (guarded_told c) i ∙ ap (option_map Watching) some) (no_bits_watch e y of)

    pub past_common : IsOfName e → length crew + 1 ≤ column → IsVoid row column
    past_common of more = past_watch (column - (length crew + 1)) (omega (arith, more)) of
