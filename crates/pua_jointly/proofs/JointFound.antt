-- What follows from facts that are kept is a fact; and where nothing more follows, all facts are kept, or follow at once.
use Rattle.pua_jointly.proofs.Common.{◌≡◌, ◌≢◌, ◌⊎◌, ◌==◌, ◌∙◌, ℕ, Bool, true, false, List, refl, sym, ap, subst, inl, inr, eqb-true, eq-eqb}
use Rattle.pua_jointly.proofs.Common.{false≢true, Some≢None, Some, None, [], Tree, WellFormed, CallTable, ProcessState, has_c, Cover, Only}
use Rattle.pua_jointly.proofs.Common.{New}
use Rattle.std.specs.Prelude.{IsTrue, IsFalse}
use Rattle.std.specs.List.{Contains}
use Rattle.pua_tree.specs.Tree.{device}
use Rattle.pua_jointly.specs.Jointly.{Hand, seat_device, source_device, Seat, Source, Old, Made, Fact, StandsIn, NotAbove, DirCover, NameCover, Free, WayIn}
use Rattle.pua_jointly.specs.Jointly.{is_standing, own_veil, name_veil, Can, stays_in, moved_in, born_in}
use Rattle.pua_jointly.specs.Jointly.{not_above_root, not_above_up, not_above_made, dir_own, dir_root, dir_within, name_own, name_within}
use Rattle.pua_jointly.specs.Jointly.{free_none, free_made, free_dir, free_other, way_in_by_c, way_in_by_name, way_in_by_turn, writes_at}
use Rattle.pua_jointly.specs.Jointly.{makes_at, stays_at, moved_at, born_at}
use Rattle.pua_jointly.specs.JointFacts.{Kept, Covers, Enters, Lands, Clear, LandsClear, Turns, Taken, Creates, Drops, Carries, can_carry, Means}
use Rattle.pua_jointly.specs.JointFacts.{IsOfCrew, WatchesEnough, Moves, IsClear, IsPlain, IsFreed, IsOver, over_own, over_within, Sits}
use Rattle.pua_jointly.specs.JointFacts.{sits_now, sits_moved, sits_born, Lies, lies_now, lies_born, lies_moved, Follows, covers_own, covers_root}
use Rattle.pua_jointly.specs.JointFacts.{covers_within, covers_moved, covers_apart, covers_born, lands_in, clear_root, clear_within, clear_moved}
use Rattle.pua_jointly.specs.JointFacts.{clear_apart, clear_born, lands_clear, enters_by_c, enters_by_name, enters_by_turn, enters_by_moved}
use Rattle.pua_jointly.specs.JointFacts.{turns_by, taken_dir, taken_other, creates_within, creates_at, drops_within, drops_at}
use Rattle.pua_jointly.specs.JointFacts.{Tells, carries_row, carries_born, carries_on, makes_under}
use Rattle.pua_jointly.proofs.JointlyClosed.{Closed, least}
use Rattle.pua_jointly.proofs.Unnamed.{unnamed}

abbrev pub seat_number : Seat → ℕ
seat_number (Old d) = d
seat_number (Made maker) = 0

abbrev is_old_seat : Seat → Bool
is_old_seat (Old d) = true
is_old_seat (Made maker) = false

pub made_other : (maker : Hand) (d : ℕ) → Made maker ≢ Old d
made_other maker d same = false≢true (ap is_old_seat same)

is_seat : (d : ℕ) (p : Seat) → (p ≡ Old d) ⊎ (p ≢ Old d)
is_seat d (Made maker) = inr (made_other maker d)
is_seat d (Old e) = by (e == d) refl
  where
    by : (b : Bool) → (e == d) ≡ b → (Old e ≡ Old d) ⊎ (Old e ≢ Old d)
    by true same = inl (ap Old (eqb-true e d same))
    by false differs = inr (λ same. false≢true (sym differs ∙ eq-eqb e d (ap seat_number same)))

module _ (t : Tree) (well : WellFormed t) (table : CallTable) (crew : List ProcessState) (watched : ℕ → Bool)
    (enough : WatchesEnough t table crew watched) where
  abbrev CanBe : Fact → Type 0
  CanBe fact = Can t table crew fact

  -- in each directory there is a name that can come to be free and that two processes have no veil at
  record BareName (d : Seat) (a b : ProcessState) : Type 0 where
    name : List ℕ
    free : CanBe (Free d name)
    first : name_veil a d name ≡ None
    second : name_veil b d name ≡ None

  bare_name : (d : Seat) (a b : ProcessState) → BareName d a b
  bare_name (Made maker) a b = record { name = []; free = free_made; first = refl; second = refl }
  bare_name (Old dir) a b =
      let n = unnamed t well dir a b in record { name = n.name; free = free_none n.free; first = n.first; second = n.second }

  cover_or_clear : (d : ℕ) (p : Seat) (a : ProcessState) (k : Cover) → CanBe (DirCover a p k) → (p ≢ Old d → CanBe (NotAbove (Old d) p)) →
      CanBe (NotAbove (Old d) p) ⊎ CanBe (DirCover a (Old d) k)
  cover_or_clear d p a k cov clear = elim (is_seat d p) [
    | inl same ↦ inr (subst (λ s. CanBe (DirCover a s k)) same cov)
    | inr other ↦ inl (clear other)
  ]

  own_clear : (d : ℕ) → IsFalse (watched d) → (a : ProcessState) → Contains crew a → (p : Seat) (perms : ℕ) → IsTrue (is_standing t p) →
      own_veil a p ≡ Some perms → p ≢ Old d → CanBe (NotAbove (Old d) p)
  own_clear d is a among (Old e) perms stands own other = enough.plain d e a perms is among stands own (λ same. other (ap Old same))
  own_clear d is a among (Made maker) perms stands own other = absurd (Some≢None perms (sym own))

  -- what covers a directory that a plain one can't be moved into covers the plain one, too
  apart : (d : ℕ) → IsFalse (watched d) → (a : ProcessState) → Contains crew a → (p : Seat) (k : Cover) → CanBe (DirCover a p k) →
      CanBe (NotAbove (Old d) p) ⊎ CanBe (DirCover a (Old d) k)
  apart d is a among p k (dir_own stands own) = cover_or_clear d p a k (dir_own stands own) (own_clear d is a among p _ stands own)
  apart d is a among p k (dir_root none) =
      cover_or_clear d p a k (dir_root none) (λ other. not_above_root (λ same. other (ap Old (sym same))))
  apart d is a among p k (dir_within up none sits cov) = elim (apart d is a among up k cov) [
    | inl clear ↦ cover_or_clear d p a k (dir_within up none sits cov) (λ other. not_above_up up other sits clear)
    | inr here ↦ inr here
  ]

  clear_or_clear : (d y : ℕ) (p : Seat) → CanBe (NotAbove (Old y) p) → (p ≢ Old d → CanBe (NotAbove (Old d) p)) →
      CanBe (NotAbove (Old d) p) ⊎ CanBe (NotAbove (Old y) (Old d))
  clear_or_clear d y p from clear = elim (is_seat d p) [
    | inl same ↦ inr (subst (λ s. CanBe (NotAbove (Old y) s)) same from)
    | inr other ↦ inl (clear other)
  ]

  -- nor does it change what is clear of another directory
  apart_from : (d y : ℕ) (p : Seat) → CanBe (NotAbove (Old y) p) → CanBe (NotAbove (Old d) p) ⊎ CanBe (NotAbove (Old y) (Old d))
  apart_from d y p (not_above_root root) =
      clear_or_clear d y p (not_above_root root) (λ other. not_above_root (λ same. other (ap Old (sym same))))
  apart_from d y p (not_above_up up differs sits rest) = elim (apart_from d y up rest) [
    | inl clear ↦ clear_or_clear d y p (not_above_up up differs sits rest) (λ other. not_above_up up other sits clear)
    | inr here ↦ inr here
  ]

  -- soundness, by each rule
  module _ (T : Kept → Type 0) (means : (x : Kept) → T x → Means t table crew x) where
    over : (a : ProcessState) (d : Seat) (name : List ℕ) (k : Cover) → IsOver t table crew watched T a d name k →
        CanBe (NameCover a d name k)
    over a d name k (over_own stands own) = name_own stands own
    over a d name k (over_within none cov) = name_within none (means (Covers a d k) cov)

    freed : (d : Seat) (name : List ℕ) → IsFreed t table crew watched T d name → CanBe (Free d name)
    freed (Old dir) name (inl none) = free_none none
    freed (Old dir) name (inr taken) = means (Taken dir name) taken
    freed (Made maker) name free = free_made

    way_in_at : (a : ProcessState) (dir : ℕ) (name : List ℕ) (k : Cover) → IsOver t table crew watched T a (Old dir) name k → IsTrue (has_c k) →
        IsFreed t table crew watched T (Old dir) name → CanBe (WayIn a (Old dir))
    way_in_at a dir name k (over_own stands own) has free = way_in_by_name name _ stands own has (freed (Old dir) name free)
    way_in_at a dir name k (over_within none cov) has free = way_in_by_c k (means (Covers a (Old dir) k) cov) has

    moved : (b : ProcessState) (d p : Seat) → Moves t table crew watched T b d → CanBe (WayIn b p) → CanBe (NotAbove d p) →
        seat_device t p ≡ seat_device t d → CanBe (StandsIn d p)
    moved b d p m way clear near = moved_in b m.cover m.among (means (Covers b d m.cover) m.covers) m.can way clear (sym near)

    covers_plain : (a b : ProcessState) (d : Seat) (k : Cover) → Contains crew a → own_veil a d ≡ None →
        IsPlain t table crew watched T d → Moves t table crew watched T b d → (p : Seat) → seat_device t p ≡ seat_device t d →
        CanBe (WayIn b p) → CanBe (DirCover a p k) → CanBe (DirCover a d k)
    covers_plain a b (Made maker) k among none plain m p near way cov =
        dir_within p none (moved b (Made maker) p m way not_above_made near) cov
    covers_plain a b (Old d) k among none plain m p near way cov = elim (apart d plain a among p k cov) [
      | inl clear ↦ dir_within p none (moved b (Old d) p m way clear near) cov
      | inr here ↦ here
    ]

    clear_plain : (y : ℕ) (b : ProcessState) (d : Seat) → d ≢ Old y → Moves t table crew watched T b d → (p : Seat) →
        seat_device t p ≡ seat_device t d → CanBe (WayIn b p) → CanBe (NotAbove (Old y) p) → CanBe (NotAbove (Old y) d)
    clear_plain y b (Made maker) other m p near way clear =
        not_above_up p other (moved b (Made maker) p m way not_above_made near) clear
    clear_plain y b (Old d) other m p near way clear = elim (apart_from d y p clear) [
      | inl apart_too ↦ not_above_up p other (moved b (Old d) p m way apart_too near) clear
      | inr here ↦ here
    ]

    pub sound : (x : Kept) → Follows t table crew watched T x → Means t table crew x
    sound (Covers a d k) (covers_own stands own) = dir_own stands own
    sound (Covers a d k) (covers_root none) = dir_root none
    sound (Covers a d k) (covers_within name none at is cov) = dir_within (Old _) none (stays_in name at is) (means _ cov)
    sound (Covers a d k) (covers_moved b among none plain m lands) =
        let l = means _ lands in covers_plain a b d k among none plain m l.0 l.1 l.2 l.3
    sound (Covers a d k) (covers_apart b p none is m enters clear cov near) =
        dir_within p none (moved b _ p m (means _ enters) (means _ clear) near) (means _ cov)
    sound (Covers a d k) (covers_born among makes lands) =
        let l = means _ lands in dir_within l.0 refl (born_in among (means _ makes) l.2 l.1) l.3
    sound (Lands by a k) (lands_in p near enters cov) = (p, near, means _ enters, means _ cov)
    sound (Clear y d) (clear_root is other) = not_above_root other
    sound (Clear y d) (clear_within name is other at lives clear) = not_above_up (Old _) other (stays_in name at lives) (means _ clear)
    sound (Clear y d) (clear_moved b is other plain m lands) =
        let l = means _ lands in clear_plain y b d other m l.0 l.1 l.2 l.3
    sound (Clear y d) (clear_apart b p is other watches m enters clear from near) =
        not_above_up p other (moved b _ p m (means _ enters) (means _ clear) near) (means _ from)
    sound (Clear y d) (clear_born is among makes lands) =
        let l = means _ lands in not_above_up l.0 (made_other _ y) (born_in among (means _ makes) l.2 l.1) l.3
    sound (LandsClear by y) (lands_clear p is near enters clear) = (p, near, means _ enters, means _ clear)
    sound (Enters a d) (enters_by_c k cov has) = way_in_by_c k (means _ cov) has
    sound (Enters a d) (enters_by_name {dir = dir} name puts) = way_in_at a dir name puts.cover puts.over puts.has puts.free
    sound (Enters a d) (enters_by_turn name watches turns at is near) = means _ turns _ near (stays_in name at is)
    sound (Enters a d) (enters_by_moved b is turns m enters clear near) =
        means _ turns d near (moved b _ d m (means _ enters) (means _ clear) near)
    sound (Turns a y) (turns_by perms other k own has empty cov can differs clear near) = λ d here sits.
        way_in_by_turn y perms other k sits own has (λ name x at. freed (Old y) name (empty name x at)) (means _ cov) can differs
        (means _ clear) here near
    sound (Taken dir name) (taken_dir a d k among may at is none cov has) = free_dir a d k among may at is none (means _ cov) has
    sound (Taken dir name) (taken_other a x k among may at is covers has) =
        free_other a x k among may at is (over a (Old dir) name k covers) has
    sound (Creates by new) (creates_within d k near cov made) =
        let n = bare_name d by.0 by.0 in makes_at d n.name k (name_within n.first (means _ cov)) n.free made near
    sound (Creates by new) (creates_at dir name k near covers free made) =
        makes_at (Old dir) name k (over by.0 (Old dir) name k covers) (freed (Old dir) name free) made near
    sound (Drops by a k) (drops_within d j near from has cov) =
        let n = bare_name d by.0 a in
        record {
          dir = d;
          name = n.name;
          near = near;
          writes = writes_at j (name_within n.first (means _ from)) has n.free;
          over = name_within n.second (means _ cov);
        }
    sound (Drops by a k) (drops_at dir name near puts covers) = record {
      dir = Old dir;
      name = name;
      near = near;
      writes = writes_at puts.cover (over by.0 (Old dir) name puts.cover puts.over) puts.has (freed (Old dir) name puts.free);
      over = over a (Old dir) name k covers;
    }
    sound (Carries r a) (carries_row x k among at is covers can) = record {
      among = among;
      dir = Old _;
      name = _;
      cover = k;
      stands = stays_at x at is;
      over = over a (Old _) _ k covers;
      can = can;
    }
    sound (Carries r a) (carries_born k among by makes drops can) =
        let p = means _ drops in
        record {
          among = among;
          dir = p.dir;
          name = p.name;
          cover = k;
          stands = born_at by (means _ makes) p.writes p.near;
          over = p.over;
          can = can;
        }
    sound (Carries r a) (carries_on b k among by carries drops can) =
        let c = means _ carries in
        let p = means _ drops in
        record {
          among = among;
          dir = p.dir;
          name = p.name;
          cover = k;
          stands = moved_at b c.dir c.name c.cover by c.stands c.over c.can p.writes (sym p.near);
          over = p.over;
          can = can;
        }

  -- completeness, by each rule
  module _ (T : Kept → Type 0) (closed : (x : Kept) → IsOfCrew crew x → Follows t table crew watched T x → T x) where
    moved_clear : (y : ℕ) (d p : Seat) → d ≢ Old y → (b : ProcessState) → Moves t table crew watched T b d → T (Enters b p) →
        IsClear t table crew watched T d p → seat_device t p ≡ seat_device t d → IsTrue (watched y) → T (Clear y p) → T (Clear y d)
    moved_clear y (Made maker) p other b m enters clear near is from =
        closed (Clear y (Made maker)) tt
        (clear_moved b is other tt m (closed (LandsClear (b, maker.1) y) m.among (lands_clear p is near enters from)))
    moved_clear y (Old d) p other b m enters clear near is from = by (watched d) refl
      where
        by : (w : Bool) → watched d ≡ w → T (Clear y (Old d))
        by true e = closed (Clear y (Old d)) tt (clear_apart b p is other e m enters (clear e) from near)
        by false e =
            closed (Clear y (Old d)) tt
            (clear_moved b is other e m (closed (LandsClear (b, device t d) y) m.among (lands_clear p is near enters from)))

    clear_up : (y : ℕ) (d p : Seat) → d ≢ Old y → Sits t table crew watched T d p → IsTrue (watched y) → T (Clear y p) → T (Clear y d)
    clear_up y d p other (sits_now name at lives) is from = closed _ tt (clear_within name is other at lives from)
    clear_up y d p other (sits_moved b m enters clear near) is from = moved_clear y d p other b m enters clear (sym near) is from
    clear_up y d p other (sits_born {by = by} among makes enters near) is from =
        closed _ tt (clear_born is among makes (closed (LandsClear by y) among (lands_clear p is near enters from)))

    moved_covers : (a : ProcessState) (d p : Seat) (k : Cover) → Contains crew a → own_veil a d ≡ None → (b : ProcessState) →
        Moves t table crew watched T b d → T (Enters b p) → IsClear t table crew watched T d p → seat_device t p ≡ seat_device t d →
        T (Covers a p k) → T (Covers a d k)
    moved_covers a (Made maker) p k among none b m enters clear near cov =
        closed (Covers a (Made maker) k) among
        (covers_moved b among none tt m (closed (Lands (b, maker.1) a k) (m.among, among) (lands_in p near enters cov)))
    moved_covers a (Old d) p k among none b m enters clear near cov = by (watched d) refl
      where
        by : (w : Bool) → watched d ≡ w → T (Covers a (Old d) k)
        by true e = closed (Covers a (Old d) k) among (covers_apart b p none e m enters (clear e) cov near)
        by false e = closed (Covers a (Old d) k) among
            (covers_moved b among none e m (closed (Lands (b, device t d) a k) (m.among, among) (lands_in p near enters cov)))

    covers_up : (a : ProcessState) (d p : Seat) (k : Cover) → Contains crew a → own_veil a d ≡ None → Sits t table crew watched T d p →
        T (Covers a p k) → T (Covers a d k)
    covers_up a d p k among none (sits_now name at lives) cov = closed _ among (covers_within name none at lives cov)
    covers_up a d p k among none (sits_moved b m enters clear near) cov = moved_covers a d p k among none b m enters clear (sym near) cov
    covers_up a d p k among none (sits_born {by = by} from makes enters near) cov =
        closed _ among (covers_born from makes (closed (Lands by a k) (from, among) (lands_in p near enters cov)))

    created : (by : Hand) (new : New) (d : Seat) (name : List ℕ) (k : Cover) → Contains crew by.0 →
        IsOver t table crew watched T by.0 d name k → IsFreed t table crew watched T d name → IsTrue (makes_under table by.0 new k) →
        seat_device t d ≡ by.1 → T (Creates by new)
    created by new d name k among (over_within none cov) free made near = closed (Creates by new) among (creates_within d k near cov made)
    created by new (Old dir) name k among (over_own stands own) free made near =
        closed (Creates by new) among (creates_at dir name _ near (over_own stands own) free made)
    created by new (Made maker) name k among (over_own stands own) free made near = absurd (Some≢None _ (sym own))

    dropped : (by : Hand) (a : ProcessState) (d : Seat) (name : List ℕ) (j k : Cover) → Contains crew by.0 × Contains crew a →
        seat_device t d ≡ by.1 → IsOver t table crew watched T by.0 d name j → IsTrue (has_c j) → IsFreed t table crew watched T d name →
        IsOver t table crew watched T a d name k → T (Drops by a k)
    dropped by a (Old dir) name j k both near puts has free covers =
        closed (Drops by a k) both (drops_at dir name near (record { cover = j; over = puts; has = has; free = free }) covers)
    dropped by a (Made maker) name j k both near (over_within none from) has free (over_within bare cov) =
        closed (Drops by a k) both (drops_within (Made maker) j near from has cov)
    dropped by a (Made maker) name j k both near (over_within none from) has free (over_own stands own) = absurd (Some≢None _ (sym own))
    dropped by a (Made maker) name j k both near (over_own stands own) has free covers = absurd (Some≢None _ (sym own))

    enters_name : (a : ProcessState) (d : Seat) (name : List ℕ) (perms : ℕ) → Contains crew a → IsTrue (is_standing t d) →
        name_veil a d name ≡ Some perms → IsTrue (has_c (Only perms)) → IsFreed t table crew watched T d name → T (Enters a d)
    enters_name a (Old dir) name perms among stands own has free =
        closed (Enters a (Old dir)) among
        (enters_by_name name (record { cover = Only perms; over = over_own stands own; has = has; free = free }))
    enters_name a (Made maker) name perms among stands own has free = absurd (Some≢None perms (sym own))

    turned_in : (a : ProcessState) (y : ℕ) (d : Seat) → Contains crew a → IsTrue (watched y) → T (Turns a y) →
        Sits t table crew watched T (Old y) d → seat_device t d ≡ device t y → T (Enters a d)
    turned_in a y d among is turns (sits_now name at lives) here = closed _ among (enters_by_turn name is turns at lives here)
    turned_in a y d among is turns (sits_moved b m enters clear near) here =
        closed (Enters a d) among (enters_by_moved b is turns m enters (clear is) here)

    carried : (a : ProcessState) (r : Source) (d : Seat) (name : List ℕ) (k : Cover) → Contains crew a → Lies t table crew watched T r d name →
        IsOver t table crew watched T a d name k → IsTrue (can_carry t table r a k) → T (Carries r a)
    carried a r d name k among (lies_now x at is) covers can = closed _ among (carries_row x k among at is covers can)
    carried a r d name k among (lies_born {by = by} from makes puts near) covers can =
        closed _ among
        (carries_born k among from makes (dropped by a d name puts.cover k (from, among) near puts.over puts.has puts.free covers) can)
    carried a r d name k among (lies_moved b from carries puts near) covers can =
        closed _ among (carries_on b k among from carries
        (dropped (b, source_device t r) a d name puts.cover k (from, among) (sym near) puts.over puts.has puts.free covers) can)

    all_told : Closed t table crew (Tells t table crew watched T)
    all_told = record {
      stays_in = λ name at is. sits_now name at is;
      moved_in = λ a k among cov can way clear near.
          sits_moved a (record { among = among; cover = k; covers = cov among; can = can }) (way among) clear near;
      born_in = λ among makes way near. sits_born among (makes among) (way among) near;
      not_above_root = λ other is. closed _ tt (clear_root is other);
      not_above_up = λ p other sits from is. clear_up _ _ p other sits is (from is);
      not_above_made = tt;
      dir_own = λ stands own among. closed _ among (covers_own stands own);
      dir_root = λ none among. closed _ among (covers_root none);
      dir_within = λ p none sits cov among. covers_up _ _ p _ among none sits (cov among);
      name_own = λ stands own among. over_own stands own;
      name_within = λ none cov among. over_within none (cov among);
      free_none = λ none. inl none;
      free_made = tt;
      free_dir = λ a d k among may at is none cov has. inr (closed _ tt (taken_dir a d k among may at is none (cov among) has));
      free_other = λ a x k among may at is covers has. inr (closed _ tt (taken_other a x k among may at is (covers among) has));
      way_in_by_c = λ k cov has among. closed _ among (enters_by_c k (cov among) has);
      way_in_by_name = λ name perms stands own has free among. enters_name _ _ name perms among stands own has free;
      way_in_by_turn = λ y perms other k sits own has empty cov can differs clear here near among.
          let is = enough.turned y _ perms among own has in
          turned_in _ y _ among is (closed (Turns _ y) among (turns_by perms other k own has empty (cov among) can differs (clear is) near)) sits
          here;
      writes_at = λ k covers has free among. record { cover = k; over = covers among; has = has; free = free };
      makes_at = λ d name k covers free made near among. created _ _ d name k among (covers among) free made near;
      stays_at = λ x at is. lies_now x at is;
      moved_at = λ a d name k among lies covers can puts near.
          lies_moved a among (carried a _ d name k among lies (covers among) can) (puts among) near;
      born_at = λ among makes puts near. lies_born among (makes among) (puts among) near;
    }

    pub complete : (fact : Fact) → CanBe fact → Tells t table crew watched T fact
    complete fact can = least t table crew (Tells t table crew watched T) all_told can
