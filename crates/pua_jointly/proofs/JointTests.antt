-- The calls that a joint list has on a thing are known of each thing: so there is a test that tells them.
use Rattle.pua_jointly.proofs.Common.{◌≡◌, ◌≢◌, ◌≤◌, ◌∙◌, ◌||◌, ◌&&◌, ◌==◌, ◌∷◌, [], ℕ, zero, suc, Bool, true, false, List, refl, sym, ap, subst}
use Rattle.pua_jointly.proofs.Common.{inl, inr, arith, not, Option, Some, None, None≢Some, same_Some, false≢true}
use Rattle.pua_jointly.proofs.Common.{eq-eqb, eqb-true, among_contained, contained, list_any, map_among, ProcessState, Tree, WellFormed, CallTable, Call, has}
use Rattle.pua_jointly.proofs.Common.{At, Others, Whole, Slot, Way, Stands, Comes, NewDir, NewOthers, NewFile, NewLink, NewSock, NewFifo, is_dir, keeps_link, look, Object}
use Rattle.pua_jointly.proofs.Common.{object_of_kind, lasting_dir, removable_dir, IsMissing, Cover}
use mir.Syntax.{w32}
use Rattle.std.specs.Prelude.{⊤, ◌+◌, ◌*◌, ◌%◌, ◌^◌, bit_or, get_or}
use Rattle.std.specs.List.{Contains}
use Rattle.std.proofs.lemmas.Nat.Bits.{bit_at_set_same, bit_at_set_other}
use Rattle.pua_path.specs.Fits.{is_link_kind}
use Rattle.pua_calls.specs.Calls.{call_count, calls}
use Rattle.pua_calls.specs.CallSets.{bit_of}
use Rattle.pua_calls.specs.declared.call.Call.TheVariants.{Stat}
use Rattle.pua_calls.proofs.ForCallers.{Decides, bit_below, bit_of_call_at, decides_all, decides_left, decides_none, decides_taken, has_none, same_bit}
use Rattle.pua_policy.specs.States.{perms_kept}
use Rattle.pua_policy.specs.Verdict.{Is, IsLink, IsProg}
use Rattle.pua_policy.specs.declared.place.Place.TheVariants as place
use Rattle.pua_ever.specs.Ever.{Thing, is_exec_call, new_object}
use Rattle.pua_jointly.specs.JointCalls.{AreCallsOf, AreCallsOfOne, AreFreeCalls, AreUnder, IsOf, free_allows}
use Rattle.pua_jointly.specs.JointCovers.{allows_under, numbered}
use Rattle.pua_jointly.specs.JointFound.{AreFacts, entry_word, made_words, new_covers, turns_in}
use Rattle.pua_jointly.specs.JointPrograms.{TellsOfOne}
use Rattle.pua_jointly.specs.JointRounds.{is_taken, stays_in as held_in}
use Rattle.pua_jointly.specs.JointSetup.{crew_told}
use Rattle.pua_jointly.specs.JointSides.{is_top}
use Rattle.pua_jointly.specs.Jointly.{Old, Made, Row, Maker, Fact, StandsIn, DirCover, StandsAt}
use Rattle.pua_jointly.specs.Jointly.{Can, stays_in, moved_in, born_in, not_above_root, not_above_up, not_above_made, dir_own, dir_root}
use Rattle.pua_jointly.specs.Jointly.{dir_within, name_own, name_within, free_none, free_made, free_dir, free_other, way_in_by_c, way_in_by_name}
use Rattle.pua_jointly.specs.Jointly.{way_in_by_turn, writes_at, makes_at, stays_at, moved_at, born_at, Shows, agents_of, as_started}
use Rattle.pua_jointly.specs.declared.agent.Agent.{Agent}
use Rattle.pua_jointly.specs.declared.crew.Crew.{Crew}
use Rattle.pua_jointly.specs.declared.crew.Entry.{Entry}
use Rattle.pua_jointly.specs.declared.facts.Facts.{Facts}
use Rattle.pua_jointly.proofs.JointAllowed.{shown}
use Rattle.pua_jointly.proofs.JointGroups.{one_alone, two_joined}
use Rattle.pua_jointly.proofs.JointPlaced.{Got}
use Rattle.pua_jointly.proofs.JointStarting.{EntryThere, entry_there}
use Rattle.pua_jointly.proofs.JointTold as told_by
use Rattle.pua_jointly.proofs.JointTold.{agent_is}

-- ---- the calls that pass a test are a set

module _ (set : ℕ) (here : Call) where
  abbrev with_call : ℕ
  with_call = bit_or set (1 * 2 ^ bit_of here % 4294967296)

  has_here : has with_call here ≡ true
  has_here = ap (λ n. n == 1) (bit_at_set_same w32 set (bit_of here) (omega (arith, bit_below here)))

  has_others : (other : Call) → other ≢ here → has with_call other ≡ has set other
  has_others other apart =
      ap (λ n. n == 1) (bit_at_set_other w32 set (bit_of here) (omega (arith, bit_below here)) (bit_of other)
      (λ e. apart (same_bit other here e)))

module _ (f : Call → Bool) where
  passing : (n : ℕ) → n ≤ call_count → (set : ℕ) × Decides f set n
  passing zero low = (0, decides_none f)
  passing (suc n) low =
      let so = passing n (omega (arith, low)) in
      by so.0 (get_or calls n Stat) (bit_of_call_at n (omega (arith, low))) so.1 (f (get_or calls n Stat)) refl
    where
      more : n + 1 ≡ suc n
      more = omega arith

      by : (set : ℕ) (here : Call) → bit_of here ≡ n → Decides f set n → (b : Bool) → f here ≡ b → (next : ℕ) × Decides f next (suc n)
      by set here at so false fails = (set, subst (Decides f set) more (decides_left f set n here at so fails))
      by set here at so true passes = (
        with_call set here,
        subst (Decides f (with_call set here)) more
            (decides_taken f set n here at so (with_call set here) passes (has_here set here) (has_others set here)),
      )

  pub set_of : (set : ℕ) × ((call : Call) → has set call ≡ f call)
  set_of =
      let all = passing call_count (omega arith) in
      (all.0, decides_all f all.0 call_count all.1 (omega arith))

-- ---- what comes under a cover stands in the tree

module _ (t : Tree) (well : WellFormed t) (table : CallTable) (crew : List ProcessState) where
  abbrev Lives : Fact → Type 0
  Lives (StandsIn (Old d) p) = is_dir t d ≡ true
  Lives (DirCover a (Old d) k) = is_dir t d ≡ true
  Lives (StandsAt (Row spot) d name) = (x : ℕ) × (look t spot.0 spot.1 ≡ Some x) × (is_dir t x ≡ false)
  Lives _ = ⊤

  lives : {fact : Fact} → Can t table crew fact → Lives fact
  lives (stays_in name at is) = is
  lives (moved_in {d = Old d} a k among over can way apart near) = lives over
  lives (moved_in {d = Made m} a k among over can way apart near) = tt
  lives (born_in among makes way near) = tt
  lives (not_above_root other) = tt
  lives (not_above_up p other stands apart) = tt
  lives (not_above_made) = tt
  lives (dir_own {d = Old d} is own) = is
  lives (dir_own {d = Made m} is own) = tt
  lives (dir_root none) = well.root
  lives (dir_within {d = Old d} p none stands over) = lives stands
  lives (dir_within {d = Made m} p none stands over) = tt
  lives (name_own is own) = tt
  lives (name_within none over) = tt
  lives (free_none none) = tt
  lives (free_made) = tt
  lives (free_dir a d k among may at is none over c) = tt
  lives (free_other a x k among may at is over c) = tt
  lives (way_in_by_c k over c) = tt
  lives (way_in_by_name name perms is own c free) = tt
  lives (way_in_by_turn y perms other k stands own c free over can apart clear near same) = tt
  lives (writes_at k over c free) = tt
  lives (makes_at d name k over free makes near) = tt
  lives (stays_at x at other) = (x, at, other)
  lives (moved_at {r = Row spot} a d name k among stands over can writes near) = lives stands
  lives (moved_at {r = Maker new m} a d name k among stands over can writes near) = tt
  lives (born_at among makes writes near) = tt

  module _ (a : ProcessState) where
    -- what never shows itself has no calls
    nothing : (thing : Thing) → ((k : Cover) (o : Object) → Shows t table crew a thing k o → ⊥) → AreCallsOf t table crew a thing 0
    nothing thing never = record {
      all = λ call listed. elim listed [
        | inl can ↦ absurd (never can.cover can.object can.shows)
        | inr program ↦ absurd (never program.1.cover (Is program.1.is) program.1.shows)
      ];
      only = λ call e. absurd (false≢true (sym (has_none call) ∙ e));
    }

    no_dir : (d : ℕ) (way : Way) → is_dir t d ≡ false → AreCallsOf t table crew a (Stands (At (Whole d way))) 0
    no_dir d way none =
        nothing (Stands (At (Whole d way))) (λ k o shows. false≢true (sym none ∙ lives (shown t table crew a shows).0))

    no_others : (d : ℕ) → is_dir t d ≡ false → AreCallsOf t table crew a (Stands (Others d)) 0
    no_others d none = nothing (Stands (Others d)) (λ k o shows. false≢true (sym none ∙ lives (shown t table crew a shows).0))

    no_name : (dir : ℕ) (name : List ℕ) → is_dir t dir ≡ false → AreCallsOf t table crew a (Stands (At (Slot dir name None))) 0
    no_name dir name none =
        nothing (Stands (At (Slot dir name None))) (λ k o shows. false≢true (sym none ∙ (shown t table crew a shows).1))

    -- another thing stands there, or a directory
    no_row : (dir : ℕ) (name : List ℕ) (x : ℕ) → (look t dir name ≡ Some x → is_dir t x ≡ false → ⊥) →
        AreCallsOf t table crew a (Stands (At (Slot dir name (Some x)))) 0
    no_row dir name x never =
        nothing (Stands (At (Slot dir name (Some x)))) (λ k o shows.
        let s = shown t table crew a shows in
        let row = lives s.1.stands in
        never s.0 (ap (is_dir t) (same_Some x row.0 (sym s.0 ∙ row.1)) ∙ row.2))

-- ---- the calls on each thing

module _ (t : Tree) (table : CallTable) (crew : List ProcessState) (facts : Facts) (a : ProcessState) (of : Agent)
    (is : IsOf t table crew facts a of) where
  abbrev c : Crew
  c = facts.crew

  abbrev words : List ℕ
  words = facts.told.items

  abbrev are : AreFacts t table crew facts
  are = is.facts_are

  well : WellFormed t
  well = are.worked.0

  abbrev Known : Thing → Type 0
  Known thing = (calls : ℕ) × AreCallsOf t table crew a thing calls

  under : (covers : ℕ) (object : Object) → (calls : ℕ) × AreUnder table a covers object calls
  under covers object = set_of (λ call. list_any (allows_under table a covers object call) (numbered 18))

  free : (dir : ℕ) (name : List ℕ) → (calls : ℕ) × AreFreeCalls table a dir name calls
  free dir name = set_of (λ call. free_allows table a (perms_kept a (place.Slot dir name)) call)

  -- on a directory
  on_dir : (d : ℕ) (way : Way) → Known (Stands (At (Whole d way)))
  on_dir d way = by (is_dir t d) refl
    where
      standing : is_dir t d ≡ true → (first stays : Bool) → is_top c.devices.items d ≡ first → list_any (held_in c.columns c.shape.agents words d) c.entries.items ≡ stays →
          Known (Stands (At (Whole d way)))
      standing lives true stays first held =
          let one = under (told_by.dir_word t table crew facts a of is d) lasting_dir in (
            one.0,
            told_by.lasting_calls t table crew facts a of is d way one.0 lives
                (λ other none free. false≢true (sym (told_by.not_first t table crew facts a of is d lives other none) ∙ first)) one.1,
          )
      standing lives false true first held =
          let one = under (told_by.dir_word t table crew facts a of is d) lasting_dir in (
            one.0,
            told_by.lasting_calls t table crew facts a of is d way one.0 lives (λ other none free. false≢true (ap not (sym held) ∙ free)) one.1,
          )
      standing lives false false first held =
          let one = under (told_by.dir_word t table crew facts a of is d) lasting_dir in
          let two = under (told_by.dir_word t table crew facts a of is d) removable_dir in
          let both = set_of (λ call. has one.0 call || has two.0 call) in
          let plain = told_by.first_not t table crew facts a of is d lives first in (
            both.0,
            told_by.emptied_calls t table crew facts a of is d way one.0 two.0 both.0 lives
                plain.0 plain.1 (ap not held) one.1 two.1 both.1,
          )

      by : (b : Bool) → is_dir t d ≡ b → Known (Stands (At (Whole d way)))
      by false none = (0, no_dir t well table crew a d way none)
      by true lives = standing lives (is_top c.devices.items d) (list_any (held_in c.columns c.shape.agents words d) c.entries.items) refl refl

  on_others : (d : ℕ) → Known (Stands (Others d))
  on_others d = by (is_dir t d) refl
    where
      by : (b : Bool) → is_dir t d ≡ b → Known (Stands (Others d))
      by false none = (0, no_others t well table crew a d none)
      by true lives =
          let one = under (told_by.dir_word t table crew facts a of is d) IsMissing in
          (one.0, told_by.others_calls t table crew facts a of is d one.0 lives one.1)

  -- on what stands at a name
  on_row : (dir : ℕ) (name : List ℕ) (x : ℕ) → Known (Stands (At (Slot dir name (Some x))))
  on_row dir name x = by (look t dir name) refl (is_dir t x) refl
    where
      standing : look t dir name ≡ Some x → is_dir t x ≡ false → Known (Stands (At (Slot dir name (Some x))))
      standing here other = at_thing (turned (list_any (turns_in c words entry.node) c.entries.items) refl)
        where
          there : EntryThere t table crew facts a of is dir name x
          there = entry_there t table crew facts a of is dir name x here

          entry : Entry
          entry = there.entry

          place_of : Got c.entries.items entry
          place_of = told_by.place_of_entry t table crew facts a of is entry there.among

          plain : is_dir t entry.node ≡ false
          plain = ap (is_dir t) there.node_is ∙ other

          thing : Thing
          thing = Stands (At (Slot entry.dir entry.name.now (Some entry.node)))

          at_thing : Known thing → Known (Stands (At (Slot dir name (Some x))))
          at_thing known = (
            known.0,
            subst (λ (s : Thing). AreCallsOf t table crew a s known.0)
                (λ z. Stands (At (Slot (there.dir_is z) (there.name_is z) (Some (there.node_is z))))) known.1,
          )

          turned : (b : Bool) → list_any (turns_in c words entry.node) c.entries.items ≡ b → Known thing
          turned false none =
              let one = under (entry_word c words of entry) (object_of_kind (Some entry.kind)) in
              let kept = set_of (λ call. (keeps_link call || not (is_link_kind (Some entry.kind))) && has one.0 call) in (
                kept.0,
                told_by.kind_calls t table crew facts a of is place_of.at entry place_of.is plain
                    (λ turn. false≢true (sym none ∙ told_by.turned_has t table crew facts are entry.node turn)) one.0 kept.0 one.1 kept.1,
              )
          turned true some =
              let one = under (entry_word c words of entry) (object_of_kind (Some entry.kind)) in
              let two = under (entry_word c words of entry) IsProg in
              let both = set_of (λ call. has one.0 call || (is_exec_call call && has two.0 call)) in (
                both.0,
                told_by.turned_calls t table crew facts a of is place_of.at entry place_of.is plain
                    (told_by.turned_means t table crew facts are entry.node some) one.0 two.0 both.0 one.1 two.1 both.1,
              )

      by : (o : Option ℕ) → look t dir name ≡ o → (b : Bool) → is_dir t x ≡ b → Known (Stands (At (Slot dir name (Some x))))
      by None none b e = (0, no_row t well table crew a dir name x (λ here other. None≢Some x (sym none ∙ here)))
      by (Some y) here true e = (0, no_row t well table crew a dir name x (λ at other. false≢true (sym other ∙ e)))
      by (Some y) here false e = same (y == x) refl
        where
          same : (b : Bool) → (y == x) ≡ b → Known (Stands (At (Slot dir name (Some x))))
          same true is_x = standing (here ∙ ap Some (eqb-true y x is_x)) e
          same false other = (
            0,
            no_row t well table crew a dir name x
                (λ at plain. false≢true (sym other ∙ eq-eqb y x (same_Some y x (sym here ∙ at)))),
          )

  -- on a name once nothing stands there
  on_name : (dir : ℕ) (name : List ℕ) → Known (Stands (At (Slot dir name None)))
  on_name dir name = by (is_dir t dir) refl (look t dir name) refl
    where
      own : (calls : ℕ) × AreFreeCalls table a dir name calls
      own = free dir name

      taken : is_dir t dir ≡ true → (x : ℕ) → look t dir name ≡ Some x → Known (Stands (At (Slot dir name None)))
      taken lives x here = held (is_taken c.columns c.shape.agents words there.entry.row) refl
        where
          there : EntryThere t table crew facts a of is dir name x
          there = entry_there t table crew facts a of is dir name x here

          held : (b : Bool) → is_taken c.columns c.shape.agents words there.entry.row ≡ b → Known (Stands (At (Slot dir name None)))
          held true e = (
            own.0,
            told_by.as_freed t table crew facts a of is dir name there.entry there.among (λ z. (there.dir_is z, there.name_is z)) e lives own.0 own.1,
          )
          held false e = (
            0,
            told_by.as_held t table crew facts a of is dir name there.entry there.among (λ z. (there.dir_is z, there.name_is z)) e 0 has_none,
          )

      by : (b : Bool) → is_dir t dir ≡ b → (o : Option ℕ) → look t dir name ≡ o → Known (Stands (At (Slot dir name None)))
      by false none o e = (0, no_name t well table crew a dir name none)
      by true lives None none = (own.0, told_by.missing_calls t table crew facts a of is dir name lives none own.0 own.1)
      by true lives (Some x) here = taken lives x here

  -- on what can be made
  on_new_dir : Known (Comes NewDir)
  on_new_dir =
      let one = under (made_words c words of) removable_dir in (one.0, told_by.made_dir_calls t table crew facts a of is one.0 one.1)

  on_new_others : Known (Comes NewOthers)
  on_new_others =
      let one = under (made_words c words of) IsMissing in (one.0, told_by.made_others_calls t table crew facts a of is one.0 one.1)

  on_new_file : Known (Comes NewFile)
  on_new_file =
      let one = under (new_covers c words of NewFile) (new_object table NewFile) in
      let two = under (new_covers c words of NewFile) IsProg in
      let both = set_of (λ call. has one.0 call || (is_exec_call call && has two.0 call)) in
      (both.0, told_by.made_file_calls t table crew facts a of is one.0 two.0 both.0 one.1 two.1 both.1)

  on_new_link : Known (Comes NewLink)
  on_new_link =
      let one = under (new_covers c words of NewLink) IsLink in
      let kept = set_of (λ call. has one.0 call && keeps_link call) in
      (kept.0, told_by.made_link_calls t table crew facts a of is one.0 kept.0 one.1 kept.1)

  on_new_sock : Known (Comes NewSock)
  on_new_sock =
      let one = under (new_covers c words of NewSock) (new_object table NewSock) in
      (one.0, told_by.made_sock_calls t table crew facts a of is one.0 one.1)

  on_new_fifo : Known (Comes NewFifo)
  on_new_fifo =
      let one = under (new_covers c words of NewFifo) (new_object table NewFifo) in
      (one.0, told_by.made_fifo_calls t table crew facts a of is one.0 one.1)

  pub known_of : (thing : Thing) → Known thing
  known_of (Stands (At (Whole d way))) = on_dir d way
  known_of (Stands (At (Slot dir name (Some x)))) = on_row dir name x
  known_of (Stands (At (Slot dir name None))) = on_name dir name
  known_of (Stands (Others d)) = on_others d
  known_of (Comes NewDir) = on_new_dir
  known_of (Comes NewOthers) = on_new_others
  known_of (Comes NewFile) = on_new_file
  known_of (Comes NewLink) = on_new_link
  known_of (Comes NewSock) = on_new_sock
  known_of (Comes NewFifo) = on_new_fifo

-- ---- the test

module _ (t : Tree) (table : CallTable) (crew : List ProcessState) (facts : Facts) (are : AreFacts t table crew facts) where
  agent_among : (a : ProcessState) → Contains crew a → (of : Agent) × IsOf t table crew facts a of
  agent_among a among =
      let who = map_among (λ (agent : Agent). agent.process.now) facts.crew.agents.items a
      (among_contained (crew_told facts.crew) a (are.members.there a among)) in
      (who.0, agent_is t table crew facts a who.0 are (contained facts.crew.agents.items who.0 who.1) who.2)

  -- of one of them, and of one and what it starts
  of_one : (a : ProcessState) → Contains crew a → (thing : Thing) → (calls : ℕ) × AreCallsOf t table crew a thing calls
  of_one a among = let one = agent_among a among in known_of t table crew facts a one.0 one.1

  of_group : (a : ProcessState) (given : Option ℕ) → ((h : ProcessState) → Contains (agents_of (a, given)) h → Contains crew h) →
      (thing : Thing) → (calls : ℕ) × AreCallsOfOne t table crew (agents_of (a, given)) thing calls
  of_group a None within thing =
      let own = of_one a (within a (contained (a ∷ []) a (inl refl))) thing in (own.0, one_alone t table crew a thing own.0 own.1)
  of_group a (Some g) within thing =
      let own = of_one a (within a (contained (a ∷ as_started a g ∷ []) a (inl refl))) thing in
      let started = of_one (as_started a g)
      (within (as_started a g) (contained (a ∷ as_started a g ∷ []) (as_started a g) (inr (inl refl)))) thing in
      let both = set_of (λ call. has own.0 call || has started.0 call) in
      (both.0, two_joined t table crew a g thing own.0 started.0 both.0 own.1 started.1 both.1)

  pub group_tested : (a : ProcessState) (given : Option ℕ) → ((h : ProcessState) → Contains (agents_of (a, given)) h → Contains crew h) →
      (test : Thing → Call → Bool) × TellsOfOne t table crew (agents_of (a, given)) test
  group_tested a given within = (
    λ thing call. has (of_group a given within thing).0 call,
    record {
      all = λ thing call. (of_group a given within thing).1.all call;
      only = λ thing call. (of_group a given within thing).1.only call;
      each = λ h among. (
        λ thing call. has (of_one h (within h among) thing).0 call,
        record {
          all = λ thing call. (of_one h (within h among) thing).1.all call;
          only = λ thing call. (of_one h (within h among) thing).1.only call;
        },
      );
    },
  )
