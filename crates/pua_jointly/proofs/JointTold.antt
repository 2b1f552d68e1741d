-- The calls under the covers that were found of a thing are those that can ever be allowed on it.
use Rattle.pua_jointly.proofs.Common.{◌≡◌, ◌≢◌, ◌<◌, ◌∙◌, ◌||◌, ◌&&◌, ℕ, Bool, true, false, List, refl, sym, ap, subst, not, Option, Some, None, None≢Some}
use Rattle.pua_jointly.proofs.Common.{ProcessState, Cover, Tree, CallTable, Call, Object, At, Others, Whole, Slot, Way, Stands, Comes, same_Some}
use Rattle.pua_jointly.proofs.Common.{NewDir, NewOthers, NewFile, NewLink, NewSock, NewFifo, covered_verdict, is_allowed, empty_tree, false≢true, has, IsMissing}
use Rattle.pua_jointly.proofs.Common.{is_dir, kind_at, keeps_link, list_any, look, object_of_kind, lasting_dir, removable_dir}
use Rattle.pua_jointly.proofs.Common.{◌==◌, Spot, among_contained, contained, eq-eqb, eqb-true, and_parts, is_some, option_eq, own_spot, Subject}
use Rattle.pua_jointly.proofs.Common.{◌⊎◌, Among, among_map, and_from, inl, inr, is_dir_kind, map_among, or_left, or_right}
use Rattle.pua_objects.specs.Items.{SubjectFits}
use Rattle.pua_path.specs.Fits.{is_link_kind}
use Rattle.pua_policy.specs.States.{perms_kept}
use Rattle.pua_policy.specs.declared.place.Place.TheVariants as place
use Rattle.std.specs.Prelude.{get_or, slice_get}
use Rattle.std.specs.Int.{bit_at}
use Rattle.std.specs.BTreeSet.{contains}
use Rattle.std.specs.List.{Contains}
use Rattle.std.specs.Ordering.{nat_cmp}
use Rattle.pua_policy.specs.Verdict.{Is, IsFile, IsLink, IsProg, FoundFits}
use Rattle.pua_jointly.specs.Closing.{has_bit}
use Rattle.pua_ever.specs.Ever.{Thing, is_exec_call, may_start, may_start_at, new_kind, new_object}
use Rattle.pua_jointly.specs.JointCalls.{AreAllowedOf, AreCallsOf, AreFreeCalls, AreUnder, IsOf}
use Rattle.pua_jointly.specs.JointCovers.{AreCallsByCover, allows_under, numbered}
use Rattle.pua_jointly.specs.JointFound.{AreFacts, entry_word, made_words, new_covers, turned_by, turns_in}
use Rattle.pua_jointly.specs.JointPlace.{cover_bit}
use Rattle.pua_jointly.specs.Jointly.{CanTurn, IsJointlyAllowed, IsTurned, IsTurnedByCall, Shows, is_link_thing, is_turned_open}
use Rattle.pua_jointly.specs.Jointly.{sends_to_set, turning_by}
use Rattle.pua_jointly.specs.Jointly.{shows_dir, shows_emptied, shows_others, shows_row, shows_new_dir, shows_new_others, shows_new_file}
use Rattle.pua_jointly.specs.Jointly.{shows_new_link, shows_new_sock, shows_new_fifo, free_none}
use Rattle.pua_jointly.specs.JointRounds.{is_taken, stays_in}
use Rattle.pua_jointly.specs.JointSetting.{entry_of}
use Rattle.pua_jointly.specs.JointSetup.{crew_told, dirs_of}
use Rattle.pua_jointly.specs.JointWords.{IsAgent, covers_in, has_named, meets, word_at}
use Rattle.pua_jointly.specs.declared.agent.Agent.{Agent}
use Rattle.pua_jointly.specs.declared.crew.Crew.{Crew}
use Rattle.pua_jointly.specs.declared.crew.Entry.{Entry}
use Rattle.pua_jointly.specs.declared.facts.Facts.{Facts}
use Rattle.pua_tree.specs.Tree.{is_mount}
use Rattle.pua_jointly.specs.JointSides.{is_top}
use Rattle.pua_jointly.proofs.Devices.{below_plain, plain_below}
use Rattle.pua_jointly.proofs.JointAllowed as allow
use Rattle.pua_jointly.proofs.JointAllowed.{TellsUnder}
use Rattle.pua_jointly.proofs.JointPlaced.{Got, among_got, got_among}
use Rattle.pua_jointly.proofs.JointShown as show
use Rattle.pua_jointly.proofs.JointShown.{IsUnder, under_has, under_means}
use Rattle.pua_jointly.proofs.JointWords.{cover_of, either_true, meets_by, meets_some}
use Rattle.pua_jointly.proofs.JointlyGrows.{joint_lists_grow}
use Rattle.pua_ever.proofs.ForCallers.{standing_there, file_starts, start_no_dir, start_no_link}
use Rattle.pua_jointly.proofs.JointAlike.{turning_allowed}
use Rattle.pua_ever.proofs.ForCallers.{any_among, any_found}

-- by the same process and the same word
pub under_by : (table : CallTable) (h a : ProcessState) (w v : ℕ) (object : Object) (calls : ℕ) → h ≡ a → w ≡ v →
    AreUnder table h w object calls → AreUnder table a v object calls
under_by table h a w v object calls same word under = λ call.
    under call ∙ (λ z. list_any (allows_under table (same z) (word z) object call) (numbered 18))

module _ (t : Tree) (table : CallTable) (crew : List ProcessState) (facts : Facts) (a : ProcessState) (of : Agent)
    (is : IsOf t table crew facts a of) where
  abbrev c : Crew
  c = facts.crew

  abbrev told : List ℕ
  told = facts.told.items

  abbrev all : List ProcessState
  all = crew_told facts.crew

  abbrev are : AreFacts t table crew facts
  are = is.facts_are

  -- its calls under each cover
  pub calls_known : AreCallsByCover table of.process.now of.calls.items
  calls_known = (show.is_agent t table facts.crew are.worked facts.told.items are.full are.closed are.has is.at of.process.now of is.got refl).calls

  -- and whether it has a veil at a name
  pub named_known : of.named ≡ has_named a
  named_known = (show.is_agent t table facts.crew are.worked facts.told.items are.full are.closed are.has is.at a of is.got is.process).named

  -- of equal processes there is one
  for_crew : (thing : Thing) (calls : ℕ) → AreCallsOf t table all a thing calls → AreCallsOf t table crew a thing calls
  for_crew thing calls tells = record {
    all = λ call can. tells.all call (joint_lists_grow t table crew all are.members.there a thing call can);
    only = λ call e. joint_lists_grow t table all crew are.members.back a thing call (tells.only call e);
  }

  -- the same of what can't be made a program
  plain_crew : (thing : Thing) (calls : ℕ) → (CanTurn t table all thing → ⊥) → AreAllowedOf t table all a thing calls →
      AreCallsOf t table crew a thing calls
  plain_crew thing calls never tells = for_crew thing calls (allow.listed_plain t table all a thing calls never tells)

  -- at a name where it has no veil of its own
  pub unnamed_calls : (dir : ℕ) (name : List ℕ) → perms_kept a (place.Slot dir name) ≡ None → (calls : ℕ) →
      ((call : Call) → has calls call ≡ false) → AreCallsOf t table crew a (Stands (At (Slot dir name None))) calls
  unnamed_calls dir name own calls none =
      plain_crew (Stands (At (Slot dir name None))) calls (λ none. none)
      (allow.no_calls t table all a (Stands (At (Slot dir name None))) calls
      (λ k o shows. let s = allow.shown t table all a shows in None≢Some s.0 (sym own ∙ s.2)) none)

  abbrev pub dir_word : ℕ → ℕ
  dir_word d = covers_in (word_at told c.columns d of.place)

  dir_under : (d : ℕ) (way : Way) (calls : ℕ) → is_dir t d ≡ true → AreUnder table a (dir_word d) lasting_dir calls →
      TellsUnder t table all a (Stands (At (Whole d way))) lasting_dir calls
  dir_under d way calls lives under =
      let low = show.dir_low t table c are.worked told are.full are.closed are.has is.at a of is.got is.process d lives in
      allow.under_tells t table all a (Stands (At (Whole d way))) lasting_dir (dir_word d) calls under
      (λ k small held. shows_dir (show.dir_means t table c are.worked told are.full are.closed are.has is.at a of is.got is.process d low k small held))
      (λ k shows. show.dir_has t table c are.worked told are.full are.closed are.has is.at a of is.got is.process d k (allow.shown t table all a shows).0)

  removed_under : (d : ℕ) (way : Way) (calls : ℕ) → is_dir t d ≡ true → d ≢ 0 → is_mount t d ≡ false → allow.IsEmptied t table all a d →
      AreUnder table a (dir_word d) removable_dir calls → TellsUnder t table all a (Stands (At (Whole d way))) removable_dir calls
  removed_under d way calls lives other none free under =
      let low = show.dir_low t table c are.worked told are.full are.closed are.has is.at a of is.got is.process d lives in
      allow.under_tells t table all a (Stands (At (Whole d way))) removable_dir (dir_word d) calls under
      (λ k small held. shows_emptied other none
      (show.dir_means t table c are.worked told are.full are.closed are.has is.at a of is.got is.process d low k small held) free)
      (λ k shows. show.dir_has t table c are.worked told are.full are.closed are.has is.at a of is.got is.process d k (allow.shown t table all a shows).0)

  -- the first directory of its device is the root or a mount point
  pub not_first : (d : ℕ) → is_dir t d ≡ true → d ≢ 0 → is_mount t d ≡ false → is_top c.devices.items d ≡ false
  not_first d lives other none =
      plain_below t are.worked.0 (dirs_of c) c.devices.items are.worked.1.on_devices d
      (show.dir_low t table c are.worked told are.full are.closed are.has is.at a of is.got is.process d lives) other none

  pub first_not : (d : ℕ) → is_dir t d ≡ true → is_top c.devices.items d ≡ false → (d ≢ 0) × (is_mount t d ≡ false)
  first_not d lives below =
      below_plain t are.worked.0 (dirs_of c) c.devices.items are.worked.1.on_devices d
      (show.dir_low t table c are.worked told are.full are.closed are.has is.at a of is.got is.process d lives) lives below

  -- something stays in a directory
  pub held_is : (d : ℕ) → is_dir t d ≡ true → get_or facts.held.items d false ≡ list_any (stays_in c.columns c.shape.agents told d) c.entries.items
  held_is d lives =
      are.held d (show.dir_low t table c are.worked told are.full are.closed are.has is.at a of is.got is.process d lives)

  -- of a directory that stays
  pub lasting_calls : (d : ℕ) (way : Way) (calls : ℕ) → is_dir t d ≡ true →
      (d ≢ 0 → is_mount t d ≡ false → not (list_any (stays_in c.columns c.shape.agents told d) c.entries.items) ≡ true → ⊥) → AreUnder table a (dir_word d) lasting_dir calls →
      AreCallsOf t table crew a (Stands (At (Whole d way))) calls
  lasting_calls d way calls lives stays under =
      plain_crew (Stands (At (Whole d way))) calls (λ none. none)
      (allow.dir_lasts t table all a d way calls
      (λ other none free. stays other none (show.emptied_has t table c are.worked told are.full are.closed are.has is.at a of is.got is.process d free))
      (dir_under d way calls lives under))

  -- of one that can be emptied
  pub emptied_calls : (d : ℕ) (way : Way) (first second calls : ℕ) → is_dir t d ≡ true → d ≢ 0 → is_mount t d ≡ false →
      not (list_any (stays_in c.columns c.shape.agents told d) c.entries.items) ≡ true → AreUnder table a (dir_word d) lasting_dir first →
      AreUnder table a (dir_word d) removable_dir second → ((call : Call) → has calls call ≡ (has first call || has second call)) →
      AreCallsOf t table crew a (Stands (At (Whole d way))) calls
  emptied_calls d way first second calls lives other none free under_first under_second both =
      plain_crew (Stands (At (Whole d way))) calls (λ none. none)
      (allow.dir_emptied t table all a d way first second calls (dir_under d way first lives under_first)
      (removed_under d way second lives other none
      (show.emptied_means t table c are.worked told are.full are.closed are.has is.at a of is.got is.process d free) under_second) both)

  -- of further names
  pub others_calls : (d calls : ℕ) → is_dir t d ≡ true → AreUnder table a (dir_word d) IsMissing calls → AreCallsOf t table crew a (Stands (Others d)) calls
  others_calls d calls lives under =
      let low = show.dir_low t table c are.worked told are.full are.closed are.has is.at a of is.got is.process d lives in
      plain_crew (Stands (Others d)) calls (λ none. none)
      (allow.one_object t table all a (Stands (Others d)) IsMissing calls refl (λ k o shows. (allow.shown t table all a shows).1)
      (allow.under_tells t table all a (Stands (Others d)) IsMissing (dir_word d) calls under
      (λ k small held. shows_others (show.dir_means t table c are.worked told are.full are.closed are.has is.at a of is.got is.process d low k small held))
      (λ k shows. show.dir_has t table c are.worked told are.full are.closed are.has is.at a of is.got is.process d k (allow.shown t table all a shows).0)))

  -- of what one makes: a directory, and its names
  pub made_dir_calls : (calls : ℕ) → AreUnder table a (made_words c told of) removable_dir calls → AreCallsOf t table crew a (Comes NewDir) calls
  made_dir_calls calls under =
      plain_crew (Comes NewDir) calls (λ none. none)
      (allow.one_object t table all a (Comes NewDir) removable_dir calls refl (λ k o shows. (allow.shown t table all a shows).2)
      (allow.under_tells t table all a (Comes NewDir) removable_dir (made_words c told of) calls under
      (λ k small held.
      let m = show.made_means t table c are.worked told are.full are.closed are.has is.at a of is.got is.process k small held in shows_new_dir m.0 m.1)
      (λ k shows.
      let s = allow.shown t table all a shows in
      show.made_has t table c are.worked told are.full are.closed are.has is.at a of is.got is.process s.0 k s.1)))

  pub made_others_calls : (calls : ℕ) → AreUnder table a (made_words c told of) IsMissing calls → AreCallsOf t table crew a (Comes NewOthers) calls
  made_others_calls calls under =
      plain_crew (Comes NewOthers) calls (λ none. none)
      (allow.one_object t table all a (Comes NewOthers) IsMissing calls refl (λ k o shows. (allow.shown t table all a shows).2)
      (allow.under_tells t table all a (Comes NewOthers) IsMissing (made_words c told of) calls under
      (λ k small held.
      let m = show.made_means t table c are.worked told are.full are.closed are.has is.at a of is.got is.process k small held in
      shows_new_others m.0 m.1)
      (λ k shows.
      let s = allow.shown t table all a shows in
      show.made_has t table c are.worked told are.full are.closed are.has is.at a of is.got is.process s.0 k s.1)))

  -- a file, and a link
  pub made_file_calls : (as_file started calls : ℕ) → AreUnder table a (new_covers c told of NewFile) (new_object table NewFile) as_file →
      AreUnder table a (new_covers c told of NewFile) IsProg started →
      ((call : Call) → has calls call ≡ (has as_file call || (is_exec_call call && has started call))) → AreCallsOf t table crew a (Comes NewFile) calls
  made_file_calls as_file started calls under under_started both =
      for_crew (Comes NewFile) calls
      (allow.listed_file t table all a (Comes NewFile) as_file started calls tt
      (allow.one_object t table all a (Comes NewFile) (new_object table NewFile) as_file refl (λ k o shows. (allow.shown t table all a shows).2)
      (allow.under_tells t table all a (Comes NewFile) (new_object table NewFile) (new_covers c told of NewFile) as_file under file_means
      (λ k shows. file_has k (new_object table NewFile) shows)))
      (allow.under_starts t table all a (Comes NewFile) (new_kind table NewFile) (new_covers c told of NewFile) started (file_starts table.whose)
      under_started file_means (λ k is starts shows. file_has k (Is is) shows)) both)
    where
      file_means : (k : Cover) → cover_bit k < 18 → has_bit (new_covers c told of NewFile) (cover_bit k) →
          Shows t table all a (Comes NewFile) k (new_object table NewFile)
      file_means k small held =
          let m = show.new_means t table c are.worked told are.full are.closed are.has is.at a of is.got is.process NewFile k small held in
          shows_new_file m.0 m.1.dir m.1.name m.1.stands m.1.over

      file_has : (k : Cover) (o : Object) → Shows t table all a (Comes NewFile) k o →
          (cover_bit k < 18) × has_bit (new_covers c told of NewFile) (cover_bit k)
      file_has k o shows =
          let s = allow.shown t table all a shows in
          show.new_has t table c are.worked told are.full are.closed are.has is.at a of is.got is.process NewFile s.0 k
          (record { dir = s.1.dir; name = s.1.name; stands = s.1.stands; over = s.1.over })

  pub made_link_calls : (calls kept : ℕ) → AreUnder table a (new_covers c told of NewLink) IsLink calls →
      ((call : Call) → has kept call ≡ (has calls call && keeps_link call)) → AreCallsOf t table crew a (Comes NewLink) kept
  made_link_calls calls kept under keeping =
      plain_crew (Comes NewLink) kept (λ none. none)
      (allow.one_link t table all a (Comes NewLink) IsLink calls kept refl (λ k o shows. (allow.shown t table all a shows).2)
      (allow.under_tells t table all a (Comes NewLink) IsLink (new_covers c told of NewLink) calls under
      (λ k small held.
      let m = show.new_means t table c are.worked told are.full are.closed are.has is.at a of is.got is.process NewLink k small held in
      shows_new_link m.0 m.1.dir m.1.name m.1.stands m.1.over)
      (λ k shows.
      let s = allow.shown t table all a shows in
      show.new_has t table c are.worked told are.full are.closed are.has is.at a of is.got is.process NewLink s.0 k
      (record { dir = s.1.dir; name = s.1.name; stands = s.1.stands; over = s.1.over }))) keeping)

  -- a socket, and a fifo
  pub made_sock_calls : (calls : ℕ) → AreUnder table a (new_covers c told of NewSock) (new_object table NewSock) calls →
      AreCallsOf t table crew a (Comes NewSock) calls
  made_sock_calls calls under =
      plain_crew (Comes NewSock) calls (λ none. none)
      (allow.one_object t table all a (Comes NewSock) (new_object table NewSock) calls refl (λ k o shows. (allow.shown t table all a shows).2)
      (allow.under_tells t table all a (Comes NewSock) (new_object table NewSock) (new_covers c told of NewSock) calls under
      (λ k small held.
      let m = show.new_means t table c are.worked told are.full are.closed are.has is.at a of is.got is.process NewSock k small held in
      shows_new_sock m.0 m.1.dir m.1.name m.1.stands m.1.over)
      (λ k shows.
      let s = allow.shown t table all a shows in
      show.new_has t table c are.worked told are.full are.closed are.has is.at a of is.got is.process NewSock s.0 k
      (record { dir = s.1.dir; name = s.1.name; stands = s.1.stands; over = s.1.over }))))

  pub made_fifo_calls : (calls : ℕ) → AreUnder table a (new_covers c told of NewFifo) (new_object table NewFifo) calls →
      AreCallsOf t table crew a (Comes NewFifo) calls
  made_fifo_calls calls under =
      plain_crew (Comes NewFifo) calls (λ none. none)
      (allow.one_object t table all a (Comes NewFifo) (new_object table NewFifo) calls refl (λ k o shows. (allow.shown t table all a shows).2)
      (allow.under_tells t table all a (Comes NewFifo) (new_object table NewFifo) (new_covers c told of NewFifo) calls under
      (λ k small held.
      let m = show.new_means t table c are.worked told are.full are.closed are.has is.at a of is.got is.process NewFifo k small held in
      shows_new_fifo m.0 m.1.dir m.1.name m.1.stands m.1.over)
      (λ k shows.
      let s = allow.shown t table all a shows in
      show.new_has t table c are.worked told are.full are.closed are.has is.at a of is.got is.process NewFifo s.0 k
      (record { dir = s.1.dir; name = s.1.name; stands = s.1.stands; over = s.1.over }))))

  -- on what stands at a name
  module _ (e_at : ℕ) (entry : Entry) (got : slice_get c.entries.items e_at ≡ Some entry) where
    abbrev at_name : Option ℕ → Thing
    at_name node = Stands (At (Slot entry.dir entry.name.now node))

    stands : look t entry.dir entry.name.now ≡ Some entry.node
    stands = show.stands_there t table c are.worked told are.full are.closed are.has is.at a of is.got is.process e_at entry got

    kind : kind_at t entry.node ≡ Some entry.kind
    kind = show.kind_there t table c are.worked told are.full are.closed are.has is.at a of is.got is.process e_at entry got

    alone : (k : Cover) (o : Object) → Shows t table all a (at_name (Some entry.node)) k o → o ≡ object_of_kind (Some entry.kind)
    alone k o shows = (allow.shown t table all a shows).2 ∙ ap object_of_kind kind

    -- it comes under the covers that were found
    entry_means : is_dir t entry.node ≡ false → (k : Cover) → cover_bit k < 18 → has_bit (entry_word c told of entry) (cover_bit k) →
        Shows t table all a (at_name (Some entry.node)) k (object_of_kind (Some entry.kind))
    entry_means other k small held =
        let comes = show.entry_means t table c are.worked told are.full are.closed are.has is.at a of is.got is.process e_at entry got other k small
        held in
        subst (λ o. Shows t table all a (at_name (Some entry.node)) k (object_of_kind o)) kind
        (shows_row comes.dir comes.name stands comes.stands comes.over)

    entry_has : is_dir t entry.node ≡ false → (k : Cover) (o : Object) → Shows t table all a (at_name (Some entry.node)) k o →
        (cover_bit k < 18) × has_bit (entry_word c told of entry) (cover_bit k)
    entry_has other k o shows =
        let s = (allow.shown t table all a shows).1 in
        show.entry_has t table c are.worked told are.full are.closed are.has is.at a of is.got is.process e_at entry got other k
        (record { dir = s.dir; name = s.name; stands = s.stands; over = s.over })

    entry_under : is_dir t entry.node ≡ false → (calls : ℕ) → AreUnder table a (entry_word c told of entry) (object_of_kind (Some entry.kind)) calls →
        TellsUnder t table all a (at_name (Some entry.node)) (object_of_kind (Some entry.kind)) calls
    entry_under other calls under =
        allow.under_tells t table all a (at_name (Some entry.node)) (object_of_kind (Some entry.kind)) (entry_word c told of entry) calls under
        (entry_means other) (λ k shows. entry_has other k (object_of_kind (Some entry.kind)) shows)

    entry_calls : is_dir t entry.node ≡ false → is_link_kind (Some entry.kind) ≡ false → (calls : ℕ) →
        AreUnder table a (entry_word c told of entry) (object_of_kind (Some entry.kind)) calls →
        AreAllowedOf t table all a (at_name (Some entry.node)) calls
    entry_calls other plain calls under =
        allow.one_object t table all a (at_name (Some entry.node)) (object_of_kind (Some entry.kind)) calls (ap is_link_kind kind ∙ plain) alone
        (entry_under other calls under)

    link_calls : is_dir t entry.node ≡ false → is_link_kind (Some entry.kind) ≡ true → (calls kept : ℕ) →
        AreUnder table a (entry_word c told of entry) (object_of_kind (Some entry.kind)) calls →
        ((call : Call) → has kept call ≡ (has calls call && keeps_link call)) → AreAllowedOf t table all a (at_name (Some entry.node)) kept
    link_calls other link calls kept under keeping =
        allow.one_link t table all a (at_name (Some entry.node)) (object_of_kind (Some entry.kind)) calls kept (ap is_link_kind kind ∙ link) alone
        (entry_under other calls under) keeping

    -- by its kind, where it can't be made a program
    pub kind_calls : is_dir t entry.node ≡ false → (IsTurned t table all entry.node → ⊥) → (calls kept : ℕ) →
        AreUnder table a (entry_word c told of entry) (object_of_kind (Some entry.kind)) calls →
        ((call : Call) → has kept call ≡ ((keeps_link call || not (is_link_kind (Some entry.kind))) && has calls call)) →
        AreCallsOf t table crew a (at_name (Some entry.node)) kept
    kind_calls other never calls kept under keeping = plain_crew (at_name (Some entry.node)) kept never (by (is_link_kind (Some entry.kind)) refl)
      where
        by : (b : Bool) → is_link_kind (Some entry.kind) ≡ b → AreAllowedOf t table all a (at_name (Some entry.node)) kept
        by true e = link_calls other e calls kept under (λ call.
            keeping call ∙ ap (λ b. (keeps_link call || not b) && has calls call) e ∙ one (keeps_link call) (has calls call))
          where
            one : (x y : Bool) → ((x || false) && y) ≡ (y && x)
            one true true = refl
            one true false = refl
            one false true = refl
            one false false = refl
        by false e = entry_calls other e kept (λ call.
            keeping call ∙ ap (λ b. (keeps_link call || not b) && has calls call) e ∙ two (keeps_link call) (has calls call) ∙ under call)
          where
            two : (x y : Bool) → ((x || true) && y) ≡ y
            two true y = refl
            two false y = refl

    -- and where it can
    pub turned_calls : is_dir t entry.node ≡ false → IsTurned t table all entry.node → (as_file started calls : ℕ) →
        AreUnder table a (entry_word c told of entry) (object_of_kind (Some entry.kind)) as_file →
        AreUnder table a (entry_word c told of entry) IsProg started →
        ((call : Call) → has calls call ≡ (has as_file call || (is_exec_call call && has started call))) →
        AreCallsOf t table crew a (at_name (Some entry.node)) calls
    turned_calls other turn as_file started calls under under_started both =
        for_crew (at_name (Some entry.node)) calls
        (allow.listed_file t table all a (at_name (Some entry.node)) as_file started calls turn
        (entry_calls other (start_no_link entry.kind starts) as_file under)
        (allow.under_starts t table all a (at_name (Some entry.node)) entry.kind (entry_word c told of entry) started starts under_started
        (entry_means other) (λ k is starts shows. entry_has other k (Is is) shows)) both)
      where
        starts : may_start entry.kind ≡ true
        starts = ap may_start_at (sym kind) ∙ turn.file

    -- once it is taken away
    pub freed_calls : is_taken c.columns c.shape.agents told entry.row ≡ true → is_dir t entry.dir ≡ true → (calls : ℕ) →
        AreFreeCalls table a entry.dir entry.name.now calls → AreCallsOf t table crew a (at_name None) calls
    freed_calls taken lives calls free =
        plain_crew (at_name None) calls (λ none. none)
        (allow.free_tells t table all a entry.dir entry.name.now calls lives
        (show.taken_means t table c are.worked told are.full are.closed are.has is.at a of is.got is.process e_at entry got taken) free)

    pub held_calls : is_taken c.columns c.shape.agents told entry.row ≡ false → (calls : ℕ) → ((call : Call) → has calls call ≡ false) →
        AreCallsOf t table crew a (at_name None) calls
    held_calls held calls none =
        plain_crew (at_name None) calls (λ none. none)
        (allow.no_calls t table all a (at_name None) calls
        (λ k o shows.
        let s = allow.shown t table all a shows in
        false≢true (sym held ∙ show.taken_has t table c are.worked told are.full are.closed are.has is.at a of is.got is.process e_at entry got s.3))
        none)

  -- at a name where nothing stands
  pub missing_calls : (dir : ℕ) (name : List ℕ) → is_dir t dir ≡ true → look t dir name ≡ None → (calls : ℕ) → AreFreeCalls table a dir name calls →
      AreCallsOf t table crew a (Stands (At (Slot dir name None))) calls
  missing_calls dir name lives none calls free =
      plain_crew (Stands (At (Slot dir name None))) calls (λ none. none) (allow.free_tells t table all a dir name calls lives (free_none none) free)

  -- by what is found at a name
  module _ (dir : ℕ) (name : List ℕ) (entry : Entry) (among : Contains c.entries.items entry) (spot : entry_of entry ≡ (dir, name)) where
    entry_got : Got c.entries.items entry
    entry_got = among_got c.entries.items entry (among_contained c.entries.items entry among)

    pub found_there : look t dir name ≡ Some entry.node
    found_there = (λ z. look t (sym spot z).0 (sym spot z).1) ∙ stands entry_got.at entry entry_got.is

    pub as_found : (calls : ℕ) → AreCallsOf t table crew a (Stands (At (Slot entry.dir entry.name.now (Some entry.node)))) calls →
        AreCallsOf t table crew a (Stands (At (Slot dir name (look t dir name)))) calls
    as_found calls tells =
        subst (λ o. AreCallsOf t table crew a (Stands (At (Slot dir name o))) calls) (sym found_there)
        (subst (λ (s : Spot). AreCallsOf t table crew a (Stands (At (Slot s.0 s.1 (Some entry.node)))) calls) spot tells)

    pub as_freed : is_taken c.columns c.shape.agents told entry.row ≡ true → is_dir t dir ≡ true → (calls : ℕ) → AreFreeCalls table a dir name calls →
        AreCallsOf t table crew a (Stands (At (Slot dir name None))) calls
    as_freed taken lives calls free =
        subst (λ (s : Spot). AreCallsOf t table crew a (Stands (At (Slot s.0 s.1 None))) calls) spot
        (freed_calls entry_got.at entry entry_got.is taken (ap (λ (s : Spot). is_dir t s.0) spot ∙ lives) calls
        (subst (λ (s : Spot). AreFreeCalls table a s.0 s.1 calls) (sym spot) free))

    pub as_held : is_taken c.columns c.shape.agents told entry.row ≡ false → (calls : ℕ) → ((call : Call) → has calls call ≡ false) →
        AreCallsOf t table crew a (Stands (At (Slot dir name None))) calls
    as_held held calls none =
        subst (λ (s : Spot). AreCallsOf t table crew a (Stands (At (Slot s.0 s.1 None))) calls) spot
        (held_calls entry_got.at entry entry_got.is held calls none)

  pub none_found : (dir : ℕ) (name : List ℕ) → ((entry : Entry) → Contains c.entries.items entry → entry_of entry ≡ (dir, name) → ⊥) →
      look t dir name ≡ None
  none_found dir name never =
      show.no_entry t table c are.worked told are.full are.closed are.has is.at a of is.got is.process dir name
      (λ entry among here there. never entry (contained c.entries.items entry among) (λ z. (here z, there z)))

  pub as_missing : (dir : ℕ) (name : List ℕ) → ((entry : Entry) → Contains c.entries.items entry → entry_of entry ≡ (dir, name) → ⊥) →
      is_dir t dir ≡ true → (calls : ℕ) → AreFreeCalls table a dir name calls →
      AreCallsOf t table crew a (Stands (At (Slot dir name (look t dir name)))) calls
  as_missing dir name never lives calls free =
      subst (λ o. AreCallsOf t table crew a (Stands (At (Slot dir name o))) calls) (sym (none_found dir name never))
      (missing_calls dir name lives (none_found dir name never) calls free)

  -- the place of an entry in the crew's list
  pub place_of_entry : (entry : Entry) → Contains c.entries.items entry → Got c.entries.items entry
  place_of_entry entry among = among_got c.entries.items entry (among_contained c.entries.items entry among)

-- what was found at a name
pub slot_lives : (t : Tree) (dir : ℕ) (name : List ℕ) (node : Option ℕ) → FoundFits t (Slot dir name node) → is_dir t dir ≡ true
slot_lives t dir name None fits = (and_parts (is_dir t dir) _ fits).0
slot_lives t dir name (Some x) fits = (and_parts (is_dir t dir) _ fits).0

pub slot_plain : (t : Tree) (dir : ℕ) (name : List ℕ) (node : Option ℕ) → FoundFits t (Slot dir name node) → (x : ℕ) → node ≡ Some x →
    is_dir t x ≡ false
slot_plain t dir name None fits x e = absurd (None≢Some x e)
slot_plain t dir name (Some y) fits x e =
    let both = and_parts (is_dir t dir) _ fits in
    let two = and_parts (option_eq ◌==◌ (look t dir name) (Some y)) _ both.1 in
    by (is_dir t x) (ap (λ z. not (is_dir t z)) (sym (same_Some y x e)) ∙ two.1)
  where
    by : (b : Bool) → not b ≡ true → b ≡ false
    by true e = absurd (false≢true e)
    by false e = refl

-- something stands at the name of an item
pub own_stands : (t : Tree) (a : ProcessState) (about : Subject) (dir : ℕ) (name : List ℕ) → SubjectFits t about → own_spot about ≡ Some (dir, name) →
    (x : ℕ) × (look t dir name ≡ Some x)
own_stands t a about dir name fits own = by (look t dir name) refl (standing_there t a about dir name fits own)
  where
    by : (o : Option ℕ) → look t dir name ≡ o → is_some (look t dir name) ≡ true → (x : ℕ) × (look t dir name ≡ Some x)
    by None e some = absurd (false≢true (sym (ap is_some e) ∙ some))
    by (Some x) e some = (x, e)

-- one of those of which facts are
pub agent_is : (t : Tree) (table : CallTable) (crew : List ProcessState) (facts : Facts) (a : ProcessState) (of : Agent) →
    AreFacts t table crew facts → Contains facts.crew.agents.items of → of.process.now ≡ a → IsOf t table crew facts a of
agent_is t table crew facts a of are among process =
    let g = among_got facts.crew.agents.items of (among_contained facts.crew.agents.items of among) in
    record { facts_are = are; at = g.at; got = g.is; process = process }

-- a file that is found to be made a program is one that can be
module _ (t : Tree) (table : CallTable) (crew : List ProcessState) (facts : Facts) (are : AreFacts t table crew facts) (node : ℕ) where
  abbrev k : Crew
  k = facts.crew

  abbrev words : List ℕ
  words = facts.told.items

  abbrev ones : List ProcessState
  ones = crew_told facts.crew

  agent_by : (b : Agent) (at : ℕ) → slice_get k.agents.items at ≡ Some b → IsAgent table ones at b.process.now b
  agent_by b at got = show.is_agent t table k are.worked words are.full are.closed are.has at b.process.now b got refl

  module _ (b : Agent) (agent_at : ℕ) (agent_got : slice_get k.agents.items agent_at ≡ Some b) (e_at : ℕ) (entry : Entry)
      (got : slice_get k.entries.items e_at ≡ Some entry) (starts : may_start entry.kind ≡ true) where
    abbrev h : ProcessState
    h = b.process.now

    node_there : look t entry.dir entry.name.now ≡ Some entry.node
    node_there = show.stands_there t table k are.worked words are.full are.closed are.has agent_at h b agent_got refl e_at entry got

    pub kind_is : kind_at t entry.node ≡ Some entry.kind
    kind_is = show.kind_there t table k are.worked words are.full are.closed are.has agent_at h b agent_got refl e_at entry got

    no_dir : is_dir t entry.node ≡ false
    no_dir = ap is_dir_kind kind_is ∙ start_no_dir entry.kind starts

    abbrev thing : Thing
    thing = Stands (At (Slot entry.dir entry.name.now (Some entry.node)))

    pub turn_means : (sent : Bool) (call : Call) → Among (turning_by sent) call → list_any (allows_under table h (entry_word k words b entry) IsFile call) (numbered 18) ≡ true →
        IsJointlyAllowed t table ones h thing call
    turn_means sent call among e =
        let one = under_means table h (entry_word k words b entry) IsFile call e in
        let comes = show.entry_means t table k are.worked words are.full are.closed are.has agent_at h b agent_got refl e_at entry got no_dir one.cover
        one.small one.has in
        record {
          cover = one.cover;
          object = Is entry.kind;
          shows = subst (λ o. Shows t table ones h thing one.cover (object_of_kind o)) kind_is
              (shows_row comes.dir comes.name node_there comes.stands comes.over);
          named = or_right (keeps_link call) (not (is_link_thing t thing))
              (ap (λ o. not (is_link_kind o)) kind_is ∙ ap not (start_no_link entry.kind starts));
          allowed = turning_allowed table h entry.kind starts sent call among one.cover ∙ one.allowed;
        }

    pub turn_has : (sent : Bool) (call : Call) → Among (turning_by sent) call → IsJointlyAllowed t table ones h thing call →
        list_any (allows_under table h (entry_word k words b entry) IsFile call) (numbered 18) ≡ true
    turn_has sent call among can =
        let s = allow.shown t table ones h can.shows in
        let held = show.entry_has t table k are.worked words are.full are.closed are.has agent_at h b agent_got refl e_at entry got no_dir can.cover
        (record { dir = s.1.dir; name = s.1.name; stands = s.1.stands; over = s.1.over }) in
        under_has table h (entry_word k words b entry) IsFile call
        (record {
          cover = can.cover;
          small = held.0;
          has = held.1;
          allowed = sym (turning_allowed table h entry.kind starts sent call among can.cover)
              ∙ ap (λ o. is_allowed (covered_verdict empty_tree table h call can.cover o)) (sym (s.2 ∙ ap object_of_kind kind_is)) ∙ can.allowed;
        })

  -- whether a process can send what it has open to one of them that sets its mode
  abbrev sends : ProcessState → Bool
  sends h = sends_to_set table ones h

  pub turned_means : list_any (turns_in k words node) k.entries.items ≡ true → IsTurned t table ones node
  turned_means e =
      let found = any_found (turns_in k words node) k.entries.items e in
      let entry = found.0 in
      let both = and_parts (entry.node == node) _ found.2 in
      let two = and_parts (may_start entry.kind) _ both.1 in
      let starts : may_start entry.kind ≡ true = two.0 in
      let by = any_found (turned_by k words entry) k.agents.items two.1 in
      let e_got = among_got k.entries.items entry found.1 in
      let b_got = among_got k.agents.items by.0 by.1 in
      subst (IsTurned t table ones) (eqb-true entry.node node both.0)
      (record {
        agent = by.0.process.now;
        among = contained ones by.0.process.now (among_map (λ (agent : Agent). agent.process.now) k.agents.items by.0 by.1);
        row = (entry.dir, entry.name.now);
        at = node_there by.0 b_got.at b_got.is e_got.at entry e_got.is starts;
        file = ap may_start_at (kind_is by.0 b_got.at b_got.is e_got.at entry e_got.is starts) ∙ starts;
        by = how by.0 b_got.at b_got.is e_got.at entry e_got.is starts by.2;
      })
    where
      -- a call under a cover that makes one, or the file is open
      how : (b : Agent) (agent_at : ℕ) → slice_get k.agents.items agent_at ≡ Some b → (e_at : ℕ) (entry : Entry) →
          slice_get k.entries.items e_at ≡ Some entry → may_start entry.kind ≡ true → turned_by k words entry b ≡ true →
          IsTurnedByCall t table ones b.process.now (entry.dir, entry.name.now) entry.node ⊎ (is_turned_open (sends b.process.now) b.process.now entry.node ≡ true)
      how b agent_at agent_got e_at entry got starts is =
          elim (either_true (meets (entry_word k words b entry) b.turning) (contains nat_cmp b.turned entry.node) is) [
            | inl under ↦ inl (called under)
            | inr held ↦ inr (sym ((agent_by b agent_at agent_got).turned entry.node) ∙ held)
          ]
        where
          called : meets (entry_word k words b entry) b.turning ≡ true →
              IsTurnedByCall t table ones b.process.now (entry.dir, entry.name.now) entry.node
          called under =
              let word : ℕ = entry_word k words b entry in
              let mask = (agent_by b agent_at agent_got).turning in
              let bit = meets_some word b.turning mask.small under in
              let cover = cover_of bit.0 (mask.only bit.0 bit.2) in
              let small : cover_bit cover.0 < 18 = subst (λ n. n < 18) (sym cover.1) (mask.only bit.0 bit.2) in
              let one = any_found (λ call. is_allowed (covered_verdict empty_tree table b.process.now call cover.0 IsFile))
              (turning_by (sends b.process.now))
              (sym (mask.all cover.0 small) ∙ ap (λ n. bit_at b.turning n == 1) cover.1 ∙ bit.2) in
              let there = under_has table b.process.now word IsFile one.0
              (record { cover = cover.0; small = small; has = ap (λ n. bit_at word n == 1) cover.1 ∙ bit.1; allowed = one.2 }) in
              record {
                call = one.0;
                turns = contained (turning_by (sends b.process.now)) one.0 one.1;
                allowed = turn_means b agent_at agent_got e_at entry got starts (sends b.process.now) one.0 one.1 there;
              }

  pub turned_has : IsTurned t table ones node → list_any (turns_in k words node) k.entries.items ≡ true
  turned_has is =
      let who = map_among (λ (agent : Agent). agent.process.now) k.agents.items is.agent (among_contained ones is.agent is.among) in
      let b_got = among_got k.agents.items who.0 who.1 in
      let place = show.entry_at t table k are.worked words are.full are.closed are.has b_got.at who.0.process.now who.0 b_got.is refl
      is.row.0 is.row.1 node is.at in
      by who.0 b_got.at b_got.is who.1 who.2 place.0 place.1 place.2 place.3 place.4
    where
      by : (b : Agent) (agent_at : ℕ) (agent_got : slice_get k.agents.items agent_at ≡ Some b) → Among k.agents.items b → b.process.now ≡ is.agent →
          (e_at : ℕ) (entry : Entry) (got : slice_get k.entries.items e_at ≡ Some entry) → entry.dir ≡ is.row.0 → entry.name.now ≡ is.row.1 →
          list_any (turns_in k words node) k.entries.items ≡ true
      by b agent_at agent_got among same e_at entry got dir name =
          any_among (turns_in k words node) k.entries.items entry (got_among k.entries.items e_at entry got)
          (and_from (entry.node == node) _ (eq-eqb entry.node node here)
          (and_from (may_start entry.kind) _ starts
          (any_among (turned_by k words entry) k.agents.items b among (how is.by))))
        where
          there : look t entry.dir entry.name.now ≡ Some entry.node
          there = show.stands_there t table k are.worked words are.full are.closed are.has agent_at b.process.now b agent_got refl e_at entry got

          here : entry.node ≡ node
          here = same_Some entry.node node (sym there ∙ (λ z. look t (dir z) (name z)) ∙ is.at)

          starts : may_start entry.kind ≡ true
          starts = ap may_start_at
              (sym (show.kind_there t table k are.worked words are.full are.closed are.has agent_at b.process.now b agent_got refl e_at entry got)
              ∙ ap (kind_at t) here) ∙ is.file

          allowed : (one : IsTurnedByCall t table ones is.agent is.row node) →
              IsJointlyAllowed t table ones b.process.now (Stands (At (Slot entry.dir entry.name.now (Some entry.node)))) one.call
          allowed one =
              subst (λ (h : ProcessState). IsJointlyAllowed t table ones h (Stands (At (Slot entry.dir entry.name.now (Some entry.node)))) one.call) (sym same)
              (subst (λ (s : Spot). IsJointlyAllowed t table ones is.agent (Stands (At (Slot s.0 s.1 (Some entry.node)))) one.call)
              (λ z. (sym dir z, sym name z))
              (subst (λ x. IsJointlyAllowed t table ones is.agent (Stands (At (Slot is.row.0 is.row.1 (Some x)))) one.call) (sym here) one.allowed))

          under : (one : IsTurnedByCall t table ones is.agent is.row node) →
              IsUnder table b.process.now (entry_word k words b entry) IsFile one.call
          under one = under_means table b.process.now (entry_word k words b entry) IsFile one.call
              (turn_has b agent_at agent_got e_at entry got starts (sends is.agent) one.call
              (among_contained (turning_by (sends is.agent)) one.call one.turns) (allowed one))

          how : IsTurnedByCall t table ones is.agent is.row node ⊎ (is_turned_open (sends is.agent) is.agent node ≡ true) →
              turned_by k words entry b ≡ true
          how (inl one) =
              or_left (meets (entry_word k words b entry) b.turning) _
              (meets_by (entry_word k words b entry) b.turning (cover_bit (under one).cover) (under one).has
              ((agent_by b agent_at agent_got).turning.all (under one).cover (under one).small
              ∙ any_among (λ call. is_allowed (covered_verdict empty_tree table b.process.now call (under one).cover IsFile))
              (turning_by (sends b.process.now)) one.call
              (among_contained (turning_by (sends b.process.now)) one.call
              (subst (λ h. Contains (turning_by (sends h)) one.call) (sym same) one.turns)) (under one).allowed))
          how (inr held) =
              or_right (meets (entry_word k words b entry) b.turning) _
              ((agent_by b agent_at agent_got).turned entry.node ∙ (λ z. is_turned_open (sends (same z)) (same z) (here z)) ∙ held)
