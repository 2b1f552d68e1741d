-- All that a family's members are ever allowed, through execs, has its line at the beginning.
use Rattle.pua_ever.proofs.Common.{◌≡◌, ◌⊎◌, ℕ, List, [], ◌∷◌, Bool, true, false, refl, sym, ap, subst, ◌∙◌, inl, inr}
use Rattle.pua_ever.proofs.Common.{Some, Ok, Err, Result, ◌&&◌, filter, map, list_any, false≢true, and_parts, and_from}
use Rattle.pua_ever.proofs.Common.{or_left, or_right, eq-eqb, same_Some, Tree, WellFormed, CallTable, rule_of, Call, ProcessState, may_any}
use Rattle.pua_ever.proofs.Common.{verdict_of, is_allowed, if_promised, cover, Found}
use Rattle.pua_ever.proofs.Common.{Asked, World, apply, world_after, is_member, family_then, NoCallNeedsError}
use Rattle.pua_ever.proofs.Common.{TreesAlong, IsWithin, Members, first_tree, EditsNeedC, VeilsStand}
use Rattle.pua_ever.proofs.Common.{among_map, map_among, among_filter, filter_among, contained, among_contained, ever, has_ever_calls, EverLine, May}
use Rattle.pua_ever.proofs.Common.{◌≤◌, is_some, option_map, Node, Kind, is_dir, is_dir_kind, is_living, node_at, kind_at, Whole, Slot, Option, None}
use Rattle.pua_ever.proofs.Common.{named_within_text, resolutions_fit, New, NewDir, NewOthers, NewFile, NewLink, NewSock, NewFifo, is_made_by}
use Rattle.pua_tree.specs.declared.node.Kind.TheVariants as kind
use Rattle.pua_path.specs.Fits.{found_fits}
use Rattle.std.specs.Prelude.{bit_or}
use Rattle.std.specs.List.{Contains}
use Rattle.std.proofs.Common.{min, max, arith}
use Rattle.std.specs.Int.{bit_at}
use Rattle.std.proofs.lemmas.Nat.Bits.{bit_at_and, bit_at_or, same_from_bits}
use Rattle.pua_path.specs.Resolution.{resolution_of_text}
use Rattle.pua_path.specs.declared.errno.Errno.{Errno}
use Rattle.pua_calls.specs.Calls.{ending_of, last_of}
use Rattle.pua_calls.specs.Promises.{holds}
use Rattle.pua_calls.specs.TmpTable.{tmp_table}
use Rattle.pua_calls.specs.declared.call.Call.TheVariants as call
use Rattle.pua_calls.proofs.ForCallers.{tmp_table_needs_no_error}
use Rattle.pua_policy.specs.States.{with_both, held_set}
use Rattle.pua_policy.specs.Verdict.{IsProg, covered_verdict}
use Rattle.pua_policy.specs.declared.answer.May.TheVariants.{Yes, Enosys, Death}
use Rattle.pua_policy.specs.declared.answer.Verdict.{Verdict}
use Rattle.pua_policy.specs.declared.answer.Verdict.TheVariants.{Allowed}
use Rattle.pua_policy.proofs.ForCallers.{holds_through}
use Rattle.pua_objects.proofs.ForCallers.{some_of}
use Rattle.pua_script.specs.Family.{family, HasKept}
use Rattle.pua_ever.specs.Ever.{Thing, is_exec_call}
use Rattle.pua_ever.specs.Laws.{IsForeseen, IsForeseenIn, IsStartForeseen, IsStartForeseenIn, ForeseesIn, ForeseesStartsIn, IsLineOf, of_dir}
use Rattle.pua_ever.specs.Laws.{of_row, of_name, of_others, of_new_dir, of_new_file, of_new_link, of_new_sock, of_new_fifo, of_new_others, MembersEdit, NoExecLoosens}
use Rattle.pua_ever.specs.Laws.{NoLineHasExec}
use Rattle.pua_ever.specs.Through.{is_promised_by, is_promised_by_one, can_come, let_through, ever_lasting, ever_through, has_exec}
use Rattle.pua_ever.specs.Through.{is_bounded, AreWithin, GoesAlong, GoAlong, EverThroughExecs, StartsThroughExecs, EverLasts}
use Rattle.pua_tree.specs.declared.node.FileType.TheVariants.{Sock, Fifo}
use Rattle.pua_ever.proofs.Grown.{Grown, new_kind}
use Rattle.pua_ever.proofs.MadeKinds.{file_starts, file_no_dir, file_no_link, startable}
use Rattle.pua_ever.specs.Ever.{may_start_at}
use Rattle.pua_path.specs.Fits.{is_link_kind}
use Rattle.pua_ever.proofs.Chosen.{bound_too, lasting_alone, lasting_through}
use Rattle.pua_ever.proofs.Covers.{living_dir, below_next}
use Rattle.pua_ever.proofs.Growing.{requests_grow}
use Rattle.pua_ever.proofs.Complete.{complete_within, starts_within, beside_one}
use Rattle.pua_ever.proofs.NoExec.{without_exec_beside}
use Rattle.pua_ever.proofs.Ways.{any_among}
use Rattle.pua_ever.proofs.Holding.{any_within, may_holds, goes, lacks_unveil, own, along_then, along_after, along_now, along_first}
use Rattle.pua_ever.proofs.Holding.{bound_parts}
use Rattle.pua_path.specs.Resolution.{rooted}
use Rattle.pua_path.specs.declared.found.Start.{Start}

-- both sets hold what the one holds, and what the other holds
pub first_of : (a b : ℕ) → holds (bit_or a b) a ≡ true
first_of a b = eq-eqb _ _ (same_from_bits _ _ (λ i.
    bit_at_and (bit_or a b) a i ∙ ap (λ x. min x (bit_at a i)) (bit_at_or a b i) ∙ least (bit_at a i) (bit_at b i)))
  where
    least : (x y : ℕ) → min (max x y) x ≡ x
    least x y = omega arith

pub second_of : (a b : ℕ) → holds (bit_or a b) b ≡ true
second_of a b = eq-eqb _ _ (same_from_bits _ _ (λ i.
    bit_at_and (bit_or a b) b i ∙ ap (λ x. min x (bit_at b i)) (bit_at_or a b i) ∙ least (bit_at a i) (bit_at b i)))
  where
    least : (x y : ℕ) → min (max x y) y ≡ y
    least x y = omega arith

module _ (now : ProcessState) (given : ℕ) where
  abbrev wide : ProcessState
  wide = with_both now given

  by_first : (set : ℕ) → holds (held_set now) set ≡ true → holds (bit_or (held_set now) given) set ≡ true
  by_first set holding = holds_through (bit_or (held_set now) given) (held_set now) set (first_of (held_set now) given) holding

  -- who goes along is within who holds both
  pub within_both : (table : CallTable) (sound : NoCallNeedsError table) (bounded : is_bounded table given ≡ true) (h : ProcessState) →
      GoesAlong table now given h → IsWithin wide h
  within_both table sound bounded h k = record {
    tightens = record {
      unveils = record { any = k.unveils.any; kept = k.unveils.kept };
      promises = λ set fine holding. elim k.promises [
        | inl one ↦ elim one [
          | inl own ↦ by_first set (own.0 set fine holding)
          | inr later ↦ holds_through (bit_or (held_set now) given) given set (second_of (held_set now) given) (later.0 set fine holding)
        ]
        | inr none ↦ by_first set (none.0 set fine holding)
      ];
      confined = lacks_unveil table sound now given bounded h k;
    };
    ended = k.ended;
  }

  -- a line is the same thing's
  pub line_too : (t later : Tree) (thing : Thing) (object : Found) → IsLineOf t later wide thing object → IsLineOf t later now thing object
  line_too t later thing object (of_dir below) = of_dir below
  line_too t later thing object (of_row row at there) = of_row row at there
  line_too t later thing object (of_name perms kept) = of_name perms kept
  line_too t later thing object (of_others below kept) = of_others below kept
  line_too t later thing object (of_new_dir from) = of_new_dir from
  line_too t later thing object (of_new_file from kinds) = of_new_file from kinds
  line_too t later thing object (of_new_link from kinds) = of_new_link from kinds
  line_too t later thing object (of_new_sock from kinds) = of_new_sock from kinds
  line_too t later thing object (of_new_fifo from kinds) = of_new_fifo from kinds
  line_too t later thing object (of_new_others from) = of_new_others from

-- the trees along the way are well formed, and so is the last
last_tree : (table : CallTable) (w : World) (asks : List Asked) → TreesAlong table w asks → WellFormed (world_after table w asks).tree
last_tree table w [] trees = first_tree table w [] trees
last_tree table w (ask ∷ asks) trees = last_tree table (apply table w ask).1 asks trees.1

module _ (table : CallTable) (sound : NoCallNeedsError table) (now : ProcessState) (given : ℕ) where
  -- a call that is allowed is promised by one of the two sets
  one_of : (h : ProcessState) → GoesAlong table now given h → (c : Call) → may_any h (rule_of table c).alternatives ≡ Yes →
      is_promised_by_one table now given c ≡ true
  one_of h k c may =
      let some = may_holds h (rule_of table c).alternatives may in
      let by_held = λ (within : AreWithin (held_set h) (held_set now)). or_left (is_promised_by table (held_set now) c) _
      (any_within (held_set h) (held_set now) within (rule_of table c).alternatives (sound.calls c) some) in
      elim k.promises [
        | inl one ↦ elim one [
          | inl own ↦ by_held own.0
          | inr later ↦ or_right (is_promised_by table (held_set now) c) _
              (any_within (held_set h) given later.0 (rule_of table c).alternatives (sound.calls c) some)
        ]
        | inr none ↦ by_held none.0
      ]

  yes : (m : May) (v : Verdict) → is_allowed (if_promised m v) ≡ true → m ≡ Yes
  yes Yes v e = refl
  yes Enosys v e = cc
  yes Death v e = cc

  pub promised_by_one : (h : ProcessState) → GoesAlong table now given h → (t : Tree) (c : Call) (r : Result Found Errno) →
      verdict_of t table h c r ≡ Allowed → is_promised_by_one table now given c ≡ true
  promised_by_one h k t c r e = one_of h k c (promised r e)
    where
      promised : (r : Result Found Errno) → verdict_of t table h c r ≡ Allowed → may_any h (rule_of table c).alternatives ≡ Yes
      promised (Ok object) e = yes (may_any h (rule_of table c).alternatives) _ (ap is_allowed e)
      promised (Err errno) e = yes (may_any h (rule_of table c).alternatives) _ (ap is_allowed e)

module _ (table : CallTable) (sound : NoCallNeedsError table) (needs : EditsNeedC table) (now : ProcessState) (given : ℕ)
    (bounded : is_bounded table given ≡ true) where
  abbrev both : ProcessState
  both = with_both now given

  -- the list goes by the table with one more set of some calls
  abbrev tmp : CallTable
  tmp = tmp_table table

  sound_too : NoCallNeedsError tmp
  sound_too = tmp_table_needs_no_error table sound

  pub along_too : (h : ProcessState) → GoesAlong table now given h → GoesAlong tmp now given h
  along_too h k = record { unveils = k.unveils; lock = k.lock; ended = k.ended; promises = k.promises }

  abbrev passes : Call → Bool
  passes = is_promised_by_one tmp now given

  -- the members are within who holds both, and no exec loosens them
  pub members_within : (w : World) (members : List ℕ) → GoAlong table w now given members → Members w members both false
  members_within w members are m belongs =
      let one = are m belongs in
      (one.0, one.1, record { within = within_both now given table sound bounded one.0 one.2; dir = λ e. absurd (false≢true e) })

  pub none_looser : (asks : List Asked) (w : World) (members : List ℕ) → GoAlong table w now given members →
      NoExecLoosens table both w asks members
  none_looser [] w members are = tt
  none_looser (ask ∷ asks) w members are = (
    λ done.
        let one = own table sound now given bounded w ask members are (and_parts (is_member members ask.process) _ done).0 in
        let within = within_both now given table sound bounded one.0 one.2 in
        (one.0, one.1, (within.tightens, within.ended)),
    none_looser asks (apply table w ask).1 (family_then table w ask members) (along_then table sound now given bounded w ask members are),
  )

  -- what was made was made by a call that one of the two lets through
  module _ (t0 : Tree) (well0 : WellFormed t0) where
    abbrev MadeByOne : Tree → Type 0
    MadeByOne u = (x : ℕ) → t0.next ≤ x → is_living u x ≡ true →
        (made : New) × (kind_at u x ≡ Some (new_kind table made)) × (is_made_by (is_promised_by_one tmp now given) made ≡ true)

    made_first : MadeByOne t0
    made_first x from lives = let below = below_next t0 now well0 x lives in absurd (omega arith)

    made_then : (t u : Tree) (h : ProcessState) → GoesAlong table now given h → Grown tmp t h u → MadeByOne t → MadeByOne u
    made_then t u h k grown made x from lives = elim (grown.nodes x lives) [
      | inl same ↦ (let before = made x from (ap is_some (sym same) ∙ lives) in
          (before.0, ap (option_map (λ n. n.kind)) same ∙ before.1, before.2))
      | inr born ↦ (
        born.made,
        born.kinds,
        born.makes.makes (is_promised_by_one tmp now given) (one_of tmp sound_too now given h (along_too h k) born.makes.maker
            (yes tmp sound_too now given (may_any h (rule_of tmp born.makes.maker).alternatives) _ born.makes.allowed)),
      )
    ]

    made_through : (asks : List Asked) (w : World) (members : List ℕ) → GoAlong table w now given members →
        MembersEdit table w asks members → TreesAlong table w asks → MadeByOne w.tree → MadeByOne (world_after table w asks).tree
    made_through [] w members are edits trees made = made
    made_through (ask ∷ asks) w members are edits trees made =
        made_through asks (apply table w ask).1 (family_then table w ask members)
        (along_then table sound now given bounded w ask members are) edits.1 trees.1 (step edits.0)
      where
        step : (is_member members ask.process ≡ true) ⊎ ((apply table w ask).1.tree ≡ w.tree) → MadeByOne (apply table w ask).1.tree
        step (inl belongs) =
            let asker = are ask.process belongs in
            made_then w.tree (apply table w ask).1.tree asker.0 asker.2 (requests_grow table needs w ask asker.0 trees.0 asker.1) made
        step (inr same) = subst MadeByOne (sym same) made

    -- so what has a line of such things comes by one of the two
    module _ (u : Tree) (well : WellFormed u) (made : MadeByOne u) where
      lives_by_kind : (k : Kind) (o : Option Node) → option_map (λ n. n.kind) o ≡ Some k → is_some o ≡ true
      lives_by_kind k None e = cc
      lives_by_kind k (Some n) e = refl

      dir_by_one : (x : ℕ) (m : New) → kind_at u x ≡ Some (new_kind table m) → is_made_by (is_promised_by_one tmp now given) m ≡ true →
          is_dir u x ≡ true → is_promised_by_one tmp now given call.Mkdir ≡ true
      dir_by_one x NewDir kinds one is = one
      dir_by_one x NewOthers kinds one is = one
      dir_by_one x NewFile kinds one is = absurd (false≢true (sym (ap is_dir_kind kinds ∙ file_no_dir table.whose) ∙ is))
      dir_by_one x NewLink kinds one is = absurd (false≢true (sym (ap is_dir_kind kinds) ∙ is))
      dir_by_one x NewSock kinds one is = absurd (false≢true (sym (ap is_dir_kind kinds) ∙ is))
      dir_by_one x NewFifo kinds one is = absurd (false≢true (sym (ap is_dir_kind kinds) ∙ is))

      file_by_one : (x : ℕ) (m : New) → kind_at u x ≡ Some (new_kind table m) → is_made_by (is_promised_by_one tmp now given) m ≡ true →
          may_start_at (kind_at u x) ≡ true → is_made_by (is_promised_by_one tmp now given) NewFile ≡ true
      file_by_one x NewFile kinds one is = one
      file_by_one x NewDir kinds one is = absurd (false≢true (sym (ap may_start_at kinds) ∙ is))
      file_by_one x NewOthers kinds one is = absurd (false≢true (sym (ap may_start_at kinds) ∙ is))
      file_by_one x NewLink kinds one is = absurd (false≢true (sym (ap may_start_at kinds) ∙ is))
      file_by_one x NewSock kinds one is = absurd (false≢true (sym (ap may_start_at kinds) ∙ is))
      file_by_one x NewFifo kinds one is = absurd (false≢true (sym (ap may_start_at kinds) ∙ is))

      link_by_one : (x : ℕ) (m : New) → kind_at u x ≡ Some (new_kind table m) → is_made_by (is_promised_by_one tmp now given) m ≡ true →
          kind_at u x ≡ Some kind.Link → is_promised_by_one tmp now given call.Symlink ≡ true
      link_by_one x NewLink kinds one is = one
      link_by_one x NewDir kinds one is = let never : Some kind.Dir ≡ Some kind.Link = sym kinds ∙ is in cc
      link_by_one x NewOthers kinds one is = let never : Some kind.Dir ≡ Some kind.Link = sym kinds ∙ is in cc
      link_by_one x NewFile kinds one is = absurd (false≢true (sym (file_no_link table.whose) ∙ ap is_link_kind (sym kinds ∙ is)))
      link_by_one x NewSock kinds one is = let never : Some (kind.Known Sock) ≡ Some kind.Link = sym kinds ∙ is in cc
      link_by_one x NewFifo kinds one is = let never : Some (kind.Known Fifo) ≡ Some kind.Link = sym kinds ∙ is in cc

      -- what is a socket was made as one, and so is a fifo
      sock_is : (x : ℕ) (m : New) → kind_at u x ≡ Some (new_kind table m) → kind_at u x ≡ Some (kind.Known Sock) → m ≡ NewSock
      sock_is x NewSock kinds is = refl
      sock_is x NewDir kinds is = let never : Some kind.Dir ≡ Some (kind.Known Sock) = sym kinds ∙ is in cc
      sock_is x NewOthers kinds is = let never : Some kind.Dir ≡ Some (kind.Known Sock) = sym kinds ∙ is in cc
      sock_is x NewLink kinds is = let never : Some kind.Link ≡ Some (kind.Known Sock) = sym kinds ∙ is in cc
      sock_is x NewFifo kinds is = let never : Some (kind.Known Fifo) ≡ Some (kind.Known Sock) = sym kinds ∙ is in cc
      sock_is x NewFile kinds is = absurd (false≢true (ap may_start_at (sym is ∙ kinds) ∙ file_starts table.whose))

      fifo_is : (x : ℕ) (m : New) → kind_at u x ≡ Some (new_kind table m) → kind_at u x ≡ Some (kind.Known Fifo) → m ≡ NewFifo
      fifo_is x NewFifo kinds is = refl
      fifo_is x NewDir kinds is = let never : Some kind.Dir ≡ Some (kind.Known Fifo) = sym kinds ∙ is in cc
      fifo_is x NewOthers kinds is = let never : Some kind.Dir ≡ Some (kind.Known Fifo) = sym kinds ∙ is in cc
      fifo_is x NewLink kinds is = let never : Some kind.Link ≡ Some (kind.Known Fifo) = sym kinds ∙ is in cc
      fifo_is x NewSock kinds is = let never : Some (kind.Known Sock) ≡ Some (kind.Known Fifo) = sym kinds ∙ is in cc
      fifo_is x NewFile kinds is = absurd (false≢true (ap may_start_at (sym is ∙ kinds) ∙ file_starts table.whose))

      same_made : (m n : New) → m ≡ n → is_made_by (is_promised_by_one tmp now given) m ≡ true →
          is_made_by (is_promised_by_one tmp now given) n ≡ true
      same_made m n same one = subst (λ made. is_made_by (is_promised_by_one tmp now given) made ≡ true) same one

      comes_by_one : (thing : Thing) (object : Found) → found_fits u object ≡ true → IsLineOf t0 u now thing object →
          can_come (is_promised_by_one tmp now given) thing ≡ true
      comes_by_one thing (Whole dir way) fits (of_dir below) = refl
      comes_by_one thing (Whole dir way) fits (of_new_dir from) =
          let one = made dir from (living_dir u now well dir fits) in
          dir_by_one dir one.0 one.1 one.2 fits
      comes_by_one thing (Slot dir name (Some x)) fits (of_row row at there) = refl
      comes_by_one thing (Slot dir name (Some x)) fits (of_new_file from starts) =
          let is = startable (kind_at u x) starts in
          let one = made x from (lives_by_kind is.0 (node_at u x) is.1) in
          file_by_one x one.0 one.1 one.2 starts
      comes_by_one thing (Slot dir name (Some x)) fits (of_new_link from kinds) =
          let one = made x from (lives_by_kind kind.Link (node_at u x) kinds) in
          link_by_one x one.0 one.1 one.2 kinds
      comes_by_one thing (Slot dir name (Some x)) fits (of_new_sock from kinds) =
          let one = made x from (lives_by_kind (kind.Known Sock) (node_at u x) kinds) in
          same_made one.0 NewSock (sock_is x one.0 one.1 kinds) one.2
      comes_by_one thing (Slot dir name (Some x)) fits (of_new_fifo from kinds) =
          let one = made x from (lives_by_kind (kind.Known Fifo) (node_at u x) kinds) in
          same_made one.0 NewFifo (fifo_is x one.0 one.1 kinds) one.2
      comes_by_one thing (Slot dir name None) fits (of_name perms kept) = refl
      comes_by_one thing (Slot dir name None) fits (of_others below kept) = refl
      comes_by_one thing (Slot dir name None) fits (of_new_others from) =
          let is = (and_parts (is_dir u dir) _ fits).0 in
          let one = made dir from (living_dir u now well dir is) in
          dir_by_one dir one.0 one.1 one.2 is

  -- a line of the list of both, with the calls that pass, is one of the list through execs, where a call is left
  pub listed_through : (t : Tree) (line : EverLine) (c : Call) → Contains (ever t tmp both) line → Contains line.calls c →
      can_come passes line.thing ≡ true → passes c ≡ true →
      Contains (ever_through t tmp now given) (let_through passes line) × Contains (let_through passes line).calls c
  listed_through t line c listed has comes one =
      let lines = map (let_through passes) (ever t tmp both) in
      let kept = among_filter (λ c. can_come passes line.thing && passes c) line.calls c
      (and_from (can_come passes line.thing) _ comes one) (among_contained line.calls c has) in (
        contained (filter has_ever_calls lines) (let_through passes line) (among_filter has_ever_calls lines (let_through passes line)
            (some_of (let_through passes line).calls c kept)
            (among_map (let_through passes) (ever t tmp both) line (among_contained (ever t tmp both) line listed))),
        contained (let_through passes line).calls c kept,
      )

  in_list : (t later : Tree) (c : Call) (named : Result Found Errno) → passes c ≡ true → (seen : IsForeseen t tmp both later c named) →
      can_come passes seen.line.thing ≡ true → IsForeseenIn (ever_through t tmp now given) t now later c named
  in_list t later c named one seen comes =
      let there = listed_through t seen.line c seen.listed seen.allows comes one in
      record {
        object = seen.object;
        names = seen.names;
        line = let_through passes seen.line;
        listed = there.0;
        about = line_too now given t later seen.line.thing seen.object seen.about;
        allows = there.1;
      }

  -- a line of the list through execs is what is left of one of the list of both
  from_both : (t : Tree) (line : EverLine) → Contains (ever_through t tmp now given) line →
      (other : EverLine) × Contains (ever t tmp both) other × (let_through passes other ≡ line)
  from_both t line listed =
      let lines = map (let_through passes) (ever t tmp both) in
      let there = filter_among has_ever_calls lines line (among_contained (filter has_ever_calls lines) line listed) in
      let one = map_among (let_through passes) (ever t tmp both) line there.0 in
      (one.0, contained (ever t tmp both) one.0 one.1, one.2)

  start_in_list : (t later : Tree) (object : Found) → passes call.Exec ≡ true → (seen : IsStartForeseen t tmp both later object) →
      can_come passes seen.thing ≡ true → IsStartForeseenIn (ever_through t tmp now given) t now both later object
  start_in_list t later object one seen comes = record {
    thing = seen.thing;
    about = line_too now given t later seen.thing object seen.about;
    turned = λ line listed about turning among has.
        let other = from_both t line listed in
        let left : Contains (let_through passes other.0).calls turning = subst (λ l. Contains l.calls turning) (sym other.2) has in
        let test = filter_among (λ c. can_come passes other.0.thing && passes c) other.0.calls turning
        (among_contained (let_through passes other.0).calls turning left) in
        let runs = seen.turned other.0 other.1 (ap (λ l. l.thing) other.2 ∙ about) turning among (contained other.0.calls turning test.0) in
        subst (λ l. Contains l.calls call.Exec) other.2
        (listed_through t other.0 call.Exec other.1 runs (and_parts (can_come passes other.0.thing) _ test.1).0 one).1;
    held = λ is.
        let line = seen.held is in
        let there = listed_through t line.0 call.Exec line.1 line.3 (ap (can_come passes) line.2 ∙ comes) one in
        (let_through passes line.0, there.0, line.2, there.1);
    made = λ new.
        let line = seen.made new in
        let there = listed_through t line.0 call.Exec line.1 line.3 (ap (can_come passes) (line.2 ∙ sym new) ∙ comes) one in
        (let_through passes line.0, there.0, line.2, there.1);
  }

  module _ (w : World) (asks : List Asked) (stand : VeilsStand w.tree now) (trees : TreesAlong table w asks) (members : List ℕ)
      (are : GoAlong table w now given members) (edits : MembersEdit table w asks members) (member : ℕ)
      (belongs : is_member (family table w asks members) member ≡ true) where
    abbrev after : Tree
    after = (world_after table w asks).tree

    last : HasKept (world_after table w asks) member (GoesAlong table now given)
    last = along_after table sound now given bounded asks w members are member belongs

    well_after : WellFormed after
    well_after = last_tree table w asks trees

    -- what has its line by who holds both comes by one of the two sets
    pub comes_too : (thing : Thing) (object : Found) → found_fits after object ≡ true → IsLineOf w.tree after both thing object →
        can_come passes thing ≡ true
    comes_too thing object fits about =
        let well = first_tree table w asks trees in
        comes_by_one w.tree well after well_after (made_through w.tree well asks w members are edits trees (made_first w.tree well)) thing object
        fits (line_too now given w.tree after thing object about)

    pub fits_named : (from : Start) (c : Call) (text : List ℕ) (object : Found) →
        resolution_of_text after from (ending_of c) text (last_of c) ≡ Ok object → found_fits after object ≡ true
    fits_named from c text object names =
        ((resolutions_fit (rooted after 0) well_after well_after.root).whole from (ending_of c) text (last_of c) object
        (named_within_text after from (ending_of c) text (last_of c) object names)).fits

    pub through_all : HasKept (world_after table w asks) member (ForeseesIn (ever_through w.tree tmp now given) w.tree tmp now after)
    through_all =
        let both_see = complete_within table sound needs w asks members both (members_within w members are) stand
        trees (none_looser asks w members are) edits member belongs in (
          both_see.0,
          both_see.1,
          λ from c text e.
              let named = resolution_of_text after from (ending_of c) text (last_of c) in
              let seen = both_see.2 from c text e in
              let same : last.0 ≡ both_see.0 = same_Some last.0 both_see.0 (sym last.1 ∙ both_see.1) in
              let one = promised_by_one tmp sound_too now given last.0 (along_too last.0 last.2) after c named (ap (λ h. verdict_of after tmp h c named) same ∙ e) in
              in_list w.tree after c named one seen (comes_too seen.line.thing seen.object (fits_named from c text seen.object seen.names)
              seen.about),
        )

    pub starts_all : HasKept (world_after table w asks) member
        (ForeseesStartsIn (ever_through w.tree tmp now given) w.tree tmp now both after)
    starts_all =
        let both_see = starts_within table sound needs w asks members both (members_within w members are) stand
        trees (none_looser asks w members are) edits member belongs in (
          both_see.0,
          both_see.1,
          λ from text dir name x named kinds e.
              let object : Found = Slot dir name (Some x) in
              let seen = both_see.2 from text dir name x named kinds e in
              let same : last.0 ≡ both_see.0 = same_Some last.0 both_see.0 (sym last.1 ∙ both_see.1) in
              let may : may_any last.0 (rule_of table call.Exec).alternatives ≡ Yes =
              yes tmp sound_too now given (may_any last.0 (rule_of table call.Exec).alternatives) _
              (ap (λ h. is_allowed (covered_verdict after tmp h call.Exec (cover after h object) IsProg)) same ∙ ap is_allowed e) in
              start_in_list w.tree after object (one_of tmp sound_too now given last.0 (along_too last.0 last.2) call.Exec may) seen
              (comes_too seen.thing object (fits_named from call.Exec text object named) seen.about),
        )

pub ever_through_execs : EverThroughExecs
ever_through_execs table sound needs w asks members now given bounded are stand trees edits member belongs =
    through_all table sound needs now given bounded w asks stand trees members are edits member belongs

pub starts_through_execs : StartsThroughExecs
starts_through_execs table sound needs w asks members now given bounded are stand trees edits member belongs =
    starts_all table sound needs now given bounded w asks stand trees members are edits member belongs

-- where no line has exec none has the call
pub none_has : (lines : List EverLine) → has_exec lines ≡ false → (line : EverLine) → Contains lines line → Contains line.calls call.Exec → ⊥
none_has lines none line listed has =
    false≢true (sym none ∙ any_among (λ l. list_any is_exec_call l.calls) lines line (among_contained lines line listed)
    (any_among is_exec_call line.calls call.Exec (among_contained line.calls call.Exec has) refl))

-- so of the list of a process itself
pub no_line : (t : Tree) (table : CallTable) (h : ProcessState) → has_exec (ever t table h) ≡ false → NoLineHasExec t table h
no_line t table h none = none_has (ever t table h) none

pub ever_lasts : EverLasts
ever_lasts table sound needs w asks process now given here bound stand trees edits member belongs =
    by (has_exec (ever w.tree tmp now)) refl
  where
    tmp : CallTable
    tmp = tmp_table table

    Seen : List EverLine → Type 0
    Seen lines = HasKept (world_after table w asks) member (ForeseesIn lines w.tree tmp now (world_after table w asks).tree)

    by : (b : Bool) → has_exec (ever w.tree tmp now) ≡ b → Seen (ever_lasting w.tree tmp now)
    by true is =
        let parts = bound_parts table now given bound in
        subst Seen (sym (lasting_through w.tree tmp now given (bound_too table now ∙ bound) is))
        (through_all table sound needs now given parts.bounded w asks stand trees (process ∷ [])
        (along_first table sound now given parts.bounded w process here parts.set parts.confined) edits member belongs)
    by false is =
        let parts = bound_parts table now given bound in
        let was = lacks_unveil table sound now given parts.bounded now (goes table sound now given parts.bounded now
        (along_now table sound now given parts.bounded parts.set parts.confined)) in
        let none = without_exec_beside table sound needs w asks process now here was stand trees edits (no_line w.tree tmp now is) in
        subst Seen (sym (lasting_alone w.tree tmp now given (bound_too table now ∙ bound) is))
        (beside_one table sound needs w asks process now here was stand trees none edits member belongs)
