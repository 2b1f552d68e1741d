-- Processes that are enclosed for ever stay so with all that they fork, and keep what they do at or below their root.
use Rattle.pua_ever.proofs.Common.{◌≡◌, ◌⊎◌, ℕ, List, [], ◌∷◌, Bool, true, false, cond, refl, sym, ap, subst, ◌∙◌, inl, inr, Some, not, ◌&&◌}
use Rattle.pua_ever.proofs.Common.{◌||◌, false≢true, and_parts, not-true, same_Some, Tree, WellFormed, Spot, is_dir, CallTable}
use Rattle.pua_ever.proofs.Common.{ProcessState, state_after, found_here, found_put, Asked, World, apply, world_after, kept_at, Copies, Fails}
use Rattle.pua_ever.proofs.Common.{is_member, is_done, is_exec, none_done, family_then, TreesAlong, first_tree, NoCallNeedsError}
use Rattle.std.proofs.Common.{lit<}
use Rattle.std.proofs.lemmas.Bool.{false_from_ne_true}
use Rattle.std.specs.Prelude.{nat_eq}
use Rattle.pua_calls.specs.Promises.{holds, id}
use Rattle.pua_policy.specs.States.{Ended, is_directory, root_dir}
use Rattle.pua_policy.specs.declared.open_file.OpenFile.{OpenFile}
use Rattle.pua_script.specs.Decide.{decide}
use Rattle.pua_script.specs.Family.{HasKept, family, is_okay}
use Rattle.pua_script.specs.Replay.{Effect, Kills, Leaves, answer_to, come_of, left_by}
use Rattle.pua_script.specs.Worlds.{state_left}
use Rattle.pua_script.specs.declared.answer.Answer.{Answer}
use Rattle.pua_script.proofs.ForCallers.{by_living, by_own_tree}
use Rattle.pua_ever.specs.EnclosedForEver.{EnclosedStay, EnclosedThroughExecs, EnclosedWithExecs, FreesNone, IsEnclosedIn, KeepInside}
use Rattle.pua_ever.specs.EnclosedForEver.{NoExecFrees}
use Rattle.pua_objects.specs.Roots.{is_enclosed_for_ever, is_held_inside, stays_in}
use Rattle.pua_ever.specs.Laws.{MembersEdit}
use Rattle.pua_ever.specs.Through.{GoesAlong, GoAlong, is_bounded}
use Rattle.pua_ever.proofs.Enclosing.{Enclosed, Lacks, Placed, enclosed_parts, enclosed_whole, MovesBy, TiesBy, pass_too, stays_decided, turns_decided}
use Rattle.pua_ever.proofs.Holding.{along_first, along_then, bound_parts, own}
use Rattle.pua_ever.proofs.InsideTrees.{Turns, keep_both, keep_none, keeps_inside, root_stays, still_stays, turns_none}
use Rattle.pua_ever.proofs.KindsKept.{Are, alone_are, members_left}

-- ---- one request

-- a way that asks for nothing
abbrev AnyWay : Spot → Spot → ℕ → Type 0
AnyWay to r x = Unit {0}

-- what it leaves the one that asks, by the tree before it
module _ (table : CallTable) (w : World) (ask : Asked) (h : ProcessState) (here : kept_at w ask.process ≡ Some h) (well : WellFormed w.tree)
    (root : ℕ) (k : Enclosed w.tree root h) where
  -- placed, and without the promise where it started no program
  abbrev LeftSo : Answer → ProcessState → Type 0
  LeftSo a g = Placed w.tree root g × ((is_exec ask.action && is_okay a) ≡ false → Lacks g)

  left : (e : Effect) → LeftSo (answer_to e) (state_left h e) → HasKept (left_by w ask.process h e) ask.process (LeftSo (answer_to e))
  left (Fails errno) so = (h, here, so)
  left Kills so = (state_after Ended h, found_here ask.process (state_after Ended h) w.processes, so)
  left (Leaves u g) so = (g, found_here ask.process g w.processes, so)
  left (Copies new) so = (h, found_put ask.process new h w.processes ∙ by (nat_eq new ask.process), so)
    where
      by : (b : Bool) → cond b (Some h) (kept_at w ask.process) ≡ Some h
      by true = refl
      by false = here

  own_placed : HasKept (apply table w ask).1 ask.process (LeftSo (apply table w ask).0)
  own_placed =
      by_living table w ask h here (λ done. HasKept done.1 ask.process (LeftSo done.0)) (h, here, (k.placed, λ e. k.lacks))
      (left (come_of w h (decide table w.tree h ask.action)) (stays_decided table w well root h k ask.action AnyWay (λ old new c d shift s at r at_new x row. tt) (λ old new c d s at r at_new. tt)))

  pub own_enclosed : (members : List ℕ) → is_member members ask.process ≡ true → FreesNone table w ask members →
      HasKept (apply table w ask).1 ask.process (Enclosed w.tree root)
  own_enclosed members belongs frees = by (is_exec ask.action && is_okay (apply table w ask).0) refl
    where
      after : HasKept (apply table w ask).1 ask.process (LeftSo (apply table w ask).0)
      after = own_placed

      by : (b : Bool) → (is_exec ask.action && is_okay (apply table w ask).0) ≡ b →
          HasKept (apply table w ask).1 ask.process (Enclosed w.tree root)
      by false e = (after.0, after.1, record { lives = k.lives; placed = after.2.0; lacks = after.2.1 e })
      by true e =
          let freed = frees (ap (λ b. b && (is_exec ask.action && is_okay (apply table w ask).0)) belongs ∙ e) in
          let same : freed.0 ≡ after.0 = same_Some freed.0 after.0 (sym freed.1 ∙ after.1) in
          (after.0, after.1, record { lives = k.lives; placed = after.2.0; lacks = subst Lacks same freed.2 })

  pub own_turns : (IsWay : Spot → Spot → ℕ → Type 0) → MovesBy table w h IsWay → TiesBy table w h IsWay →
      Turns table w.tree h root IsWay (apply table w ask).1.tree
  own_turns IsWay moved tied = by_own_tree table w ask h here (Turns table w.tree h root IsWay) (turns_none table w.tree h root IsWay)
      (λ c decided. turns_decided table w well root h k ask.action IsWay moved tied c decided)

-- what is enclosed in a tree is so in the one that turned inside alone
module _ (table : CallTable) (t u : Tree) (h : ProcessState) (root : ℕ) (well : WellFormed t) (well_then : WellFormed u)
    (lives : is_dir t root ≡ true) (turns : Turns table t h root AnyWay u) where
  held_still : (file : OpenFile) → is_held_inside t root file ≡ true → is_held_inside u root file ≡ true
  held_still file = by (is_directory file)
    where
      by : (b : Bool) → (not b || stays_in t root file.node) ≡ true → (not b || stays_in u root file.node) ≡ true
      by true stays = still_stays table t u h root well well_then lives AnyWay turns file.node stays
      by false stays = refl

  pub enclosed_still : (g : ProcessState) → Enclosed t root g → Enclosed u root g
  enclosed_still g k = record {
    lives = root_stays table t u h root well well_then lives AnyWay turns;
    placed = record {
      rooted = k.placed.rooted;
      dir = still_stays table t u h root well well_then lives AnyWay turns g.start.dir k.placed.dir;
      files = pass_too (is_held_inside t root) (is_held_inside u root) held_still g.files k.placed.files;
    };
    lacks = k.lacks;
  }

module _ (table : CallTable) (root : ℕ) where
  abbrev pub AreIn : World → List ℕ → Type 0
  AreIn w members = Are (Enclosed w.tree root) w members

  pub one_request : (w : World) (ask : Asked) (members : List ℕ) → AreIn w members → WellFormed w.tree → WellFormed (apply table w ask).1.tree →
      FreesNone table w ask members → (is_member members ask.process ≡ true) ⊎ ((apply table w ask).1.tree ≡ w.tree) →
      KeepInside root w.tree (apply table w ask).1.tree × AreIn (apply table w ask).1 (family_then table w ask members)
  one_request w ask members are well well_then frees edit = by (is_member members ask.process) refl
    where
      u : Tree
      u = (apply table w ask).1.tree

      by_member : is_member members ask.process ≡ true → KeepInside root w.tree (apply table w ask).1.tree
          × AreIn (apply table w ask).1 (family_then table w ask members)
      by_member belongs =
          let asker = are ask.process belongs in
          let k = asker.2 in
          let turns = own_turns table w ask asker.0 asker.1 well root k AnyWay (λ old new c d shift s at r at_new x row. tt) (λ old new c d s at r at_new. tt) in
          let left_are = members_left table w ask members (Enclosed w.tree root) are
          (λ b. own_enclosed table w ask asker.0 asker.1 well root k members belongs frees) in (
            keeps_inside table w.tree (apply table w ask).1.tree asker.0 root well well_then k.lives AnyWay turns,
            λ m there. (let one = left_are m there in (
              one.0,
              one.1,
              enclosed_still table w.tree (apply table w ask).1.tree asker.0 root well well_then k.lives turns one.0 one.2,
            )),
          )

      by_other : is_member members ask.process ≡ false → (is_member members ask.process ≡ true) ⊎ ((apply table w ask).1.tree ≡ w.tree) →
          KeepInside root w.tree (apply table w ask).1.tree × AreIn (apply table w ask).1 (family_then table w ask members)
      by_other other (inl belongs) = absurd (false≢true (sym other ∙ belongs))
      by_other other (inr same) = (
        subst (KeepInside root w.tree) (sym same) (keep_none root w.tree),
        subst (λ t. Are (Enclosed t root) (apply table w ask).1 (family_then table w ask members)) (sym same)
            (members_left table w ask members (Enclosed w.tree root) are (λ belongs. absurd (false≢true (sym other ∙ belongs)))),
      )

      by : (b : Bool) → is_member members ask.process ≡ b → KeepInside root w.tree (apply table w ask).1.tree
          × AreIn (apply table w ask).1 (family_then table w ask members)
      by true belongs = by_member belongs
      by false other = by_other other edit

  pub enclosed_along : (asks : List Asked) (w : World) (members : List ℕ) → AreIn w members → TreesAlong table w asks →
      NoExecFrees table w asks members → MembersEdit table w asks members →
      KeepInside root w.tree (world_after table w asks).tree × AreIn (world_after table w asks) (family table w asks members)
  enclosed_along [] w members are trees frees edits = (keep_none root w.tree, are)
  enclosed_along (ask ∷ asks) w members are trees frees edits =
      let after = (apply table w ask).1 in
      let well_then = first_tree table after asks trees.1 in
      let one = one_request w ask members are trees.0 well_then frees.0 edits.0 in
      let more = enclosed_along asks after (family_then table w ask members) one.1 trees.1 frees.1 edits.1 in
      (keep_both root w.tree after.tree (world_after table after asks).tree trees.0 well_then one.0 more.0, more.1)

-- ---- the laws

pub enclosed_in : (t : Tree) (root : ℕ) (h : ProcessState) → IsEnclosedIn t root h → Enclosed t root h
enclosed_in t root h k = subst (λ r. Enclosed t r h) k.rooted (enclosed_parts t h k.enclosed)

pub enclosed_again : (t : Tree) (root : ℕ) (h : ProcessState) → Enclosed t root h → IsEnclosedIn t root h
enclosed_again t root h k = record { rooted = k.placed.rooted; enclosed = enclosed_whole t root h k }

pub enclosed_with_execs : EnclosedWithExecs
enclosed_with_execs table w asks root members are trees frees edits =
    let along = enclosed_along table root asks w members
    (λ m belongs. let one = are m belongs in (one.0, one.1, enclosed_in w.tree root one.0 one.2)) trees frees edits in (
      along.0,
      λ m belongs. (let one = along.1 m belongs in (one.0, one.1, enclosed_again (world_after table w asks).tree root one.0 one.2)),
    )

-- where no exec is answered ok, none frees
pub none_frees : (table : CallTable) (asks : List Asked) (w : World) (members : List ℕ) → none_done is_exec table w asks members ≡ true →
    NoExecFrees table w asks members
none_frees table [] w members none = tt
none_frees table (ask ∷ asks) w members none =
    let parts = and_parts (not (is_done is_exec table w ask members)) _ none in (
      λ e. absurd (false≢true (sym (not-true (is_done is_exec table w ask members) parts.0) ∙ e)),
      none_frees table asks (apply table w ask).1 (family_then table w ask members) parts.1,
    )

pub enclosed_stay : EnclosedStay
enclosed_stay table w asks process now here enclosed trees none edits =
    enclosed_with_execs table w asks (root_dir now) (process ∷ [])
    (alone_are (IsEnclosedIn w.tree (root_dir now)) w process now here (record { rooted = refl; enclosed = enclosed }))
    trees (none_frees table asks w (process ∷ []) none) edits

-- who goes along holds what one of both sets holds
module _ (table : CallTable) (sound : NoCallNeedsError table) (now : ProcessState) (given : ℕ) (bounded : is_bounded table given ≡ true)
    (lacks : Lacks now) (lacks_given : holds given id ≡ false) where
  goes_lacking : (h : ProcessState) → GoesAlong table now given h → Lacks h
  goes_lacking h k = false_from_ne_true _ (λ holding. elim k.promises [
    | inl one ↦ elim one [
      | inl kept ↦ false≢true (sym lacks ∙ kept.0 id (lit< tt, refl) holding)
      | inr later ↦ false≢true (sym lacks_given ∙ later.0 id (lit< tt, refl) holding)
    ]
    | inr none ↦ false≢true (sym lacks ∙ none.0 id (lit< tt, refl) holding)
  ])

  pub bounded_frees : (asks : List Asked) (w : World) (members : List ℕ) → GoAlong table w now given members → NoExecFrees table w asks members
  bounded_frees [] w members are = tt
  bounded_frees (ask ∷ asks) w members are = (
    λ done.
        let asked = and_parts (is_member members ask.process) _ done in
        let one = own table sound now given bounded w ask members are asked.0 in
        (one.0, one.1, goes_lacking one.0 one.2),
    bounded_frees asks (apply table w ask).1 (family_then table w ask members)
        (along_then table sound now given bounded w ask members are),
  )

pub enclosed_through_execs : EnclosedThroughExecs
enclosed_through_execs table sound w asks process now given here bound enclosed trees edits =
    let parts = and_parts (is_enclosed_for_ever w.tree now) (not (holds given id)) enclosed in
    let bounds = bound_parts table now given bound in
    let k = enclosed_parts w.tree now parts.0 in
    enclosed_with_execs table w asks (root_dir now) (process ∷ [])
    (alone_are (IsEnclosedIn w.tree (root_dir now)) w process now here (record { rooted = refl; enclosed = parts.0 }))
    trees
    (bounded_frees table sound now given bounds.bounded k.lacks (not-true (holds given id) parts.1) asks w (process ∷ [])
    (along_first table sound now given bounds.bounded w process here bounds.set bounds.confined))
    edits
