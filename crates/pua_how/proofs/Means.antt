-- The path and the kind of a line of a list for ever mean what the line is about.
use Rattle.std.proofs.Common.{◌≡◌, ℕ, Bool, true, false, cond, List, [], ◌∷◌, refl, sym, ap, subst, ◌∙◌, Option, Some, None}
use Rattle.std.proofs.lemmas.Bool.{false≢true}
use Rattle.std.specs.Prelude.{◌==◌, filter, if◌then◌else◌, is_some, option_and_then, option_map, unwrap_or}
use Rattle.pua_tree.specs.Tree.{Node, Tree, is_dir, is_dir_kind, kind_at, look, node_at}
use Rattle.pua_tree.specs.declared.node.Kind.{Kind}
use Rattle.pua_tree.specs.declared.node.Kind.TheVariants as node
use Rattle.pua_tree.specs.declared.node.FileType.TheVariants.{Plain, Sock, Fifo, Dev}
use Rattle.pua_path.specs.declared.found.Way.{Way}
use Rattle.pua_path.specs.declared.found.Way.TheVariants.{Named, Top}
use Rattle.pua_path.specs.declared.found.Found.TheVariants.{Whole, Slot}
use Rattle.pua_policy.specs.States.{ProcessState, perms_kept}
use Rattle.pua_policy.specs.Verdict.{object_of_kind, object_word}
use Rattle.pua_policy.specs.declared.place.Place.TheVariants as place
use Rattle.pua_audit.specs.Reach.{Word}
use Rattle.pua_objects.specs.Lines.{kind_word}
use Rattle.pua_objects.specs.Objects.{At, Others}
use Rattle.pua_objects.specs.declared.kind.ObjectKind.{ObjectKind}
use Rattle.pua_objects.specs.declared.kind.ObjectKind.TheVariants as kind
use Rattle.pua_ever.specs.Ever.{Thing, Stands, Comes, New, NewDir, NewOthers, NewFile, NewLink, NewSock, NewFifo, new_word}
use Rattle.pua_how.specs.PathQuestion.{question_by, directory_at_name, is_of_kind, is_same_kind, own_name, targets_at, targets_by, targets_in, targets_new}
use Rattle.pua_how.specs.PathQuestion.{targets_of, thing_word}
use Rattle.pua_ever.specs.ShownForEver.{shown_lasting}
use Rattle.pua_ever.specs.Through.{ever_lasting}
use Rattle.pua_how.specs.Laws.{LinesMeanTheirOwn}
use Rattle.pua_how.specs.Targets.{target_about}
use Rattle.pua_how.specs.declared.target.Target.{Target}
use Rattle.pua_how.specs.declared.target.Target.TheVariants as target
use Rattle.pua_how.proofs.NamesLeadToThing.{IsDirBy, IsPlaced, lasting_placed, shown_placed, spot_by, spot_in}

-- ---- kinds

-- a kind by the third letter of its word, which all have apart; of a plain file, what it has in common with any file
abbrev kind_by : ℕ → ObjectKind
kind_by letter =
    if letter == 114 then kind.Node node.Dir
    else (if letter == 108 then kind.Node node.File
    else (if letter == 111 then kind.Node node.Prog
    else (if letter == 110 then kind.Node node.Link
    else (if letter == 99 then kind.Node (node.Known Sock)
    else (if letter == 102 then kind.Node (node.Known Fifo)
    else (if letter == 118 then kind.Node (node.Known Dev)
    else (if letter == 115 then kind.Missing else kind.Other)))))))

abbrev kind_of_word : List ℕ → ObjectKind
kind_of_word (first ∷ second ∷ third ∷ more) = kind_by third
kind_of_word _ = kind.Other

abbrev by_word : ObjectKind → ObjectKind
by_word (kind.Node (node.Known Plain)) = kind.Node node.File
by_word one = one

its_kind : (one : ObjectKind) → kind_of_word (kind_word one) ≡ by_word one
its_kind (kind.Node node.Dir) = refl
its_kind (kind.Node node.File) = refl
its_kind (kind.Node node.Prog) = refl
its_kind (kind.Node node.Link) = refl
its_kind (kind.Node (node.Known Plain)) = refl
its_kind (kind.Node (node.Known Sock)) = refl
its_kind (kind.Node (node.Known Fifo)) = refl
its_kind (kind.Node (node.Known Dev)) = refl
its_kind kind.Missing = refl
its_kind kind.Other = refl

same_plain : (o : Option Kind) → is_same_kind node.File o ≡ is_same_kind (node.Known Plain) o
same_plain None = refl
same_plain (Some node.Dir) = refl
same_plain (Some node.File) = refl
same_plain (Some node.Prog) = refl
same_plain (Some node.Link) = refl
same_plain (Some (node.Known Plain)) = refl
same_plain (Some (node.Known Sock)) = refl
same_plain (Some (node.Known Fifo)) = refl
same_plain (Some (node.Known Dev)) = refl

-- what is of a plain file's kind is of a file's
plain_too : (t : Tree) (thing : Target) → is_of_kind t (kind.Node node.File) thing ≡ is_of_kind t (kind.Node (node.Known Plain)) thing
plain_too t (target.Directory asked) = refl
plain_too t (target.Others asked) = refl
plain_too t (target.Node asked) = same_plain (kind_at t asked)
plain_too t (target.Name asked name) = refl
plain_too t (target.NewDirectory last) = refl
plain_too t (target.NewOthers last) = refl
plain_too t (target.NewFile last) = refl
plain_too t (target.NewLink last) = refl
plain_too t (target.NewSock last) = refl
plain_too t (target.NewFifo last) = refl

-- what is so of a file as of a plain one is so of all kinds of one word alike
pub by_its_word : (A : Type 0) (f : ObjectKind → A) → f (kind.Node node.File) ≡ f (kind.Node (node.Known Plain)) → (one other : ObjectKind) →
    kind_word one ≡ kind_word other → f one ≡ f other
by_its_word A f plain one other same =
    sym (its one) ∙ ap f (sym (its_kind one) ∙ ap kind_of_word same ∙ its_kind other) ∙ its other
  where
    its : (k : ObjectKind) → f (by_word k) ≡ f k
    its (kind.Node node.Dir) = refl
    its (kind.Node node.File) = refl
    its (kind.Node node.Prog) = refl
    its (kind.Node node.Link) = refl
    its (kind.Node (node.Known Plain)) = plain
    its (kind.Node (node.Known Sock)) = refl
    its (kind.Node (node.Known Fifo)) = refl
    its (kind.Node (node.Known Dev)) = refl
    its kind.Missing = refl
    its kind.Other = refl

-- by kinds of one word the same is meant
pub same_meant : (t : Tree) (one other : ObjectKind) → kind_word one ≡ kind_word other → (things : List Target) →
    filter (is_of_kind t one) things ≡ filter (is_of_kind t other) things
same_meant t one other same things =
    by_its_word (List Target) (λ k. filter (is_of_kind t k) things) (λ i. filter (λ thing. plain_too t thing i) things) one other same

-- what lives has a kind, which its word tells
pub node_kind : (one : ObjectKind) (o : Option Node) → is_some o ≡ true →
    kind_word one ≡ object_word (object_of_kind (option_map (λ (n : Node). n.kind) o)) →
    (own : Kind) × (option_map (λ (n : Node). n.kind) o ≡ Some own) × (kind_word one ≡ kind_word (kind.Node own))
node_kind one None lives told = absurd (false≢true lives)
node_kind one (Some n) lives told = (n.kind, refl, told)

-- ---- what is meant

module _ (t : Tree) (h : ProcessState) where
  -- what is meant by names is what is meant at their end
  in_spot : (more : Word) (dir : ℕ) (name : List ℕ) →
      targets_in t h dir name more ≡ option_map (λ spot. targets_at t h spot.0 spot.1) (spot_in t dir name more)
  in_spot [] dir name = refl
  in_spot (next ∷ more) dir name = by (λ node. in_spot more node next) (directory_at_name t dir name)
    where
      by : ((node : ℕ) → targets_in t h node next more ≡ option_map (λ spot. targets_at t h spot.0 spot.1) (spot_in t node next more)) →
          (o : Option ℕ) → option_and_then (λ node. targets_in t h node next more) o
          ≡ option_map (λ spot. targets_at t h spot.0 spot.1) (option_and_then (λ node. spot_in t node next more) o)
      by more None = refl
      by more (Some node) = more node

  by_spot : (word : Word) (dir : ℕ) (name : List ℕ) → spot_by t word ≡ Some (dir, name) → targets_by t h word ≡ Some (targets_at t h dir name)
  by_spot [] dir name at = cc
  by_spot (first ∷ more) dir name at = in_spot more 0 first ∙ ap (option_map (λ spot. targets_at t h spot.0 spot.1)) at

  module _ (dir : ℕ) (name : List ℕ) where
    dir_at : (x : ℕ) → look t dir name ≡ Some x → is_dir t x ≡ true →
        targets_at t h dir name ≡ target.Directory x ∷ target.Others x ∷ own_name h dir name
    dir_at x row living = rw (row, living) refl

    node_at_name : (x : ℕ) → look t dir name ≡ Some x → is_dir t x ≡ false → targets_at t h dir name ≡ target.Node x ∷ own_name h dir name
    node_at_name x row other = rw (row, other) refl

    none_at : look t dir name ≡ None → is_some (perms_kept h (place.Slot dir name)) ≡ true → targets_at t h dir name ≡ target.Name dir name ∷ []
    none_at row kept = rw (row, kept) refl

    -- the name itself is of no kind of what stands there
    no_own : (one : ObjectKind) → is_of_kind t one (target.Name dir name) ≡ false → filter (is_of_kind t one) (own_name h dir name) ≡ []
    no_own one none = by (is_some (perms_kept h (place.Slot dir name)))
      where
        by : (b : Bool) → filter (is_of_kind t one) (cond b (target.Name dir name ∷ []) []) ≡ []
        by true = rw none refl
        by false = refl

    -- it alone is a missing name
    own_alone : is_some (perms_kept h (place.Slot dir name)) ≡ true →
        filter (is_of_kind t kind.Missing) (targets_at t h dir name) ≡ target.Name dir name ∷ []
    own_alone kept = by (look t dir name) refl
      where
        own : own_name h dir name ≡ target.Name dir name ∷ []
        own = rw kept refl

        there : (x : ℕ) (b : Bool) → look t dir name ≡ Some x → is_dir t x ≡ b →
            filter (is_of_kind t kind.Missing) (targets_at t h dir name) ≡ target.Name dir name ∷ []
        there x true row is = ap (filter (is_of_kind t kind.Missing)) (dir_at x row is) ∙ ap (filter (is_of_kind t kind.Missing)) own
        there x false row is = ap (filter (is_of_kind t kind.Missing)) (node_at_name x row is) ∙ ap (filter (is_of_kind t kind.Missing)) own

        by : (o : Option ℕ) → look t dir name ≡ o → filter (is_of_kind t kind.Missing) (targets_at t h dir name) ≡ target.Name dir name ∷ []
        by None row = ap (filter (is_of_kind t kind.Missing)) (none_at row kept)
        by (Some x) row = there x (is_dir t x) row refl

  -- a file, program or link is of its own kind, and a name is of none of these
  of_node : (x : ℕ) (own : Kind) → kind_at t x ≡ Some own → is_dir_kind (Some own) ≡ false → is_of_kind t (kind.Node own) (target.Node x) ≡ true
  of_node x node.Dir at other = absurd (false≢true (sym other))
  of_node x node.File at other = rw at refl
  of_node x node.Prog at other = rw at refl
  of_node x node.Link at other = rw at refl
  of_node x (node.Known Plain) at other = rw at refl
  of_node x (node.Known Sock) at other = rw at refl
  of_node x (node.Known Fifo) at other = rw at refl
  of_node x (node.Known Dev) at other = rw at refl

  of_name : (own : Kind) (dir : ℕ) (name : List ℕ) → is_of_kind t (kind.Node own) (target.Name dir name) ≡ false
  of_name node.Dir dir name = refl
  of_name node.File dir name = refl
  of_name node.Prog dir name = refl
  of_name node.Link dir name = refl
  of_name (node.Known Plain) dir name = refl
  of_name (node.Known Sock) dir name = refl
  of_name (node.Known Fifo) dir name = refl
  of_name (node.Known Dev) dir name = refl

  abbrev NewMeans : ℕ → New → ObjectKind → Type 0
  NewMeans last new one = filter (is_of_kind t one) (targets_new last) ≡ target_about last (Comes new) ∷ []

  new_meant : (last : ℕ) (new : New) (one : ObjectKind) → kind_word one ≡ new_word new → NewMeans last new one
  new_meant last NewDir one told = same_meant t one (kind.Node node.Dir) told (targets_new last)
  new_meant last NewOthers one told = same_meant t one kind.Other told (targets_new last)
  new_meant last NewFile one told = same_meant t one (kind.Node node.File) told (targets_new last)
  new_meant last NewLink one told = same_meant t one (kind.Node node.Link) told (targets_new last)
  new_meant last NewSock one told = same_meant t one (kind.Node (node.Known Sock)) told (targets_new last)
  new_meant last NewFifo one told = same_meant t one (kind.Node (node.Known Fifo)) told (targets_new last)

  -- ---- what a line is about

  abbrev Means : ObjectKind → Word → Target → Type 0
  Means one word own = filter (is_of_kind t one) (unwrap_or (targets_by t h word) []) ≡ own ∷ []

  meant_at : (one : ObjectKind) (word : Word) (dir : ℕ) (name : List ℕ) (own : Target) → spot_by t word ≡ Some (dir, name) →
      filter (is_of_kind t one) (targets_at t h dir name) ≡ own ∷ [] → Means one word own
  meant_at one word dir name own at is = ap (λ o. filter (is_of_kind t one) (unwrap_or o [])) (by_spot word dir name at) ∙ is

  dir_meant : (word : Word) (dir : ℕ) (way : Way) → IsDirBy t word dir way → is_dir t dir ≡ true →
      Means (kind.Node node.Dir) word (target.Directory dir) × Means kind.Other word (target.Others dir)
  dir_meant word dir Top at living = (
    (λ i. filter (is_of_kind t (kind.Node node.Dir)) (unwrap_or (targets_by t h (at.0 i)) [])) ∙ (λ i. target.Directory (sym at.1 i) ∷ []),
    (λ i. filter (is_of_kind t kind.Other) (unwrap_or (targets_by t h (at.0 i)) [])) ∙ (λ i. target.Others (sym at.1 i) ∷ []),
  )
  dir_meant word dir (Named over name) at living = (
    meant_at (kind.Node node.Dir) word over name (target.Directory dir) at.0
        (ap (filter (is_of_kind t (kind.Node node.Dir))) (dir_at over name dir at.1 living)
        ∙ ap (λ more. target.Directory dir ∷ more) (no_own over name (kind.Node node.Dir) refl)),
    meant_at kind.Other word over name (target.Others dir) at.0
        (ap (filter (is_of_kind t kind.Other)) (dir_at over name dir at.1 living)
        ∙ ap (λ more. target.Others dir ∷ more) (no_own over name kind.Other refl)),
  )
  dir_meant word dir _ at living = absurd at

  node_meant : (own : Kind) (word : Word) (dir : ℕ) (name : List ℕ) (x : ℕ) → spot_by t word ≡ Some (dir, name) → look t dir name ≡ Some x →
      is_dir t x ≡ false → kind_at t x ≡ Some own → Means (kind.Node own) word (target.Node x)
  node_meant own word dir name x at row other is =
      let behind = filter (is_of_kind t (kind.Node own)) (own_name h dir name) in
      meant_at (kind.Node own) word dir name (target.Node x) at
      (ap (filter (is_of_kind t (kind.Node own))) (node_at_name dir name x row other)
      ∙ ap (λ b. cond b (target.Node x ∷ behind) behind) (of_node x own is (sym (ap is_dir_kind is) ∙ other))
      ∙ ap (λ more. target.Node x ∷ more) (no_own dir name (kind.Node own) (of_name own dir name)))

  pub meant : (word : Word) (thing : Thing) → IsPlaced t h word thing → (one : ObjectKind) → kind_word one ≡ thing_word t thing → (last : ℕ) →
      targets_of t h last (question_by word thing) (Some one) ≡ target_about last thing ∷ []
  meant word (Stands (At (Whole dir way))) placed one told last =
      same_meant t one (kind.Node node.Dir) told (unwrap_or (targets_by t h word) []) ∙ (dir_meant word dir way placed.0 placed.1).0
  meant word (Stands (Others dir)) placed one told last =
      same_meant t one kind.Other told (unwrap_or (targets_by t h word) []) ∙ (dir_meant word dir placed.0.0 placed.0.1 placed.1).1
  meant word (Stands (At (Slot dir name (Some x)))) placed one told last =
      let own = node_kind one (node_at t x) placed.3 told in
      same_meant t one (kind.Node own.0) own.2 (unwrap_or (targets_by t h word) [])
      ∙ node_meant own.0 word dir name x placed.0 placed.1 placed.2 own.1
  meant word (Stands (At (Slot dir name None))) placed one told last =
      same_meant t one kind.Missing told (unwrap_or (targets_by t h word) [])
      ∙ meant_at kind.Missing word dir name (target.Name dir name) placed.0 (own_alone dir name placed.1)
  meant word (Comes new) placed one told last = new_meant last new one told

pub lasting_mean_their_own : LinesMeanTheirOwn ever_lasting
lasting_mean_their_own t table h well line listed one told last =
    meant t h line.word line.thing (lasting_placed t table h well line listed) one told last

pub shown_mean_their_own : LinesMeanTheirOwn shown_lasting
shown_mean_their_own t table h well line listed one told last =
    meant t h line.word line.thing (shown_placed t table h well line listed) one told last
