-- What the list of now has at the names of a line of a list for ever is what the line is about, while that is there.
use Rattle.pua_tool.proofs.Common.{◌≡◌, ℕ, List, [], ◌∷◌, ◌∙◌, refl, sym, ap, Option, Some, None, Tree, ProcessState, CallTable}
use Rattle.std.proofs.Common.{Bool, true, false, cond}
use Rattle.std.proofs.lemmas.Bool.{false≢true}
use Rattle.std.specs.Prelude.{is_none, option_and_then, ◌&&◌}
use Rattle.pua_tree.specs.Tree.{Spot, is_dir, is_dir_kind, kind_at, look, node_at}
use Rattle.pua_tree.specs.declared.node.Kind.{Kind}
use Rattle.pua_tree.specs.declared.node.Kind.TheVariants as node
use Rattle.pua_tree.specs.declared.node.FileType.TheVariants.{Plain}
use Rattle.pua_path.specs.declared.found.Found.TheVariants.{Whole, Slot}
use Rattle.pua_path.specs.declared.found.Way.{Way}
use Rattle.pua_path.specs.declared.found.Way.TheVariants.{Named, Top}
use Rattle.pua_calls.specs.declared.call.Call.{Call}
use Rattle.pua_audit.specs.Reach.{Word}
use Rattle.pua_objects.specs.Lines.{kind_word}
use Rattle.pua_objects.specs.Objects.{Subject, At, Others}
use Rattle.pua_objects.specs.declared.kind.ObjectKind.{ObjectKind}
use Rattle.pua_objects.specs.declared.kind.ObjectKind.TheVariants as kind
use Rattle.pua_ever.specs.Ever.{Thing, Stands, Comes}
use Rattle.pua_how.specs.PathQuestion.{directory_at_name, thing_word}
use Rattle.pua_how.proofs.ForCallers.{IsDirBy, IsPlaced, by_its_word, node_kind, spot_by, spot_in}
use Rattle.pua_tool.specs.RowColumns.{is_now_on, is_there}
use Rattle.pua_tool.specs.EverHowTexts.{is_now, subject_at, subject_in, subject_now, subject_there}

module _ (t : Tree) where
  -- what stands at names stands at their end
  abbrev There : ObjectKind → Spot → Option Subject
  There one spot = subject_there t one spot.0 spot.1 (look t spot.0 spot.1)

  in_spot : (one : ObjectKind) (more : Word) (dir : ℕ) (name : List ℕ) →
      subject_in t one dir name more ≡ option_and_then (There one) (spot_in t dir name more)
  in_spot one [] dir name = refl
  in_spot one (next ∷ more) dir name = by (λ x. in_spot one more x next) (directory_at_name t dir name)
    where
      by : ((x : ℕ) → subject_in t one x next more ≡ option_and_then (There one) (spot_in t x next more)) → (o : Option ℕ) →
          option_and_then (λ x. subject_in t one x next more) o
          ≡ option_and_then (There one) (option_and_then (λ x. spot_in t x next more) o)
      by more None = refl
      by more (Some x) = more x

  by_spot : (one : ObjectKind) (word : Word) (dir : ℕ) (name : List ℕ) → spot_by t word ≡ Some (dir, name) →
      subject_at t one word ≡ There one (dir, name)
  by_spot one [] dir name at = cc
  by_spot one (first ∷ more) dir name at = in_spot one more 0 first ∙ ap (option_and_then (There one)) at

  -- kinds of one word find the same
  plain_there : (dir : ℕ) (name : List ℕ) (o : Option ℕ) →
      subject_there t (kind.Node node.File) dir name o ≡ subject_there t (kind.Node (node.Known Plain)) dir name o
  plain_there dir name None = refl
  plain_there dir name (Some x) = refl

  plain_at : (word : Word) → subject_at t (kind.Node node.File) word ≡ subject_at t (kind.Node (node.Known Plain)) word
  plain_at [] = refl
  plain_at (first ∷ more) =
      in_spot (kind.Node node.File) more 0 first
      ∙ (λ i. option_and_then (λ spot. plain_there spot.0 spot.1 (look t spot.0 spot.1) i) (spot_in t 0 first more))
      ∙ sym (in_spot (kind.Node (node.Known Plain)) more 0 first)

  same_subject : (one other : ObjectKind) → kind_word one ≡ kind_word other → (word : Word) → subject_at t one word ≡ subject_at t other word
  same_subject one other same word = by_its_word (Option Subject) (λ k. subject_at t k word) (plain_at word) one other same

  -- a directory, and its further names
  dir_now : (word : Word) (dir : ℕ) (way : Way) → IsDirBy t word dir way → is_dir t dir ≡ true →
      (subject_at t (kind.Node node.Dir) word ≡ Some (At (Whole dir way))) × (subject_at t kind.Other word ≡ Some (Others dir))
  dir_now word dir Top at living = (
    (λ i. subject_at t (kind.Node node.Dir) (at.0 i)) ∙ (λ i. Some (At (Whole (sym at.1 i) Top))),
    (λ i. subject_at t kind.Other (at.0 i)) ∙ (λ i. Some (Others (sym at.1 i))),
  )
  dir_now word dir (Named over name) at living = (
    by_spot (kind.Node node.Dir) word over name at.0 ∙ rw (at.1, living) refl,
    by_spot kind.Other word over name at.0 ∙ rw (at.1, living) refl,
  )
  dir_now word dir _ at living = absurd at

  -- a file, program or link
  node_now : (own : Kind) (dir : ℕ) (name : List ℕ) (x : ℕ) → kind_at t x ≡ Some own → is_dir t x ≡ false →
      subject_there t (kind.Node own) dir name (Some x) ≡ Some (At (Slot dir name (Some x)))
  node_now node.Dir dir name x is other = absurd (false≢true (sym other ∙ ap is_dir_kind is))
  node_now node.File dir name x is other = rw other refl
  node_now node.Prog dir name x is other = rw other refl
  node_now node.Link dir name x is other = rw other refl
  node_now (node.Known type) dir name x is other = rw other refl

  -- a name, while nothing stands there
  free_now : (dir : ℕ) (name : List ℕ) (o : Option ℕ) →
      subject_there t kind.Missing dir name o ≡ cond (is_none o) (Some (At (Slot dir name None))) None
  free_now dir name None = refl
  free_now dir name (Some x) = by (is_dir t x) refl
    where
      by : (b : Bool) → is_dir t x ≡ b → subject_there t kind.Missing dir name (Some x) ≡ None
      by true is = rw is refl
      by false is = rw is refl

  module _ (h : ProcessState) where
    subject_meant : (word : Word) (subject : Subject) → IsPlaced t h word (Stands subject) → (one : ObjectKind) →
        kind_word one ≡ thing_word t (Stands subject) → subject_at t one word ≡ cond (is_there t subject) (Some subject) None
    subject_meant word (At (Whole dir way)) placed one told =
        same_subject one (kind.Node node.Dir) told word ∙ (dir_now word dir way placed.0 placed.1).0
    subject_meant word (Others dir) placed one told =
        same_subject one kind.Other told word ∙ (dir_now word dir placed.0.0 placed.0.1 placed.1).1
    subject_meant word (At (Slot dir name (Some x))) placed one told =
        let own = node_kind one (node_at t x) placed.3 told in
        same_subject one (kind.Node own.0) own.2 word
        ∙ by_spot (kind.Node own.0) word dir name placed.0
        ∙ ap (subject_there t (kind.Node own.0) dir name) placed.1
        ∙ node_now own.0 dir name x own.1 placed.2
    subject_meant word (At (Slot dir name None)) placed one told =
        same_subject one kind.Missing told word ∙ by_spot kind.Missing word dir name placed.0 ∙ free_now dir name (look t dir name)

    pub now_meant : (table : CallTable) (word : Word) (thing : Thing) → IsPlaced t h word thing → (one : ObjectKind) →
        kind_word one ≡ thing_word t thing → (call : Call) →
        is_now_on t table h thing call ≡ is_now t table h (subject_now t one word thing) call
    now_meant table word (Comes new) placed one told call = refl
    now_meant table word (Stands subject) placed one told call =
        by (is_there t subject) ∙ sym (ap (λ o. is_now t table h o call) (subject_meant word subject placed one told))
      where
        by : (b : Bool) → (b && is_now t table h (Some subject) call) ≡ is_now t table h (cond b (Some subject) None) call
        by true = refl
        by false = refl
