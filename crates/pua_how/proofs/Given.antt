-- What is asked about was there before, or is made later.
use Rattle.std.proofs.Common.{◌≡◌, ◌<◌, ℕ, Bool, true, false, List, [], ◌∷◌, refl, subst, cond, inl, inr, Option, Some, None}
use Rattle.std.specs.List.{Contains, list_any}
use Rattle.std.specs.Prelude.{◌&&◌, ◌||◌, filter, is_some, option_and_then, unwrap_or}
use Rattle.pua_tree.specs.Tree.{Tree, WellFormed, is_dir, look}
use Rattle.pua_tree.specs.declared.node.Kind.TheVariants as node
use Rattle.pua_tree.specs.declared.node.FileType.TheVariants.{Plain, Sock, Fifo, Dev}
use Rattle.pua_tree.proofs.ForCallers.{None≢Some, is_living_dir, row_says, same_Some, sound_from}
use Rattle.pua_policy.specs.States.{ProcessState, perms_kept}
use Rattle.pua_policy.specs.declared.place.Place.TheVariants as place
use Rattle.pua_calls.specs.declared.call.Call.{Call}
use Rattle.pua_objects.specs.declared.kind.ObjectKind.{ObjectKind}
use Rattle.pua_objects.specs.declared.kind.ObjectKind.TheVariants as kind
use Rattle.pua_objects.proofs.ForCallers.{Among, among_contained, among_either, filter_among}
use Rattle.pua_ever.specs.Ever.{EverLine, Thing, Stands, Comes, NewDir, NewOthers, NewFile, NewLink, NewSock, NewFifo}
use Rattle.pua_ever.proofs.ForCallers.{below_next}
use Rattle.pua_how.specs.PathQuestion.{PathQuestion, Standing, Making, may_be_of, named_at, own_name, standing_at, targets_asked, targets_at, targets_by, targets_in}
use Rattle.pua_how.specs.PathQuestion.{targets_new, targets_of}
use Rattle.pua_how.specs.Targets.{IsGiven, IsLast, has_call, is_about, is_listed}
use Rattle.pua_how.specs.declared.target.Target.{Target}
use Rattle.pua_how.specs.declared.target.Target.TheVariants as target

module _ (t : Tree) (h : ProcessState) (well : WellFormed t) where
  node_given : (dir : ℕ) (name : List ℕ) (node : ℕ) → look t dir name ≡ Some node → node < t.next
  node_given dir name node at = below_next t h well node (row_says t (sound_from t well) (dir, name) node at).2

  standing_given : (node : ℕ) → node < t.next → (thing : Target) → Among (standing_at t node) thing → IsGiven t thing
  standing_given node below thing = by (is_dir t node)
    where
      by : (b : Bool) → Among (cond b (target.Directory node ∷ target.Others node ∷ []) (target.Node node ∷ [])) thing → IsGiven t thing
      by true (inl e) = subst (IsGiven t) e below
      by true (inr (inl e)) = subst (IsGiven t) e below
      by true (inr (inr a)) = absurd a
      by false (inl e) = subst (IsGiven t) e below
      by false (inr a) = absurd a

  module _ (dir : ℕ) (name : List ℕ) (below : dir < t.next) (thing : Target) where
    name_given : (b : Bool) (others : List Target) → (Among others thing → IsGiven t thing) → Among (cond b (target.Name dir name ∷ []) others) thing →
        IsGiven t thing
    name_given true others more (inl e) = subst (IsGiven t) e below
    name_given true others more (inr a) = absurd a
    name_given false others more a = more a

    at_given : Among (targets_at t h dir name) thing → IsGiven t thing
    at_given = by (look t dir name) refl
      where
        only : Among (target.Others dir ∷ []) thing → IsGiven t thing
        only (inl e) = subst (IsGiven t) e below
        only (inr a) = absurd a

        by : (o : Option ℕ) → look t dir name ≡ o → Among (named_at h dir name o t) thing → IsGiven t thing
        by None at a = name_given (is_some (perms_kept h (place.Slot dir name))) (target.Others dir ∷ []) only a
        by (Some node) at a = elim (among_either (standing_at t node) (own_name h dir name) thing a) [
          | inl b ↦ standing_given node (node_given dir name node at) thing b
          | inr b ↦ name_given (is_some (perms_kept h (place.Slot dir name))) [] (λ none. absurd none) b
        ]

  abbrev AllGiven : List Target → Type 0
  AllGiven things = (thing : Target) → Among things thing → IsGiven t thing

  in_given : (names : List (List ℕ)) (dir : ℕ) (name : List ℕ) → dir < t.next → (things : List Target) →
      targets_in t h dir name names ≡ Some things → AllGiven things
  in_given [] dir name below things e = subst AllGiven (same_Some (targets_at t h dir name) things e) (at_given dir name below)
  in_given (next ∷ more) dir name below things e =
      by (λ node low. in_given more node next low things) (look t dir name) refl e
    where
      Later : Type 0
      Later = (node : ℕ) → node < t.next → targets_in t h node next more ≡ Some things → AllGiven things

      there : Later → (node : ℕ) → look t dir name ≡ Some node → (b : Bool) →
          option_and_then (λ node. targets_in t h node next more) (cond b (Some node) None) ≡ Some things → AllGiven things
      there later node at true e = later node (node_given dir name node at) e
      there later node at false e = absurd (None≢Some things e)

      by : Later → (o : Option ℕ) → look t dir name ≡ o →
          option_and_then (λ node. targets_in t h node next more) (option_and_then (λ node. cond (is_dir t node) (Some node) None) o) ≡ Some things →
          AllGiven things
      by later None at e = absurd (None≢Some things e)
      by later (Some node) at e = there later node at (is_dir t node) e

  root_given : 0 < t.next
  root_given = below_next t h well 0 (is_living_dir t 0 well.root)

  by_given : (names : List (List ℕ)) (things : List Target) → targets_by t h names ≡ Some things → AllGiven things
  by_given [] things e = subst AllGiven (same_Some (target.Directory 0 ∷ target.Others 0 ∷ []) things e) root
    where
      root : AllGiven (target.Directory 0 ∷ target.Others 0 ∷ [])
      root thing (inl e) = subst (IsGiven t) e root_given
      root thing (inr (inl e)) = subst (IsGiven t) e root_given
      root thing (inr (inr a)) = absurd a
  by_given (name ∷ more) things e = in_given more 0 name root_given things e

  asked_given : (last : ℕ) → IsLast t last → (asking : PathQuestion) → AllGiven (targets_asked t h last asking)
  asked_given last above (Standing names) thing a = by (targets_by t h names) refl a
    where
      by : (o : Option (List Target)) → targets_by t h names ≡ o → Among (unwrap_or o []) thing → IsGiven t thing
      by None is a = absurd a
      by (Some things) is a = by_given names things is thing a
  asked_given last above Making thing (inl e) = subst (IsGiven t) e above
  asked_given last above Making thing (inr (inl e)) = subst (IsGiven t) e above
  asked_given last above Making thing (inr (inr (inl e))) = subst (IsGiven t) e above
  asked_given last above Making thing (inr (inr (inr (inl e)))) = subst (IsGiven t) e above
  asked_given last above Making thing (inr (inr (inr (inr (inl e))))) = subst (IsGiven t) e above
  asked_given last above Making thing (inr (inr (inr (inr (inr (inl e)))))) = subst (IsGiven t) e above
  asked_given last above Making thing (inr (inr (inr (inr (inr (inr a)))))) = absurd a

  -- each thing that may be meant was given, or is made after all that lives
  pub all_given : (last : ℕ) → IsLast t last → (asking : PathQuestion) (kind : Option ObjectKind) (thing : Target) →
      Contains (targets_of t h last asking kind) thing → IsGiven t thing
  all_given last above asking kind thing there =
      asked_given last above asking thing
      (filter_among (may_be_of t kind) (targets_asked t h last asking) thing (among_contained (targets_of t h last asking kind) thing there)).0

-- ---- whether a line has the call does not depend on the number above which all that is made has its own

module _ (last other : ℕ) where
  about_directory : (thing : Thing) → is_about (target.NewDirectory last) thing ≡ is_about (target.NewDirectory other) thing
  about_directory (Stands subject) = refl
  about_directory (Comes NewDir) = refl
  about_directory (Comes NewOthers) = refl
  about_directory (Comes NewFile) = refl
  about_directory (Comes NewLink) = refl
  about_directory (Comes NewSock) = refl
  about_directory (Comes NewFifo) = refl

  about_others : (thing : Thing) → is_about (target.NewOthers last) thing ≡ is_about (target.NewOthers other) thing
  about_others (Stands subject) = refl
  about_others (Comes NewDir) = refl
  about_others (Comes NewOthers) = refl
  about_others (Comes NewFile) = refl
  about_others (Comes NewLink) = refl
  about_others (Comes NewSock) = refl
  about_others (Comes NewFifo) = refl

  about_file : (thing : Thing) → is_about (target.NewFile last) thing ≡ is_about (target.NewFile other) thing
  about_file (Stands subject) = refl
  about_file (Comes NewDir) = refl
  about_file (Comes NewOthers) = refl
  about_file (Comes NewFile) = refl
  about_file (Comes NewLink) = refl
  about_file (Comes NewSock) = refl
  about_file (Comes NewFifo) = refl

  about_link : (thing : Thing) → is_about (target.NewLink last) thing ≡ is_about (target.NewLink other) thing
  about_link (Stands subject) = refl
  about_link (Comes NewDir) = refl
  about_link (Comes NewOthers) = refl
  about_link (Comes NewFile) = refl
  about_link (Comes NewLink) = refl
  about_link (Comes NewSock) = refl
  about_link (Comes NewFifo) = refl

  about_sock : (thing : Thing) → is_about (target.NewSock last) thing ≡ is_about (target.NewSock other) thing
  about_sock (Stands subject) = refl
  about_sock (Comes NewDir) = refl
  about_sock (Comes NewOthers) = refl
  about_sock (Comes NewFile) = refl
  about_sock (Comes NewLink) = refl
  about_sock (Comes NewSock) = refl
  about_sock (Comes NewFifo) = refl

  about_fifo : (thing : Thing) → is_about (target.NewFifo last) thing ≡ is_about (target.NewFifo other) thing
  about_fifo (Stands subject) = refl
  about_fifo (Comes NewDir) = refl
  about_fifo (Comes NewOthers) = refl
  about_fifo (Comes NewFile) = refl
  about_fifo (Comes NewLink) = refl
  about_fifo (Comes NewSock) = refl
  about_fifo (Comes NewFifo) = refl

  module _ (lines : List EverLine) (call : Call) where
    alike : (a b : Target) → ((thing : Thing) → is_about a thing ≡ is_about b thing) → is_listed lines a call ≡ is_listed lines b call
    alike a b same i = list_any (λ (line : EverLine). same line.thing i && has_call line.calls call) lines

    abbrev pub any_listed : List Target → Bool
    any_listed things = list_any (λ thing. is_listed lines thing call) things

    new_listed : (t : Tree) (kind : Option ObjectKind) →
        any_listed (filter (may_be_of t kind) (targets_new last)) ≡ any_listed (filter (may_be_of t kind) (targets_new other))
    new_listed t None = λ i.
        alike (target.NewDirectory last) (target.NewDirectory other) about_directory i
        || (alike (target.NewOthers last) (target.NewOthers other) about_others i
        || (alike (target.NewFile last) (target.NewFile other) about_file i
        || (alike (target.NewLink last) (target.NewLink other) about_link i
        || (alike (target.NewSock last) (target.NewSock other) about_sock i
        || (alike (target.NewFifo last) (target.NewFifo other) about_fifo i || false)))))
    new_listed t (Some (kind.Node node.Dir)) = λ i. alike (target.NewDirectory last) (target.NewDirectory other) about_directory i || false
    new_listed t (Some kind.Other) = λ i. alike (target.NewOthers last) (target.NewOthers other) about_others i || false
    new_listed t (Some (kind.Node node.File)) = λ i. alike (target.NewFile last) (target.NewFile other) about_file i || false
    new_listed t (Some (kind.Node node.Link)) = λ i. alike (target.NewLink last) (target.NewLink other) about_link i || false
    new_listed t (Some kind.Missing) = refl
    new_listed t (Some (kind.Node node.Prog)) = refl
    new_listed t (Some (kind.Node (node.Known Plain))) = λ i. alike (target.NewFile last) (target.NewFile other) about_file i || false
    new_listed t (Some (kind.Node (node.Known Sock))) = λ i. alike (target.NewSock last) (target.NewSock other) about_sock i || false
    new_listed t (Some (kind.Node (node.Known Fifo))) = λ i. alike (target.NewFifo last) (target.NewFifo other) about_fifo i || false
    new_listed t (Some (kind.Node (node.Known Dev))) = refl

    pub listed_alike : (t : Tree) (h : ProcessState) (asking : PathQuestion) (kind : Option ObjectKind) →
        any_listed (targets_of t h last asking kind) ≡ any_listed (targets_of t h other asking kind)
    listed_alike t h (Standing names) kind = refl
    listed_alike t h Making kind = new_listed t kind
