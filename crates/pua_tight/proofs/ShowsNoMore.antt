-- What a process shows that lies within another.
use Rattle.std.proofs.Common.{◌≡◌, ◌∙◌, Bool, true, false, ap, sym, refl}
use Rattle.std.proofs.lemmas.Bool.{false≢true, false_from_ne_true}
use Rattle.std.specs.Prelude.{if◌then◌else◌}
use Rattle.pua_tree.specs.Tree.{Tree}
use Rattle.pua_calls.specs.Promises.{holds, id}
use Rattle.pua_policy.specs.States.{ProcessState, held_set}
use Rattle.pua_policy.proofs.ForCallers.{holds_through}
use Rattle.pua_objects.specs.Objects.{Subject}
use Rattle.pua_objects.specs.Roots.{shown_for_ever, shown_of, shows}
use Rattle.pua_objects.specs.declared.roots.Shown.TheVariants.{All}
use Rattle.pua_tight.specs.Narrower.{StateWithin}
use Rattle.pua_tight.proofs.Within.{held_within}

-- the same now
pub shows_alike : (less given : ProcessState) → StateWithin less given → (t : Tree) → shown_of t less ≡ shown_of t given
shows_alike less given inside t = λ i. shown_of t (record given { start = inside.start i; files = inside.files i })

-- and no more for ever
pub shows_no_more : (less given : ProcessState) → StateWithin less given → (t : Tree) (subject : Subject) →
    shows t (shown_for_ever t less) subject ≡ true → shows t (shown_for_ever t given) subject ≡ true
shows_no_more less given inside t subject = by (holds (held_set given) id) refl
  where
    by : (b : Bool) → holds (held_set given) id ≡ b → shows t (shown_for_ever t less) subject ≡ true → shows t (shown_for_ever t given) subject ≡ true
    by true changes e = ap (λ b. shows t (if b then All else shown_of t given) subject) changes
    by false lacks e =
        let lacks_less = false_from_ne_true (holds (held_set less) id)
        (λ holding. false≢true (sym lacks ∙ holds_through (held_set given) (held_set less) id (held_within inside) holding)) in
        ap (λ b. shows t (if b then All else shown_of t given) subject) lacks
        ∙ ap (λ shown. shows t shown subject) (sym (shows_alike less given inside t))
        ∙ sym (ap (λ b. shows t (if b then All else shown_of t less) subject) lacks_less) ∙ e
