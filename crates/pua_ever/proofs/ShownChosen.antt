-- Which list it is that holds longest, where it is cut, and what it says of execs.
use Rattle.pua_ever.proofs.Common.{◌≡◌, ◌∙◌, ◌==◌, ◌&&◌, if◌then◌else◌, not, ℕ, Bool, true, false, refl, sym, ap, eq-eqb, Option, Some, None, Tree}
use Rattle.pua_ever.proofs.Common.{CallTable, ProcessState, ever}
use Rattle.pua_calls.specs.Promises.{holds, id}
use Rattle.pua_objects.specs.Roots.{is_enclosed, shown_for_ever}
use Rattle.pua_objects.specs.declared.roots.Shown.TheVariants.{All, Below}
use Rattle.pua_policy.specs.States.{held_set, root_dir, with_both}
use Rattle.pua_ever.specs.ShownForEver.{execs_shown, lines_shown, shown_ever, shown_lasting, shown_longest, shown_through}
use Rattle.pua_ever.specs.Through.{bound_of, ever_lasting, ever_through, execs_of, has_exec}
use Rattle.pua_ever.specs.declared.lasting_list.ExecBound.TheVariants.{Never, Bounded, Open}
use Rattle.pua_ever.proofs.Chosen.{lasting_alone, lasting_through, lasting_unbounded, starts_bounded, starts_none, starts_open}

module _ (t : Tree) (table : CallTable) (h : ProcessState) where
  -- where what is started isn't bounded
  pub shown_unbounded : bound_of table h ≡ None → shown_lasting t table h ≡ shown_ever t table h
  shown_unbounded e = rw e refl

  pub longest_unbounded : bound_of table h ≡ None → shown_longest t table h ≡ shown_for_ever t h
  longest_unbounded e = rw e refl

  -- where no line that is shown has exec
  pub shown_unstarted : has_exec (shown_ever t table h) ≡ false → shown_lasting t table h ≡ shown_ever t table h
  shown_unstarted none = by (bound_of table h) refl
    where
      by : (o : Option ℕ) → bound_of table h ≡ o → shown_lasting t table h ≡ shown_ever t table h
      by None is = shown_unbounded is
      by (Some given) is = rw (is, none) refl

  pub longest_unstarted : has_exec (shown_ever t table h) ≡ false → shown_longest t table h ≡ shown_for_ever t h
  longest_unstarted none = by (bound_of table h) refl
    where
      by : (o : Option ℕ) → bound_of table h ≡ o → shown_longest t table h ≡ shown_for_ever t h
      by None is = longest_unbounded is
      by (Some given) is = rw (is, none) refl

  -- and where one has
  pub shown_bounded : (given : ℕ) → bound_of table h ≡ Some given → has_exec (shown_ever t table h) ≡ true →
      shown_lasting t table h ≡ shown_through t table h given
  shown_bounded given e some = rw (e, some) refl

  pub longest_bounded : (given : ℕ) → bound_of table h ≡ Some given → has_exec (shown_ever t table h) ≡ true →
      shown_longest t table h ≡ shown_for_ever t (with_both h given)
  longest_bounded given e some = rw (e, some) refl

  -- what the list says of execs
  pub shown_starts_none : has_exec (shown_ever t table h) ≡ false → execs_shown t table h ≡ Never
  shown_starts_none none = rw none refl

  pub shown_starts_open : has_exec (shown_ever t table h) ≡ true → bound_of table h ≡ None → execs_shown t table h ≡ Open
  shown_starts_open some e = rw (some, e) refl

  pub shown_starts_bounded : (given : ℕ) → has_exec (shown_ever t table h) ≡ true → bound_of table h ≡ Some given →
      execs_shown t table h ≡ Bounded
  shown_starts_bounded given some e = rw (some, e) refl

-- by who has the root of the tree all is shown
module _ (t : Tree) (table : CallTable) (h : ProcessState) (top : root_dir h ≡ 0) where
  whole_by : (set : ℕ) → (if holds set id then All else (if not (root_dir h == 0) && is_enclosed t h then Below (root_dir h) else All)) ≡ All
  whole_by set =
      ap (λ b. if holds set id then All else (if not b && is_enclosed t h then Below (root_dir h) else All)) (eq-eqb (root_dir h) 0 top)
      ∙ by (holds set id)
    where
      by : (b : Bool) → (if b then All else All) ≡ All
      by true = refl
      by false = refl

  whole_ever : shown_ever t table h ≡ ever t table h
  whole_ever = ap (λ s. lines_shown t s (ever t table h)) (whole_by (held_set h))

  whole_through : (given : ℕ) → shown_through t table h given ≡ ever_through t table h given
  whole_through given = ap (λ s. lines_shown t s (ever_through t table h given)) (whole_by (held_set (with_both h given)))

  started : {b : Bool} → has_exec (ever t table h) ≡ b → has_exec (shown_ever t table h) ≡ b
  started e = ap has_exec whole_ever ∙ e

  pub whole_longest : shown_longest t table h ≡ All
  whole_longest = by (bound_of table h) refl (has_exec (shown_ever t table h)) refl
    where
      by : (o : Option ℕ) → bound_of table h ≡ o → (b : Bool) → has_exec (shown_ever t table h) ≡ b → shown_longest t table h ≡ All
      by None is b has = longest_unbounded t table h is ∙ whole_by (held_set h)
      by (Some given) is true has = longest_bounded t table h given is has ∙ whole_by (held_set (with_both h given))
      by (Some given) is false has = longest_unstarted t table h has ∙ whole_by (held_set h)

  pub whole_lasting : shown_lasting t table h ≡ ever_lasting t table h
  whole_lasting = by (bound_of table h) refl (has_exec (ever t table h)) refl
    where
      by : (o : Option ℕ) → bound_of table h ≡ o → (b : Bool) → has_exec (ever t table h) ≡ b → shown_lasting t table h ≡ ever_lasting t table h
      by None is b has = shown_unbounded t table h is ∙ whole_ever ∙ sym (lasting_unbounded t table h is)
      by (Some given) is true has =
          shown_bounded t table h given is (started has) ∙ whole_through given ∙ sym (lasting_through t table h given is has)
      by (Some given) is false has = shown_unstarted t table h (started has) ∙ whole_ever ∙ sym (lasting_alone t table h given is has)

  pub whole_execs : execs_shown t table h ≡ execs_of t table h
  whole_execs = by (bound_of table h) refl (has_exec (ever t table h)) refl
    where
      by : (o : Option ℕ) → bound_of table h ≡ o → (b : Bool) → has_exec (ever t table h) ≡ b → execs_shown t table h ≡ execs_of t table h
      by o is false has = shown_starts_none t table h (started has) ∙ sym (starts_none t table h has)
      by None is true has = shown_starts_open t table h (started has) is ∙ sym (starts_open t table h has is)
      by (Some given) is true has = shown_starts_bounded t table h given (started has) is ∙ sym (starts_bounded t table h given has is)
