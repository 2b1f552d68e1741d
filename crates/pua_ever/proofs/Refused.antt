-- Where nothing refuses the list.
use Rattle.pua_ever.proofs.Common.{◌≡◌, ◌⊎◌, List, [], ◌∷◌, Bool, true, false, cond, refl, sym, ◌∙◌, inl, inr, Option, Some, None, not}
use Rattle.pua_ever.proofs.Common.{◌&&◌, ◌||◌, if◌then◌else◌, false≢true, and_parts, Some≢None, CallTable, ProcessState, Call, is_yes}
use Rattle.pua_ever.proofs.Common.{EditsNeedC, Among, among_filter, among_left, among_right, filter, ap, subst}
use Rattle.std.specs.Prelude.{find}
use Rattle.std.proofs.lemmas.Bool.{not-false}
use Rattle.pua_calls.specs.Promises.{holds, creating, unveil}
use Rattle.pua_policy.specs.States.{held_set, has_error, is_locked, is_ended}
use Rattle.pua_policy.specs.declared.answer.May.TheVariants.{Yes, Enosys, Death}
use Rattle.pua_calls.specs.Calls.{calls, effect_of}
use Rattle.pua_calls.specs.Effects.{makes, removes}
use Rattle.pua_script.specs.Confinement.{changes_names}
use Rattle.pua_objects.proofs.ForCallers.{one_of_calls}
use Rattle.pua_script.specs.Laws.{IsConfined}
use Rattle.pua_ever.specs.Refusals.{can_unveil, lacks_c, changing_calls, new_needs_c, both_need_c, table_refusal, refusal}
use Rattle.pua_ever.specs.declared.refusal.EverRefusal.TheVariants.{CanUnveil, LacksC, RenameLacksC, LinkLacksC}

none_in : (p : Call → Bool) (c : Call) (cs : List Call) → find p (c ∷ cs) ≡ None → (p c ≡ false) × (find p cs ≡ None)
none_in p c cs = by (p c)
  where
    by : (b : Bool) → cond b (Some c) (find p cs) ≡ None → (b ≡ false) × (find p cs ≡ None)
    by true e = absurd (Some≢None c e)
    by false e = (refl, e)

none_among : (p : Call → Bool) (cs : List Call) (c : Call) → find p cs ≡ None → Among cs c → p c ≡ false
none_among p [] c e a = absurd a
none_among p (d ∷ cs) c e (inl same) = sym (ap p same) ∙ (none_in p d cs e).0
none_among p (d ∷ cs) c e (inr a) = none_among p cs c (none_in p d cs e).1 a

-- a call that makes a name or takes one away is one of those that are asked
among_changing : (c : Call) → changes_names c ≡ true → Among changing_calls c
among_changing c changes = by (makes (effect_of c)) refl
  where
    removing : List Call
    removing = filter (λ call. removes (effect_of call)) calls

    making : List Call
    making = filter (λ call. makes (effect_of call)) calls

    by : (b : Bool) → makes (effect_of c) ≡ b → Among changing_calls c
    by true is = among_right removing making c (among_filter (λ call. makes (effect_of call)) calls c is (one_of_calls c))
    by false other =
        let taken : removes (effect_of c) ≡ true = subst (λ b. (b || removes (effect_of c)) ≡ true) other changes in
        among_left removing making c (among_filter (λ call. removes (effect_of call)) calls c taken (one_of_calls c))

-- of two tests each passed
both : (a b : Bool) → (if a then (if b then None else Some LinkLacksC) else Some RenameLacksC) ≡ None → (a ≡ true) × (b ≡ true)
both true true e = (refl, refl)
both true false e = absurd (Some≢None LinkLacksC e)
both false b e = absurd (Some≢None RenameLacksC e)

table_parts : (table : CallTable) (o : Option Call) → table_refusal table o ≡ None →
    (o ≡ None) × (both_need_c table.rename ≡ true) × (new_needs_c table.link ≡ true)
table_parts table None e = let two = both (both_need_c table.rename) (new_needs_c table.link) e in (refl, two.0, two.1)
table_parts table (Some c) e = absurd (Some≢None (LacksC c) e)

all_need : (table : CallTable) → table_refusal table (find (lacks_c table) changing_calls) ≡ None → EditsNeedC table
all_need table e =
    let parts = table_parts table (find (lacks_c table) changing_calls) e in
    let rename = and_parts (holds table.rename.old.needs.perms creating) (holds table.rename.new.needs.perms creating) parts.1 in
    record {
      calls = λ edit changes. not-false _ (none_among (lacks_c table) changing_calls edit parts.0 (among_changing edit changes));
      rename_old = rename.0;
      rename_new = rename.1;
      link_new = parts.2;
    }

neither : (table : CallTable) (b : Bool) (o : Option Call) → cond b (Some CanUnveil) (table_refusal table o) ≡ None →
    (b ≡ false) × (table_refusal table o ≡ None)
neither table true o e = absurd (Some≢None CanUnveil e)
neither table false o e = (refl, e)

confined : (h : ProcessState) → can_unveil h ≡ false → IsConfined h ⊎ (is_ended h ≡ true)
confined h none = by (is_locked h) (is_ended h) (holds (held_set h) unveil) refl refl refl
  where
    by : (l e p : Bool) → is_locked h ≡ l → is_ended h ≡ e → holds (held_set h) unveil ≡ p → IsConfined h ⊎ (is_ended h ≡ true)
    by true e p locked ended has = inl (inl locked)
    by false true p locked ended has = inr ended
    by false false false locked ended has = inl (inr has)
    by false false true locked ended has =
        let can : can_unveil h ≡ true =
        (λ i. not (locked i) && is_yes
        (if ended i then Death else (if has i || false then Yes else (if has_error h then Enosys else Death)))) in
        absurd (false≢true (sym none ∙ can))

module _ (table : CallTable) (h : ProcessState) (none : refusal table h ≡ None) where
  pub unrefused_table : EditsNeedC table
  unrefused_table = all_need table (neither table (can_unveil h) (find (lacks_c table) changing_calls) none).1

  pub unrefused_process : IsConfined h ⊎ (is_ended h ≡ true)
  unrefused_process = confined h (neither table (can_unveil h) (find (lacks_c table) changing_calls) none).0
