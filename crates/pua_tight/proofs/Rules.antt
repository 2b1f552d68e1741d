-- By the rules that a command names each request rests on one set of promises, or is never allowed: by OpenBSD's each but a chown, an fchown,
-- and a call without a path that asks for one of several; and no promise that may be left out opens a path by itself, unless such a call asks
-- for it.
use Rattle.std.proofs.Common.{◌≡◌, ◌≤◌, ℕ, List, [], ◌∷◌, refl, ap, ◌∙◌, Bool, true, false, cond, inl, inr, ◌⊎◌}
use Rattle.std.proofs.lemmas.Bool.{leb-true, ltb-false, or_parts, true≢false, and_parts, eqb-true}
use Rattle.std.proofs.lemmas.Nat.{and_comm}
use Rattle.std.specs.Int.Bits.{and_zero_r}
use Rattle.std.specs.List.{list_any, list_all}
use Rattle.std.specs.Prelude.{length, nat_lt, bit_and, bit_or, ◌==◌, Some, find}
use Rattle.pua_calls.specs.Promises.{error, no_promises}
use Rattle.pua_script.specs.Openings.{Opening, openings, opens_call}
use Rattle.pua_tight.specs.Tight.{all_asked, all_used, asked_in}
use Rattle.pua_tight.proofs.Sets.{apart_or, apart_down}
use Rattle.pua_tight.proofs.Tightened.{has_lacking}
use Rattle.std.specs.Str.Lines.{lines}
use Rattle.pua_calls.specs.Calls.{rule_of, standard_table, openbsd_table, table_by_rules}
use Rattle.pua_calls.specs.declared.call.Call.{Call}
use Rattle.pua_calls.specs.declared.call.Call.TheVariants as call
use Rattle.pua_calls.specs.declared.rules.Rules.{Rules}
use Rattle.pua_calls.specs.declared.rules.Rules.TheVariants.{Standard, Openbsd}
use Rattle.pua_script.proofs.ForCallers.{scripts_are_read}
use Rattle.pua_script.specs.Requests.{Asked}
use Rattle.pua_script.specs.ScriptGrammar.{SpellsLine, blank, request, SpellsAction, SpellRequests, uses}
use Rattle.pua_script.specs.declared.request.Action.{Action}
use Rattle.pua_script.specs.declared.request.Action.TheVariants.{OnPath, Symlink, Rename, Link, Uses, Hold}
use Rattle.pua_tight.specs.Laws.{HasOneSet, RestsOnOne, RestOnOne, has_choice, HasNoChoice, promise_in, opener_of, openers, RulesRestOnOne}

one : 1 ≤ 1
one = leb-true 1 1 refl

by_profile : (c : Call) → HasOneSet (rule_of standard_table c)
by_profile call.Stat = one
by_profile c = leb-true (length (rule_of standard_table c).alternatives) 1 refl

by_openbsd : (c : Call) (path : List ℕ) → has_choice (OnPath c path) ≡ false → HasOneSet (rule_of openbsd_table c)
by_openbsd call.Chown path other = absurd (true≢false other)
by_openbsd call.Fchown path other = absurd (true≢false other)
by_openbsd c path other = leb-true (length (rule_of openbsd_table c).alternatives) 1 refl

-- by the standard rules no line asks for promises alone
no_uses : (rules : Rules) (more : List (List ℕ)) (sets : List ℕ) → SpellsAction rules more (Uses sets) → rules ≡ Openbsd
no_uses rules _ sets (uses there named spells) = there

uses_rests : (rules : Rules) (sets : List ℕ) → rules ≡ Openbsd → (rules ≡ Standard) ⊎ (nat_lt 1 (length sets) ≡ false) → length sets ≤ 1
uses_rests Openbsd sets there (inl e) = cc
uses_rests Standard sets there some = cc
uses_rests Openbsd sets there (inr few) = ltb-false 1 (length sets) few

action_rests : (rules : Rules) (more : List (List ℕ)) (action : Action) → SpellsAction rules more action →
    (rules ≡ Standard) ⊎ (has_choice action ≡ false) → RestsOnOne (table_by_rules rules) action
action_rests rules more (Uses sets) spells some = uses_rests rules sets (no_uses rules more sets spells) some
action_rests Standard more (OnPath c path) spells some = by_profile c
action_rests Openbsd more (OnPath c path) spells (inl e) = cc
action_rests Openbsd more (OnPath c path) spells (inr other) = by_openbsd c path other
action_rests Standard more (Hold number c path) spells some = by_profile c
action_rests Openbsd more (Hold number c path) spells (inl e) = cc
action_rests Openbsd more (Hold number c path) spells (inr other) = by_openbsd c path other
action_rests Standard more (Symlink target path) spells some = one
action_rests Openbsd more (Symlink target path) spells some = one
action_rests Standard more (Rename old new) spells some = (one, one)
action_rests Openbsd more (Rename old new) spells some = (one, one)
action_rests Standard more (Link old new) spells some = (one, one)
action_rests Openbsd more (Link old new) spells some = (one, one)
action_rests rules more _ spells some = tt

line_rests : (rules : Rules) (line : List ℕ) (ask : Asked) → SpellsLine rules line ask →
    (rules ≡ Standard) ⊎ (has_choice ask.action ≡ false) → RestsOnOne (table_by_rules rules) ask.action
line_rests rules line _ (blank none) some = tt
line_rests rules line ask (request spells) some = action_rests rules spells.more ask.action spells.spells some

abbrev HasNone : List Asked → Type 0
HasNone asks = list_any (λ ask. has_choice ask.action) asks ≡ false

lines_rest : (rules : Rules) (texts : List (List ℕ)) (asks : List Asked) → SpellRequests rules texts asks →
    (rules ≡ Standard) ⊎ HasNone asks → RestOnOne (table_by_rules rules) asks
lines_rest rules [] [] spells some = tt
lines_rest rules [] (ask ∷ asks) spells some = absurd spells
lines_rest rules (text ∷ texts) [] spells some = absurd spells
lines_rest rules (text ∷ texts) (ask ∷ asks) spells some =
    (line_rests rules text ask spells.0 (first some), lines_rest rules texts asks spells.1 (others some))
  where
    parts : HasNone (ask ∷ asks) → (has_choice ask.action ≡ false) × HasNone asks
    parts other = or_parts (has_choice ask.action) (list_any (λ more. has_choice more.action) asks) other

    first : (rules ≡ Standard) ⊎ HasNone (ask ∷ asks) → (rules ≡ Standard) ⊎ (has_choice ask.action ≡ false)
    first (inl is) = inl is
    first (inr other) = inr (parts other).0

    others : (rules ≡ Standard) ⊎ HasNone (ask ∷ asks) → (rules ≡ Standard) ⊎ HasNone asks
    others (inl is) = inl is
    others (inr other) = inr (parts other).1

-- by the standard rules nothing is opened
unopened : (asks : List Asked) → openers standard_table asks ≡ no_promises
unopened [] = refl
unopened (ask ∷ asks) = λ i. bit_or (by ask.action i) (unopened asks i)
  where
    by : (action : Action) → opener_of standard_table action ≡ no_promises
    by (OnPath call path) = refl
    by (Hold number call path) = refl
    by _ = refl

-- and by OpenBSD's no call needs a promise that opens a path
abbrev is_apart : Opening → Bool
is_apart o = bit_and (all_asked openbsd_table) (promise_in (Some o)) == 0

found_apart : (test : Opening → Bool) (rows : List Opening) → list_all is_apart rows ≡ true →
    bit_and (all_asked openbsd_table) (promise_in (find test rows)) ≡ 0
found_apart test [] e = and_zero_r (all_asked openbsd_table)
found_apart test (row ∷ rows) e =
    let both = and_parts (is_apart row) (list_all is_apart rows) e in
    by (test row) (eqb-true _ _ both.0) (found_apart test rows both.1)
  where
    by : (b : Bool) → bit_and (all_asked openbsd_table) (promise_in (Some row)) ≡ 0 →
        bit_and (all_asked openbsd_table) (promise_in (find test rows)) ≡ 0 →
        bit_and (all_asked openbsd_table) (promise_in (cond b (Some row) (find test rows))) ≡ 0
    by true here rest = here
    by false here rest = rest

opened_apart : (asks : List Asked) → bit_and (all_asked openbsd_table) (openers openbsd_table asks) ≡ 0
opened_apart [] = and_zero_r (all_asked openbsd_table)
opened_apart (ask ∷ asks) = apart_or (all_asked openbsd_table) (opener_of openbsd_table ask.action) (openers openbsd_table asks) (by ask.action)
    (opened_apart asks)
  where
    by : (action : Action) → bit_and (all_asked openbsd_table) (opener_of openbsd_table action) ≡ 0
    by (OnPath call path) = found_apart (opens_call call path) openings refl
    by (Hold number call path) = found_apart (opens_call call path) openings refl
    by _ = and_zero_r (all_asked openbsd_table)

none_left : (asks : List Asked) → bit_and (all_used asks) (openers openbsd_table asks) ≡ 0 →
    bit_and (asked_in openbsd_table asks) (openers openbsd_table asks) ≡ 0
none_left asks apart =
    apart_down (bit_or (all_asked openbsd_table) (all_used asks)) (asked_in openbsd_table asks) (openers openbsd_table asks)
    (has_lacking error (bit_or (all_asked openbsd_table) (all_used asks)))
    (and_comm (bit_or (all_asked openbsd_table) (all_used asks)) (openers openbsd_table asks)
    ∙ apart_or (openers openbsd_table asks) (all_asked openbsd_table) (all_used asks)
    (and_comm (openers openbsd_table asks) (all_asked openbsd_table) ∙ opened_apart asks)
    (and_comm (openers openbsd_table asks) (all_used asks) ∙ apart))

pub rules_rest : RulesRestOnOne
rules_rest rules bytes asks read some = (lines_rest rules (lines bytes) asks ((scripts_are_read rules bytes asks).0 read).1 (all some), by rules some)
  where
    all : (rules ≡ Standard) ⊎ HasNoChoice asks → (rules ≡ Standard) ⊎ HasNone asks
    all (inl is) = inl is
    all (inr other) = inr other.0

    by : (other : Rules) → (other ≡ Standard) ⊎ HasNoChoice asks →
        bit_and (asked_in (table_by_rules other) asks) (openers (table_by_rules other) asks) ≡ 0
    by Standard some = ap (bit_and (asked_in standard_table asks)) (unopened asks) ∙ and_zero_r (asked_in standard_table asks)
    by Openbsd (inl is) = cc
    by Openbsd (inr other) = none_left asks other.1
