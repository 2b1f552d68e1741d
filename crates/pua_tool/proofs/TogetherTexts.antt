-- The text of several processes together, and what refuses it.
use Rattle.pua_tool.proofs.Common.{◌≡◌, ℕ, List, [], ◌∷◌, ◌∙◌, refl, sym, ap, arith, map, Option, Some, None, CallTable, ProcessState}
use Rattle.pua_tool.proofs.Common.{ToolFault}
use Rattle.std.proofs.Common.{Bool, true, false, cond, not, get_or, length}
use Rattle.std.specs.Prelude.{if◌then◌else◌, find}
use Rattle.pua_tree.proofs.ForCallers.{None≢Some, Some≢None, same_Some}
use Rattle.pua_policy.specs.States.{ProcessState, is_ended}
use Rattle.pua_ever.specs.Refusals.{can_unveil, changing_calls, lacks_c, refusal, table_refusal}
use Rattle.pua_ever.specs.Together.{joined}
use Rattle.pua_ever.specs.declared.refusal.EverRefusal.{EverRefusal}
use Rattle.pua_ever.specs.declared.refusal.EverRefusal.TheVariants.{CanUnveil}
use Rattle.pua_texts.specs.TogetherLines.{living, one_for}
use Rattle.pua_tool.specs.EverTexts.{ever_fault}
use Rattle.pua_tool.specs.TogetherTexts.{first_refused, other_veils, refused_or, together_fault}

-- the first that lives is one of which there is a list
pub unrefused : (table : CallTable) (members : List (ℕ × ProcessState)) (first : ℕ × ProcessState) (more : List (ℕ × ProcessState)) →
    first_refused table members ≡ None → living members ≡ first ∷ more → refusal table first.1 ≡ None
unrefused table [] first more none is = absurd (omega (arith, ap length is))
unrefused table (m ∷ ms) first more none is =
    by (refusal table m.1) refl (is_ended m.1) refl (unrefused table ms first more)
  where
    by : (o : Option EverRefusal) → refusal table m.1 ≡ o → (b : Bool) → is_ended m.1 ≡ b →
        (first_refused table ms ≡ None → living ms ≡ first ∷ more → refusal table first.1 ≡ None) → refusal table first.1 ≡ None
    by (Some reason) e b ended later = absurd (Some≢None (ever_fault m.0 reason) (sym (ap (λ why. refused_or m.0 why (first_refused table ms)) e) ∙ none))
    by None e true ended later =
        later (sym (ap (λ why. refused_or m.0 why (first_refused table ms)) e) ∙ none) (ap (λ b. cond (not b) (m ∷ living ms) (living ms)) (sym ended) ∙ is)
    by None e false ended later =
        ap (λ n. refusal table n.1) (sym (ap (λ ns. get_or ns 0 m) (ap (λ b. cond (not b) (m ∷ living ms) (living ms)) (sym ended) ∙ is))) ∙
        e

-- and nothing refuses that of the one that stands for it and others
pub unrefused_joined : (table : CallTable) (h : ProcessState) (more : List ProcessState) → refusal table h ≡ None →
    refusal table (joined table h more) ≡ None
unrefused_joined table h more = by (can_unveil h) (table_refusal table (find (lacks_c table) changing_calls))
  where
    by : (b : Bool) (o : Option EverRefusal) → (if b then Some CanUnveil else o) ≡ None → o ≡ None
    by true o e = absurd (Some≢None CanUnveil e)
    by false o e = e

-- of the one that stands for those that live there is a list
pub one_living : (table : CallTable) (named alive : List (ℕ × ProcessState)) (one : ProcessState) → first_refused table named ≡ None →
    living named ≡ alive → one_for table alive ≡ Some one → refusal table one ≡ None
one_living table named [] one none lives is = absurd (None≢Some one is)
one_living table named (n ∷ rest) one none lives is =
    ap (refusal table) (sym (same_Some (joined table n.1 (map (λ m. m.1) rest)) one is))
    ∙ unrefused_joined table n.1 (map (λ m. m.1) rest) (unrefused table named n rest none lives)

-- which fault is the first
pub fault_listed : (table : CallTable) (members : List (ℕ × ProcessState)) (fault : ToolFault) → first_refused table members ≡ Some fault →
    together_fault table members ≡ Some fault
fault_listed table members fault is = rw is refl

pub fault_veils : (table : CallTable) (members : List (ℕ × ProcessState)) → first_refused table members ≡ None →
    together_fault table members ≡ other_veils (living members)
fault_veils table members is = rw is refl
