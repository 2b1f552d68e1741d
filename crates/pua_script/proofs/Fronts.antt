-- A text without a fault names the same by all rules.
use Rattle.pua_script.proofs.Common.{◌≡◌, ℕ, List, refl, sym, ap, ◌∙◌, Option, Some, None, option_map, Result, Ok, Err, Tree}
use Rattle.pua_script.proofs.Common.{path_fault, text_errno, resolution_of_text, Errno, Ending, Last, Found}
use Rattle.pua_path.specs.Paths.{text_fault}
use Rattle.pua_path.specs.Resolution.{resolution}
use Rattle.pua_path.specs.declared.traced.PathTextFault.{PathTextFault}
use Rattle.pua_calls.specs.declared.rules.Rules.{Rules}
use Rattle.pua_calls.specs.declared.rules.Rules.TheVariants.{Standard, Openbsd}
use Rattle.pua_script.specs.Decide.{before_long, errno_behind, named_in, path_named}
use Rattle.pua_path.specs.declared.found.Start.{Start}

never : (errno : Errno) → None ≡ Some errno → ⊥
never errno e = cc

nothing_long : (text : List ℕ) → path_fault text ≡ None → before_long text ≡ None
nothing_long text sound = by (text_fault text) refl
  where
    by : (fault : Option PathTextFault) → text_fault text ≡ fault → before_long text ≡ None
    by None is = rw is refl
    by (Some fault) is = absurd (never (text_errno fault) (sym sound ∙ ap (option_map text_errno) is))

pub named_same : (whose : Rules) (t : Tree) (from : Start) (text : List ℕ) → path_fault text ≡ None → (named : Result Found Errno) →
    named_in whose t from text named ≡ named
named_same whose t from text sound (Ok object) = refl
named_same Standard t from text sound (Err errno) = refl
named_same Openbsd t from text sound (Err errno) = ap (λ o. Err (errno_behind t from errno o)) (nothing_long text sound)

-- and where it has none, this is what it resolves to
pub named_plain : (whose : Rules) (t : Tree) (from : Start) (end : Ending) (text : List ℕ) (mode : Last) → path_fault text ≡ None →
    resolution t from end text mode ≡ path_named whose t from end text mode
named_plain whose t from end text mode sound = sym (named_same whose t from text sound (resolution_of_text t from end text mode) ∙ rw sound refl)
