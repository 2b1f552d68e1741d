-- What is made as a file is a plain one or may be, by whichever rules, and so neither a directory nor a link.
use Rattle.pua_ever.proofs.Common.{◌≡◌, true, false, refl, Option, Some, None, Kind, is_dir_kind, is_link_kind, false≢true, ℕ, Tree, CallTable, ProcessState, Cover}
use Rattle.pua_tree.specs.declared.node.Kind.TheVariants as kinds
use Rattle.pua_calls.specs.Calls.{file_by_rules}
use Rattle.pua_calls.specs.declared.rules.Rules.{Rules}
use Rattle.pua_calls.specs.declared.rules.Rules.TheVariants.{Standard, Openbsd}
use Rattle.pua_ever.specs.Ever.{may_start, may_start_at, named_covers}

pub startable : (o : Option Kind) → may_start_at o ≡ true → (kind : Kind) × (o ≡ Some kind) × (may_start kind ≡ true)
startable None e = cc
startable (Some kind) e = (kind, refl, e)

pub file_starts : (whose : Rules) → may_start (file_by_rules whose) ≡ true
file_starts Standard = refl
file_starts Openbsd = refl

-- what may start is neither a directory nor a link
pub start_no_dir : (kind : Kind) → may_start kind ≡ true → is_dir_kind (Some kind) ≡ false
start_no_dir kinds.File e = refl
start_no_dir (kinds.Known type) e = refl
start_no_dir kinds.Prog e = refl
start_no_dir kinds.Link e = refl
start_no_dir kinds.Dir e = absurd (false≢true e)

pub start_no_link : (kind : Kind) → may_start kind ≡ true → is_link_kind (Some kind) ≡ false
start_no_link kinds.File e = refl
start_no_link (kinds.Known type) e = refl
start_no_link kinds.Prog e = refl
start_no_link kinds.Dir e = refl
start_no_link kinds.Link e = absurd (false≢true e)

-- and comes under the covers under which a program can
pub start_covers : (t : Tree) (table : CallTable) (h : ProcessState) (on : Option ℕ) (now : Cover) (kind : Kind) → may_start kind ≡ true →
    named_covers t table h on (Some kinds.Prog) now ≡ named_covers t table h on (Some kind) now
start_covers t table h on now kinds.File e = refl
start_covers t table h on now (kinds.Known type) e = refl
start_covers t table h on now kinds.Prog e = refl
start_covers t table h on now kinds.Dir e = absurd (false≢true e)
start_covers t table h on now kinds.Link e = absurd (false≢true e)

pub file_no_dir : (whose : Rules) → is_dir_kind (Some (file_by_rules whose)) ≡ false
file_no_dir whose = start_no_dir (file_by_rules whose) (file_starts whose)

pub file_no_link : (whose : Rules) → is_link_kind (Some (file_by_rules whose)) ≡ false
file_no_link whose = start_no_link (file_by_rules whose) (file_starts whose)
