-- What can make a program of a file is on a plain file as it is on one of which no more is known.
use Rattle.pua_jointly.proofs.Common.{◌≡◌, ◌∷◌, [], true, false, Bool, List, refl, ap, subst, inl, inr, false≢true, Among}
use Rattle.pua_jointly.proofs.Common.{Call, CallTable, Cover, ProcessState, Kind, covered_verdict, is_allowed, empty_tree}
use Rattle.std.specs.List.{AllByRecursion}
use Rattle.std.specs.Prelude.{option_map}
use Rattle.pua_tree.specs.declared.node.Kind.TheVariants.{Dir, File, Prog, Link, Known}
use Rattle.pua_tree.specs.declared.node.FileType.TheVariants.{Plain, Sock, Fifo, Dev}
use Rattle.pua_calls.specs.Calls.{about, rule_of}
use Rattle.pua_calls.specs.Misfits.{fits_on, misfit_errno}
use Rattle.pua_policy.specs.States.{may_any}
use Rattle.pua_policy.specs.Verdict.{Is, IsFile, allowed_unless, cover_fault, if_promised, or_fault}
use Rattle.pua_ever.specs.Ever.{may_start}
use Rattle.pua_jointly.specs.Jointly.{turning_by}

abbrev AsFile : Call → Type 0
AsFile call = (about call).fits.no_socket ≡ (about call).fits.file

one_of : (calls : List Call) → AllByRecursion AsFile calls → (call : Call) → Among calls call → AsFile call
one_of [] all call among = absurd among
one_of (first ∷ more) all call (inl same) = subst AsFile same all.0
one_of (first ∷ more) all call (inr among) = one_of more all.1 call among

-- of what can be sent once it is open, open-r counts too
all_of : (sent : Bool) → AllByRecursion AsFile (turning_by sent)
all_of true = (refl, (refl, (refl, (refl, (refl, (refl, (refl, tt)))))))
all_of false = (refl, (refl, (refl, (refl, (refl, (refl, tt))))))

same_fits : (is : Kind) → may_start is ≡ true → (sent : Bool) (call : Call) → Among (turning_by sent) call →
    fits_on (about call).fits is ≡ (about call).fits.file
same_fits File starts sent call among = refl
same_fits (Known Plain) starts sent call among = one_of (turning_by sent) (all_of sent) call among
same_fits (Known Sock) starts sent call among = absurd (false≢true starts)
same_fits (Known Fifo) starts sent call among = absurd (false≢true starts)
same_fits (Known Dev) starts sent call among = absurd (false≢true starts)
same_fits Dir starts sent call among = absurd (false≢true starts)
same_fits Prog starts sent call among = absurd (false≢true starts)
same_fits Link starts sent call among = absurd (false≢true starts)

pub turning_allowed : (table : CallTable) (h : ProcessState) (is : Kind) → may_start is ≡ true → (sent : Bool) (call : Call) →
    Among (turning_by sent) call → (k : Cover) →
    is_allowed (covered_verdict empty_tree table h call k (Is is)) ≡ is_allowed (covered_verdict empty_tree table h call k IsFile)
turning_allowed table h is starts sent call among k =
    ap (λ m. is_allowed (if_promised (may_any h (rule_of table call).alternatives)
    (allowed_unless (or_fault (cover_fault k (rule_of table call).perms) (option_map misfit_errno m)))))
    (same_fits is starts sent call among)
