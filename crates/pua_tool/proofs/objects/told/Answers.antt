use Rattle.pua_tool.proofs.Common.{◌≡◌, refl, subst}
use Rattle.pua_texts.specs.Tells.{IsUntold}
use Rattle.pua_texts.specs.declared.fault.TextFault.{TextFault}
use Rattle.pua_texts.specs.declared.fault.TextFault.TheVariants.{OutOfMemory, Write}
use Rattle.pua_tool.proofs.TextAnswers.{all_told}
use Rattle.pua_tool.proofs.objects.told.Goals as goal

pub returns-in-Ok : goal.returns-in-Ok
returns-in-Ok c = λ text a b n m told.
    let left = (rw c.in-Ok.is at told) in
    all_told text a b n m left.0 left.1

pub returns-in-Err-Write : goal.returns-in-Err-Write
returns-in-Err-Write c = λ text a b n m told.
    let fault : c.in-Err-Write.field-0 ≡ Write = (rw c.in-Err-Write.is at c.in-Err-Write.field-0-is) in
    let left = subst (λ (f : TextFault). IsUntold text f a b n m) fault (rw c.in-Err-Write.is at told) in
    (text, refl, left.0, left.1)

pub returns-in-Err-OutOfMemory : goal.returns-in-Err-OutOfMemory
returns-in-Err-OutOfMemory c = λ text a b n m told.
    let fault : c.in-Err-OutOfMemory.field-0 ≡ OutOfMemory = (rw c.in-Err-OutOfMemory.is at c.in-Err-OutOfMemory.field-0-is) in
    (λ other. absurd (other refl), subst (λ (f : TextFault). IsUntold text f a b n m) fault (rw c.in-Err-OutOfMemory.is at told))
