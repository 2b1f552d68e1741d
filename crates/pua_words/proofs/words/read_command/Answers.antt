use Rattle.std.proofs.Common.{Option, subst}
use Rattle.std.specs.Prelude.{IfSome}
use Rattle.clap.specs.Matches.{found_of}
use Rattle.clap.specs.Walk.{rows_of}
use Rattle.pua_words.specs.Reading.{IsReadAs}
use Rattle.pua_words.specs.declared.command.Text.{Text}
use Rattle.pua_words.proofs.Meeting.{is_command, is_met}
use Rattle.pua_words.proofs.words.read_command.Goals as goal

pub returns-clause-read : goal.returns-clause-read
returns-clause-read c =
    let found = found_of c.in-Some.inner.now in
    let name = c.in-Some.name.now in
    let read : IsReadAs name found c.in-Some-2.text =
    subst (λ (t : Option Text). IfSome t (IsReadAs name found)) c.in-Some-2.is c.in_ok-text.ensures.read in
    is_command _ _ name found c.in-Some-2.text
    (is_met _ name (rows_of found) c.in-Some.ensures.name c.in-Some.ensures.rows) read c.read_inputs.ensures.text
    c.read_inputs.ensures.inputs
