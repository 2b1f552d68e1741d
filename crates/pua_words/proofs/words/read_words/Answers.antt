use Rattle.std.proofs.Common.{map}
use Rattle.clap.specs.Simple.{app_of}
use Rattle.pua_words.proofs.Meaning.{all_meant}
use Rattle.pua_words.proofs.words.read_words.Goals as goal

pub returns-clause-meant : goal.returns-clause-meant
returns-clause-meant c =
    let built = c.in_ok-pua_command.ensures in
    rw c.ok_or.ensures.value
    (all_meant built.0 (app_of c.in_ok-pua_command.field-0) c.in-Ok.found c.in_ok-read_command.field-0
    (map (λ word. word.now) c.args.words.now) _ built.1.0 c.in-Ok.ensures.matches c.in_ok-read_command.ensures.read)
