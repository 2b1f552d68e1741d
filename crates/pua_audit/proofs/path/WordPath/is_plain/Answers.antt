use Rattle.pua_audit.proofs.Common.{length, sym, ap, ◌∙◌, arith, list_all, is_plain}
use Rattle.pua_audit.proofs.PlainPaths.{front_whole}
use Rattle.pua_audit.proofs.WordPaths.{length-starts}
use Rattle.pua_audit.proofs.path.WordPath.is_plain.Goals as goal

pub returns : goal.returns
returns c = λ word is.
    front_whole word c.args.self.now.plain c.len.result is.plain (omega (arith, c.len.ensures, ap length is.starts, length-starts 0 word)) ∙
    ap (list_all is_plain) (sym is.bytes)
