-- How each answer is written.
use Rattle.std.specs.Prelude.{ℕ, List, [], ◌∷◌, ◌++◌, codes}
use Rattle.pua_path.specs.ErrnoNames.{errno_name}
use Rattle.pua_script.specs.declared.answer.Answer.{Answer}
use Rattle.pua_script.specs.declared.answer.Answer.TheVariants.{Okay, Failed, Killed, Gone}

abbrev pub answer_text : Answer → List ℕ
answer_text Okay = codes "ok"
answer_text (Failed errno) = errno_name errno
answer_text Killed = codes "killed"
answer_text Gone = codes "gone"

-- a line with its end
abbrev pub with_end : List ℕ → List ℕ
with_end line = line ++ 10 ∷ []
