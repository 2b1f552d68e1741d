use Rattle.pua_since.proofs.Common.{◌++◌, ◌∙◌, ◌≡◌, ◌∷◌, [], ℕ, List, Bool, true, false, sym, ap, append-nil, string_bytes, flat_map, with_end}
use Rattle.std.proofs.lemmas.Bool.{false≢true, true≢false}
use Rattle.std.specs.Prelude.{if◌then◌else◌}
use Rattle.std.proofs.lemmas.Result.{on_ok_weaker}
use Rattle.pua_script.specs.Requests.{says_nothing}
use Rattle.pua_since.proofs.reason_lines.push_line.Goals as goal

-- nothing is added where nobody asks
unsaid : (silent : Bool) (text line : List ℕ) → silent ≡ true → text ≡ text ++ flat_map with_end (if silent then [] else line ∷ [])
unsaid true text line is = sym (append-nil text)
unsaid false text line is = absurd (false≢true is)

-- and else the line
said : (silent : Bool) (text line new : List ℕ) → silent ≡ false → new ≡ text ++ with_end line →
    new ≡ text ++ flat_map with_end (if silent then [] else line ∷ [])
said false text line new is so = so ∙ ap (λ more. text ++ more) (sym (append-nil (with_end line)))
said true text line new is so = absurd (true≢false is)

pub returns-then-says_nothing : goal.returns-then-says_nothing
returns-then-says_nothing g c = λ told.
    unsaid (says_nothing c.args.request.now.action) (string_bytes c.args.text.now) _ (sym c.says_nothing.ensures ∙ c.if-says_nothing.true)

pub returns : goal.returns
returns g c = on_ok_weaker c.push_request.result (λ so told.
    said (says_nothing c.args.request.now.action) (string_bytes c.args.text.now) _ _ (sym c.says_nothing.ensures ∙ c.if-says_nothing.false)
    (so told)) c.push_request.ensures
