use Rattle.pua_tree.proofs.Common.{◌≡◌, Bool, true, false, List, ℕ, Some, None, cond, refl, sym, ◌∙◌, is_name}
use Rattle.pua_tree.proofs.Base.{Some≢None}
use Rattle.pua_tree.proofs.Sound.{only_names_found}
use Rattle.pua_tree.proofs.judgement.find.Goals as goal

other : (bytes : List ℕ) (b : Bool) → cond b (Some bytes) None ≡ None → b ≡ false
other bytes true e = absurd (Some≢None bytes e)
other bytes false e = refl

pub returns-in_default : goal.returns-in_default
returns-in_default g c =
    let bytes = c.args.bytes.now in
    sym (only_names_found (g.T.Judged.held c.args.tree.now) c.args.dir bytes c.is_tree.ensures
    (other bytes (is_name bytes) (sym c.from_bytes.ensures ∙ c.in_default.is)))
