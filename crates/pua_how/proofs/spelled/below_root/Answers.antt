use Rattle.std.proofs.Common.{◌≡◌, ℕ, true, false, List, ap, subst, sym, ◌∙◌, cond, drop, length}
use Rattle.std.specs.Prelude.{None}
use Rattle.std.specs.Str.{IsCharBoundary}
use Rattle.std.specs.Str.Pattern.{FindsTextPrefix, StripsPrefix}
use Rattle.std.proofs.lemmas.Str.Pattern.{starts_text}
use Rattle.pua_how.specs.Steps.{behind_root, below_root}
use Rattle.pua_how.proofs.spelled.below_root.Goals as goal

-- what is behind the root's path, where that stands in front
is_behind : (root whole behind : List ℕ) → StripsPrefix (FindsTextPrefix root) whole behind → below_root root whole ≡ behind_root behind
is_behind root whole behind is =
    let n = is.0 in
    let finds = is.1 in
    let starts = starts_text true root whole (n, finds, subst (IsCharBoundary whole) (sym finds.0) finds.2) in
    ap (λ b. cond b (behind_root (drop (length root) whole)) None) (sym starts)
    ∙ ap (λ k. behind_root (drop k whole)) (sym finds.0)
    ∙ ap behind_root (sym is.2)

is_elsewhere : (root whole : List ℕ) → FindsTextPrefix root whole None → below_root root whole ≡ None
is_elsewhere root whole none = ap (λ b. cond b (behind_root (drop (length root) whole)) None) (sym (starts_text false root whole none))

pub returns-in-Some : goal.returns-in-Some
returns-in-Some c =
    c.behind_root.ensures ∙ sym (is_behind c.args.root.now c.args.whole.now c.in-Some.behind.now c.in-Some.ensures.cases)

pub returns-in-None : goal.returns-in-None
returns-in-None c = sym (is_elsewhere c.args.root.now c.args.whole.now c.in-None.ensures.cases)
