-- What is added to a list, one piece after another.
use Rattle.pua_why.proofs.Common.{◌≡◌, ℕ, List, ◌++◌, Result, Ok, Err, ap, ◌∙◌, append_assoc, if◌then◌else◌, codes, joined_words}
use Rattle.pua_why.proofs.Common.{promises_text}
use Rattle.std.specs.Prelude.{is_ok, OnOk}
use Rattle.pua_calls.specs.Promises.{keywords_of}
use Rattle.pua_why.specs.Texts.{or_equals}

pub then_more : {A : Type 0} (old one final first more : List A) → one ≡ old ++ first → final ≡ one ++ more → final ≡ old ++ (first ++ more)
then_more old one final first more begun went = went ∙ ap (λ facts. facts ++ more) begun ∙ append_assoc old first more

-- what a text got where nothing was refused
pub pushed_so : {T E Q : Type 0} (r : Result T E) (new all old : List ℕ) → new ≡ (if is_ok r then all else old) → (new ≡ all → Q) → OnOk r Q
pushed_so (Ok x) new all old pushed so = so pushed
pushed_so (Err e) new all old pushed so = tt

-- the keywords of promises, as they are shown
pub promises_are : (set : ℕ) (names : List (List ℕ)) (keywords shown : List ℕ) → names ≡ keywords_of set →
    keywords ≡ joined_words (codes ",") names → shown ≡ or_equals keywords → shown ≡ promises_text set
unfolding promises_text
promises_are set names keywords shown named between is = is ∙ ap or_equals between ∙
    ap (λ ns. or_equals (joined_words (codes ",") ns)) named
