-- What several processes say of execs together, one after another.
use Rattle.pua_jointly.proofs.Common.{◌≡◌, ◌∙◌, ◌<◌, ◌∷◌, ℕ, List, ap, length, map, refl, sym}
use Rattle.std.proofs.Common.{◌+◌, drop, slice_index_or}
use Rattle.std.proofs.lemmas.List.{drop_more}
use Rattle.pua_ever.specs.declared.lasting_list.ExecBound.{ExecBound}
use Rattle.pua_ever.specs.declared.lasting_list.ExecBound.TheVariants.{Never, Bounded, Open}
use Rattle.pua_jointly.specs.JointPrograms.{acting_of, worse, worst}
use Rattle.pua_jointly.specs.declared.counting.Actor.{Actor}

pub worse_never : (x : ExecBound) → worse x Never ≡ x
worse_never Never = refl
worse_never Bounded = refl
worse_never Open = refl

pub worse_more : (x y z : ExecBound) → worse (worse x y) z ≡ worse x (worse y z)
worse_more Never y z = refl
worse_more Bounded Never z = refl
worse_more Bounded Bounded Never = refl
worse_more Bounded Bounded Bounded = refl
worse_more Bounded Bounded Open = refl
worse_more Bounded Open z = refl
worse_more Open y z = refl

-- what all say, by what those before say, and the next one
pub worst_next : (actors : List Actor) (item : Actor) (i : ℕ) (all : ExecBound) → i < length actors → item ≡ slice_index_or actors i item →
    worse (worse all item.execs) (worst (map acting_of (drop (i + 1) actors))) ≡ worse all (worst (map acting_of (drop i actors)))
worst_next actors item i all within is =
    worse_more all item.execs (worst (map acting_of (drop (i + 1) actors)))
    ∙ ap (λ (ms : List Actor). worse all (worst (map acting_of ms)))
    (sym (drop_more actors i item within ∙ ap (λ (m : Actor). m ∷ drop (i + 1) actors) (sym is)))
