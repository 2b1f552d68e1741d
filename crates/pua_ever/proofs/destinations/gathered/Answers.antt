use Rattle.pua_ever.proofs.Common.{◌≡◌, [], ◌∷◌, ◌++◌, map, true, false, sym, ap, ◌∙◌, filter_map, if◌then◌else◌, has_veil, All}
use Rattle.pua_ever.proofs.Common.{dir_destination, entrance_cover, opened_dir}
use Rattle.std.proofs.lemmas.List.{append-nil}
use Rattle.pua_ever.proofs.destinations.gathered.Goals as goal
use Rattle.pua_ever.proofs.destinations.gathered.Goals.{then-not-is_veiled+in_ok-push, else-not-is_veiled}

pub returns-clause-dirs : goal.returns-clause-dirs
returns-clause-dirs g c =
    let h = c.args.process.now in
    let t = g.T.FileTree.content c.args.tree.now in
    let given = filter_map (dir_destination t h) (map (λ place. place.now) c.args.places.now) in
    let own : c.in_ok-dirs.dirs.items ≡ given = c.in_ok-dirs.ensures in
    elim c.if-not-is_veiled.branch [
      | then-not-is_veiled+in_ok-push w ↦
          let none : has_veil c.args.process.now.veils ≡ false = sym c.is_veiled.ensures ∙ w.if-not-is_veiled.true in
          ap (λ v. v.items) w.dirs-is ∙ w.in_ok-push.ensures.items ∙ (λ i. own i ++ (if sym none i then [] else (0, All) ∷ []))
      | else-not-is_veiled w ↦
          let some : has_veil c.args.process.now.veils ≡ true = sym c.is_veiled.ensures ∙ w.if-not-is_veiled.false in
          ap (λ v. v.items) w.dirs-is ∙ sym (append-nil c.in_ok-dirs.dirs.items) ∙ (λ i. own i ++ (if sym some i then [] else (0, All) ∷ []))
    ]

pub returns-clause-entrances : goal.returns-clause-entrances
returns-clause-entrances g c =
    let h = c.args.process.now in
    let t = g.T.FileTree.content c.args.tree.now in
    let places = map (λ place. place.now) c.args.places.now in
    let opened : c.in_ok-opened.opened.dirs.items ≡ filter_map (opened_dir h) places = c.in_ok-opened.ensures in
    c.in_ok-entrances.ensures ∙ ap (λ dirs. filter_map (entrance_cover t h c.in_ok-held.held dirs) places) opened
