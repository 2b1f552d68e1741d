use Rattle.pua_ever.proofs.Common.{◌≡◌, [], ◌∷◌, ◌++◌, map, sym, ap, subst, ◌∙◌, filter_map, if◌then◌else◌}
use Rattle.pua_ever.proofs.Common.{Tree, WellFormed, ProcessState, has_veil, All, dir_covers, name_covers, dir_destination, name_destination}
use Rattle.pua_ever.proofs.Common.{opened_dir, entrance_cover, open_covers, HaveSame}
use Rattle.std.proofs.lemmas.List.Elements.{filter_map-append}
use Rattle.pua_ever.specs.Destinations.{AreHeld, cover_on, covers_on}
use Rattle.pua_ever.proofs.Opened.{places_of}
use Rattle.pua_ever.proofs.DestinationCovers.{own_covers, empties_told, entrances, dirs_same, names_same, open_same}
use Rattle.pua_ever.proofs.destinations.find_destinations.Goals as goal
use Rattle.pua_ever.proofs.destinations.find_destinations.Goals.{After-drop-places}
use Rattle.pua_ever.proofs.destinations.find_destinations.Given.{Over}

module _ (g : Over) (c : After-drop-places g) where
  abbrev t : Tree
  t = g.T.FileTree.content c.args.tree.now

  abbrev h : ProcessState
  h = c.args.process.now

  well : WellFormed t
  well = c.known.ensures

  places : map (λ place. place.now) c.deref.result.now ≡ places_of h
  places = ap (map (λ place. place.now)) c.deref.ensures.value ∙ c.in_ok-places.ensures

  dirs : c.in-Ok.found.dirs.items ≡ own_covers t h well
  dirs = c.in-Ok.ensures.dirs ∙ (λ i. filter_map (dir_destination t h) (places i) ++ (if has_veil h.veils then [] else (0, All) ∷ []))

  are : AreHeld t h (places_of h) c.in-Ok.found.held
  are = subst (λ places. AreHeld t h places c.in-Ok.found.held) places c.in-Ok.ensures.held

  ways : c.in-Ok.found.entrances.items ≡ entrances t h well c.in-Ok.found.held are
  ways = c.in-Ok.ensures.entrances ∙
      (λ i. filter_map (entrance_cover t h c.in-Ok.found.held (filter_map (opened_dir h) (places i))) (places i))

  names : c.in-Ok.found.names.items ≡ filter_map (name_destination t h) (places_of h)
  names = c.in-Ok.ensures.names ∙ ap (filter_map (name_destination t h)) places

pub returns-in-Ok-clause-covers : goal.returns-in-Ok-clause-covers
returns-in-Ok-clause-covers g c = record {
  dirs = λ on put.
      subst (λ xs. HaveSame xs (dir_covers (t g c) (h g c) on))
      (filter_map-append (cover_on on) (own_covers (t g c) (h g c) (well g c)) (entrances (t g c) (h g c) (well g c) c.in-Ok.found.held (are g c))
      ∙ sym (λ i. covers_on on (dirs g c i) ++ covers_on on (ways g c i)))
      (dirs_same (t g c) (h g c) (well g c) c.in-Ok.found.held (are g c) c.known-2.ensures on put);
  names = λ on.
      subst (λ xs. HaveSame (covers_on on xs) (name_covers (t g c) (h g c) on)) (sym (names g c))
      (names_same (t g c) (h g c) (well g c) c.known-2.ensures on);
  opens = λ on put.
      subst (λ xs. HaveSame (covers_on on xs) (open_covers (t g c) (h g c) on)) (sym (dirs g c)) (open_same (t g c) (h g c) (well g c) on put);
}

pub returns-in-Ok-clause-held : goal.returns-in-Ok-clause-held
returns-in-Ok-clause-held g c = λ dir is has.
    empties_told (t g c) (h g c) (well g c) c.in-Ok.found.held (are g c) dir is has
