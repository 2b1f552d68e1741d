-- What a trace comes to at a name.
use Rattle.pua_path.proofs.Common.{RootedTree, above_in}
use Rattle.pua_path.proofs.Common.{◌≡◌, ℕ, zero, suc, Bool, true, false, List, [], ◌∷◌, ◌++◌, Some, None, refl, sym, ap, ◌∙◌, append_assoc}
use Rattle.pua_path.proofs.Common.{Ok, Err, arith, ◌<◌, ◌-◌, if◌then◌else◌, nat_lt, Spot, part_of, parts_of, has_no_part}
use Rattle.pua_path.proofs.Common.{Standing, Directory, Linked, Plain, Nothing, standing_at, is_followed, start_of, Trace, at_once}
use Rattle.pua_path.proofs.Common.{after_links, slot_or_stop, walk_traced, trace_parts, Part, Last, Followed, Kept, Way, Slot, NoEntry}
use Rattle.pua_path.proofs.Common.{NoDirectory, LinkBeyond}
use Rattle.std.proofs.Common.{le-ltb, lt-ltb}
use Rattle.pua_tree.specs.Names.{same_bytes}
use Rattle.pua_path.specs.Walks.{stop_at}
use Rattle.pua_path.specs.Onward.{Onward, Goes, Follows, Ends, Fails, onward_at, onward_by}
use Rattle.pua_path.specs.declared.text.Ending.TheVariants as ending
use Rattle.pua_path.specs.declared.found.Part.TheVariants as parts
use Rattle.pua_path.specs.declared.found.Way.TheVariants as ways

-- what the walk comes to at a name
abbrev pub met_traced : RootedTree → Last → ℕ → (Spot → List ℕ → List Part → Trace) → ℕ → List ℕ → List Part → Standing → Trace
met_traced t mode links follow dir name rest (Directory x) = walk_traced t mode links follow x (ways.Named dir name) rest
met_traced t mode links follow dir name rest (Linked x target) =
    if is_followed mode rest then follow (dir, name) target rest else at_once (Ok (Slot dir name (Some x), links))
met_traced t mode links follow dir name rest (Plain x) = slot_or_stop rest (Slot dir name (Some x)) (NoDirectory (dir, name)) links
met_traced t mode links follow dir name rest Nothing = slot_or_stop rest (Slot dir name None) (NoEntry (dir, name)) links

pub traced_name : (t : RootedTree) (mode : Last) (links : ℕ) (follow : Spot → List ℕ → List Part →
    Trace) (dir : ℕ) (way : Way) (name : List ℕ) (rest : List Part) →
    walk_traced t mode links follow dir way (parts.Name name ∷ rest) ≡ met_traced t mode links follow dir name rest (standing_at t.tree dir name)
traced_name t mode links follow dir way name rest = elim (standing_at t.tree dir name) as (λ s.
    ◌≡◌ {A = Trace} (elim s [
      | Directory x ↦ walk_traced t mode links follow x (ways.Named dir name) rest
      | Linked x target ↦ if is_followed mode rest then follow (dir, name) target rest else at_once (Ok (Slot dir name (Some x), links))
      | Plain x ↦ slot_or_stop rest (Slot dir name (Some x)) (NoDirectory (dir, name)) links
      | Nothing ↦ slot_or_stop rest (Slot dir name None) (NoEntry (dir, name)) links
    ]) (met_traced t mode links follow dir name rest s)) [
      | Directory x ↦ refl
      | Linked x target ↦ refl
      | Plain x ↦ refl
      | Nothing ↦ refl
    ]

-- one link more was followed
pub link_followed : (spots more : List Spot) (spot : Spot) (before further : Trace) → more ≡ spots ++ spot ∷ [] →
    before ≡ after_links (spot ∷ []) further → after_links more further ≡ after_links spots before
link_followed spots more spot before further e b =
    ap (λ links. after_links links further) e
    ∙ ap (λ (links : List Spot). record { links = links; outcome = further.outcome }) (append_assoc spots (spot ∷ []) further.links)
    ∙ ap (after_links spots) (sym b)

-- what comes of following a link, with so many links left before it
abbrev pub followed_traced : ℕ → RootedTree → Last → Spot → List ℕ → List Part → Trace
followed_traced zero t mode spot target rest = at_once (Err (LinkBeyond spot))
followed_traced (suc links) t mode spot target rest =
    after_links (spot ∷ []) (trace_parts links t mode (start_of t.root target spot.0) ways.Top (parts_of ending.Dot target ++ rest))

-- what the parts behind one come to, by what that leads to
abbrev pub led_traced : RootedTree → Last → ℕ → Spot → List Part → Onward → Trace
led_traced t mode links spot rest (Goes x way) = trace_parts links t mode x way rest
led_traced t mode links spot rest (Follows target) = followed_traced links t mode spot target rest
led_traced t mode links spot rest (Ends found) = at_once (Ok (found, links))
led_traced t mode links spot rest (Fails errno) = at_once (Err (stop_at spot errno))

module _ (t : RootedTree) (mode : Last) where
  trace_walks : (links dir : ℕ) (way : Way) (ps : List Part) →
      trace_parts links t mode dir way ps ≡ walk_traced t mode links (followed_traced links t mode) dir way ps
  trace_walks zero dir way ps = refl
  trace_walks (suc links) dir way ps = refl

  -- how a directory was named matters where no part is left alone
  walk_passed : (links : ℕ) (follow : Spot → List ℕ → List Part → Trace) (dir : ℕ) (way other : Way) (p : Part) (ps : List Part) →
      walk_traced t mode links follow dir way (p ∷ ps) ≡ walk_traced t mode links follow dir other (p ∷ ps)
  walk_passed links follow dir way other parts.Dot ps = refl
  walk_passed links follow dir way other parts.DotDot ps = refl
  walk_passed links follow dir way other (parts.Name name) ps =
      traced_name t mode links follow dir way name ps ∙ sym (traced_name t mode links follow dir other name ps)

-- what stands at a name leads on so
met_traced_onward : (t : RootedTree) (mode : Last) (links dir : ℕ) (name : List ℕ) (rest : List Part) (s : Standing) →
    met_traced t mode links (followed_traced links t mode) dir name rest s
    ≡ led_traced t mode links (dir, name) rest (onward_at mode dir name (has_no_part rest) s)
met_traced_onward t mode links dir name [] (Directory x) = refl
met_traced_onward t mode links dir name (p ∷ ps) (Directory x) =
    walk_passed t mode links (followed_traced links t mode) x (ways.Named dir name) ways.Top p ps
    ∙ sym (trace_walks t mode links x ways.Top (p ∷ ps))
met_traced_onward t Followed links dir name rest (Linked x target) = refl
met_traced_onward t Kept links dir name [] (Linked x target) = refl
met_traced_onward t Kept links dir name (p ∷ ps) (Linked x target) = refl
met_traced_onward t mode links dir name [] (Plain x) = refl
met_traced_onward t mode links dir name (p ∷ ps) (Plain x) = refl
met_traced_onward t mode links dir name [] Nothing = refl
met_traced_onward t mode links dir name (p ∷ ps) Nothing = refl

-- and so does the part that a piece is
pub trace_onward : (t : RootedTree) (mode : Last) (links dir : ℕ) (way : Way) (piece : List ℕ) (rest : List Part) (last : Bool) (r : Onward) →
    last ≡ has_no_part rest → r ≡ onward_by t mode dir (part_of piece) last →
    trace_parts links t mode dir way (part_of piece ∷ rest) ≡ led_traced t mode links (dir, piece) rest r
trace_onward t mode links dir way piece rest last r l e =
    trace_walks t mode links dir way (part_of piece ∷ rest)
    ∙ by (same_bytes piece (46 ∷ [])) (same_bytes piece (46 ∷ 46 ∷ []))
    ∙ ap (led_traced t mode links (dir, piece) rest) (sym (e ∙ ap (onward_by t mode dir (part_of piece)) l))
  where
    by : (one two : Bool) → let part = if one then parts.Dot else (if two then parts.DotDot else parts.Name piece) in
        walk_traced t mode links (followed_traced links t mode) dir way (part ∷ rest)
        ≡ led_traced t mode links (dir, piece) rest (onward_by t mode dir part (has_no_part rest))
    by true two = sym (trace_walks t mode links dir ways.Dot rest)
    by false true = sym (trace_walks t mode links (above_in t dir) ways.DotDot rest)
    by false false =
        traced_name t mode links (followed_traced links t mode) dir way piece rest
        ∙ met_traced_onward t mode links dir piece rest (standing_at t.tree dir piece)

-- where no link is followed
pub unlinked : (links : ℕ) (spot : Spot) (further : Trace) → further ≡ after_links (if nat_lt links links then spot ∷ [] else []) further
unlinked links spot further = rw (le-ltb links links (omega arith)) refl

-- and where one may be, by where the walk is then
pub followed_traced_on : (t : RootedTree) (mode : Last) (links : ℕ) (spot : Spot) (target : List ℕ) (rest : List Part) (after here : ℕ)
    (way : Way) (ps : List Part) → 0 < links → after ≡ links - 1 → here ≡ start_of t.root target spot.0 → way ≡ ways.Top →
    ps ≡ parts_of ending.Dot target ++ rest →
    followed_traced links t mode spot target rest
    ≡ after_links (if nat_lt after links then spot ∷ [] else []) (trace_parts after t mode here way ps)
followed_traced_on t mode zero spot target rest after here way ps l a h w p = absurd (omega (arith, l))
followed_traced_on t mode (suc links) spot target rest after here way ps l a h w p =
    let one : after ≡ links = omega (arith, a) in rw (one, h, w, p, lt-ltb links (suc links) (omega arith)) refl
