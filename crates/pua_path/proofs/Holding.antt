-- What a trace says is true of the tree, and its links are counted.
use Rattle.pua_path.proofs.Common.{Tree, RootedTree}
use Rattle.pua_path.proofs.Common.{◌≡◌, ℕ, zero, suc, Bool, true, false, List, [], ◌∷◌, ◌++◌, Some, None, refl, sym, arith, Result, Ok, Err}
use Rattle.pua_path.proofs.Common.{if◌then◌else◌, Spot, parts_of, Standing, Directory, Linked, Plain, Nothing, standing_at}
use Rattle.pua_path.proofs.Common.{is_followed, start_of, Part, Last, Way, Named, Dot, DotDot, Top, Found, Slot, Stop, NoEntry, NoDirectory}
use Rattle.pua_path.proofs.Common.{LinkBeyond, Trace, at_once, after_links, slot_or_stop, walk_traced, trace_parts}
use Rattle.pua_path.specs.declared.text.Ending.TheVariants as ending
use Rattle.pua_path.specs.declared.found.Part.TheVariants as parts
use Rattle.pua_path.proofs.TraceSteps.{met_traced, traced_name}
use Rattle.pua_path.specs.TraceLaws.{StopHolds, IsLinkAt, CountsLinks, TraceHolds, TracesHold}

slot_holds : (t : Tree) (links : ℕ) (rest : List Part) (found : Found) (stop : Stop) → StopHolds t stop →
    CountsLinks links (at_once (Err stop)) → TraceHolds t links (slot_or_stop rest found stop links)
slot_holds t links [] found stop holds counts = record { stop = tt; are_links = tt; count = omega arith }
slot_holds t links (p ∷ rest) found stop holds counts = record { stop = holds; are_links = tt; count = counts }

module _ (t : RootedTree) (mode : Last) (links : ℕ) (follow : Spot → List ℕ → List Part → Trace)
    (follows : (dir : ℕ) (name target : List ℕ) (rest : List Part) → IsLinkAt t.tree (dir, name) →
    TraceHolds t.tree links (follow (dir, name) target rest)) where
  met_holds : (ps : List Part) (dir : ℕ) (name : List ℕ) (s : Standing) → s ≡ standing_at t.tree dir name →
      ((x : ℕ) → TraceHolds t.tree links (walk_traced t mode links follow x (Named dir name) ps)) →
      TraceHolds t.tree links (met_traced t mode links follow dir name ps s)
  met_holds ps dir name (Directory x) e further = further x
  met_holds ps dir name (Linked x target) e further = by (is_followed mode ps)
    where
      by : (v : Bool) → TraceHolds t.tree links (if v then follow (dir, name) target ps else at_once (Ok (Slot dir name (Some x), links)))
      by true = follows dir name target ps (x, target, sym e)
      by false = record { stop = tt; are_links = tt; count = omega arith }
  met_holds ps dir name (Plain x) e further = slot_holds t.tree links ps (Slot dir name (Some x)) (NoDirectory (dir, name)) (
    x,
    sym e,
  ) (omega arith)
  met_holds ps dir name Nothing e further = slot_holds t.tree links ps (Slot dir name None) (NoEntry (dir, name)) (sym e) (omega arith)

  walk_holds : (ps : List Part) (dir : ℕ) (way : Way) → TraceHolds t.tree links (walk_traced t mode links follow dir way ps)
  walk_holds [] dir way = record { stop = tt; are_links = tt; count = omega arith }
  walk_holds (parts.Dot ∷ ps) dir way = walk_holds ps dir Dot
  walk_holds (parts.DotDot ∷ ps) dir way = walk_holds ps _ DotDot
  walk_holds (parts.Name name ∷ ps) dir way =
      rw (traced_name t mode links follow dir way name ps) (met_holds ps dir name (standing_at t.tree dir name) refl
      (λ x. walk_holds ps x (Named dir name)))

-- one link more, in front
one_more : (t : Tree) (links : ℕ) (spot : Spot) (trace : Trace) → IsLinkAt t spot → TraceHolds t links trace →
    TraceHolds t (suc links) (after_links (spot ∷ []) trace)
one_more t links spot trace is h = record { stop = h.stop; are_links = (is, h.are_links); count = by trace.outcome trace.links h.count }
  where
    by : (outcome : Result (Found × ℕ) Stop) (ls : List Spot) → CountsLinks links (record { links = ls; outcome = outcome }) →
        CountsLinks (suc links) (record { links = spot ∷ ls; outcome = outcome })
    by (Ok found) ls h = omega (arith, h)
    by (Err (NoEntry spot)) ls h = omega (arith, h)
    by (Err (NoDirectory spot)) ls h = omega (arith, h)
    by (Err (LinkBeyond spot)) ls h = omega (arith, h)

pub traces_hold : TracesHold
traces_hold t mode zero dir way ps =
    walk_holds t mode 0 (λ spot target rest. at_once (Err (LinkBeyond spot)))
    (λ dir name target rest is. record { stop = is; are_links = tt; count = refl }) ps dir way
traces_hold t mode (suc links) dir way ps =
    walk_holds t mode (suc links)
    (λ spot target rest. after_links (spot ∷ []) (trace_parts links t mode (start_of t.root target spot.0) Top (parts_of ending.Dot target
    ++ rest)))
    (λ dir name target rest is. one_more t.tree links (
      dir,
      name,
    ) _ is (traces_hold t mode links (start_of t.root target dir) Top (parts_of ending.Dot target ++ rest))) ps dir way
