-- A trace says how the path goes, and the resolution goes so.
use Rattle.pua_path.proofs.Common.{RootedTree, above_in}
use Rattle.pua_path.proofs.Common.{◌≡◌, ℕ, zero, suc, Bool, true, false, List, [], ◌∷◌, ◌++◌, Some, None, refl, sym, ◌∙◌, Result, Ok, Err}
use Rattle.pua_path.proofs.Common.{Option, subst, if◌then◌else◌, Spot, parts_of, has_no_part, Standing, Directory, Linked}
use Rattle.pua_path.proofs.Common.{Plain, Nothing, standing_at, is_followed, start_of, resolve_parts, Part, Last, Way, Named, Dot, DotDot}
use Rattle.pua_path.proofs.Common.{Top, Found, Whole, Slot, Stop, NoEntry, NoDirectory, LinkBeyond, Trace, at_once, after_links}
use Rattle.pua_path.proofs.Common.{slot_or_stop, walk_traced, trace_parts}
use Rattle.pua_path.specs.declared.text.Ending.TheVariants as ending
use Rattle.pua_path.specs.declared.found.Part.TheVariants as parts
use Rattle.pua_path.specs.declared.found.Last.TheVariants as last
use Rattle.pua_path.proofs.Steps.{resolve_dot, resolve_dotdot, resolve_directory, resolve_linked, resolve_passed}
use Rattle.pua_path.specs.Traces.{stop_spot}
use Rattle.pua_path.specs.Goes.{Comes, there, by_dot, by_dots, by_directory, by_target, StopsFor, IsFoundBy, EndsAt, Arrives, TracesArrive}
use Rattle.pua_path.specs.Goes.{ComingResolves}
use Rattle.pua_path.proofs.TraceSteps.{met_traced, traced_name}

-- one step in front of a way
module _ (t : RootedTree) (mode : Last) (links dir links_on dir_on : ℕ) (ps on : List Part) (more : List Spot → List Spot)
    (goes : (spots : List Spot) (left at : ℕ) (qs : List Part) → Comes t mode links_on dir_on on spots left at qs →
    Comes t mode links dir ps (more spots) left at qs) where
  ends_behind : (spots : List Spot) (found : Found) (left : ℕ) → EndsAt t mode links_on dir_on on spots found left →
      EndsAt t mode links dir ps (more spots) found left
  ends_behind spots (Whole at way) left e = goes spots left at [] e
  ends_behind spots (Slot at name x) left e = (goes spots left at (parts.Name name ∷ []) e.0, e.1)

  arrives_behind : (trace : Trace) → Arrives t mode links_on dir_on on trace →
      Arrives t mode links dir ps (record { links = more trace.links; outcome = trace.outcome })
  arrives_behind trace a = by trace.outcome trace.links a
    where
      by : (outcome : Result (Found × ℕ) Stop) (spots : List Spot) →
          Arrives t mode links_on dir_on on (record { links = spots; outcome = outcome }) →
          Arrives t mode links dir ps (record { links = more spots; outcome = outcome })
      by (Ok found) spots a = ends_behind spots found.0 found.1 a
      by (Err stop) spots a =
          record {
            left = a.left;
            rest = a.rest;
            comes = goes spots a.left (stop_spot stop).0 (parts.Name (stop_spot stop).1 ∷ a.rest) a.comes;
            why = a.why;
          }

-- where nothing but a last name is left
slot_arrives : (t : RootedTree) (mode : Last) (links dir : ℕ) (name : List ℕ) (rest : List Part) (x : Option ℕ) (stop : Stop) →
    stop_spot stop ≡ (dir, name) → IsFoundBy (standing_at t.tree dir name) x →
    (has_no_part rest ≡ false → StopsFor t mode links rest stop) →
    Arrives t mode links dir (parts.Name name ∷ rest) (slot_or_stop rest (Slot dir name x) stop links)
slot_arrives t mode links dir name [] x stop at found why = (there, found)
slot_arrives t mode links dir name (p ∷ rest) x stop at found why =
    record {
      left = links;
      rest = p ∷ rest;
      comes =
          subst (λ (spot : Spot). Comes t mode links dir (parts.Name name ∷ p ∷ rest) [] links spot.0 (parts.Name spot.1 ∷ p ∷ rest))
          (sym at)
          there;
      why = why refl;
    }

module _ (t : RootedTree) (mode : Last) (links : ℕ) (follow : Spot → List ℕ → List Part → Trace)
    (follows : (dir x : ℕ) (name target : List ℕ) (rest : List Part) → standing_at t.tree dir name ≡ Linked x target →
    is_followed mode rest ≡ true →
    Arrives t mode links dir (parts.Name name ∷ rest) (follow (dir, name) target rest)) where
  met_arrives : (ps : List Part) (dir : ℕ) (name : List ℕ) (s : Standing) → standing_at t.tree dir name ≡ s →
      ((x : ℕ) → Arrives t mode links x ps (walk_traced t mode links follow x (Named dir name) ps)) →
      Arrives t mode links dir (parts.Name name ∷ ps) (met_traced t mode links follow dir name ps s)
  met_arrives ps dir name (Directory x) e further =
      arrives_behind t mode links dir links x (parts.Name name ∷ ps) ps (λ spots. spots) (λ spots left at qs c. by_directory x e c) _
      (further x)
  met_arrives ps dir name (Linked x target) e further = by (is_followed mode ps) refl
    where
      kept : (rest : List Part) → is_followed mode rest ≡ false →
          Arrives t mode links dir (parts.Name name ∷ rest) (at_once (Ok (Slot dir name (Some x), links)))
      kept [] k = (there, subst (λ s. IsFoundBy s (Some x)) (sym e) refl)
      kept (p ∷ rest) k = absurd (never mode k)
        where
          never : (m : Last) → is_followed m (p ∷ rest) ≡ false → ⊥
          never last.Followed k = cc
          never last.Kept k = cc

      by : (v : Bool) → is_followed mode ps ≡ v →
          Arrives t mode links dir (parts.Name name ∷ ps) (if v then follow (dir, name) target ps else at_once (Ok (
            Slot dir name (Some x),
            links,
          )))
      by true k = follows dir x name target ps e k
      by false k = kept ps k
  met_arrives ps dir name (Plain x) e further =
      slot_arrives t mode links dir name ps (Some x) (NoDirectory (dir, name)) refl (subst (λ s. IsFoundBy s (Some x)) (sym e) refl)
      (λ more. ((x, e), more))
  met_arrives ps dir name Nothing e further =
      slot_arrives t mode links dir name ps None (NoEntry (dir, name)) refl (subst (λ s. IsFoundBy s None) (sym e) refl) (λ more. (e, more))

  walk_arrives : (ps : List Part) (dir : ℕ) (way : Way) → Arrives t mode links dir ps (walk_traced t mode links follow dir way ps)
  walk_arrives [] dir way = there
  walk_arrives (parts.Dot ∷ ps) dir way =
      arrives_behind t mode links dir links dir (parts.Dot ∷ ps) ps (λ spots. spots) (λ spots left at qs c. by_dot c) _
      (walk_arrives ps dir Dot)
  walk_arrives (parts.DotDot ∷ ps) dir way =
      arrives_behind t mode links dir links (above_in t dir) (parts.DotDot ∷ ps) ps (λ spots. spots) (λ spots left at qs c. by_dots c) _
      (walk_arrives ps (above_in t dir) DotDot)
  walk_arrives (parts.Name name ∷ ps) dir way =
      rw (traced_name t mode links follow dir way name ps) (met_arrives ps dir name (standing_at t.tree dir name) refl
      (λ x. walk_arrives ps x (Named dir name)))

pub traces_arrive : TracesArrive
traces_arrive t mode zero dir way ps =
    walk_arrives t mode 0 (λ spot target rest. at_once (Err (LinkBeyond spot)))
    (λ dir x name target rest e k. record { left = 0; rest = rest; comes = there; why = (x, target, e, k, refl) }) ps dir way
traces_arrive t mode (suc links) dir way ps =
    walk_arrives t mode (suc links)
    (λ spot target rest. after_links (spot ∷ []) (trace_parts links t mode (start_of t.root target spot.0) Top (parts_of ending.Dot target
    ++ rest)))
    (λ dir x name target rest e k.
    arrives_behind t mode (suc links) dir links (start_of t.root target dir) (parts.Name name ∷ rest) (parts_of ending.Dot target ++ rest)
    (λ spots. (dir, name) ∷ spots) (λ spots left at qs c. by_target x target e k c) _
    (traces_arrive t mode links (start_of t.root target dir) Top (parts_of ending.Dot target ++ rest))) ps dir way

-- the same with the way that was come by an equation, for the cases
resolves : (t : RootedTree) (mode : Last) {links dir : ℕ} {ps : List Part} {spots : List Spot} {left at : ℕ} {rs : List Part} →
    Comes t mode links dir ps spots left at rs → has_no_part rs ≡ false →
    (way other : Way) → resolve_parts links t mode dir way ps ≡ resolve_parts left t mode at other rs
resolves t mode {links} {dir} {ps} there d way other = resolve_passed t mode links dir way other ps d
resolves t mode {links} {dir} (by_dot {ps = ps} c) d way other = resolve_dot t mode links dir way ps ∙ resolves t mode c d Dot other
resolves t mode {links} {dir} (by_dots {ps = ps} c) d way other = resolve_dotdot t mode links dir way ps ∙ resolves t mode c d DotDot other
resolves t mode {links} {dir} (by_directory {name = name} {ps = ps} x e c) d way other =
    resolve_directory t mode links dir way name ps x (sym e) ∙ resolves t mode c d (Named dir name) other
resolves t mode (by_target {links = links} {dir = dir} {name = name} {ps = ps} x target e k c) d way other =
    resolve_linked t mode (suc links) dir way name ps x target (sym e) k ∙ resolves t mode c d Top other

pub coming_resolves : ComingResolves
coming_resolves t mode links dir ps spots left at part qs c way other = resolves t mode c refl way other
