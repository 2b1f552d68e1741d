-- A trace answers as the resolution does.
use Rattle.pua_path.proofs.Common.{Tree, RootedTree, Start, seen_from, starts}
use Rattle.pua_path.proofs.Common.{◌≡◌, ℕ, zero, suc, Bool, true, false, List, [], ◌∷◌, ◌++◌, Some, None, refl, ap, ◌∙◌, Result, Ok, Err}
use Rattle.pua_path.proofs.Common.{if◌then◌else◌, not, option_map, Spot, ◌>>=◌, parts_of, Resolved}
use Rattle.pua_path.proofs.Common.{Directory, Linked, Plain, Nothing, standing_at, is_followed, slot_or, walk, start_of, resolve_parts}
use Rattle.pua_path.proofs.Common.{resolution, Errno, ENOENT, ENOTDIR, ELOOP, Ending, Part, Last, Way, Named, Dot, DotDot, Top, Found, Slot}
use Rattle.pua_path.proofs.Common.{Stop, NoEntry, NoDirectory, LinkBeyond, Trace, at_once, after_links, slot_or_stop, walk_traced}
use Rattle.pua_path.proofs.Common.{trace_parts, as_path_trace, PathTrace, trace_from}
use Rattle.std.specs.Prelude.{Option}
use Rattle.pua_path.specs.Limits.{most_links}
use Rattle.pua_path.specs.Paths.{text_errno, text_fault}
use Rattle.pua_path.specs.declared.text.Ending.TheVariants as ending
use Rattle.pua_path.specs.declared.found.Part.TheVariants as parts
use Rattle.pua_path.specs.declared.traced.PathTextFault.{PathTextFault}
use Rattle.pua_path.specs.declared.traced.PathFault.TheVariants.{InText, NoStart}
use Rattle.pua_path.specs.Traces.{stop_errno, resolved_as}
use Rattle.pua_path.specs.Traces.{named_or_stopped, fails_in, object_or_errno}
use Rattle.pua_path.specs.TraceLaws.{TracesAnswer, TextTracesAnswer}

slot_answers : (rest : List Part) (found : Found) (stop : Stop) (links : ℕ) →
    resolved_as (slot_or_stop rest found stop links).outcome ≡ slot_or rest found (stop_errno stop) links
slot_answers [] found stop links = refl
slot_answers (p ∷ rest) found stop links = refl

module _ (t : RootedTree) (mode : Last) (links : ℕ) (traced : Spot → List ℕ → List Part → Trace) (follow : ℕ → List ℕ → List Part → Resolved)
    (follows : (dir : ℕ) (name target : List ℕ) (rest : List Part) →
    resolved_as (traced (dir, name) target rest).outcome ≡ follow dir target rest) where
  link_answers : (v : Bool) (dir : ℕ) (name target : List ℕ) (x : ℕ) (rest : List Part) →
      resolved_as (if v then traced (dir, name) target rest else at_once (Ok (Slot dir name (Some x), links))).outcome
      ≡ (if v then follow dir target rest else Ok (Slot dir name (Some x), links))
  link_answers true dir name target x rest = follows dir name target rest
  link_answers false dir name target x rest = refl

  walk_answers : (ps : List Part) (dir : ℕ) (way : Way) →
      resolved_as (walk_traced t mode links traced dir way ps).outcome ≡ walk t mode links follow dir way ps
  walk_answers [] dir way = refl
  walk_answers (parts.Dot ∷ ps) dir way = walk_answers ps dir Dot
  walk_answers (parts.DotDot ∷ ps) dir way = walk_answers ps _ DotDot
  walk_answers (parts.Name name ∷ ps) dir way = elim (standing_at t.tree dir name) as (λ s.
      ◌≡◌ {A = Resolved} (resolved_as (Trace.outcome (elim s [
        | Directory x ↦ walk_traced t mode links traced x (Named dir name) ps
        | Linked x target ↦ if is_followed mode ps then traced (dir, name) target ps else at_once (Ok (Slot dir name (Some x), links))
        | Plain x ↦ slot_or_stop ps (Slot dir name (Some x)) (NoDirectory (dir, name)) links
        | Nothing ↦ slot_or_stop ps (Slot dir name None) (NoEntry (dir, name)) links
      ])))
      (elim s [
        | Directory x ↦ walk t mode links follow x (Named dir name) ps
        | Linked x target ↦ if is_followed mode ps then follow dir target ps else Ok (Slot dir name (Some x), links)
        | Plain x ↦ slot_or ps (Slot dir name (Some x)) ENOTDIR links
        | Nothing ↦ slot_or ps (Slot dir name None) ENOENT links
      ])) [
        | Directory x ↦ walk_answers ps x (Named dir name)
        | Linked x target ↦ link_answers (is_followed mode ps) dir name target x ps
        | Plain x ↦ slot_answers ps (Slot dir name (Some x)) (NoDirectory (dir, name)) links
        | Nothing ↦ slot_answers ps (Slot dir name None) (NoEntry (dir, name)) links
      ]

pub traces_answer : TracesAnswer
traces_answer t mode zero dir way ps =
    walk_answers t mode 0 (λ spot target rest. at_once (Err (LinkBeyond spot))) (λ from target rest. Err ELOOP)
    (λ dir name target rest. refl) ps dir way
traces_answer t mode (suc links) dir way ps =
    walk_answers t mode (suc links)
    (λ spot target rest. after_links (spot ∷ []) (trace_parts links t mode (start_of t.root target spot.0) Top (parts_of ending.Dot target
    ++ rest)))
    (λ from target rest. resolve_parts links t mode (start_of t.root target from) Top (parts_of ending.Dot target ++ rest))
    (λ dir name target rest. traces_answer t mode links (start_of t.root target dir) Top (parts_of ending.Dot target ++ rest)) ps dir way

-- what is named, where the links left are forgotten
forgets : (r : Result (Found × ℕ) Stop) → object_or_errno (named_or_stopped r) ≡ (resolved_as r >>= λ found. Ok found.0)
forgets (Ok found) = refl
forgets (Err stop) = refl

pub from_answers : (t : Tree) (from : Start) (ending : Ending) (text : List ℕ) (mode : Last) →
    object_or_errno (trace_from t from ending text mode).outcome ≡ resolution t from ending text mode
unfolding trace_from
from_answers t from ending text mode = by (not (starts t from text))
  where
    by : (v : Bool) → object_or_errno (PathTrace.outcome (if v then fails_in NoStart else as_path_trace
        (trace_parts most_links (seen_from t from) mode (start_of from.root text from.dir) Top (parts_of ending text))))
        ≡ (if v then Err ENOENT else (resolve_parts most_links (seen_from t from) mode (start_of from.root text from.dir) Top
        (parts_of ending text) >>= λ found. Ok found.0))
    by true = refl
    by false = forgets (trace_parts most_links (seen_from t from) mode (start_of from.root text from.dir) Top (parts_of ending text)).outcome
        ∙ ap (λ r. r >>= λ found. Ok found.0)
        (traces_answer (seen_from t from) mode most_links (start_of from.root text from.dir) Top (parts_of ending text))

pub text_traces_answer : TextTracesAnswer
text_traces_answer t from ending text mode = by (text_fault text)
  where
    by : (f : Option PathTextFault) →
        object_or_errno (PathTrace.outcome (elim f [ None ↦ trace_from t from ending text mode | Some fault ↦ fails_in (InText fault) ]))
        ≡ elim (option_map text_errno f) as (λ x. Result Found Errno) [ None ↦ resolution t from ending text mode | Some errno ↦ Err errno ]
    by None = from_answers t from ending text mode
    by (Some fault) = refl
