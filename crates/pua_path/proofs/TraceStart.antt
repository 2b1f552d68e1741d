-- Where a trace begins.
use Rattle.pua_path.proofs.Common.{Start, rooted, seen_from, starts}
use Rattle.pua_path.proofs.Common.{◌≡◌, ℕ, Bool, true, false, List, [], Some, None, Err, refl, sym, ap, ◌∙◌, Option, if◌then◌else◌, not}
use Rattle.pua_path.proofs.Common.{Tree, Spot, parts_of, start_of, Trace, trace_parts, PathTrace, as_path_trace}
use Rattle.pua_path.proofs.Common.{trace_from, Ending, Last, Part, Way, Top}
use Rattle.pua_path.specs.Limits.{most_links}
use Rattle.pua_path.specs.Traces.{fails_in}
use Rattle.pua_path.proofs.Arrival.{begun}
use Rattle.pua_path.specs.declared.traced.PathFault.TheVariants.{NoStart}

-- with any number of links
begins : (t : Tree) (from : Start) (text : List ℕ) (mode : Last) (start : Start) (most : ℕ) (ps : List Part) (trace : Trace) (v : Bool) →
    Some start ≡ (if v then None else Some (begun t from text)) →
    trace ≡ trace_parts most (rooted t start.root) mode start.dir Top ps →
    ◌≡◌ {A = PathTrace} (if v then fails_in NoStart else as_path_trace (trace_parts most (seen_from t from) mode
    (start_of from.root text from.dir) Top ps)) (as_path_trace trace)
begins t from text mode start most ps trace true s e = cc
begins t from text mode start most ps trace false s e =
    let same : start ≡ begun t from text = cc in
    ap (λ (at : Start). as_path_trace (trace_parts most (rooted t at.root) mode at.dir Top ps)) (sym same) ∙ ap as_path_trace (sym e)

-- a walk that was begun with these
pub record IsBegun (ending : Ending) (text : List ℕ) (start : Start) (most : ℕ) (root here : ℕ) (way : Way) (ps : List Part) : Type 0 where
  pub all_links : most ≡ most_links
  pub by_root : root ≡ start.root
  pub at_start : here ≡ start.dir
  pub no_way : way ≡ Top
  pub all_parts : ps ≡ parts_of ending text

pub trace_begins : (t : Tree) (from : Start) (ending : Ending) (text : List ℕ) (mode : Last) (start : Start) (most : ℕ) (root here : ℕ)
    (way : Way) (ps : List Part) (trace : Trace) →
    IsBegun ending text start most root here way ps →
    Some start ≡ (if not (starts t from text) then None else Some (begun t from text)) →
    trace ≡ trace_parts most (rooted t root) mode here way ps → trace_from t from ending text mode ≡ as_path_trace trace
unfolding trace_from
trace_begins t from ending text mode start most root here way ps trace is s e =
    let same : trace ≡ trace_parts most (rooted t start.root) mode start.dir Top ps =
    e ∙ (λ i. trace_parts most (rooted t (is.by_root i)) mode (is.at_start i) (is.no_way i) ps) in
    let begun = begins t from text mode start most ps trace (not (starts t from text)) s same in
    (λ i. if not (starts t from text) then fails_in NoStart
    else as_path_trace (trace_parts (sym is.all_links i) (seen_from t from) mode (start_of from.root text from.dir) Top
    (sym is.all_parts i))) ∙ begun

pub trace_starts_nowhere : (t : Tree) (from : Start) (ending : Ending) (text : List ℕ) (mode : Last) (links : List Spot) → links ≡ [] →
    ◌≡◌ {A = Option Start} None (if not (starts t from text) then None else Some (begun t from text)) →
    ◌≡◌ {A = PathTrace} (record { links = links; outcome = Err NoStart }) (trace_from t from ending text mode)
unfolding trace_from
trace_starts_nowhere t from ending text mode links none s =
    ap (λ spots. as_failed spots) none ∙ sym (by most_links (not (starts t from text)) s)
  where
    as_failed : List Spot → PathTrace
    as_failed spots = record { links = spots; outcome = Err NoStart }

    by : (most : ℕ) (v : Bool) → ◌≡◌ {A = Option Start} None (if v then None else Some (begun t from text)) →
        ◌≡◌ {A = PathTrace} (if v then fails_in NoStart else as_path_trace
        (trace_parts most (seen_from t from) mode (start_of from.root text from.dir) Top (parts_of ending text))) (fails_in NoStart)
    by most true s = refl
    by most false s = cc
