-- What a family reaches and changes, by what its processes allow.
use Rattle.pua_tool.proofs.Common.{◌≡◌, ℕ, List, [], ◌∷◌, ◌++◌, map, refl, sym, ap, subst, ◌∙◌, Tree, listing, CallTable, ProcessState, Asked}
use Rattle.pua_tool.proofs.Common.{script_by, new_world, world_after}
use Rattle.std.proofs.Common.{codes, Bool, true}
use Rattle.std.specs.Prelude.{Ok}
use Rattle.std.proofs.lemmas.Bool.{and_parts}
use Rattle.std.proofs.lemmas.List.Folds.{list_all-append}
use Rattle.pua_tree.specs.Tree.{distinct_names}
use Rattle.pua_path.specs.Paths.{is_absolute}
use Rattle.pua_policy.specs.States.{root_dir, working_dir}
use Rattle.pua_audit.specs.Reach.{path_of, alphabet_of}
use Rattle.pua_audit.specs.SubLists.{SubList}
use Rattle.pua_audit.specs.declared.base.Base.{Base}
use Rattle.pua_audit.specs.declared.base.Base.TheVariants.{Root, Cwd}
use Rattle.pua_audit.proofs.ForCallers.{fewer_reach_less, reach_needs_rows}
use Rattle.pua_calls.specs.declared.rules.Rules.{Rules}
use Rattle.pua_script.specs.Bytes.{is_in_bytes, are_in_bytes, IsByteTree}
use Rattle.pua_script.specs.Tightening.{AllowsNoMore}
use Rattle.pua_script.proofs.ForCallers.{families_narrow, families_confine, replays_keep_trees, replays_keep_byte_trees}
use Rattle.pua_script.proofs.ForCallers.{listings_list_byte_trees, scripts_ask_in_bytes}
use Rattle.pua_tool.proofs.Tables.{tables_need_no_error}
use Rattle.pua_tool.specs.Futures.{reach_over, ReachesNoMore, Narrowing, NarrowingNow, Confinement, NarrowingAsRead, ConfinementAsRead}

root_path : (word : List (List ℕ)) → is_absolute (path_of Root word) ≡ true
root_path [] = refl
root_path (letter ∷ word) = refl

reaches_no_more : (table : CallTable) (t : Tree) (now last : ProcessState) (still rooted : Bool) → AllowsNoMore table now last →
    (still ≡ true → working_dir last ≡ working_dir now) → (rooted ≡ true → root_dir last ≡ root_dir now) →
    ReachesNoMore table t now last still rooted
reaches_no_more table t now last still rooted allows dirs roots = record {
  root = λ top alphabet limit. fewer_reach_less
      (record { tree = t; table = table; process = last; base = Root; alphabet = alphabet; limit = limit })
      (record { tree = t; table = table; process = now; base = Root; alphabet = alphabet; limit = limit }) refl refl
      (λ pair e. allows.absolute (roots top) t pair.1 (path_of Root pair.0) (root_path pair.0) e);
  cwd = λ top is alphabet limit. fewer_reach_less
      (record { tree = t; table = table; process = last; base = Cwd; alphabet = alphabet; limit = limit })
      (record { tree = t; table = table; process = now; base = Cwd; alphabet = alphabet; limit = limit }) refl refl
      (λ pair e. allows.relative (roots top) (dirs is) t pair.1 (path_of Cwd pair.0) e);
}

pub narrowing : Narrowing
narrowing table sound w process now asks here confined none member belongs =
    let one = families_narrow table w asks process now here confined none member belongs in
    (one.0, one.1, (one.2.tightens, λ t. reaches_no_more table t now one.0 _ _ (one.2.allows sound) one.2.dir one.2.root))

-- over a tree with the same rows and nodes the same letters, and so the same reach
same_reach : (table : CallTable) (h : ProcessState) (base : Base) (candidates : List (List ℕ)) (limit : ℕ) (t u : Tree) → u.rows ≡ t.rows →
    u.nodes ≡ t.nodes →
    reach_over u table h base (alphabet_of u candidates) limit ≡ reach_over t table h base (alphabet_of t candidates) limit
same_reach table h base candidates limit t u rows nodes =
    ap (λ all. reach_over u table h base (distinct_names (codes ".." ∷ candidates ++ map (λ row. row.0.1) all)) limit) rows
    ∙ reach_needs_rows (record { tree = t; table = table; process = h; base = base; alphabet = alphabet_of t candidates; limit = limit }) u
    rows nodes

at_base : (table : CallTable) (t : Tree) (now last : ProcessState) (still rooted : Bool) → ReachesNoMore table t now last still rooted →
    (base : Base) → rooted ≡ true → (base ≡ Cwd → still ≡ true) →
    (alphabet : List (List ℕ)) (limit : ℕ) →
    SubList (reach_over t table last base alphabet limit) (reach_over t table now base alphabet limit)
at_base table t now last still rooted no_more Root top moved alphabet limit = no_more.root top alphabet limit
at_base table t now last still rooted no_more Cwd top moved alphabet limit = no_more.cwd top (moved refl) alphabet limit

pub narrowing_now : NarrowingNow
narrowing_now table sound w process now asks here confined none rows nodes member belongs =
    let one = narrowing table sound w process now asks here confined none member belongs in
    let t = w.tree in
    let u = (world_after table w asks).tree in (
      one.0,
      one.1,
      λ base top moved candidates limit.
          subst (λ pairs. SubList pairs (reach_over t table now base (alphabet_of t candidates) limit))
          (sym (same_reach table one.0 base candidates limit t u rows nodes))
          (at_base table t now one.0 _ _ (one.2.1 t) base top moved (alphabet_of t candidates) limit),
    )

pub confinement : Confinement
confinement table w process now asks here confined none alone =
    let both = families_confine table w asks process now here confined none alone in
    record {
      spares = λ needs is_tree small. both.spares needs (replays_keep_trees table w asks is_tree small);
      unchanged = both.unchanged;
    }

pub narrowing_as_read : NarrowingAsRead
narrowing_as_read choice tree_bytes script_bytes table t first asks given listed scripted process now here confined none member belongs =
    let w = world_after table (new_world t) first in
    let one = narrowing table (tables_need_no_error choice table given) w process now asks here confined none member belongs in
    (one.0, one.1, one.2.1 (world_after table w asks).tree)

-- all texts that are read are bytes: those of the tree, of the first lines, and of the others
module _ (rules : Rules) (tree_bytes script_bytes : List ℕ) (table : CallTable) (t : Tree) (first asks : List Asked)
    (listed : listing tree_bytes ≡ Ok t) (scripted : script_by rules script_bytes ≡ Ok (first ++ asks)) where
  both_in_bytes : (are_in_bytes first ≡ true) × (are_in_bytes asks ≡ true)
  both_in_bytes = and_parts (are_in_bytes first) (are_in_bytes asks)
      (sym (list_all-append (λ ask. is_in_bytes ask.action) first asks) ∙ scripts_ask_in_bytes rules script_bytes (first ++ asks) scripted)

  tree_in_bytes : IsByteTree (world_after table (new_world t) first).tree
  tree_in_bytes = replays_keep_byte_trees table (new_world t) first (listings_list_byte_trees tree_bytes t listed) both_in_bytes.0

pub confinement_as_read : ConfinementAsRead
confinement_as_read choice tree_bytes script_bytes table t first asks given listed scripted process now here confined none alone =
    let w = world_after table (new_world t) first in
    let both = confinement table w process now asks here confined none alone in (
      λ taking. both.spares taking (tree_in_bytes choice.rules tree_bytes script_bytes table t first asks listed scripted)
          (both_in_bytes choice.rules tree_bytes script_bytes table t first asks listed scripted).1,
      both.unchanged,
    )
