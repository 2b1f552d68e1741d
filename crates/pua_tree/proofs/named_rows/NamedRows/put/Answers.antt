use Rattle.pua_tree.proofs.Common.{◌≡◌, ◌<◌, ◌∙◌, Some, IfSome, List, sym, ap, subst, cond, length, lookup, map}
use Rattle.pua_tree.specs.NamedRows.{HeldRows, AreNamed, key_at, spot_at, spot_entry}
use Rattle.pua_tree.specs.declared.spot.Spot.{Spot}
use Rattle.pua_tree.specs.declared.spot.RowKey.{RowKey}
use Rattle.pua_tree.specs.declared.spot.RowNode.{RowNode}
use Rattle.pua_tree.specs.contracts.spot.SpotPartialEq.TheImpl.{ghosts as spot_ghosts}
use Rattle.pua_tree.specs.contracts.spot.RowKeyPartialEq.TheImpl.{ghosts as key_ghosts}
use Rattle.std.proofs.lemmas.Option.{slice_get_within}
use Rattle.pua_tree.proofs.NamedRows.{placed, changed_by, all_put, still_named, still_spotted, kept_spot}
use Rattle.pua_tree.proofs.named_rows.NamedRows.put.Goals as goal
use Rattle.pua_tree.proofs.named_rows.NamedRows.put.Goals.{in-Ok, in-Err}

pub invariant_of-self-2 : goal.invariant_of-self-2
invariant_of-self-2 c =
    let names = c.kept_at.new.names.keys in
    let named = still_named c.self.inside.names.keys names c.kept_at.ensures.grown c.self.inside.rows.entries c.self.invariant.1 in (
      c.kept_at.ensures.unique c.self.invariant.0,
      elim c.match-insert.branch [
        | in-Ok w ↦ subst (AreNamed names) (sym w.in-Ok.ensures.entries)
            (all_put (λ (k : RowKey). k.name < length names) key_ghosts.eq c.self.inside.rows.entries
            (placed c.args.dir c.in-Some.name) c.args.row named
            (slice_get_within names c.in-Some.name c.args.name.now c.in-Some.ensures.at))
        | in-Err w ↦ subst (AreNamed names) (sym w.in-Err.ensures.err) named
      ],
    )

abbrev Changed : Spot → RowNode → List (Spot × RowNode) → List (Spot × RowNode) → Type 0
Changed at row old new = (q : Spot) → lookup (spot_ghosts.eq q) new ≡ cond (spot_ghosts.eq at q) (Some row) (lookup (spot_ghosts.eq q) old)

pub returns-clause-put : goal.returns-clause-put
returns-clause-put c =
    let names = c.kept_at.new.names.keys in
    let inside = c.self.inside.rows.entries in
    let at : Spot = key_at (c.args.dir, c.args.name.now) in
    let named = still_named c.self.inside.names.keys names c.kept_at.ensures.grown inside c.self.invariant.1 in
    let same : map (spot_entry names) inside ≡ c.args.self.now.entries =
    still_spotted c.self.inside.names.keys names c.kept_at.ensures.grown inside c.self.invariant.1
    ∙ ap (λ (rows : HeldRows). rows.entries) c.self.view_is in
    elim c.match-insert.branch [
      | in-Ok w ↦ subst (λ o. IfSome o (λ _. Changed at c.args.row c.args.self.now.entries (map (spot_entry names) c.insert.new.self.entries)))
          (sym w.result-is) (λ q.
          changed_by names (c.kept_at.ensures.unique c.self.invariant.0) at c.in-Some.name c.in-Some.ensures.at inside c.insert.new.self.entries
          named (invariant_of-self-2 c).1 (Some c.args.row) w.in-Ok.ensures.updates.0 q
          ∙ ap (λ (es : List (Spot × RowNode)). cond (spot_ghosts.eq at q) (Some c.args.row) (lookup (spot_ghosts.eq q) es)) same)
      | in-Err w ↦ subst (λ o. IfSome o (λ _. Changed at c.args.row c.args.self.now.entries (map (spot_entry names) c.insert.new.self.entries)))
          (sym w.result-is) tt
    ]

pub returns-clause-names : goal.returns-clause-names
returns-clause-names c key at there =
    kept_spot c.self.inside.names.keys c.kept_at.new.names.keys c.kept_at.ensures.grown key at
    (ap (λ (rows : HeldRows). spot_at rows.names key) c.self.view_is ∙ there)
