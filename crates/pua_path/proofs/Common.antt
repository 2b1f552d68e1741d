-- What many proofs of this crate name, from where it stands.
pub use Rattle.std.proofs.Common.{◌++◌, ◌+◌, ◌-◌, ◌<◌, ◌∙◌, ◌∷◌, ◌≡◌, ◌≤◌, [], ap, append_assoc, arith, Bool, Err, false, length, List}
pub use Rattle.std.proofs.Common.{None, Ok, Option, refl, Result, rules, Some, subst, suc, sym, take, true, zero, ℕ}
pub use Rattle.std.proofs.lemmas.Bool.{and_parts}
pub use Rattle.std.specs.Borrow.{Bor}
pub use Rattle.std.specs.List.{list_all}
pub use Rattle.std.specs.Prelude.{◌&&◌, ◌==◌, if◌then◌else◌, nat_lt, not, option_map}
pub use Rattle.pua_tree.specs.Names.{has_byte}
pub use Rattle.pua_tree.specs.Steps.{◌>>=◌}
pub use Rattle.pua_tree.specs.Tree.{above, is_dir, Node, node_at, Spot, Tree}
pub use Rattle.pua_tree.specs.declared.node.Kind.{Kind}
pub use Rattle.pua_path.specs.Paths.{is_absolute, part_of, parts_of}
pub use Rattle.pua_path.specs.Remaining.{after_slashes, has_no_part, is_readable, Remaining, rest_parts}
pub use Rattle.pua_path.specs.Resolution.{above_in, has_root, rooted, RootedTree, seen_from, starts}
pub use Rattle.pua_path.specs.Resolution.{dir_with_links, Directory, is_followed, last, Linked, most_links, Nothing, Plain, resolution}
pub use Rattle.pua_path.specs.Resolution.{resolve_parts, Resolved, slot_or, Standing, standing_at, start_of, step, walk}
pub use Rattle.pua_path.specs.Traces.{after_links, as_path_trace, at_once, PathTrace, slot_or_stop, Trace, trace_parts, walk_traced}
unfoldable pub use Rattle.pua_path.specs.Traces.{trace_from}
pub use Rattle.pua_path.specs.Walks.{way_of}
pub use Rattle.pua_path.specs.declared.errno.Errno.{Errno}
pub use Rattle.pua_path.specs.declared.errno.Errno.TheVariants.{ELOOP, ENOENT, ENOTDIR}
pub use Rattle.pua_path.specs.declared.found.Found.{Found}
pub use Rattle.pua_path.specs.declared.found.Found.TheVariants.{Slot, Whole}
pub use Rattle.pua_path.specs.declared.found.Last.{Last}
pub use Rattle.pua_path.specs.declared.found.Last.TheVariants.{Followed, Kept}
pub use Rattle.pua_path.specs.declared.found.Part.{Part}
pub use Rattle.pua_path.specs.declared.found.Start.{Start}
pub use Rattle.pua_path.specs.declared.found.Way.{Way}
pub use Rattle.pua_path.specs.declared.found.Way.TheVariants.{Dot, DotDot, Named, Top}
pub use Rattle.pua_path.specs.declared.text.Ending.{Ending}
pub use Rattle.pua_path.specs.declared.traced.Stop.{Stop}
pub use Rattle.pua_path.specs.declared.traced.Stop.TheVariants.{LinkBeyond, NoDirectory, NoEntry}
