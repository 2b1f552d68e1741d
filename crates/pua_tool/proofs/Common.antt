-- What many proofs of this crate name, from where it stands.
pub use Rattle.std.proofs.Common.{◌++◌, ◌∙◌, ◌∷◌, ◌≡◌, ◌≢◌, [], ap, arith, Err, List, map, Ok, refl, rules, subst, sym, ℕ}
pub use Rattle.std.proofs.lemmas.Result.{err_from_is_err_and}
pub use Rattle.std.specs.Prelude.{flat_map, None, Option, Result, Some}
pub use Rattle.pua_calls.specs.Calls.{CallTable}
pub use Rattle.pua_io.specs.Sinks.{Adds, AddsFront}
pub use Rattle.pua_policy.specs.States.{ProcessState}
pub use Rattle.pua_script.specs.Replay.{answers_to, kept_at, lines_told, new_world, World, world_after}
pub use Rattle.pua_script.specs.Requests.{Asked}
pub use Rattle.pua_script.specs.Scripts.{script_by}
pub use Rattle.pua_script.specs.Worlds.{world_of}
pub use Rattle.pua_texts.proofs.ForCallers.{if_err, if_ok}
pub use Rattle.pua_texts.specs.Lines.{answer_lines, with_end}
pub use Rattle.pua_texts.specs.Tells.{Tells}
pub use Rattle.pua_tree.specs.Listing.{listing}
pub use Rattle.pua_tree.specs.Steps.{◌>>=◌}
pub use Rattle.pua_tree.specs.Tree.{Tree}
pub use Rattle.pua_why.specs.Openings.{told_to}
pub use Rattle.pua_why.specs.Seen.{line_seen}
pub use Rattle.pua_tool.specs.Answers.{Answers, AnswersTo}
pub use Rattle.pua_tool.specs.Begun.{as_replayed}
pub use Rattle.pua_tool.specs.EverTexts.{unless_reason}
pub use Rattle.pua_tool.specs.Texts.{as_audit, as_listing, as_script, choice_of, Chosen, Replayed, table_by}
unfoldable pub use Rattle.pua_tool.specs.Texts.{replay_of}
pub use Rattle.pua_tool.specs.declared.fault.ToolFault.{ToolFault}
pub use Rattle.pua_tool.specs.declared.fault.ToolFault.TheVariants.{OutOfMemory}
pub use Rattle.pua_tool.specs.declared.fault.WriteFault.TheVariants.{NoText}
pub use Rattle.pua_tool.specs.declared.outcome.CommandFault.TheVariants.{Tool}
