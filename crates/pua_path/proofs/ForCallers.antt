-- What crates above cite of the proofs of this one, beside the definitions and the laws.

-- what resolution finds is of the tree
pub use Rattle.pua_path.proofs.Fitting.{resolutions_fit, founds_fit}
-- resolution may be cut before any further part
pub use Rattle.pua_path.proofs.Composition.{composes}
-- what a part names where no link was used before tells it for any number used before, and a last part that is kept follows none
pub use Rattle.pua_path.proofs.FollowLaw.{follow_decides, kept_follows_none}
-- what a name is where nothing stands or a file does, and what is found without a link where the last part is kept
pub use Rattle.pua_path.proofs.FollowLaw.{missing_follows, file_follows, found_kind, unlinked_alike}
-- the directory above a directory lives, and so does where a target starts, and the root as paths see it
pub use Rattle.pua_path.proofs.Living.{above_lives, start_lives, seen_root_lives}
-- what is true of each element is true of the one found
pub use Rattle.pua_path.proofs.Living.{find_passes, list_all-find_key}
-- a trace answers as the resolution does, says what stands in the tree, and says how the path goes
pub use Rattle.pua_path.proofs.Answering.{traces_answer, text_traces_answer}
pub use Rattle.pua_path.proofs.Holding.{traces_hold}
pub use Rattle.pua_path.proofs.Going.{traces_arrive, coming_resolves}
-- no slash among bytes, byte by byte
pub use Rattle.pua_path.proofs.Pieces.{no_slash_all}
