-- What crates above cite of the proofs of this one, beside the definitions and the laws.

-- what a tightened script is
pub use Rattle.pua_tight.proofs.Tightened.{tightens}
pub use Rattle.pua_tight.proofs.Minimal.{tight_is_minimal}
pub use Rattle.pua_tight.proofs.Least.{tight_is_least}
pub use Rattle.pua_tight.proofs.Rules.{rules_rest}
-- what may be left out of a script's requests, and what its bytes are read as
pub use Rattle.pua_tight.proofs.MayBeLeftOut.{scripts_are_tightened}
pub use Rattle.pua_tight.proofs.TextOfFewer.{tight_texts_are_read}
-- what a world has of the one that it lies within, of each process and of each future
pub use Rattle.pua_tight.proofs.Worlds.{FoundWithin, never, made, found_within, allows_no_more, futures_within}
pub use Rattle.pua_tight.proofs.Listed.{lists_no_more}
pub use Rattle.pua_tight.proofs.ForEver.{lists_no_more_for_ever}
pub use Rattle.pua_tight.proofs.Lasting.{lasts_no_more}
pub use Rattle.pua_tight.proofs.ShowsNoMore.{shows_alike, shows_no_more}
-- and of any processes, all of them together
pub use Rattle.pua_tight.proofs.ActsNoMore.{worlds_come_to_no_more}
