-- What crates above cite of the proofs of this one, beside the definitions and the laws.

-- what no line has is not allowed on a path on which what is allowed has its line
pub use Rattle.pua_how.proofs.Coming.{unforeseen_by}
-- what is asked about, by whichever number above all that lives, and what stands in a list for ever
pub use Rattle.pua_how.proofs.Given.{all_given, any_listed, listed_alike}
pub use Rattle.pua_how.proofs.Lived.{shown_lives}
-- without a plan none comes
pub use Rattle.pua_how.proofs.Unlaid.{nothing_comes}
-- the names of a line lead to what it is about, and what they mean by its kind is that alone
pub use Rattle.pua_how.proofs.NamesLeadToThing.{IsDirBy, IsPlaced, shown_placed, spot_by, spot_in}
pub use Rattle.pua_how.proofs.Means.{by_its_word, meant, node_kind}
