-- What is told of the fault of a listing.
use Rattle.std.specs.Prelude.{ℕ, List, Option, Some, None, codes}
use Rattle.pua_tree.specs.declared.fault.ListingFault.{ListingFault}
use Rattle.pua_tree.specs.declared.fault.ListingFault.TheVariants.{BadHeader, BadLine, BadNumber, BadParent, BadName, BadTarget, Taken, TooMany, OutOfMemory, BadNode}

-- the number of the line that is to blame, if one is, and what is wrong
abbrev pub listing_told : ListingFault → Option ℕ × List ℕ
listing_told BadHeader = (None, codes "bad header")
listing_told (BadLine line) = (Some line, codes "bad line")
listing_told (BadNumber line) = (Some line, codes "bad number")
listing_told (BadParent line) = (Some line, codes "bad parent")
listing_told (BadName line) = (Some line, codes "bad name")
listing_told (BadTarget line) = (Some line, codes "bad target")
listing_told (Taken line) = (Some line, codes "name taken")
listing_told (TooMany line) = (Some line, codes "too many nodes")
listing_told OutOfMemory = (None, codes "out of memory")
listing_told (BadNode line) = (Some line, codes "bad node")
