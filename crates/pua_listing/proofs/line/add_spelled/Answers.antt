use Rattle.pua_listing.proofs.ListingLines.{are_bytes}
use Rattle.pua_listing.proofs.line.add_spelled.Goals as goal

pub returns-in_err-push-clause-bytes : goal.returns-in_err-push-clause-bytes
returns-in_err-push-clause-bytes c = are_bytes c.args.bytes.now c.type_inv.bytes

pub returns-in_err-extend_from_slice-clause-bytes : goal.returns-in_err-extend_from_slice-clause-bytes
returns-in_err-extend_from_slice-clause-bytes c = are_bytes c.args.bytes.now c.type_inv.bytes

pub returns-clause-bytes : goal.returns-clause-bytes
returns-clause-bytes c = are_bytes c.args.bytes.now c.type_inv.bytes
