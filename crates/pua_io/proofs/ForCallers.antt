-- What crates above cite: what the writing of a text leaves in a sink, put by put, and which inputs are asked for.
pub use Rattle.pua_io.proofs.Putting.{counted_has_failed, writes_then, writes_front, writes_by_put}
pub use Rattle.pua_io.proofs.Asking.{asks_for_nothing, asks_then, whole_asked}
