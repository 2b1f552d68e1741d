-- What many proofs of this crate name, from where it stands.
pub use Rattle.std.proofs.Common.{◌*◌, ◌<◌, ◌^◌, ◌∙◌, ◌∷◌, ◌≡◌, ◌≤◌, [], ap, arith, Bool, drop, false, get_or, length, List, map, refl}
pub use Rattle.std.proofs.Common.{rules, subst, suc, sym, tests, true, zero, ℕ}
pub use Rattle.std.proofs.lemmas.Iterator.{YieldsList-from_slice}
pub use Rattle.std.proofs.lemmas.Nat.{or_lt}
pub use Rattle.std.specs.Int.{bit_at}
pub use Rattle.std.specs.List.{slice_split}
pub use Rattle.std.specs.Prelude.{◌==◌, bit_or, Err, None, Ok, Option, Result, Some}
pub use Rattle.toml.specs.View.{items_view}
pub use Rattle.pua_tree.specs.Names.{same_bytes}
pub use Rattle.pua_calls.specs.Calls.{calls, CallTable, Rule}
pub use Rattle.pua_calls.specs.Promises.{holds, promise_of, union_of}
pub use Rattle.pua_calls.specs.TableTexts.{rules_with}
pub use Rattle.pua_calls.specs.declared.call.Call.{Call}
pub use Rattle.pua_calls.specs.declared.call.Call.TheVariants.{Stat}
