-- What crates above cite of the proofs of this one, beside the definitions and the laws.

-- the bit of each call in a set of calls
pub use Rattle.pua_calls.proofs.CallBits.{bit_below, call_at_bit, bit_of_call_at, same_bit, has_none}
-- the set of the calls that pass a test, when it is made one call after another
pub use Rattle.pua_calls.proofs.CallBits.{Decides, decides_none, decides_taken, decides_left, decides_all}
-- no call needs `error` by the rules that a command names, and sets don't name it where computing tells so
pub use Rattle.pua_calls.proofs.NoError.{standard_needs_no_error, openbsd_needs_no_error, none_by_test}
-- no table of calls that a text gives needs `error`, if the one doesn't over which it is read, and rename and link need
-- what they need by that one
pub use Rattle.pua_calls.proofs.SoundTexts.{texts_need_no_error, texts_keep_pairs}
-- the table by which lists for ever go has these rules, and doesn't need `error` if the one doesn't of which it is
pub use Rattle.pua_calls.proofs.TmpTable.{tmp_rule_is, tmp_table_needs_no_error}
-- three sets of bits may be joined in either order
pub use Rattle.pua_calls.proofs.Sets.{or_assoc}
