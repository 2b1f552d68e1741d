-- What is answered by a text of a table that is no TOML.
use Rattle.std.proofs.Common.{◌≡◌, ℕ, List, Option, Some, Result, Ok, Err, true, refl, subst, sym, ◌∙◌}
use Rattle.std.specs.Result.{is_ok}
use Rattle.pua_calls.specs.TableTexts.{table_of}
use Rattle.pua_calls.specs.declared.table.read.TableFault.TheVariants.{BadToml}
use Rattle.pua_tree.specs.declared.fault.ListingFault.{ListingFault}
use Rattle.pua_tool.specs.Answers.{Answers, IsUnanswered}
use Rattle.pua_tool.specs.Texts.{by_profile, replay_of, run_text}
use Rattle.pua_tool.specs.declared.fault.ToolFault.{ToolFault}
use Rattle.pua_tool.specs.declared.fault.ToolFault.TheVariants.{Listing, Table}
use Rattle.pua_tool.specs.declared.fault.WriteFault.{WriteFault}
use Rattle.pua_tool.specs.declared.fault.WriteFault.TheVariants.{NoText}

pub bad_table : (text tree script : List ℕ) → table_of text ≡ Err BadToml →
    run_text (by_profile (Some text)) tree script ≡ Err (Table BadToml)
unfolding replay_of
bad_table text tree script bad = rw bad refl

-- such a text is not written
pub not_served : (result : Result (Unit {0}) WriteFault) (answer : Result (List ℕ) ToolFault) (old new : Option (List ℕ)) (before after : ℕ) →
    Answers answer result old new before after → is_ok result ≡ true → answer ≡ Err (Table BadToml) → ⊥
not_served (Ok done) answer old new before after answered ok bad = let clash = sym answered.is ∙ bad in cc
not_served (Err fault) answer old new before after answered ok bad = cc

-- nor is the listing refused
pub not_listed : (answer : Result (List ℕ) ToolFault) (fault : WriteFault) (refusal : ListingFault) (old new : Option (List ℕ)) (before after : ℕ) →
    IsUnanswered answer fault old new before after → fault ≡ NoText (Listing refusal) → answer ≡ Err (Table BadToml) → ⊥
not_listed answer fault refusal old new before after unanswered is bad =
    let refused = subst (λ (fault : WriteFault). IsUnanswered answer fault old new before after) is unanswered in
    let clash = sym (refused.0 (λ memory. cc)) ∙ bad in
    cc
