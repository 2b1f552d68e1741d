-- What was told of a command that was not done, and how it ended.
use Rattle.pua_tool.proofs.Common.{ℕ, ◌≡◌, ◌≢◌, ◌++◌, [], List, arith, refl, sym, subst, Option, ToolFault, OutOfMemory, Tool}
use Rattle.std.proofs.Common.{◌≤◌, ◌⊎◌, Bool, true, false, cond, Vec, Global, inl, inr, append-nil}
use Rattle.pua_io.specs.Held.{Held, Holds}
use Rattle.pua_words.specs.declared.command.Command.{Command}
use Rattle.pua_tool.specs.declared.outcome.CommandFault.{CommandFault}
use Rattle.pua_tool.specs.declared.outcome.CommandFault.TheVariants.{Usage, Unreadable, Put}
use Rattle.pua_tool.specs.declared.status.TheConstants.{DONE, REFUSED, USAGE, DEVICE, MEMORY}
use Rattle.pua_tool.specs.Statuses.{fault_status}
use Rattle.pua_tool.specs.FaultTexts.{fault_line}
use Rattle.pua_tool.specs.Told.{IsFaultTold, IsLineTold, TellsStatus, fault_text}
use Rattle.pua_tool.specs.Performed.{IsCutShort, IsFaultOf, IsRefused, IsStopped, IsUntaken, Lacks, LacksInput}
use Rattle.pua_tool.specs.Advised.{HasTold, IsToldOf, fault_said, has_advice}
use Rattle.pua_tool.specs.Ended.{IsEndOf, IsEndedAs, IsInPlaceOf}
use Rattle.pua_tool.specs.declared.advised.Halt.TheVariants.{Untaken, Unwritten}
use Rattle.pua_tool.specs.declared.advised.Halt.TheVariants as halt

-- the writing of a fault's line
as_line : (fault : CommandFault) (old new : Option (List ℕ)) (before after : ℕ) → IsFaultTold fault old new before after →
    IsLineTold (fault_text fault) old new before after
as_line (Usage line) old new before after told = told
as_line (Unreadable name) old new before after told = told
as_line (Tool fault) old new before after told = told
as_line Put old new before after told = told

module _ (held : Held) (command : Command) where
  lacks_input : (name : List ℕ) → Lacks held command name → LacksInput held command
  lacks_input name (inl (same, nothing)) = inl nothing
  lacks_input name (inr (inl (same, script))) = inr (inl script)
  lacks_input name (inr (inr table)) = inr (inr (name, table))

  module _ (old new : Option (List ℕ)) (before after : ℕ) where
    -- what a status says of a command that was stopped
    pub record Stopping (status : ℕ) : Type 0 where
      pub undone : status ≢ DONE
      pub words : status ≢ USAGE
      pub within : status ≤ MEMORY
      pub refused : status ≡ REFUSED → IsRefused held command
      pub device : status ≡ DEVICE → (LacksInput held command × (new ≡ old)) ⊎ IsCutShort held command old new before after
      pub unwritten : status ≢ DEVICE → new ≡ old

    abbrev Stops : CommandFault → Type 0
    Stops fault = IsStopped held command fault old new before after

    stopping_by : (fault : CommandFault) → Stops fault → Stopping (fault_status fault)
    stopping_by (Usage line) is = absurd is
    stopping_by (Unreadable name) is = record {
      undone = λ e. let f : 3 ≡ 0 = e in omega (arith, f);
      words = λ e. let f : 3 ≡ 2 = e in omega (arith, f);
      within = omega arith;
      refused = λ e. let f : 3 ≡ 1 = e in absurd (omega (arith, f));
      device = λ e. inl (lacks_input name.now is.0, is.1);
      unwritten = λ other. is.1;
    }
    stopping_by Put is = record {
      undone = λ e. let f : 3 ≡ 0 = e in omega (arith, f);
      words = λ e. let f : 3 ≡ 2 = e in omega (arith, f);
      within = omega arith;
      refused = λ e. let f : 3 ≡ 1 = e in absurd (omega (arith, f));
      device = λ e. inr is;
      unwritten = λ other. absurd (other refl);
    }
    stopping_by (Tool OutOfMemory) is = record {
      undone = λ e. let f : 4 ≡ 0 = e in omega (arith, f);
      words = λ e. let f : 4 ≡ 2 = e in omega (arith, f);
      within = omega arith;
      refused = λ e. let f : 4 ≡ 1 = e in absurd (omega (arith, f));
      device = λ e. let f : 4 ≡ 3 = e in absurd (omega (arith, f));
      unwritten = λ other. is.1;
    }
    stopping_by (Tool fault) is = record {
      undone = λ e. let f : 1 ≡ 0 = e in omega (arith, f);
      words = λ e. let f : 1 ≡ 2 = e in omega (arith, f);
      within = omega arith;
      refused = λ e. record { fault = fault; asks = is.0; status = refl };
      device = λ e. let f : 1 ≡ 3 = e in absurd (omega (arith, f));
      unwritten = λ other. is.1;
    }

    pub stopping : (fault : CommandFault) (status : ℕ) → fault_status fault ≡ status → Stops fault → Stopping status
    stopping fault status e is = subst Stopping e (stopping_by fault is)

    -- an input that was not taken, and a fault in whose place another is told
    pub untaken_stops : (fault : CommandFault) → IsUntaken held command fault → new ≡ old → Stops fault
    untaken_stops (Usage line) untaken same = absurd untaken
    untaken_stops (Unreadable name) untaken same = (untaken, same)
    untaken_stops (Tool fault) untaken same = (subst (IsFaultOf held command) (sym untaken) tt, same)
    untaken_stops Put untaken same = absurd untaken

    pub place_stops : (told fault : ToolFault) → Stops (Tool fault) → IsInPlaceOf told fault → Stops (Tool told)
    place_stops told fault is (inl e) = (subst (IsFaultOf held command) (sym e) is.0, is.1)
    place_stops told fault is (inr (e, blamed)) = (subst (IsFaultOf held command) (sym e) tt, is.1)

    pub ended_stops : (fault : ToolFault) (script : List ℕ) (status : ℕ) (a b : Option (List ℕ)) (n m : ℕ) → Stops (Tool fault) →
        IsEndedAs command script fault status a b n m → Stopping status
    ended_stops fault script status a b n m is ended =
        subst Stopping (sym ended.1) (stopping_by (Tool ended.0) (place_stops ended.0 fault is ended.2))

  module _ (old new : Option (List ℕ)) (before after : ℕ) where
    -- a fault behind whose line nothing is said
    nothing_behind : (text : List ℕ) → IsLineTold text old new before after → IsLineTold (text ++ []) old new before after
    nothing_behind text told = subst (λ t. IsLineTold t old new before after) (sym (append-nil text)) told

    silent : (script : List ℕ) → [] ≡ fault_said command script OutOfMemory
    silent script = by (has_advice command.rules)
      where
        by : (b : Bool) → ◌≡◌ {A = List ℕ} [] (cond b [] [])
        by true = refl
        by false = refl

    pub untaken_told : (fault : CommandFault) → IsUntaken held command fault → IsFaultTold fault old new before after →
        IsToldOf held command fault old new before after
    untaken_told (Usage line) untaken told = absurd untaken
    untaken_told (Unreadable name) untaken told = ([], refl, nothing_behind (fault_text (Unreadable name)) told)
    untaken_told (Tool fault) untaken told =
        ([], ([], (λ f e. cc), subst (λ f. [] ≡ fault_said command [] f) (sym untaken) (silent [])), nothing_behind (fault_line fault) told)
    untaken_told Put untaken told = absurd untaken

    -- a text that was not written
    pub ended_told : (fault : ToolFault) (script : List ℕ) (status : ℕ) → Holds held command.script.now script →
        IsEndedAs command script fault status old new before after
        → (told : ToolFault) × (fault_status (Tool told) ≡ status) × IsInPlaceOf told fault × IsToldOf held command (Tool told) old new before after
    ended_told fault script status holds ended =
        (ended.0, sym ended.1, ended.2, (fault_said command script ended.0, (script, (λ f e. holds), refl), ended.3))

-- what was told of words that are no command's, or after a command
pub plainly_told : (words : List (List ℕ)) (held : Held) (status : ℕ) (old new : Option (List ℕ)) (before after : ℕ) →
    TellsStatus status old new before after → HasTold words held status old new before after
plainly_told words held status old new before after told =
    (told.0, told.1, inr (told.2, as_line told.0 old new before after told.3))

module _ (command : Command) (status : ℕ) (a b : Option (List ℕ)) (n m : ℕ) where
  pub untaken_end : (fault : CommandFault) → status ≡ fault_status fault → IsFaultTold fault a b n m →
      IsEndOf command (Untaken fault) status a b n m
  untaken_end fault is told = λ held old new before after halted. (
    fault,
    sym is,
    untaken_stops held command old new before after fault halted.0 halted.1,
    untaken_told held command a b n m fault halted.0 told,
  )

  pub put_end : status ≡ fault_status Put → IsFaultTold Put a b n m → IsEndOf command halt.Put status a b n m
  put_end is told = λ held old new before after halted. (Put, sym is, halted, ([], refl, nothing_behind held command a b n m (fault_text Put) told))

  pub unwritten_end : (fault : ToolFault) (script : Vec ℕ Global) → IsEndedAs command script.items fault status a b n m →
      IsEndOf command (Unwritten fault script) status a b n m
  unwritten_end fault script ended = λ held old new before after halted.
      let told = ended_told held command a b n m fault script.items status halted.0 ended in (
        Tool told.0,
        told.1,
        place_stops held command old new before after told.0 fault halted.1 told.2,
        told.3,
      )
