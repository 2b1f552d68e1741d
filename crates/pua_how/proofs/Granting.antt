-- Lines of a way that were granted, one line more, and the last one.
use Rattle.std.proofs.Common.{◌≡◌, ℕ, Bool, true, false, List, [], ◌∷◌, ◌++◌, refl, sym, ap, subst, ◌∙◌, Option, Some, None}
use Rattle.std.specs.List.{AllByRecursion}
use Rattle.std.specs.Prelude.{◌==◌, ◌&&◌, Result, Ok, Err}
use Rattle.std.proofs.lemmas.Bool.{and_parts, false≢true}
use Rattle.std.proofs.lemmas.List.{map-append}
use Rattle.pua_tree.specs.Tree.{Tree}
use Rattle.pua_path.specs.declared.errno.Errno.{Errno}
use Rattle.pua_path.specs.declared.found.Found.{Found}
use Rattle.pua_calls.specs.Calls.{CallTable, call_number}
use Rattle.pua_calls.specs.TmpTable.{tmp_table}
use Rattle.pua_calls.specs.declared.call.Call.{Call}
use Rattle.pua_calls.specs.declared.rules.Rules.{Rules}
use Rattle.pua_policy.specs.States.{ProcessState}
use Rattle.pua_policy.specs.Verdict.{is_allowed, object_named, verdict}
use Rattle.pua_policy.specs.declared.answer.Verdict.{Verdict}
use Rattle.pua_policy.specs.declared.answer.Verdict.TheVariants as verdicts
use Rattle.pua_script.specs.Requests.{Asked}
use Rattle.pua_script.specs.Replay.{World, apply, answers_to, kept_at, world_after}
use Rattle.pua_script.specs.Family.{is_exec}
use Rattle.pua_script.specs.Worlds.{WorldState, apply_to, state_after_all, with_world, world_of}
use Rattle.pua_script.specs.declared.answer.Answer.TheVariants.{Okay}
use Rattle.pua_script.specs.declared.answer.Answer.{Answer}
use Rattle.pua_script.proofs.ForCallers.{one_request_more}
use Rattle.pua_audit.proofs.ForCallers.{all_joined, all_mapped}
use Rattle.pua_how.specs.Targets.{is_of}
use Rattle.pua_how.specs.Ways.{Reaches, call_of}
use Rattle.pua_how.specs.Served.{IsLine, AreGranted, IsCall, AreWay, asks_of}
use Rattle.pua_how.specs.Steps.{is_some_by, is_the_call, names_asked, reaches}
use Rattle.pua_how.specs.declared.line.WayLine.{WayLine}
use Rattle.pua_how.specs.declared.target.Target.{Target}
use Rattle.pua_how.proofs.Outlooking.{same_number}

-- the answers and the world behind one request more
told_more : (table : CallTable) (w : World) (asks : List Asked) (ask : Asked) →
    AllByRecursion (λ answer. answer ≡ Okay) (answers_to table w asks) → (apply table (world_after table w asks) ask).0 ≡ Okay →
    AllByRecursion (λ answer. answer ≡ Okay) (answers_to table w (asks ++ ask ∷ []))
told_more table w [] ask all is = (is, tt)
told_more table w (other ∷ asks) ask all is = (all.0, told_more table (apply table w other).1 asks ask all.1 is)

asks_more : (lines : List WayLine) (line : WayLine) → asks_of (lines ++ line ∷ []) ≡ asks_of lines ++ line.request ∷ []
asks_more lines line = map-append (λ one. one.request) lines (line ∷ [])

module _ (rules : Rules) (before mid after : WorldState) (process : ℕ) (lines : List WayLine) (line : WayLine)
    (so_far : AreGranted rules before process lines mid) (is : IsLine rules process line)
    (answer : Answer) (okay : answer ≡ Okay) (served : ◌≡◌ {A = Answer × WorldState} (answer, after) (apply_to mid line.request)) where
  abbrev asks : List Asked
  asks = asks_of lines

  -- the world in which the line was served is the one that the lines before it left
  behind : ◌≡◌ {A = Answer × WorldState} (answer, after) (apply_to (state_after_all before asks) line.request)
  behind = served ∙ ap (λ s. apply_to s line.request) so_far.left

  told_all : AllByRecursion (λ answer. answer ≡ Okay) (answers_to before.table (world_of before) (asks_of (lines ++ line ∷ [])))
  told_all =
      subst (λ asks. AllByRecursion (λ answer. answer ≡ Okay) (answers_to before.table (world_of before) asks)) (sym (asks_more lines line))
      (told_more before.table (world_of before) asks line.request so_far.told
      (sym (ap (λ (done : Answer × WorldState). done.0) behind) ∙ okay))

  are_more : AllByRecursion (IsLine rules process) (lines ++ line ∷ [])
  are_more = all_joined (IsLine rules process) lines (line ∷ []) so_far.are (is, tt)

  pub one_more : is_exec line.request.action ≡ false → AreGranted rules before process (lines ++ line ∷ []) after
  one_more quiet = record {
    are = are_more;
    quiet = all_joined (λ one. is_exec one.request.action ≡ false) lines (line ∷ []) so_far.quiet (quiet, tt);
    told = told_all;
    left = ap (λ (done : Answer × WorldState). done.1) behind
        ∙ sym (ap (state_after_all before) (asks_more lines line)
        ∙ ap (with_world before) (one_request_more before.table (world_of before) asks line.request));
  }

  pub last_one : (call : Call) (target : Target) → IsCall mid process call target line.request →
      AreWay rules before process call target (lines ++ line ∷ [])
  last_one call target asked = record {
    are = are_more;
    way = record {
      first = asks;
      last = line.request;
      parts = asks_more lines line;
      own = all_mapped (IsLine rules process) (λ ask. ask.process ≡ process) (λ one. one.request) (λ one is. is.own) (lines ++ line ∷ []) are_more;
      granted = told_all;
      quiet = all_mapped (λ one. is_exec one.request.action ≡ false) (λ ask. is_exec ask.action ≡ false) (λ one. one.request) (λ one is. is)
          lines so_far.quiet;
      text = asked.text;
      called = asked.called;
      reaches = subst (λ s. Reaches s.table (world_of s) process call target asked.text) so_far.left asked.reaches;
    };
  }

-- what was found passes the test, where it is what is asked about, and the call is allowed on it
pub asked_if : (table : CallTable) (t : Tree) (h : ProcessState) (call : Call) (target : Target) (named : Result Found Errno) (object : Found)
    (allowed : Bool) → named ≡ Ok object → is_of t h target object ≡ true → allowed ≡ is_allowed (verdict t (tmp_table table) h call object) →
    allowed ≡ names_asked table t h call target named
asked_if table t h call target named object allowed found of is =
    is
    ∙ ap (λ b. b && is_allowed (verdict t (tmp_table table) h call object)) (sym of)
    ∙ ap (names_asked table t h call target) (sym found)

-- a request that passes the test is the call
module _ (s : WorldState) (process : ℕ) (call : Call) (target : Target) where
  allowed_is : (v : Verdict) → is_allowed v ≡ true → v ≡ verdicts.Allowed
  allowed_is verdicts.Allowed e = refl
  allowed_is (verdicts.Failed errno) e = absurd (false≢true e)
  allowed_is verdicts.Death e = absurd (false≢true e)

  named_by : (text : List ℕ) (h : ProcessState) → kept_at (world_of s) process ≡ Some h → (named : Result Found Errno) →
      object_named s.tree h call text ≡ named → names_asked s.table s.tree h call target named ≡ true →
      Reaches s.table (world_of s) process call target text
  named_by text h kept (Ok object) named e =
      let parts = and_parts (is_of s.tree h target object) (is_allowed (verdict s.tree (tmp_table s.table) h call object)) e in record {
        now = h;
        kept = kept;
        object = object;
        named = named;
        asked = parts.0;
        allowed = allowed_is (verdict s.tree (tmp_table s.table) h call object) parts.1;
      }
  named_by text h kept (Err errno) named e = absurd (false≢true e)

  pub reached_at : (text : List ℕ) (h : ProcessState) → kept_at (world_of s) process ≡ Some h →
      names_asked s.table s.tree h call target (object_named s.tree h call text) ≡ reaches s.table process call target (world_of s) text
  reached_at text h kept = ap (is_some_by (λ h. names_asked s.table s.tree h call target (object_named s.tree h call text))) (sym kept)

  reached_by : (text : List ℕ) → reaches s.table process call target (world_of s) text ≡ true →
      Reaches s.table (world_of s) process call target text
  reached_by text e = by (kept_at (world_of s) process) refl e
    where
      by : (o : Option ProcessState) → kept_at (world_of s) process ≡ o →
          is_some_by (λ h. names_asked s.table s.tree h call target (object_named s.tree h call text)) o ≡ true →
          Reaches s.table (world_of s) process call target text
      by None is e = absurd (false≢true e)
      by (Some h) is e = named_by text h is (object_named s.tree h call text) refl e

  pub asked_by : (ask : Asked) → is_the_call s.table process call target (world_of s) ask.action ≡ true → IsCall s process call target ask
  asked_by ask e = by (call_of ask.action) refl e
    where
      by : (o : Option (Call × List ℕ)) → call_of ask.action ≡ o →
          is_some_by (λ two. (call_number two.0 == call_number call) && reaches s.table process call target (world_of s) two.1) o ≡ true →
          IsCall s process call target ask
      by None is e = absurd (false≢true e)
      by (Some two) is e =
          let parts = and_parts (call_number two.0 == call_number call) (reaches s.table process call target (world_of s) two.1) e in
          record {
            text = two.1;
            called = is ∙ ap (λ (other : Call). Some (other, two.1)) (same_number call two.0 parts.0);
            reaches = reached_by two.1 parts.1;
          }
