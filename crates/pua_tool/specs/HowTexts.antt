-- The text of a way, and what refuses it. Which plans are laid is in no contract, and so which way is found: what is, is that it is
-- one, that `no way found` is said where none of the plans comes to one, and when none is laid.
use Rattle.std.specs.Prelude.{◌≡◌, ℕ, Bool, true, false, ◌&&◌, not, List, [], ◌∷◌, map, flat_map, Option, Some, None, Result, Ok, Err, ok_or, codes}
use Rattle.std.specs.List.{Contains, list_any}
use Rattle.pua_tree.specs.Steps.{◌>>=◌}
use Rattle.pua_tree.specs.Tree.{Tree, kind_at}
use Rattle.pua_path.specs.Fits.{is_link_kind}
use Rattle.pua_calls.specs.Calls.{call_in}
use Rattle.pua_calls.specs.TmpTable.{tmp_table}
use Rattle.pua_calls.specs.CallSets.{keeps_link}
use Rattle.pua_calls.specs.declared.call.Call.{Call}
use Rattle.pua_calls.specs.declared.rules.Rules.{Rules}
use Rattle.pua_policy.specs.States.{ProcessState}
use Rattle.pua_script.specs.Requests.{Asked}
use Rattle.pua_script.specs.Replay.{kept_at}
use Rattle.pua_script.specs.Scripts.{request_by}
use Rattle.pua_objects.specs.declared.kind.ObjectKind.{ObjectKind}
use Rattle.pua_ever.specs.Refusals.{refusal}
use Rattle.pua_ever.specs.ShownForEver.{shown_lasting, execs_shown}
use Rattle.pua_ever.specs.declared.lasting_list.ExecBound.{ExecBound}
use Rattle.pua_ever.specs.declared.lasting_list.ExecBound.TheVariants.{Open}
use Rattle.pua_ever.specs.declared.refusal.EverRefusal.{EverRefusal}
use Rattle.pua_how.specs.PathQuestion.{path_question, targets_of}
use Rattle.pua_how.specs.Targets.{IsLast, is_listed}
use Rattle.pua_how.specs.Steps.{NoneComes}
use Rattle.pua_how.specs.Ways.{IsWay}
use Rattle.pua_how.specs.declared.target.Target.{Target}
use Rattle.pua_how.specs.declared.target.Target.TheVariants.{Node, NewLink}
use Rattle.pua_how.specs.declared.way.NoWay.{NoWay}
use Rattle.pua_texts.specs.Lines.{with_end}
use Rattle.pua_tool.specs.EverTexts.{ever_fault}
use Rattle.pua_tool.specs.Texts.{Chosen, Replayed, replay_of}
use Rattle.pua_tool.specs.declared.fault.ToolFault.{ToolFault}
use Rattle.pua_tool.specs.declared.fault.ToolFault.TheVariants.{NoProcess, HowCall, HowPath, HowThing, HowLink}
use Rattle.pua_words.specs.declared.command.HowWords.{HowWords}

-- what a way is asked for: of which process, by which call, to what, and of which kind that is
pub record HowWanted : Type 0 where
  pub process : ℕ
  pub call : List ℕ
  pub path : List ℕ
  pub kind : Option ObjectKind

abbrev pub way_wanted : HowWords → HowWanted
way_wanted words = record { process = words.process; call = words.call.now; path = words.path.now; kind = words.kind }

-- what is asked about behind a script: what the process keeps, the call, and all that may be meant
pub record HowQuestion : Type 0 where
  pub process : ProcessState
  pub call : Call
  pub things : List Target

-- that there is a list for ever, or the reason against it
abbrev pub unless_refused : ℕ → Option EverRefusal → Result (Unit {0}) ToolFault
unless_refused process None = Ok tt
unless_refused process (Some reason) = Err (ever_fault process reason)

-- all that may be meant, if something is
abbrev pub some_thing : List Target → Result (List Target) ToolFault
some_thing [] = Err HowThing
some_thing (thing ∷ more) = Ok (thing ∷ more)

-- all that may be meant in a tree, by the last number of the nodes that live there, or a fault: a path that no list prints, or one by
-- which nothing is meant
abbrev pub things_asked : Tree → ProcessState → HowWanted → ℕ → Result (List Target) ToolFault
things_asked t h wanted last =
    ok_or (path_question wanted.path) HowPath >>= λ asking. some_thing (targets_of t h last asking wanted.kind)

-- a link is meant: one that stands there, whatever else its name may mean, or only such as can be made
abbrev pub is_link_meant : Tree → List Target → Bool
is_link_meant t (Node node ∷ more) = is_link_kind (kind_at t node)
is_link_meant t (NewLink last ∷ more) = true
is_link_meant t _ = false

-- a link is meant, and the call is on what a link leads to, never on the link
abbrev pub follows_link : Tree → Call → List Target → Bool
follows_link t call things = not (keeps_link call) && is_link_meant t things

-- that the call is on what is meant, and not on what a link leads to
abbrev pub unless_followed : Call → Bool → Result (Unit {0}) ToolFault
unless_followed call true = Err (HowLink call)
unless_followed call false = Ok tt

-- the question behind a script, or the first fault: a process never made, a reason against its list for ever, a call that the
-- table doesn't have, that of the path, or a link that the call follows
abbrev pub question_of : Replayed → HowWanted → ℕ → Result HowQuestion ToolFault
question_of done wanted last = do
  h ← ok_or (kept_at done.world wanted.process) NoProcess
  unrefused ← unless_refused wanted.process (refusal done.table h)
  call ← ok_or (call_in done.table wanted.call) HowCall
  things ← things_asked done.world.tree h wanted last
  unfollowed ← unless_followed call (follows_link done.world.tree call things)
  Ok (record { process = h; call = call; things = things })

-- whether a line of the list for ever about it has the call, by the table with `tmppath`
abbrev pub may_come : Replayed → HowQuestion → Bool
may_come done q = list_any (λ thing. is_listed (shown_lasting done.world.tree (tmp_table done.table) q.process) thing q.call) q.things

-- what is said where there is no way: none is looked for where no line has the call, which may change once a program is started
abbrev pub told_without : Bool → ExecBound → List ℕ
told_without true execs = codes "no way found"
told_without false Open = codes "never before an exec"
told_without false _ = codes "never"

-- the lines of a way, or what is said without one
abbrev pub way_text : Replayed → HowQuestion → Option (List (List ℕ)) → List ℕ
way_text done q (Some lines) = flat_map with_end lines
way_text done q None = with_end (told_without (may_come done q) (execs_shown done.world.tree (tmp_table done.table) q.process))

-- lines of a script that is read by rules, which are a way to the call on something that is meant, and this is the last number of
-- the nodes that live
pub record IsWayTo (rules : Rules) (done : Replayed) (process last : ℕ) (q : HowQuestion) (lines : List (List ℕ)) : Type 0 where
  pub above : IsLast done.world.tree last
  pub thing : Target
  pub meant : Contains q.things thing
  pub asks : List Asked
  pub read : map (request_by rules 1) lines ≡ map Ok asks
  pub way : IsWay done.table done.world process q.call thing asks

-- so is what was found, if something was; where a line has the call and nothing was, there are plans of which none comes to it. Which
-- were laid no definition says: that these are the ones that were served is in the contract of the function that serves them
abbrev pub IsFoundFor : Rules → Replayed → ℕ → ℕ → HowQuestion → Option (List (List ℕ)) → Type 0
IsFoundFor rules done process last q None =
    may_come done q ≡ true → (none : NoWay) × NoneComes rules done.table process q.call q.things done.world none
IsFoundFor rules done process last q (Some lines) = IsWayTo rules done process last q lines

-- a text of a way behind a script: the lines of some way to what is asked about, or what is said without one; or the first fault
pub record IsHowAsked (rules : Rules) (done : Replayed) (wanted : HowWanted) (answer : Result (List ℕ) ToolFault) : Type 0 where
  pub last : ℕ
  pub found : Option (List (List ℕ))
  pub sound : (q : HowQuestion) → question_of done wanted last ≡ Ok q → IsFoundFor rules done wanted.process last q found
  pub is : answer ≡ (question_of done wanted last >>= λ q. Ok (way_text done q found))

-- the same of a script over a listing, by the table that is chosen, or the first fault: the table's, the listing's, or the script's
abbrev pub IsHowAfter : Rules → Result Replayed ToolFault → HowWanted → Result (List ℕ) ToolFault → Type 0
IsHowAfter rules (Ok done) wanted answer = IsHowAsked rules done wanted answer
IsHowAfter rules (Err fault) wanted answer = answer ≡ Err fault

unfoldable pub IsHowText : Chosen → List ℕ → List ℕ → HowWanted → Result (List ℕ) ToolFault → Type 0
IsHowText choice tree_bytes script_bytes wanted answer =
    IsHowAfter choice.rules (replay_of choice tree_bytes script_bytes) wanted answer
