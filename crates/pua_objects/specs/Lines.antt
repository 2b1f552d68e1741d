-- A line of the code, beside the definition's.
use Rattle.std.specs.Prelude.{◌≡◌, List, ℕ, ◌&&◌, codes, filter, map}
use Rattle.pua_tree.specs.Kinds.{about_kind}
use Rattle.pua_tree.specs.Tree.{Tree}
use Rattle.pua_tree.specs.declared.node.Kind.TheVariants.{Dir}
use Rattle.pua_calls.specs.Calls.{CallTable}
use Rattle.pua_calls.specs.CallSets.{has}
use Rattle.pua_policy.specs.States.{ProcessState}
use Rattle.pua_policy.specs.Objects.{object_seen}
use Rattle.pua_policy.specs.Verdict.{covered_verdict, is_allowed}
use Rattle.pua_policy.specs.Verdict.{Object as Judged}
use Rattle.pua_policy.specs.declared.answer.Cover.{Cover}
use Rattle.pua_calls.specs.declared.call.Call.{Call}
use Rattle.pua_policy.specs.declared.object.Object as seen
use Rattle.pua_policy.specs.declared.object.Object.TheVariants as see
use Rattle.pua_objects.specs.Objects.{Subject, Item, Line, line_of, has_calls, subject_word, subject_verdict, is_named_by}
use Rattle.pua_objects.specs.declared.kind.ObjectKind.{ObjectKind}
use Rattle.pua_objects.specs.declared.kind.ObjectKind.TheVariants as kind
use Rattle.pua_objects.specs.declared.line.ObjectLine.{ObjectLine}
use Rattle.pua_objects.specs.Roots.{shows}
use Rattle.pua_objects.specs.declared.roots.Shown.{Shown}

-- the word of what a line is about
abbrev pub kind_word : ObjectKind → List ℕ
kind_word (kind.Node node) = (about_kind node).word
kind_word kind.Missing = codes "missing"
kind_word kind.Other = codes "other"

-- what the line of an object is about
abbrev pub kind_seen : seen.Object → ObjectKind
kind_seen see.Missing = kind.Missing
kind_seen (see.Node node) = kind.Node node
kind_seen see.Removable = kind.Node Dir

-- a set of the calls that are allowed on such an object wherever it stands, by what the veils leave of it
abbrev pub AreAllowed : Tree → CallTable → ProcessState → Cover → seen.Object → ℕ → Type 0
AreAllowed t table h left object set = (judged : Judged) → object ≡ object_seen t judged → (call : Call) →
    has set call ≡ is_allowed (covered_verdict t table h call left judged)

-- the line tells what its subject is, and has each call that names it and is allowed on it
pub record IsLineOn (t : Tree) (table : CallTable) (h : ProcessState) (subject : Subject) (line : ObjectLine) : Type 0 where
  pub kind : kind_word line.kind ≡ subject_word t subject
  pub calls : (call : Call) → has line.calls call ≡ (is_named_by t call subject && is_allowed (subject_verdict t table h call subject))

-- the same where a list shows the subject; else no call
pub record IsShownLine (t : Tree) (table : CallTable) (h : ProcessState) (shown : Shown) (subject : Subject) (line : ObjectLine) : Type 0 where
  pub kind : kind_word line.kind ≡ subject_word t subject
  pub calls : (call : Call) → has line.calls call
      ≡ (shows t shown subject && (is_named_by t call subject && is_allowed (subject_verdict t table h call subject)))

-- the lines of items, but for those without calls
abbrev pub lines_of : Tree → CallTable → ProcessState → List Item → List Line
lines_of t table h items = filter has_calls (map (line_of t table h) items)

-- and those of them that are shown
abbrev pub shown_lines : Tree → CallTable → ProcessState → Shown → List Item → List Line
shown_lines t table h shown items = filter (λ line. shows t shown line.subject) (lines_of t table h items)
