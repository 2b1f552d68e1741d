-- What the lines are about, in order, and the lines of the code beside those of the definition.
use Rattle.std.specs.Prelude.{◌≡◌, List, [], ◌∷◌, map, filter, flat_map, Option, Some, None}
use Rattle.pua_tree.specs.Tree.{Tree}
use Rattle.pua_calls.specs.Calls.{CallTable}
use Rattle.pua_calls.specs.CallSets.{calls_in}
use Rattle.pua_policy.specs.States.{ProcessState}
use Rattle.pua_audit.specs.Reach.{Word}
use Rattle.pua_objects.specs.Objects.{Item, subject_word}
use Rattle.pua_objects.specs.Lines.{kind_word}
use Rattle.pua_ever.specs.Ever.{Thing, Stands, Comes, EverLine, New, NewDir, NewOthers, NewFile, NewLink, NewSock, NewFifo, new_word, names_to_free}
use Rattle.pua_ever.specs.Ever.{ever_line, new_line, has_ever_calls}
use Rattle.pua_ever.specs.declared.line.EverLine as given
use Rattle.pua_ever.specs.declared.line.EverThing.{EverThing}
use Rattle.pua_ever.specs.declared.line.EverThing.TheVariants as told
use Rattle.pua_ever.specs.declared.made.Made.{Made}
use Rattle.pua_ever.specs.declared.made.Made.TheVariants as made

-- what a line may still be about: what stands or could stand now, the name at which that stands, or what
-- can be made
pub data Left : Type 0 where
  Now : Item → Left
  Freed : Item → Left
  Coming : New → Left

-- an item, and the name at which it stands
abbrev pub both_of : Item → List Left
both_of item = Now item ∷ Freed item ∷ []

-- what can be made, as the definition has it
abbrev pub new_of : Made → New
new_of made.Dir = NewDir
new_of made.Others = NewOthers
new_of made.File = NewFile
new_of made.Link = NewLink
new_of made.Sock = NewSock
new_of made.Fifo = NewFifo

-- and what comes after it, in the order of the lines
abbrev pub made_left : Option Made → List Left
made_left None = []
made_left (Some made.Dir) =
    Coming NewDir ∷ Coming NewOthers ∷ Coming NewFile ∷ Coming NewLink ∷ Coming NewSock ∷ Coming NewFifo ∷ []
made_left (Some made.Others) = Coming NewOthers ∷ Coming NewFile ∷ Coming NewLink ∷ Coming NewSock ∷ Coming NewFifo ∷ []
made_left (Some made.File) = Coming NewFile ∷ Coming NewLink ∷ Coming NewSock ∷ Coming NewFifo ∷ []
made_left (Some made.Link) = Coming NewLink ∷ Coming NewSock ∷ Coming NewFifo ∷ []
made_left (Some made.Sock) = Coming NewSock ∷ Coming NewFifo ∷ []
made_left (Some made.Fifo) = Coming NewFifo ∷ []

-- the lines of what is to come, but for those without calls
abbrev pub lines_about : Tree → CallTable → ProcessState → Left → List EverLine
lines_about t table h (Now item) = ever_line t table h (item.word, item.subject) ∷ []
lines_about t table h (Freed item) =
    map (λ subject. ever_line t table h (item.word, subject)) (names_to_free t table h item.subject)
lines_about t table h (Coming new) = new_line t table h new ∷ []

abbrev pub ever_lines_of : Tree → CallTable → ProcessState → List Left → List EverLine
ever_lines_of t table h left = filter has_ever_calls (flat_map (lines_about t table h) left)

-- the line tells what its thing is
abbrev pub IsThing : Tree → Thing → EverThing → Type 0
IsThing t (Stands subject) (told.Stands kind) = kind_word kind ≡ subject_word t subject
IsThing t (Comes new) (told.Comes kind) = kind_word kind ≡ new_word new
IsThing t _ _ = ⊥

abbrev pub line_with : Word → Thing → given.EverLine → EverLine
line_with word thing line = record { word = word; thing = thing; calls = calls_in line.calls }
