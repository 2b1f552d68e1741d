-- The columns of a list for ever, row by row.
use Rattle.pua_tool.proofs.Common.{◌≡◌, ℕ, List, [], ◌∷◌, ◌++◌, ◌∙◌, arith, map, refl, sym, subst, ap, ProcessState, Replayed, Option, Some, None}
use Rattle.pua_tool.proofs.Common.{CallTable, Tree, Result, Ok, Err, as_replayed, with_end}
use Rattle.std.proofs.Common.{Bool, true, false, cond, length, ◌+◌, ◌<◌, take, get_or, zero, suc, inl, inr}
use Rattle.std.specs.Prelude.{IfOk, filter, is_none, is_some, not, ◌&&◌}
use Rattle.std.specs.List.{AllByRecursion, Contains}
use Rattle.std.proofs.lemmas.List.{length-map, take_more}
use Rattle.std.proofs.lemmas.List.Elements.{filter_agree}
use Rattle.pua_tree.specs.Tree.{WellFormed, look}
use Rattle.pua_tree.specs.declared.node.Kind.TheVariants as node
use Rattle.pua_tree.specs.declared.node.FileType.TheVariants.{Sock, Fifo}
use Rattle.pua_tree.proofs.ForCallers.{same_Some, None≢Some}
use Rattle.pua_path.specs.declared.found.Found.TheVariants.{Slot}
use Rattle.pua_calls.specs.Calls.{calls}
use Rattle.pua_calls.specs.CallSets.{calls_in, has}
use Rattle.pua_calls.specs.TmpTable.{tmp_table}
use Rattle.pua_calls.specs.declared.call.Call.{Call}
use Rattle.pua_calls.specs.declared.rules.Rules.{Rules}
use Rattle.pua_policy.specs.Verdict.{Object, IsDir, Is, IsMissing, object_of}
use Rattle.pua_audit.specs.Reach.{Word}
use Rattle.pua_objects.specs.Items.{subject_given}
use Rattle.pua_objects.specs.Lines.{kind_word}
use Rattle.pua_objects.specs.Objects.{At, Others, Subject, object_word}
use Rattle.pua_objects.specs.declared.item.Subject as item
use Rattle.pua_objects.specs.declared.item.Subject.TheVariants as subject
use Rattle.pua_objects.specs.declared.kind.ObjectKind.{ObjectKind}
use Rattle.pua_objects.specs.declared.kind.ObjectKind.TheVariants as kind
use Rattle.pua_objects.proofs.ForCallers.{Among, contained}
use Rattle.pua_ever.specs.Ever.{EverLine, Thing, Stands, Comes, NewDir, NewOthers, NewFile, NewLink, NewSock, NewFifo, has_ever_calls}
use Rattle.pua_ever.specs.EverLines.{IsThing, line_with, new_of}
use Rattle.pua_ever.specs.EverList.{AreEverTold, IsAboutOn, thing_by, word_of_row}
use Rattle.pua_ever.specs.ShownForEver.{shown_lasting}
use Rattle.pua_ever.specs.declared.line.EverLine as given
use Rattle.pua_ever.specs.declared.line.EverThing.{EverThing}
use Rattle.pua_ever.specs.declared.line.EverThing.TheVariants as told
use Rattle.pua_ever.specs.declared.list.EverAbout.TheVariants as ever_about
use Rattle.pua_ever.specs.declared.list.EverRow.{EverRow}
use Rattle.pua_ever.specs.declared.made.Made.{Made}
use Rattle.pua_how.specs.PathQuestion.{PathQuestion, question_by, targets_of, thing_word}
use Rattle.pua_how.specs.Served.{AreWay, Tried, asks_of}
use Rattle.pua_how.specs.Steps.{NoneComes, nothing_laid}
use Rattle.pua_how.specs.Targets.{IsLast, target_about}
use Rattle.pua_how.proofs.ForCallers.{IsPlaced, meant, nothing_comes, shown_placed}
use Rattle.pua_how.specs.declared.line.WayLine.{WayLine}
use Rattle.pua_how.specs.declared.target.Target.{Target}
use Rattle.pua_how.specs.declared.way.NoWay.{NoWay}
use Rattle.pua_texts.specs.EverHowLines.{AreToldWith, has_calls_with}
use Rattle.pua_texts.specs.EverLines.{kind_of}
use Rattle.pua_tool.specs.declared.columns.Behind.{Behind}
use Rattle.pua_tool.specs.declared.script.Replay.{Replay}
use Rattle.pua_tool.specs.RowColumns.{AreColumns, AreStepsTo, IsColumnAt, IsColumnOf, IsCountTo, done_behind, is_now_on, is_there, tried_behind}
use Rattle.pua_tool.specs.EverHowTexts.{IsColumn, IsCount, counts_text, is_now, lacking, lines_below}
use Rattle.pua_tool.proofs.NowThere.{now_meant}
use Rattle.pua_tool.proofs.RowsBelow.{among_below}

-- ---- steps

-- lines that are a way in the world that the script left are so many steps
pub steps_of : (rules : Rules) (replay : Replay) (process : ℕ) (things : List Target) (call : Call) (thing : Target) (lines : List WayLine) →
    Contains things thing → AreWay rules replay.world process call thing lines → AreStepsTo (as_replayed replay) process things call (length lines)
steps_of rules replay process things call thing lines meant way = record {
  thing = thing;
  meant = meant;
  asks = asks_of lines;
  way = way.way;
  long = length-map lines (λ line. line.request);
}

-- lines that were counted
pub counted_steps : (behind : Behind) (tried : Tried) → tried ≡ tried_behind behind → (things : List Target) (call : Call) (counted : Result ℕ NoWay) →
    IfOk counted (λ count. (thing : Target) × Contains things thing × (lines : List WayLine)
    × AreWay tried.rules tried.world tried.process call thing lines × (length lines ≡ count)) →
    IfOk counted (AreStepsTo (done_behind behind) behind.number things call)
counted_steps behind tried is things call (Ok count) way =
    subst (AreStepsTo (done_behind behind) behind.number things call) way.4
    (steps_of behind.rules behind.replay.now behind.number things call way.0 way.2 way.1
    (subst (λ (t : Tried). AreWay t.rules t.world t.process call way.0 way.2) is way.3))
counted_steps behind tried is things call (Err none) way = tt

-- what is among one thing alone
alone : {A : Type 0} (x y : A) → Contains (x ∷ []) y → x ≡ y
alone x y (zero, low, is) = is
alone x y (suc k, low, is) = absurd (omega (arith, low))

-- ---- the calls of a column

both_pass : (p q : Call → Bool) (cs : List Call) → filter q (filter p cs) ≡ filter (λ call. p call && q call) cs
both_pass p q [] = refl
both_pass p q (c ∷ cs) = by (p c) (both_pass p q cs)
  where
    by : (a : Bool) → filter q (filter p cs) ≡ filter (λ call. p call && q call) cs →
        filter q (cond a (c ∷ filter p cs) (filter p cs))
        ≡ cond (a && q c) (c ∷ filter (λ call. p call && q call) cs) (filter (λ call. p call && q call) cs)
    by false rest = rest
    by true rest = ap (λ more. cond (q c) (c ∷ more) more) rest

-- what is left of a line's calls without those of now are the calls that the list of now lacks
left_are : (t : Tree) (table : CallTable) (h : ProcessState) (about : Thing) (line : given.EverLine) (left now : ℕ) →
    ((call : Call) → has left call ≡ (has line.calls call && not (has now call))) →
    ((call : Call) → has now call ≡ is_now_on t table h about call) →
    calls_in left ≡ filter (λ call. not (is_now_on t table h about call)) (calls_in line.calls)
left_are t table h about line left now without is =
    filter_agree (has left) (λ call. has line.calls call && not (is_now_on t table h about call))
    (λ call. without call ∙ ap (λ b. has line.calls call && not b) (is call)) calls
    ∙ sym (both_pass (has line.calls) (λ call. not (is_now_on t table h about call)) calls)

-- the kind that a line of the code tells is its thing's
pub kind_told : (t : Tree) (about : Thing) (thing : EverThing) → IsThing t about thing → kind_word (kind_of thing) ≡ thing_word t about
kind_told t (Stands subject) (told.Stands kind) is = is
kind_told t (Comes new) (told.Comes kind) is = is
kind_told t (Stands subject) (told.Comes kind) is = absurd is
kind_told t (Comes new) (told.Stands kind) is = absurd is

-- the column of one row
module _ (rules : Rules) (done : Replayed) (process : ℕ) (h : ProcessState) (row : EverRow) (about : Thing) where
  pub column_is : (last left now : ℕ) (counts : List (Call × Result ℕ NoWay)) (text : List ℕ) → IsLast done.world.tree last →
      IsThing done.world.tree about row.line.thing → ((call : Call) → has left call ≡ (has row.line.calls call && not (has now call))) →
      ((call : Call) → has now call ≡ is_now_on done.world.tree done.table h about call) →
      map (λ count. count.0) counts ≡ calls_in left → AllByRecursion (IsCountTo rules done process (target_about last about)) counts →
      text ≡ with_end (counts_text 32 counts) → (word : Word) → IsColumnOf rules done process h (line_with word about row.line) text
  column_is last left now counts text above thing without is calls counted told word = record {
    kind = kind_of row.line.thing;
    told = kind_told done.world.tree about row.line.thing thing;
    last = last;
    above = above;
    counts = counts;
    calls = calls ∙ left_are done.world.tree done.table h about row.line left now without is;
    counted = counted;
    is = told;
  }

-- what an item is about is there now
pub item_there : (t : Tree) (s : item.Subject) → is_there t (subject_given t s) ≡ true
item_there t subject.Root = refl
item_there t (subject.Dir id dir name) = refl
item_there t (subject.Others dir) = refl
item_there t (subject.Name dir name) = by (look t dir name.now) refl
  where
    by : (o : Option ℕ) → look t dir name.now ≡ o → is_there t (At (Slot dir name.now o)) ≡ true
    by None none = ap is_none none
    by (Some node) some = refl

module _ (t : Tree) (table : CallTable) (h : ProcessState) where
  taken : (o : Option ℕ) → is_some o ≡ true → is_none o ≡ false
  taken None is = cc
  taken (Some node) is = refl

  -- the list of now has no call on a name at which something stands, nor on what is still to be made
  pub now_freed : (dir : ℕ) (name : Option (List ℕ)) (about : Thing) → IsAboutOn t h name (ever_about.Freed dir) →
      thing_by t name (ever_about.Freed dir) ≡ Some about → (call : Call) → false ≡ is_now_on t table h about call
  now_freed dir None about on is call = absurd (None≢Some about is)
  now_freed dir (Some name) about on is call =
      let there : Subject = At (Slot dir name None) in
      subst (λ (a : Thing). false ≡ is_now_on t table h a call) (same_Some (Stands there) about is)
      (sym (ap (λ b. b && is_now t table h (Some there) call) (taken (look t dir name) on)))

  pub now_made : (made : Made) (name : Option (List ℕ)) (about : Thing) → thing_by t name (ever_about.Comes made) ≡ Some about → (call : Call) →
      false ≡ is_now_on t table h about call
  now_made made name about is call = subst (λ (a : Thing). false ≡ is_now_on t table h a call) (same_Some (Comes (new_of made)) about is) refl

-- ---- rows, one after another

module _ (rules : Rules) (done : Replayed) (process : ℕ) (h : ProcessState) where
  columns_more : (rows : List EverRow) (texts : List (List ℕ)) (row : EverRow) (text : List ℕ) → AreColumns rules done process h rows texts →
      IsColumnAt rules done process h row text → AreColumns rules done process h (rows ++ row ∷ []) (texts ++ text ∷ [])
  columns_more [] [] row text are column = (column, tt)
  columns_more [] (other ∷ texts) row text are column = absurd are
  columns_more (r ∷ rows) [] row text are column = absurd are
  columns_more (r ∷ rows) (other ∷ texts) row text are column = (are.0, columns_more rows texts row text are.1 column)

  -- with the column of one row more
  pub row_column : (rows : List EverRow) (row : EverRow) (i : ℕ) → i < length rows → row ≡ get_or rows i row → (texts : List (List ℕ))
      (text : List ℕ) → AreColumns rules done process h (take i rows) texts → IsColumnAt rules done process h row text →
      AreColumns rules done process h (take (i + 1) rows) (texts ++ text ∷ [])
  row_column rows row i within is texts text are column =
      subst (λ front. AreColumns rules done process h front (texts ++ text ∷ []))
      (sym (take_more rows i row within ∙ ap (λ r. take i rows ++ r ∷ []) (sym is)))
      (columns_more (take i rows) texts row text are column)

pub row_on : {A : Type 0} (P : A → Type 0) (xs : List A) (i : ℕ) (x : A) → AllByRecursion P xs → i < length xs → x ≡ get_or xs i x → P x
row_on P xs i x all within is = subst P (sym is) (at xs i all within)
  where
    at : (xs : List _) (i : ℕ) → AllByRecursion P xs → i < length xs → P (get_or xs i x)
    at [] i all within = absurd (omega (arith, within))
    at (y ∷ ys) zero all within = all.0
    at (y ∷ ys) (suc i) all within = at ys i all.1 (omega (arith, within))

-- ---- lines with their columns

-- lines of the definition, each with its column, which rows and texts tell
pub record AreLinesWith (rules : Rules) (done : Replayed) (process : ℕ) (h : ProcessState) (before : Word) (rows : List EverRow) (texts : List (List ℕ))
    (lines : List EverLine) : Type 0 where
  pub told : List (EverLine × List ℕ)
  pub are : AreToldWith done.world.tree before rows texts told
  pub lines_are : map (λ line. line.0) told ≡ lines
  pub columns : AllByRecursion (λ (line : EverLine × List ℕ). IsColumnOf rules done process h line.0 line.1) told

module _ (rules : Rules) (done : Replayed) (process : ℕ) (h : ProcessState) where
  first_lines : (b : Bool) (line : EverLine × List ℕ) (rest : List (EverLine × List ℕ)) →
      map (λ line. line.0) (cond b (line ∷ []) [] ++ rest) ≡ cond b (line.0 ∷ []) [] ++ map (λ line. line.0) rest
  first_lines true line rest = refl
  first_lines false line rest = refl

  abbrev Columned : List (EverLine × List ℕ) → Type 0
  Columned lines = AllByRecursion (λ (line : EverLine × List ℕ). IsColumnOf rules done process h line.0 line.1) lines

  first_columned : (b : Bool) (line : EverLine × List ℕ) (rest : List (EverLine × List ℕ)) → IsColumnOf rules done process h line.0 line.1 →
      Columned rest → Columned (cond b (line ∷ []) [] ++ rest)
  first_columned true line rest column columns = (column, columns)
  first_columned false line rest column columns = columns

  pub lines_told : (before : Word) (rows : List EverRow) (texts : List (List ℕ)) (lines : List EverLine) →
      AreEverTold done.world.tree before rows lines [] → AreColumns rules done process h rows texts →
      AreLinesWith rules done process h before rows texts lines
  lines_told before [] [] lines ever are = record { told = []; are = refl; lines_are = sym ever; columns = tt }
  lines_told before [] (text ∷ texts) lines ever are = absurd are
  lines_told before (row ∷ rows) [] lines ever are = absurd are
  lines_told before (row ∷ rows) (text ∷ texts) lines ever are =
      let word = word_of_row before row in
      let about = ever.0 in
      let rest = lines_told word rows texts ever.1 ever.4 are.1 in
      let line : EverLine × List ℕ = (line_with word about row.line, text) in
      record {
        told = filter has_calls_with (line ∷ []) ++ rest.told;
        are = (about, rest.told, ever.2, refl, rest.are);
        lines_are =
            first_lines (has_calls_with line) line rest.told
            ∙ ap (λ more. filter has_ever_calls (line_with word about row.line ∷ []) ++ more) rest.lines_are
            ∙ sym ever.3;
        columns = first_columned (has_calls_with line) line rest.told (are.0 about ever.2 ever.5 word) rest.columns;
      }

-- ---- columns by path and kind

module _ (rules : Rules) (done : Replayed) (process : ℕ) (h : ProcessState) where
  -- steps to a thing are steps to what a path and a kind mean, where that is the thing alone
  module _ (asking : PathQuestion) (kind : ObjectKind) (last : ℕ) (own : Target) (above : IsLast done.world.tree last)
      (mean : targets_of done.world.tree h last asking (Some kind) ≡ own ∷ []) where
    count_of : (call : Call) (found : Result ℕ NoWay) → IsCountTo rules done process own (call, found) →
        IsCount rules done process h asking kind (call, found)
    count_of call (Err plans) none = record {
      last = last;
      none = subst (λ (things : List Target). NoneComes rules done.table process call things done.world plans) (sym mean) none;
    }
    count_of call (Ok steps) to = record {
      last = last;
      above = above;
      thing = to.thing;
      meant = subst (λ (things : List Target). Contains things to.thing) (sym mean) to.meant;
      asks = to.asks;
      way = to.way;
      long = to.long;
    }

    counts_of : (counts : List (Call × Result ℕ NoWay)) → AllByRecursion (IsCountTo rules done process own) counts →
        AllByRecursion (IsCount rules done process h asking kind) counts
    counts_of [] all = tt
    counts_of (count ∷ counts) all = (count_of count.0 count.1 all.0, counts_of counts all.1)

  -- the column of a line by what it is about is one by its path and its kind
  column_meant : (line : EverLine) (text : List ℕ) → IsPlaced done.world.tree h line.word line.thing →
      IsColumnOf rules done process h line text → IsColumn rules done process h line text
  column_meant line text placed column = record {
    kind = column.kind;
    told = column.told;
    counts = column.counts;
    calls =
        column.calls
        ∙ (λ i. filter (λ call. not (now_meant done.world.tree h done.table line.word line.thing placed column.kind column.told call i)) line.calls);
    counted =
        counts_of (question_by line.word line.thing) column.kind column.last (target_about column.last line.thing) column.above
        (meant done.world.tree h line.word line.thing placed column.kind column.told column.last) column.counts column.counted;
    is = column.is;
  }

  columns_meant : (told : List (EverLine × List ℕ)) →
      ((line : EverLine) → Among (map (λ line. line.0) told) line → IsPlaced done.world.tree h line.word line.thing) →
      AllByRecursion (λ (line : EverLine × List ℕ). IsColumnOf rules done process h line.0 line.1) told →
      AllByRecursion (λ (line : EverLine × List ℕ). IsColumn rules done process h line.0 line.1) told
  columns_meant [] placed columns = tt
  columns_meant (line ∷ told) placed columns =
      (column_meant line.0 line.1 (placed line.0 (inl refl)) columns.0, columns_meant told (λ other a. placed other (inr a)) columns.1)

  pub columns_told : WellFormed done.world.tree → (below : Option Word) (told : List (EverLine × List ℕ)) →
      map (λ line. line.0) told ≡ lines_below below (shown_lasting done.world.tree (tmp_table done.table) h) →
      AllByRecursion (λ (line : EverLine × List ℕ). IsColumnOf rules done process h line.0 line.1) told →
      AllByRecursion (λ (line : EverLine × List ℕ). IsColumn rules done process h line.0 line.1) told
  columns_told well below told are columns =
      let shown = shown_lasting done.world.tree (tmp_table done.table) h in
      columns_meant told (λ line a. shown_placed done.world.tree (tmp_table done.table) h well line
      (contained shown line (among_below below shown line (subst (λ (lines : List EverLine). Among lines line) are a)))) columns

-- ---- some columns, where none need be found

abbrev OfWord : List ℕ → Type 0
OfWord word = (kind : ObjectKind) × (kind_word kind ≡ word)

of_object : (object : Object) → OfWord (object_word object)
of_object (IsDir dir way) = (kind.Node node.Dir, refl)
of_object (Is of) = (kind.Node of, refl)
of_object IsMissing = (kind.Missing, refl)

of_thing : (t : Tree) (thing : Thing) → OfWord (thing_word t thing)
of_thing t (Stands (At found)) = of_object (object_of t found)
of_thing t (Stands (Others dir)) = (kind.Other, refl)
of_thing t (Comes NewDir) = (kind.Node node.Dir, refl)
of_thing t (Comes NewOthers) = (kind.Other, refl)
of_thing t (Comes NewFile) = (kind.Node node.File, refl)
of_thing t (Comes NewLink) = (kind.Node node.Link, refl)
of_thing t (Comes NewSock) = (kind.Node (node.Known Sock), refl)
of_thing t (Comes NewFifo) = (kind.Node (node.Known Fifo), refl)

module _ (rules : Rules) (done : Replayed) (process : ℕ) (h : ProcessState) where
  uncounted : (about : PathQuestion) (kind : ObjectKind) (cs : List Call) →
      AllByRecursion (IsCount rules done process h about kind) (map (λ call. (call, Err nothing_laid)) cs)
  uncounted about kind [] = tt
  uncounted about kind (c ∷ cs) =
      let things = targets_of done.world.tree h 0 about (Some kind) in
      (record { last = 0; none = nothing_comes rules done.table process c things done.world }, uncounted about kind cs)

  same_calls : (cs : List Call) → map (λ (count : Call × Result ℕ NoWay). count.0) (map (λ call. (call, Err nothing_laid)) cs) ≡ cs
  same_calls [] = refl
  same_calls (c ∷ cs) = ap (λ more. c ∷ more) (same_calls cs)

  some_column : (line : EverLine) → (text : List ℕ) × IsColumn rules done process h line text
  some_column line =
      let kind = of_thing done.world.tree line.thing in
      let cs = lacking done.world.tree done.table h kind.0 line in
      let counts : List (Call × Result ℕ NoWay) = map (λ call. (call, Err nothing_laid)) cs in (
        with_end (counts_text 32 counts),
        record {
          kind = kind.0;
          told = kind.1;
          counts = counts;
          calls = same_calls cs;
          counted = uncounted (question_by line.word line.thing) kind.0 cs;
          is = refl;
        },
      )

  pub some_columns : (lines : List EverLine) → (told : List (EverLine × List ℕ)) × (map (λ line. line.0) told ≡ lines)
      × AllByRecursion (λ (line : EverLine × List ℕ). IsColumn rules done process h line.0 line.1) told
  some_columns [] = ([], refl, tt)
  some_columns (line ∷ lines) =
      let first = some_column line in
      let rest = some_columns lines in
      ((line, first.0) ∷ rest.0, ap (λ more. line ∷ more) rest.1, (first.1, rest.2))
