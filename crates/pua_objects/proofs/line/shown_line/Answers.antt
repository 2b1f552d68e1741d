use Rattle.pua_objects.proofs.Common.{◌≡◌, true, false, sym, ap, ◌∙◌, ◌&&◌, Bool, is_allowed, is_named_by, subject_verdict}
use Rattle.pua_calls.proofs.ForCallers.{has_none}
use Rattle.pua_objects.specs.Items.{subject_given}
use Rattle.pua_objects.specs.Roots.{shows}
use Rattle.pua_objects.proofs.line.shown_line.Goals as goal

pub returns-then-shows : goal.returns-then-shows
returns-then-shows c = λ process table t worked_out by_root told.
    let subject = subject_given t c.args.item.now.item.subject in
    let line = c.allowed_line-line.ensures process table t subject worked_out told.tells in
    let seen : shows t c.args.shown.now subject ≡ true = sym (c.shows.ensures t process by_root told) ∙ c.if-shows.true in
    record {
      kind = line.kind;
      calls = λ call. line.calls call
          ∙ ap (λ (b : Bool). b && (is_named_by t call subject && is_allowed (subject_verdict t table process call subject))) (sym seen);
    }

pub returns : goal.returns
returns c = λ process table t worked_out by_root told.
    let subject = subject_given t c.args.item.now.item.subject in
    let line = c.allowed_line-line.ensures process table t subject worked_out told.tells in
    let hidden : shows t c.args.shown.now subject ≡ false = sym (c.shows.ensures t process by_root told) ∙ c.if-shows.false in
    record {
      kind = line.kind;
      calls = λ call. has_none call
          ∙ ap (λ (b : Bool). b && (is_named_by t call subject && is_allowed (subject_verdict t table process call subject))) (sym hidden);
    }
