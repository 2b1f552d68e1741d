use Rattle.std.proofs.Common.{◌≡◌, map, take}
use Rattle.pua_script.specs.Replay.{answers_to, new_world}
use Rattle.pua_tight.specs.Starts.{IsStart}
use Rattle.pua_tight.specs.Uses.{use_by}
use Rattle.pua_tight.proofs.word_use.uses_of.Given as goal

-- what the words so far are needed for
abbrev pub invariant-loop-word : goal.invariant-loop-word
invariant-loop-word l = record {
  kept : l.requests.items ≡ l.fn.requests.items;
  start : IsStart l.wanted.table.now (new_world l.wanted.tree) l.fn.requests.items l.start;
  told : answers_to l.wanted.table.now (new_world l.wanted.tree) l.fn.requests.items ≡ l.wanted.answers.items →
      l.uses.items ≡ map (use_by l.wanted.table.now (new_world l.wanted.tree) l.wanted.answers.items l.fn.requests.items) (take l.word-index l.words);
}
