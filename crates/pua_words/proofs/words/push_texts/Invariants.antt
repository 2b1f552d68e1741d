use Rattle.std.specs.Prelude.{◌≡◌, ◌++◌, map, take}
use Rattle.pua_words.proofs.words.push_texts.Given as goal

abbrev pub invariant-loop-text : goal.invariant-loop-text
invariant-loop-text l =
    map (λ field. field.now) l.fields.items
    ≡ map (λ field. field.now) l.initial.fields.items ++ map (λ text. text.now) (take l.text-index l.more)
