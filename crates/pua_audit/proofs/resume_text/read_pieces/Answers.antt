use Rattle.pua_audit.proofs.Common.{◌≡◌, ◌<◌, ◌≤◌, ◌++◌, ◌∷◌, [], ◌∙◌, Some, length, get_or, drop, sym, ap, subst, rules, arith, find}
use Rattle.pua_audit.proofs.Common.{slice_split, common_steps, same_bytes, spelling, word_of_pieces, word_within, word_of, AreLetters}
use Rattle.std.proofs.Common.{tests}
use Rattle.std.specs.Prelude.{◌==◌}
use Rattle.std.proofs.lemmas.List.{length_push}
use Rattle.std.proofs.lemmas.Iterator.Splits.{YieldsList-from_slice_split}
use Rattle.std.proofs.lemmas.Iterator.Consumers.{YieldsList-turn, YieldsList-end}
use Rattle.pua_audit.proofs.Moves.{length-word_of, word_of-push}
use Rattle.pua_audit.proofs.ResumeTexts.{behind_word, nothing_read, empty_read, letter_more, piece_read, piece_refused, piece_over}
use Rattle.pua_audit.proofs.ResumeTexts.{pieces_read}
use Rattle.pua_audit.proofs.resume_text.read_pieces.Goals as goal

pub loop-piece-init : goal.loop-piece-init
loop-piece-init c =
    let letters = c.args.letters.now in
    let pieces = slice_split (λ b. b == 47) c.args.text.now in
    record {
      room = c.requires.room;
      listed = (empty_read letters c.args.limit c.args.word.now.items c.requires.empty).1;
      so_far = nothing_read letters pieces c.args.word.now.items c.requires.empty;
    }

pub returns-then-len-limit : goal.returns-then-len-limit
returns-then-len-limit c =
    let letters = c.args.letters.now in
    let pieces = slice_split (λ b. b == 47) c.args.text.now in
    let word = c.loop-piece.word.items in
    let at = YieldsList-turn (YieldsList-from_slice_split _ (λ b. b == 47) c.args.text.now (cc) (cc) (cc) (λ x b q k. search (
      rules,
      tests,
    ))) c.loop-piece.yielded _ c.loop-piece.yielded_by _ _ c.in-Some.piece c.in-Some.is c.next.ensures.steps in
    let full : c.args.limit ≤ length (word_of letters word) = omega (arith, length-word_of letters word) in
    ap (word_within c.args.limit) c.loop-piece.invariant.so_far ∙
    piece_over letters pieces c.args.limit (word_of letters word) (length c.loop-piece.yielded) c.in-Some.piece.now at full

pub returns-in_default : goal.returns-in_default
returns-in_default c =
    let letters = c.args.letters.now in
    let pieces = slice_split (λ b. b == 47) c.args.text.now in
    let at = YieldsList-turn (YieldsList-from_slice_split _ (λ b. b == 47) c.args.text.now (cc) (cc) (cc) (λ x b q k. search (
      rules,
      tests,
    ))) c.loop-piece.yielded _ c.loop-piece.yielded_by _ _ c.in-Some.piece c.in-Some.is c.next.ensures.steps in
    ap (word_within c.args.limit) (c.loop-piece.invariant.so_far
    ∙ piece_refused letters pieces (word_of letters c.loop-piece.word.items) (length c.loop-piece.yielded) c.in-Some.piece.now at
    (sym c.in_default.ensures.letter))

pub loop-piece-preserved : goal.loop-piece-preserved
loop-piece-preserved c =
    let letters = c.args.letters.now in
    let pieces = slice_split (λ b. b == 47) c.args.text.now in
    let word = c.loop-piece.word.items in
    let place = c.in-Some-spelled_letter.place in
    let at = YieldsList-turn (YieldsList-from_slice_split _ (λ b. b == 47) c.args.text.now (cc) (cc) (cc) (λ x b q k. search (
      rules,
      tests,
    ))) c.loop-piece.yielded _ c.loop-piece.yielded_by _ _ c.in-Some.piece c.in-Some.is c.next.ensures.steps in
    let items : c.push.new.self.items ≡ word ++ place ∷ [] = grind (arith, common_steps) in
    let found : find (λ a. same_bytes (spelling a) c.in-Some.piece.now) letters ≡ Some (get_or letters place []) =
    sym c.in-Some-spelled_letter.ensures.letter in
    let short : length word < c.args.limit = omega arith in
    record {
      room = grind (arith, common_steps);
      listed = subst (AreLetters letters c.args.limit) (sym items)
          (letter_more letters c.args.limit word place c.loop-piece.invariant.listed short c.in-Some-spelled_letter.ensures.within);
      so_far =
          c.loop-piece.invariant.so_far
          ∙ piece_read letters pieces (word_of letters word) (length c.loop-piece.yielded) c.in-Some.piece.now (get_or letters place []) at
          found
          ∙ (λ i. behind_word (sym (ap (word_of letters) items ∙ word_of-push letters word place) i)
          (word_of_pieces letters (drop (sym (length_push c.loop-piece.yielded c.in-Some.piece) i) pieces)));
    }

pub returns : goal.returns
returns c =
    let letters = c.args.letters.now in
    let pieces = slice_split (λ b. b == 47) c.args.text.now in
    let word = c.loop-piece.word.items in
    let all = YieldsList-end (YieldsList-from_slice_split _ (λ b. b == 47) c.args.text.now (cc) (cc) (cc) (λ x b q k. search (
      rules,
      tests,
    ))) c.loop-piece.yielded _ c.loop-piece.yielded_by _ _ c.in-None.is c.next.ensures.steps in
    let past : length pieces ≤ length c.loop-piece.yielded = omega (arith, all.1) in
    let short : length (word_of letters word) ≤ c.args.limit =
    omega (arith, length-word_of letters word, c.loop-piece.invariant.listed.within) in (
      ap (word_within c.args.limit) c.loop-piece.invariant.so_far ∙
          pieces_read letters pieces c.args.limit (word_of letters word) (length c.loop-piece.yielded) past short,
      c.loop-piece.invariant.listed,
    )
