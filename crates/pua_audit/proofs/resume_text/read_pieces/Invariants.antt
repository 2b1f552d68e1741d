use Rattle.pua_audit.proofs.Common.{◌≡◌, ◌≤◌, length, drop, vec_capacity, slice_split, word_of_pieces, word_of, AreLetters}
use Rattle.std.specs.Prelude.{◌==◌}
use Rattle.pua_audit.proofs.ResumeTexts.{behind_word}
use Rattle.pua_audit.proofs.resume_text.read_pieces.Given as goal

-- the letters so far stand before those of the pieces that are left
abbrev pub invariant-loop-piece : goal.invariant-loop-piece
invariant-loop-piece l =
    let letters = l.letters in
    let pieces = slice_split (λ b. b == 47) l.text in
    record {
      room : l.limit ≤ vec_capacity l.word;
      listed : AreLetters letters l.limit l.word.items;
      so_far : word_of_pieces letters pieces ≡ behind_word (word_of letters l.word.items)
          (word_of_pieces letters (drop (length l.yielded) pieces));
    }
