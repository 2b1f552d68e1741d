-- What an audit is given, and why it can't begin.
use Rattle.std.specs.Prelude.{ℕ, suc, ◌*◌, Bool, if◌then◌else◌, List, [], ◌∷◌, length, nat_le, max, fold, ◌==◌, Option, Some, None, Result}
use Rattle.std.specs.Prelude.{Ok, Err, codes, find, ok_or, option_map, option_and_then}
use Rattle.std.specs.List.{slice_split, before_first, after_first}
use Rattle.std.specs.Result.{result_ok}
use Rattle.pua_tree.specs.Names.{same_bytes}
use Rattle.pua_tree.specs.Tree.{Tree}
use Rattle.pua_tree.specs.Spelling.{spelling, name_of}
use Rattle.pua_tree.specs.Steps.{◌>>=◌}
use Rattle.pua_tree.specs.Listing.{only_if}
use Rattle.pua_calls.specs.Calls.{CallTable, call_in}
use Rattle.pua_policy.specs.States.{ProcessState}
use Rattle.pua_audit.specs.Limits.{most_letters, most_candidates, most_path}
use Rattle.pua_audit.specs.Reach.{Word, Pair, Scope, alphabet_of, rest_after}
use Rattle.pua_audit.specs.declared.base.Base.{Base}
use Rattle.pua_audit.specs.declared.base.Base.TheVariants.{Root, Cwd}
use Rattle.pua_audit.specs.declared.fault.AuditFault.{AuditFault}
use Rattle.pua_audit.specs.declared.fault.AuditFault.TheVariants.{LimitTooLarge, TooLong, TooManyNames, BadCandidate, BadResume}

-- the names that candidates spell, or the place of the first that spells none, counted from n
abbrev pub candidates_from : ℕ → List (List ℕ) → Result (List (List ℕ)) AuditFault
candidates_from n [] = Ok []
candidates_from n (text ∷ texts) = do
  name ← ok_or (result_ok (name_of text)) (BadCandidate n)
  names ← candidates_from (suc n) texts
  Ok (name ∷ names)

-- the letters that pieces of a printed path spell, if each is one of the alphabet
abbrev pub word_of_pieces : List (List ℕ) → List (List ℕ) → Option Word
word_of_pieces alphabet [] = Some []
word_of_pieces alphabet (piece ∷ pieces) =
    option_and_then (λ letter. option_map (λ word. letter ∷ word) (word_of_pieces alphabet pieces))
    (find (λ letter. same_bytes (spelling letter) piece) alphabet)

abbrev pub word_of_pieces_between : List (List ℕ) → List ℕ → Option Word
word_of_pieces_between alphabet text = word_of_pieces alphabet (slice_split (λ b. b == 47) text)

-- the word whose printed path a text is
abbrev pub word_of_path : Base → List (List ℕ) → List ℕ → Option Word
word_of_path Root alphabet [] = None
word_of_path Root alphabet (b ∷ []) = if b == 47 then Some [] else None
word_of_path Root alphabet (b ∷ c ∷ more) = if b == 47 then word_of_pieces_between alphabet (c ∷ more) else None
word_of_path Cwd alphabet text = if same_bytes text (codes ".") then Some [] else word_of_pieces_between alphabet text

-- a word, if it has no more letters than the limit
abbrev pub word_within : ℕ → Option Word → Option Word
word_within limit word = only_if (λ w. nat_le (length w) limit) word

-- the pair that a text `CALL:PATH` names: a call of the table, and a word of the alphabet with no more letters than the limit
abbrev pub pair_named : CallTable → Base → List (List ℕ) → ℕ → List ℕ → Option Pair
pair_named table base alphabet limit text =
    option_and_then (λ call. option_map (λ word. (word, call))
    (word_within limit (word_of_path base alphabet (after_first (λ b. b == 58) text))))
    (call_in table (before_first (λ b. b == 58) text))

abbrev pub resume_pair : Scope → List ℕ → Option Pair
resume_pair s text = pair_named s.table s.base s.alphabet s.limit text

abbrev pub longest : List (List ℕ) → ℕ
longest letters = fold (λ most letter. max most (length letter)) 0 letters

-- the pair after which an audit resumes, if there is a text
abbrev pub resume_in : Scope → Option (List ℕ) → Result (Option Pair) AuditFault
resume_in s None = Ok None
resume_in s (Some text) = ok_or (option_map Some (resume_pair s text)) BadResume

-- what an audit is of, and the pair that it resumes after
pub record Beginning : Type 0 where
  pub scope : Scope
  pub after : Option Pair

abbrev pub fault_unless : Bool → AuditFault → Result (Unit {0}) AuditFault
fault_unless test fault = if test then Ok tt else Err fault

-- the limit, the number of candidates, each candidate, the length of paths, and the resume text
abbrev pub beginning : Tree → CallTable → ProcessState → Base → List (List ℕ) → ℕ → Option (List ℕ) → Result Beginning AuditFault
beginning t table h base texts limit after = do
  _ ← fault_unless (nat_le limit most_letters) LimitTooLarge
  _ ← fault_unless (nat_le (length texts) most_candidates) TooManyNames
  candidates ← candidates_from 1 texts
  _ ← fault_unless (nat_le (limit * suc (longest (alphabet_of t candidates))) most_path) TooLong
  pair ← resume_in (record { tree = t; table = table; process = h; base = base; alphabet = alphabet_of t candidates; limit = limit }) after
  Ok (record {
    scope = record { tree = t; table = table; process = h; base = base; alphabet = alphabet_of t candidates; limit = limit };
    after = pair;
  })

-- the pairs that are still to come when it begins
abbrev pub still_to_come : Beginning → List Pair
still_to_come b = rest_after b.scope b.after
