use Rattle.pua_audit.proofs.Common.{ℕ, List, [], ◌∷◌, refl, subst, IsTrue, AllByRecursion, list_all, is_letter}
use Rattle.std.proofs.lemmas.Bool.{and_from}
use Rattle.pua_audit.proofs.alphabet.Alphabet.known.Goals as goal

abbrev AreLetterNames : List (List ℕ) → Type 0
AreLetterNames names = AllByRecursion (λ a. IsTrue (is_letter a)) names

letters_all : (names : List (List ℕ)) → AreLetterNames names → IsTrue (list_all is_letter names)
letters_all [] all = refl
letters_all (name ∷ names) all = and_from (is_letter name) (list_all is_letter names) all.0 (letters_all names all.1)

pub returns-clause-letters : goal.returns-clause-letters
returns-clause-letters c = letters_all c.args.self.now (subst AreLetterNames c.self.view_is c.self.invariant.1)
