use Rattle.pua_audit.proofs.Common.{◌≡◌, ◌<◌, ◌≤◌, ◌∙◌, ℕ, List, nat_eq, length, arith, sym, ap, subst, AllByRecursion, IsDistinct}
use Rattle.pua_audit.proofs.Common.{insert_key, DirectoriesState, AreNumbers}
use Rattle.pua_audit.proofs.DirectoryPlaces.{few_numbers, all_inserted, placed}
use Rattle.pua_audit.proofs.table.directories.Directories.place.Goals as goal

numbers_inserted : (old new : List ℕ) (n : ℕ) → AreNumbers old → IsDistinct nat_eq new → new ≡ insert_key nat_eq old n
    → n < 4294967296 → AreNumbers new
numbers_inserted old new n known apart is low =
    record {
      apart = apart;
      fit = subst (AllByRecursion (λ n. n < 4294967296)) (sym is) (all_inserted (λ n. n < 4294967296) old n low known.fit);
    }

pub overflow_cast-place : goal.overflow_cast-place
overflow_cast-place c =
    let known : AreNumbers c.insert_full.new.self.keys =
    numbers_inserted c.self.inside.numbers.keys _ c.number.result c.self.invariant c.insert_full.ensures.unique c.in_ok-place.ensures.keys
    c.number.type_inv in
    let few : length c.insert_full.new.self.keys ≤ 4294967296 = few_numbers c.insert_full.new.self.keys known in
    record { fits = omega (arith, few, c.in_ok-place.ensures.within) }

pub invariant_of-self-then-not-added : goal.invariant_of-self-then-not-added
invariant_of-self-then-not-added c =
    numbers_inserted c.self.inside.numbers.keys _ c.number.result c.self.invariant c.insert_full.ensures.unique c.in_ok-place.ensures.keys
    c.number.type_inv

pub invariant_of-self-in_err-push : goal.invariant_of-self-in_err-push
invariant_of-self-in_err-push c =
    numbers_inserted c.self.inside.numbers.keys _ c.number.result c.self.invariant c.insert_full.ensures.unique c.in_ok-place.ensures.keys
    c.number.type_inv

pub invariant_of-self-2 : goal.invariant_of-self-2
invariant_of-self-2 c =
    numbers_inserted c.self.inside.numbers.keys _ c.number.result c.self.invariant c.insert_full.ensures.unique c.in_ok-place.ensures.keys
    c.number.type_inv

pub returns-then-not-added-clause-place : goal.returns-then-not-added-clause-place
returns-then-not-added-clause-place c =
    (c.in_ok-place.ensures.within, placed _ c.in_ok-place.place c.number.result c.in_ok-place.ensures.stored ∙ c.number.ensures)

pub returns-clause-place : goal.returns-clause-place
returns-clause-place c =
    (c.in_ok-place.ensures.within, placed _ c.in_ok-place.place c.number.result c.in_ok-place.ensures.stored ∙ c.number.ensures)

pub returns-then-not-added-clause-all : goal.returns-then-not-added-clause-all
returns-then-not-added-clause-all c =
    c.in_ok-place.ensures.keys ∙ ap (insert_key nat_eq c.self.inside.numbers.keys) c.number.ensures
    ∙ ap (λ (d : DirectoriesState). insert_key nat_eq d.numbers c.args.dir) c.self.view_is

pub returns-clause-all : goal.returns-clause-all
returns-clause-all c =
    c.in_ok-place.ensures.keys ∙ ap (insert_key nat_eq c.self.inside.numbers.keys) c.number.ensures
    ∙ ap (λ (d : DirectoriesState). insert_key nat_eq d.numbers c.args.dir) c.self.view_is
