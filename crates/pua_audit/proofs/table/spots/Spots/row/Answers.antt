use Rattle.pua_audit.proofs.Common.{◌≡◌, ◌<◌, ◌^◌, ◌∙◌, ℕ, suc, List, length, arith, refl, sym, subst, add-one, letter_cost}
use Rattle.pua_audit.proofs.Common.{AreCovered, cover_in, judge_in, IsJudgedRow, IsLetter, call_count, get_or, rules, []}
use Rattle.std.proofs.Common.{suc-mul}
use Rattle.pua_audit.specs.Spots.{AreLettersIn}
use Rattle.pua_audit.proofs.Costs.{letters_within}
use Rattle.pua_audit.proofs.Gaps.{letters_bare, row_started, row_further}
use Rattle.pua_audit.proofs.Lists.{IsReached, places_few, reached_all}
use Rattle.pua_audit.proofs.Moves.{all_at_index, letter_read}
use Rattle.pua_audit.proofs.Spotted.{apart_none}
use Rattle.pua_audit.proofs.Rowed.{grown_itself, grown_further}
use Rattle.pua_audit.proofs.table.spots.Spots.row.Goals as goal

pub loop-letter-init : goal.loop-letter-init
loop-letter-init g c =
    let a = c.args.self.now.terms.now in
    let s = c.args.self.now in
    let missing : ℕ = c.within-within.result.missing in
    let ns : List ℕ = c.deref-letter-items.result.now in
    let among : AreLettersIn c.args.dir s.dots.items s.names.items ns =
    subst (AreLettersIn c.args.dir s.dots.items s.names.items) (sym c.deref-letter-items.ensures.value) c.in_ok-letters.ensures in
    let told = λ (over : c.args.over ≡ cover_in a.seen.tree a.process c.args.dir).
    c.within-within.ensures c.args.dir c.requires.living over
    (λ no. s.unveiled c.args.dir (apart_none c.args.dir s.veiled.items (sym c.has_veil_in-veiled.ensures ∙ no))) in
    let bare = λ (over : c.args.over ≡ cover_in a.seen.tree a.process c.args.dir).
    letters_bare a c.args.dir missing s.dots.items s.names.items ns c.requires.living (told over).missing s.told among in
    record {
      row = λ covered over n low reached.
          subst (IsJudgedRow (judge_in a) a.letters c.args.dirs.now.numbers c.args.dir n missing) (sym c.new-entries.ensures.items)
          (row_started (judge_in a) a.letters c.args.dir missing ns (bare over) c.args.dirs.now.numbers
          (subst (λ m. m < 2 ^ call_count) c.bits-missing.ensures.number c.bits-missing.ensures.calls) n low reached);
      grown = grown_itself c.args.dirs.now.numbers;
      living = λ living. living;
      covered = λ covered. covered;
      tree = c.requires.tree;
      cost = omega arith;
    }

pub bounds-components-letter : goal.bounds-components-letter
bounds-components-letter g c =
    let a = c.args.self.now.terms.now in
    let s = c.args.self.now in
    let ns : List ℕ = c.deref-letter-items.result.now in
    let among : AreLettersIn c.args.dir s.dots.items s.names.items ns =
    subst (AreLettersIn c.args.dir s.dots.items s.names.items) (sym c.deref-letter-items.ensures.value) c.in_ok-letters.ensures in
    let at = all_at_index (λ n. n < length a.letters) ns 0 (among.within (length a.letters) s.told.dotted
    s.told.within) c.loop-letter.letter-index c.loop-letter-test.true in
    subst (λ (ls : List (List ℕ)). get_or ns c.loop-letter.letter-index 0 < length ls) (sym c.as_slice-components.ensures.letters) at

pub letter-found-requires : goal.letter-found-requires
letter-found-requires g c κs = ((refl, tt), (c.loop-letter.invariant.tree, c.requires.living))

pub returns-in_err-put-clause-cost : goal.returns-in_err-put-clause-cost
returns-in_err-put-clause-cost g c =
    let a = c.args.self.now.terms.now in
    let s = c.args.self.now in
    let l = c.loop-letter in
    let ns : List ℕ = c.deref-letter-items.result.now in
    let among : AreLettersIn c.args.dir s.dots.items s.names.items ns =
    subst (AreLettersIn c.args.dir s.dots.items s.names.items) (sym c.deref-letter-items.ensures.value) c.in_ok-letters.ensures in
    let few = places_few ns (length a.letters) among.rise (among.within (length a.letters) s.told.dotted
    s.told.within) (suc l.letter-index) (omega (arith, c.loop-letter-test.true)) in
    omega (
      arith,
      l.invariant.cost,
      c.letter-found.ensures.cost,
      suc-mul l.letter-index (letter_cost a.seen.tree),
      letters_within a.seen.tree (length a.letters) (suc l.letter-index) few,
    )

pub loop-letter-preserved : goal.loop-letter-preserved
loop-letter-preserved g c =
    let a = c.args.self.now.terms.now in
    let s = c.args.self.now in
    let l = c.loop-letter in
    let k : ℕ = l.letter-index in
    let missing : ℕ = c.within-within.result.missing in
    let ns : List ℕ = c.deref-letter-items.result.now in
    let among : AreLettersIn c.args.dir s.dots.items s.names.items ns =
    subst (AreLettersIn c.args.dir s.dots.items s.names.items) (sym c.deref-letter-items.ensures.value) c.in_ok-letters.ensures in
    let told = λ (over : c.args.over ≡ cover_in a.seen.tree a.process c.args.dir).
    c.within-within.ensures c.args.dir c.requires.living over
    (λ no. s.unveiled c.args.dir (apart_none c.args.dir s.veiled.items (sym c.has_veil_in-veiled.ensures ∙ no))) in
    let bare = λ (over : c.args.over ≡ cover_in a.seen.tree a.process c.args.dir).
    letters_bare a c.args.dir missing s.dots.items s.names.items ns c.requires.living (told over).missing s.told among in
    let at = all_at_index (λ n. n < length a.letters) ns 0 (among.within (length a.letters) s.told.dotted
    s.told.within) k c.loop-letter-test.true in
    let letter : List ℕ = c.index-components-letter.result in
    let is : letter ≡ get_or a.letters (get_or ns k 0) [] =
    letter_read a.letters c.as_slice-components.result.now (get_or ns k 0) letter c.as_slice-components.ensures.letters at
    c.index-components-letter.is in
    let found = c.letter-found.result in
    let exact = λ (covered : AreCovered a.seen.tree a.process c.args.dirs.now)
    (over : c.args.over ≡ cover_in a.seen.tree a.process c.args.dir).
    subst (λ (l : List ℕ). IsLetter (judge_in a) c.args.dir l found.all found.kept found.links found.leads) is
    (c.letter-found.ensures.exact (told over) (l.invariant.covered covered)) in
    record {
      row = λ covered over n low reached.
          row_further (judge_in a) a.letters c.args.dir missing ns (bare over) l.dirs.numbers c.put.new.dirs.numbers l.entries.items
          c.put.new.entries.items k c.loop-letter-test.true among.rise (l.invariant.row covered over)
          (c.in_ok-put.ensures.row (judge_in a) a.letters c.args.dir (exact covered over)) n low
          (subst (λ j. IsReached ns j n) (add-one k) reached);
      grown = grown_further c.args.dirs.now.numbers l.dirs.numbers c.put.new.dirs.numbers l.invariant.grown c.in_ok-put.ensures.grown;
      living = λ living. c.in_ok-put.ensures.living a.seen.tree c.letter-found.ensures.lives (l.invariant.living living);
      covered = λ covered.
          c.in_ok-put.ensures.covered a.seen.tree a.process
          (c.letter-found.ensures.covered (l.invariant.covered covered)) (l.invariant.covered covered);
      tree = c.letter-found.ensures.tree ∙ l.invariant.tree;
      cost = omega (arith, l.invariant.cost, c.letter-found.ensures.cost, suc-mul k (letter_cost a.seen.tree));
    }

pub returns-clause-row : goal.returns-clause-row
returns-clause-row g c = λ covered over.
    let a = c.args.self.now.terms.now in
    let s = c.args.self.now in
    let l = c.loop-letter in
    let ns : List ℕ = c.deref-letter-items.result.now in
    let among : AreLettersIn c.args.dir s.dots.items s.names.items ns =
    subst (AreLettersIn c.args.dir s.dots.items s.names.items) (sym c.deref-letter-items.ensures.value) c.in_ok-letters.ensures in
    let whole : l.letter-index ≡ length ns = omega (arith, c.loop-letter-test.false, l.auto.letter-index-end) in
    let reached = reached_all ns (length a.letters) l.letter-index (among.within (length a.letters) s.told.dotted
    s.told.within) whole in
    subst (λ (m : ℕ). IsJudgedRow (judge_in a) a.letters l.dirs.numbers c.args.dir (length a.letters) m l.entries.items)
    (sym c.bits-missing.ensures.number) (l.invariant.row covered over (length a.letters) (omega arith) reached)

pub returns-clause-cost : goal.returns-clause-cost
returns-clause-cost g c =
    let a = c.args.self.now.terms.now in
    let s = c.args.self.now in
    let l = c.loop-letter in
    let ns : List ℕ = c.deref-letter-items.result.now in
    let among : AreLettersIn c.args.dir s.dots.items s.names.items ns =
    subst (AreLettersIn c.args.dir s.dots.items s.names.items) (sym c.deref-letter-items.ensures.value) c.in_ok-letters.ensures in
    let few = places_few ns (length a.letters) among.rise (among.within (length a.letters) s.told.dotted
    s.told.within) l.letter-index (omega (arith, l.auto.letter-index-end)) in
    omega (arith, l.invariant.cost, letters_within a.seen.tree (length a.letters) l.letter-index few)

pub offset_bounds-components-letter : goal.offset_bounds-components-letter
offset_bounds-components-letter g c =
    let a = c.args.self.now.terms.now in
    let s = c.args.self.now in
    let ns : List ℕ = c.deref-letter-items.result.now in
    let among : AreLettersIn c.args.dir s.dots.items s.names.items ns =
    subst (AreLettersIn c.args.dir s.dots.items s.names.items) (sym c.deref-letter-items.ensures.value) c.in_ok-letters.ensures in
    let at = all_at_index (λ n. n < length a.letters) ns 0 (among.within (length a.letters) s.told.dotted
    s.told.within) c.loop-letter.letter-index c.loop-letter-test.true in
    let h : get_or ns c.loop-letter.letter-index 0 < length c.as_slice-components.result.now =
    subst (λ (ls : List (List ℕ)). get_or ns c.loop-letter.letter-index 0 < length ls) (sym c.as_slice-components.ensures.letters) at in
    search rules
