use Rattle.pua_audit.proofs.Common.{◌≡◌, ◌<◌, ◌≤◌, ◌+◌, ◌*◌, List, ℕ, [], length, get_or, refl, sym, ap, ◌∙◌, arith, subst}
use Rattle.pua_audit.proofs.Moves.{letter_read}
use Rattle.std.proofs.lemmas.Result.{IfOk-at_ok}
use Rattle.pua_audit.proofs.Coming.{along_push, along_room, at_place, is_line, kept_ready, pairs_none, pairs_more, unfailed}
use Rattle.pua_steps.specs.declared.walk.Walk.{Walk}
use Rattle.pua_audit.proofs.pairs.Pairs.next_call.Goals as goal

pub returns-in_err-call-clause-ready : goal.returns-in_err-call-clause-ready
returns-in_err-call-clause-ready c =
    let a = c.args.self.now in
    let w = c.next_call-next.new.self in
    let got = c.next_call-next.ensures in
    kept_ready a c.requires.ready w got.same got.ready got.unchanged c.keep.new.self c.unchanged.result c.unchanged.ensures
    (pairs_none a c.requires.ready w got.same got.ready got.unchanged c.in_err-call.ensures.line.1)
    c.keep.ensures.path c.keep.ensures.few c.keep.ensures.bytes c.keep.ensures.starts

pub loop-self-init : goal.loop-self-init
loop-self-init c =
    let a = c.args.self.now in
    let w = c.next_call-next.new.self in
    let got = c.next_call-next.ensures in
    let more = pairs_more a c.requires.ready w got.same got.ready got.unchanged c.in_ok-call.call c.in_ok-call.ensures.line in
    record {
      terms = refl;
      walk = refl;
      live = refl;
      ready = kept_ready a c.requires.ready w got.same got.ready got.unchanged c.keep.new.self c.unchanged.result c.unchanged.ensures more.1
          c.keep.ensures.path c.keep.ensures.few c.keep.ensures.bytes c.keep.ensures.starts;
      known = more.0.word;
    }

pub unwrap-requires : goal.unwrap-requires
unwrap-requires c =
    let a = c.loop-self.self in
    let inv = c.loop-self.invariant in
    let word : List ℕ = a.walk.word.items in
    let k : ℕ = c.len-in-loop-self.result in
    let i : ℕ = get_or c.word-in-loop-self.result.now k 0 in
    let low : length a.path.starts.items < length word = omega (arith, c.loop-self-test.true, c.len.ensures, ap length c.word.ensures) in
    let here : i < length a.terms.letters =
    at_place a.terms.letters word c.word-in-loop-self.result.now k inv.known c.word-in-loop-self.ensures
    (omega (arith, low, c.len-in-loop-self.ensures)) in
    let part : get_or a.terms.letters i [] ≡ c.index-letters-letter.result =
    sym (letter_read a.terms.letters c.as_slice-letters.result.now i c.index-letters-letter.result c.as_slice-letters.ensures.letters here
    c.index-letters-letter.is) in
    let room = along_room a inv.ready i inv.known low here in
    unfailed c.add.result c.add.ensures.full (λ full. omega (
      arith,
      full (omega (arith, low, inv.ready.walk.within, inv.ready.limit, inv.ready.starts)),
      room,
      ap length part,
    ))

pub loop-self-smaller : goal.loop-self-smaller
loop-self-smaller c =
    let more = IfOk-at_ok _ c.unwrap.ensures c.add.ensures.more in
    omega (arith, c.loop-self-test.true, c.len.ensures, ap length c.word.ensures, more)

pub loop-self-preserved : goal.loop-self-preserved
loop-self-preserved c =
    let a = c.loop-self.self in
    let inv = c.loop-self.invariant in
    let word : List ℕ = a.walk.word.items in
    let k : ℕ = c.len-in-loop-self.result in
    let i : ℕ = get_or c.word-in-loop-self.result.now k 0 in
    let low : length a.path.starts.items < length word = omega (arith, c.loop-self-test.true, c.len.ensures, ap length c.word.ensures) in
    let many : k ≡ length a.path.starts.items = omega (arith, c.len-in-loop-self.ensures) in
    let same : i ≡ get_or word (length a.path.starts.items) 0 = ap (λ (v : List ℕ). get_or v k 0) c.word-in-loop-self.ensures ∙
    ap (λ n. get_or word n 0) many in
    let here : i < length a.terms.letters =
    at_place a.terms.letters word c.word-in-loop-self.result.now k inv.known c.word-in-loop-self.ensures
    (omega (arith, low, c.len-in-loop-self.ensures)) in
    let part : get_or a.terms.letters (get_or word (length a.path.starts.items) 0) [] ≡ c.index-letters-letter.result =
    ap (λ n. get_or a.terms.letters n []) (sym same) ∙
    sym (letter_read a.terms.letters c.as_slice-letters.result.now i c.index-letters-letter.result c.as_slice-letters.ensures.letters here
    c.index-letters-letter.is) in
    let more = IfOk-at_ok _ c.unwrap.ensures c.add.ensures.more in
    record {
      terms = inv.terms;
      walk = inv.walk;
      live = inv.live;
      ready = record {
        sound = inv.ready.sound;
        walk = inv.ready.walk;
        limit = inv.ready.limit;
        letters = inv.ready.letters;
        pairs = inv.ready.pairs;
        path = along_push a.terms.letters word a.path c.add.new.self c.index-letters-letter.result inv.ready.path low part
            (IfOk-at_ok _ c.unwrap.ensures c.add.ensures.path) more;
        bytes = omega (arith, inv.ready.bytes, c.add.ensures.bytes);
        starts = omega (arith, inv.ready.starts, c.add.ensures.starts);
      };
      known = inv.known;
    }

pub returns-clause-ready : goal.returns-clause-ready
returns-clause-ready c = c.loop-self.invariant.ready

pub returns-clause-terms : goal.returns-clause-terms
returns-clause-terms c = c.loop-self.invariant.terms

pub returns-clause-live : goal.returns-clause-live
returns-clause-live c = c.loop-self.invariant.live

pub returns-clause-next : goal.returns-clause-next
returns-clause-next c =
    let got = c.next_call-next.ensures in
    let b = c.loop-self.self in
    let inv = c.loop-self.invariant in
    is_line c.args.self.now c.requires.ready c.next_call-next.new.self got.same got.ready got.unchanged c.in_ok-call.call
    c.in_ok-call.ensures.line b inv.terms inv.walk inv.ready inv.known
    (omega (arith, c.loop-self-test.false, c.len.ensures, ap length c.word.ensures))
    c.call_at.result c.call_at.ensures

pub returns-clause-reads : goal.returns-clause-reads
returns-clause-reads c =
    let a = c.args.self.now in
    let few = c.next_call-next.ensures.cost in
    subst (λ (w : Walk). w.tables.counted.reads ≤ a.walk.tables.counted.reads + 2 * (a.terms.limit * length a.terms.letters))
    (sym c.loop-self.invariant.walk)
    (subst (λ n. c.next_call-next.new.self.tables.counted.reads ≤ a.walk.tables.counted.reads + 2 * (n * length a.terms.letters))
    c.requires.ready.limit
    (subst (λ n. c.next_call-next.new.self.tables.counted.reads ≤ a.walk.tables.counted.reads + 2 * (a.walk.limit * n)) c.requires.ready.letters few))
