use Rattle.pua_objects.proofs.Common.{◌∷◌, [], List, ℕ, Bor, map, ap, subst, ◌∙◌, arith, reverse, spot_now, AreSpots}
use Rattle.std.proofs.lemmas.List.{nil_from_length, reverse-append}
use Rattle.pua_objects.specs.Listing.{IsListing}
use Rattle.pua_tree.specs.LentRows.{lent_entry}
use Rattle.pua_objects.proofs.ListGrows.{listed_all, listed_short, one_shorter}
use Rattle.pua_objects.proofs.list.list_items.Goals as goal

pub loop-inner-init : goal.loop-inner-init
loop-inner-init g c =
    let t = g.T.FileTree.content c.args.tree.now in
    record {
      listing = c.in_ok-enter_root.ensures c.new-entered.ensures.items c.in_ok-items.ensures.items t (map spot_now c.in_ok-spots.spots.items)
          c.known.ensures (c.in_ok-spots.ensures.spots t c.known.ensures (ap (map lent_entry) c.as_slice.ensures.value ∙ c.in_ok-standing.ensures.rows));
    }

pub loop-inner-preserved : goal.loop-inner-preserved
loop-inner-preserved g c =
    let t = g.T.FileTree.content c.args.tree.now in
    let p = c.args.process.now in
    let inner = c.in-Some.inner in
    let around = c.pop.new.self.items in
    let so_far = c.loop-inner.items.items in
    let Goes : List (ℕ × Bor (List ℕ)) → Type 0 = λ lent. AreSpots t p.veils (map spot_now lent) →
    IsListing t p (map spot_now lent) (inner ∷ reverse around) so_far →
    IsListing t p (map spot_now lent) (reverse c.go_on.new.entered.items) c.go_on.new.items.items in
    record {
      listing = subst Goes c.deref.ensures.value (c.in_ok-go_on.ensures.listing c.in_ok-standing.ensures)
          (c.in_ok-spots.ensures.spots t c.known.ensures (ap (map lent_entry) c.as_slice.ensures.value ∙ c.in_ok-standing.ensures.rows))
          (subst (λ es. IsListing t p (map spot_now c.in_ok-spots.spots.items) es so_far)
          (ap reverse c.in-Some.ensures.items ∙ reverse-append around (inner ∷ [])) c.loop-inner.invariant.listing);
    }

pub loop-inner-smaller : goal.loop-inner-smaller
loop-inner-smaller g c = omega (
  arith,
  c.in_ok-go_on.ensures.grown,
  c.in_ok-go_on.ensures.longer,
  one_shorter c.loop-inner.entered.items c.pop.new.self.items c.in-Some.inner c.in-Some.ensures.items,
  listed_short (g.T.FileTree.content c.args.tree.now) c.args.process.now (map spot_now c.in_ok-spots.spots.items) c.go_on.new.items.items
      (reverse c.go_on.new.entered.items) (loop-inner-preserved g c).listing,
)

pub returns-clause-items : goal.returns-clause-items
returns-clause-items g c =
    let t = g.T.FileTree.content c.args.tree.now in
    let p = c.args.process.now in
    let all = map spot_now c.in_ok-spots.spots.items in
    listed_all t p all c.loop-inner.items.items (subst (λ es. IsListing t p all es c.loop-inner.items.items)
    (ap reverse (nil_from_length c.loop-inner.entered.items (omega (arith, c.in_default.ensures.cases)))) c.loop-inner.invariant.listing)

pub returns-clause-told : goal.returns-clause-told
returns-clause-told g c = c.loop-inner.invariant.listing.told

pub returns-clause-near : goal.returns-clause-near
returns-clause-near g c = c.loop-inner.invariant.listing.near
