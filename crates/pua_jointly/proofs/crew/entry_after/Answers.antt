use Rattle.pua_jointly.proofs.Common.{◌<◌, ◌∙◌, ap, contained, length, List, Spot, spot_cmp, subst, sym}
use Rattle.std.proofs.Common.{rules}
use Rattle.std.proofs.lemmas.Bool.{ltb-true}
use Rattle.std.proofs.lemmas.Fn.{always_returns_same}
use Rattle.std.specs.List.Sorted.{IsBinarySearchResult, IsSearchInRange}
use Rattle.pua_tree.proofs.ForCallers.{exact_spots}
use Rattle.pua_jointly.specs.JointSetting.{entry_of}
use Rattle.pua_jointly.specs.declared.crew.Entry.{Entry}
use Rattle.pua_jointly.proofs.JointGathered.{at_among}
use Rattle.pua_jointly.proofs.JointSorted.{not_found}
use Rattle.pua_jointly.proofs.crew.entry_after.Goals as goal

pub returns-then-is_at : goal.returns-then-is_at
returns-then-is_at c = λ _.
    let entry : Entry = c.in-Some.entry.now in
    let seen = c.in-Some.ensures.lookup in (
      contained c.args.entries.now entry (at_among c.args.entries.now c.args.next.now entry (ltb-true _ _ (sym seen.0)) seen.1),
      c.is_at.ensures c.if-is_at.true,
    )

pub returns-in_default-binary_search_by : goal.returns-in_default-binary_search_by
returns-in_default-binary_search_by c = λ order entry among here.
    let spot : Spot = (c.args.dir, c.args.name.now) in
    let searched = c.binary_search_by.ensures.position (λ (e : Entry). spot_cmp (entry_of e) spot)
    (always_returns_same _ _ _ (λ a r f g. search rules)) in
    not_found c.args.entries.now spot _ order
    (subst (IsBinarySearchResult (λ (e : Entry). spot_cmp (entry_of e) spot) c.args.entries.now) c.in_default-binary_search_by.is searched) entry among here

pub returns : goal.returns
returns c = λ order.
    let spot : Spot = (c.args.dir, c.args.name.now) in
    let all : List Entry = c.args.entries.now in
    let item : Entry = c.index-entries-place.result in
    let bound : c.in-Ok.place < length all = subst (λ r. IsSearchInRange r (length all)) c.in-Ok.is c.binary_search_by.ensures.bound in
    let searched = subst (IsBinarySearchResult (λ (e : Entry). spot_cmp (entry_of e) spot) all) c.in-Ok.is
    (c.binary_search_by.ensures.position (λ (e : Entry). spot_cmp (entry_of e) spot) (always_returns_same _ _ _ (λ a r f g. search rules))) in (
      contained all item (at_among all c.in-Ok.place item bound c.index-entries-place.is),
      exact_spots (entry_of item) spot (ap (λ (e : Entry). spot_cmp (entry_of e) spot) c.index-entries-place.is ∙ searched item),
    )
