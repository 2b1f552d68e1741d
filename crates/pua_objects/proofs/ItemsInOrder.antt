-- The list of objects taken one after another.
use Rattle.pua_objects.proofs.Common.{◌≡◌, ◌≢◌, ◌<◌, ℕ, zero, suc, ◌-◌, List, [], ◌∷◌, ◌++◌, length, Bool, true, false, refl, sym, ap, ◌∙◌}
use Rattle.pua_objects.proofs.Common.{arith, subst, append-nil, Option, Some, None, flat_map, Tree, WellFormed, look, is_dir, Sound}
use Rattle.pua_objects.proofs.Common.{sound_from, row_says, climb_ends, Named, Top, Whole, Slot, Place, Word, Item, At, items_at}
use Rattle.pua_objects.proofs.Common.{items_below, items, items_to_come, others_item, IsBelow}
use Rattle.std.proofs.Common.{append_assoc}
use Rattle.pua_tree.specs.Tree.{above}
use Rattle.pua_tree.proofs.ForCallers.{Reaches, above_is}
use Rattle.pua_objects.specs.Walk.{Frame, items_in, frame_of, IsDeepEnough, StepsOfWalk, WalksObjects}

pub reaches : (t : Tree) (k d : ℕ) → IsBelow t k d → Reaches t k d
reaches t zero d e = e
reaches t (suc k) d e = (e.0, reaches t k (above t d) e.1)

module _ (t : Tree) (fits : WellFormed t) (sound : Sound t) (vs : List (Place × ℕ)) where
  abbrev item_list : ℕ → ℕ → Word → List ℕ → Option ℕ → List Item
  item_list depth dir word name o = items_at t (items_below depth t vs) dir word name o

  -- the first entry of a frame, whatever stands there
  first_entry : (f : Frame) (fs : List Frame) (name : List ℕ) (names : List (List ℕ)) (o : Option ℕ) → f.names ≡ name ∷ names →
      look t f.dir name ≡ o →
      items_to_come t vs (f ∷ fs) ≡ item_list f.depth f.dir f.word name o ++ items_to_come t vs (record f { names = names } ∷ fs)
  first_entry f fs name names o are is =
      let g : List ℕ → List Item = λ n. item_list f.depth f.dir f.word n (look t f.dir n) in
      ap (λ ns. flat_map g ns ++ items_to_come t vs fs) are
      ∙ append_assoc (g name) (flat_map g names) (items_to_come t vs fs)
      ∙ ap (λ p. item_list f.depth f.dir f.word name p ++ (flat_map g names ++ items_to_come t vs fs)) is

  plain_entry : (depth dir : ℕ) (word : Word) (name : List ℕ) (x : ℕ) (b : Bool) → is_dir t x ≡ b → b ≡ false →
      item_list depth dir word name (Some x) ≡ record { word = word ++ name ∷ []; subject = At (Slot dir name (Some x)) } ∷ []
  plain_entry depth dir word name x b is no_dir = rw (is ∙ no_dir) refl

  dir_entry : (depth dir : ℕ) (word : Word) (name : List ℕ) (x : ℕ) → is_dir t x ≡ true → item_list (suc depth) dir word name (Some x) ≡
      record { word = word ++ name ∷ []; subject = At (Whole x (Named dir name)) } ∷ others_item (word ++ name ∷ []) x
      ∷ items_in t vs (frame_of t vs depth x (word ++ name ∷ []))
  dir_entry depth dir word name x is = rw is refl

  inner_fits : (f : Frame) (name : List ℕ) (x : ℕ) → IsDeepEnough t f → look t f.dir name ≡ Some x → is_dir t x ≡ true →
      (f.depth ≡ suc (f.depth - 1)) × IsDeepEnough t (frame_of t vs (f.depth - 1) x (f.word ++ name ∷ []))
  inner_fits f name x deep row living =
      let other : x ≢ 0 = (row_says t sound (f.dir, name) x row).3 in
      let over : above t x ≡ f.dir = above_is t x (f.dir, name) other (sound.once x living other) row in
      let P : ℕ → Type 0 = λ d. IsBelow t deep.steps d in
      let up : IsBelow t (suc deep.steps) x = (other, subst P (sym over) deep.reaches) in
      let few : suc deep.steps < length t.nodes = climb_ends t sound x living (suc deep.steps) (reaches t (suc deep.steps) x up) in
      let more : f.depth ≡ suc (f.depth - 1) = omega (arith, few, deep.deep) in
      (more, record { living = living; steps = suc deep.steps; reaches = up; deep = omega (arith, few, deep.deep) })

  walk_steps : StepsOfWalk t vs
  walk_steps = record {
    begins = begun;
    first_fits = record { living = fits.root; steps = 0; reaches = refl; deep = omega (arith, some) };
    leaves = λ f fs none. ap (λ ns. flat_map (λ n. item_list f.depth f.dir f.word n (look t f.dir n)) ns ++ items_to_come t vs fs) none;
    missing = λ f fs name names are row. first_entry f fs name names None are row;
    plain = λ f fs name names x are row other. first_entry f fs name names (Some x) are row ∙
        ap (λ items. items ++ items_to_come t vs (record f { names = names } ∷ fs)) (plain_entry f.depth f.dir f.word name x (is_dir t x)
        refl other);
    enters = λ f fs name names x deep are row living.
        let inner = inner_fits f name x deep row living in (
          inner.1,
          first_entry f fs name names (Some x) are row
              ∙ ap (λ d. item_list d f.dir f.word name (Some x) ++ items_to_come t vs (record f { names = names } ∷ fs)) inner.0
              ∙ ap (λ items. items ++ items_to_come t vs (record f { names = names } ∷ fs))
              (dir_entry (f.depth - 1) f.dir f.word name x living),
        );
  }
    where
      some : 0 < length t.nodes
      some = climb_ends t sound 0 fits.root 0 refl

      begun : items t vs ≡ record { word = []; subject = At (Whole 0 Top) } ∷ others_item [] 0
          ∷ items_to_come t vs (frame_of t vs (length t.nodes - 1) 0 [] ∷ [])
      begun =
          let deep : length t.nodes ≡ suc (length t.nodes - 1) = omega (arith, some) in
          ap (λ d. items_below d t vs 0 Top []) deep
          ∙ ap (λ items. record { word = []; subject = At (Whole 0 Top) } ∷ others_item [] 0 ∷ items)
          (sym (append-nil (items_in t vs (frame_of t vs (length t.nodes - 1) 0 []))))

pub walks_objects : WalksObjects
walks_objects t vs fits = walk_steps t fits (sound_from t fits) vs
