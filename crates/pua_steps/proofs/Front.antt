-- The letters at the front of a word that stay.
use Rattle.pua_steps.proofs.Common.{ℕ, ◌≤◌, ◌≡◌, List, [], ◌∷◌, ◌++◌, refl, ap, arith, sym, ◌∙◌, length, length-append, append_assoc, take}
use Rattle.pua_steps.proofs.Common.{Option, option_to_list, IsLonger}
use Rattle.std.proofs.lemmas.List.{take-append-le, take-take}
use Rattle.pua_steps.specs.Ready.{StaysFront}
use Rattle.pua_steps.proofs.WalkLists.{longer_length}

pub front_none : (n : ℕ) (word : List ℕ) → n ≤ length word → StaysFront n word n word
front_none n word h = record { less = omega arith; front = record { before = h; after = h; same = refl } }

pub front_more : (k m n : ℕ) (a b c : List ℕ) → StaysFront k a m b → StaysFront m b n c → StaysFront k a n c
front_more k m n a b c first more = record {
  less = omega (arith, first.less, more.less);
  front = record {
    before = omega (arith, more.less, first.front.before);
    after = more.front.after;
    same = more.front.same ∙ sym (take-take n m b more.less) ∙ ap (take n) first.front.same ∙ take-take n m a more.less;
  };
}

-- a word that lost its last letter
pub longer_popped : (front word whole : List ℕ) (last : Option ℕ) → word ≡ front ++ option_to_list last → IsLonger ℕ word whole →
    IsLonger ℕ front whole
longer_popped front word whole last split longer =
    record {
      more = option_to_list last ++ longer.more;
      parts = longer.parts ∙ ap (λ ws. ws ++ longer.more) split ∙
          append_assoc front (option_to_list last) longer.more;
    }

-- a word that lost letters and got others
pub front_by : (k n : ℕ) (old word more new : List ℕ) → IsLonger ℕ word old → new ≡ word ++ more → n ≤ length word → n ≤ k →
    StaysFront k old n new
front_by k n old word more new longer e within less = record {
  less = less;
  front = record {
    before = omega (arith, within, longer_length word old longer);
    after = omega (arith, within, ap length e, length-append word more);
    same = ap (take n) e ∙ take-append-le n word more within ∙ sym (take-append-le n word longer.more within) ∙
        ap (take n) (sym longer.parts);
  };
}

-- the same where letters were lost before
pub front_fewer : (k n : ℕ) (old word new : List ℕ) → IsLonger ℕ word old → StaysFront k word n new → StaysFront k old n new
front_fewer k n old word new longer stays = record {
  less = stays.less;
  front = record {
    before = omega (arith, stays.front.before, longer_length word old longer);
    after = stays.front.after;
    same = stays.front.same ∙ sym (take-append-le n word longer.more stays.front.before) ∙ ap (take n) (sym longer.parts);
  };
}

pub front_gone : (k n : ℕ) (old new : List ℕ) → n ≡ 0 → StaysFront k old n new
front_gone k n old new e = record {
  less = omega (arith, e);
  front = record {
    before = omega (arith, e);
    after = omega (arith, e);
    same = ap (λ i. take i new) e ∙ nothing new ∙ sym (nothing old) ∙
        ap (λ i. take i old) (sym e);
  };
}
  where
    nothing : (xs : List ℕ) → take 0 xs ≡ []
    nothing [] = refl
    nothing (x ∷ xs) = refl
