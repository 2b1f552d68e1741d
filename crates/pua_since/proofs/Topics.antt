-- Each question stays at its place.
use Rattle.pua_since.proofs.Common.{◌≡◌, ℕ, zero, suc, ◌≤◌, List, [], ◌∷◌, ◌++◌, Bool, true, false, Some, refl, sym, ap, subst, ◌∙◌}
use Rattle.pua_since.proofs.Common.{arith, slice_get, if◌then◌else◌, Question, Watch, IsSameTopic, IsKeptThrough}
use Rattle.std.specs.Prelude.{slice_set}
use Rattle.pua_since.specs.Watched.{IsTopicAt}
use Rattle.pua_since.proofs.Keeping.{kept_all}

module _ (watch : Watch) (watches : List Watch) (place process : ℕ) (question : Question) (lines : ℕ) where
  -- one place further
  further : IsTopicAt watches place process question lines → IsTopicAt (watch ∷ watches) (suc place) process question lines
  further topic = record { watch = topic.watch; stands = topic.stands; about = topic.about; asks = topic.asks; wanted = topic.wanted }

  nearer : IsTopicAt (watch ∷ watches) (suc place) process question lines → IsTopicAt watches place process question lines
  nearer topic = record { watch = topic.watch; stands = topic.stands; about = topic.about; asks = topic.asks; wanted = topic.wanted }

-- the first question, written anew
first_same : (old new : Watch) (watches more : List Watch) (process : ℕ) (question : Question) (lines : ℕ) →
    IsSameTopic old new → IsTopicAt (old ∷ watches) 0 process question lines → IsTopicAt (new ∷ more) 0 process question lines
first_same old new watches more process question lines same topic =
    let is : old ≡ topic.watch = found old topic.watch topic.stands in
    record {
      watch = new;
      stands = refl;
      about = same.process ∙ ap (λ watch. watch.process) is ∙ topic.about;
      asks = same.question ∙ ap (λ watch. watch.question) is ∙ topic.asks;
      wanted = omega (arith, same.wanted, topic.wanted, ap (λ watch. watch.last) is);
    }
  where
    found : (x y : Watch) → Some x ≡ Some y → x ≡ y
    found x y e = cc

pub kept_by_set : (watches : List Watch) (i : ℕ) (old new : Watch) → slice_get watches i ≡ Some old → IsSameTopic old new →
    IsKeptThrough watches (slice_set watches i new)
kept_by_set [] i old new here same place process question lines topic = cc
kept_by_set (watch ∷ watches) zero old new here same zero process question lines topic =
    first_same old new watches watches process question lines same
    (subst (λ first. IsTopicAt (first ∷ watches) 0 process question lines) (found watch old here) topic)
  where
    found : (x y : Watch) → Some x ≡ Some y → x ≡ y
    found x y e = cc
kept_by_set (watch ∷ watches) zero old new here same (suc place) process question lines topic =
    further new watches place process question lines (nearer watch watches place process question lines topic)
kept_by_set (watch ∷ watches) (suc i) old new here same zero process question lines topic =
    record { watch = topic.watch; stands = topic.stands; about = topic.about; asks = topic.asks; wanted = topic.wanted }
kept_by_set (watch ∷ watches) (suc i) old new here same (suc place) process question lines topic =
    further watch (slice_set watches i new) place process question lines
    (kept_by_set watches i old new here same place process question lines (nearer watch watches place process question lines topic))

-- a question that is added comes behind the others
pub kept_by_push : (watches : List Watch) (more : Watch) → IsKeptThrough watches (watches ++ more ∷ [])
kept_by_push [] more place process question lines topic = let none = topic.stands in cc
kept_by_push (watch ∷ watches) more zero process question lines topic =
    record { watch = topic.watch; stands = topic.stands; about = topic.about; asks = topic.asks; wanted = topic.wanted }
kept_by_push (watch ∷ watches) more (suc place) process question lines topic =
    further watch (watches ++ more ∷ []) place process question lines
    (kept_by_push watches more place process question lines (nearer watch watches place process question lines topic))

there_by_set : (watches : List Watch) (i : ℕ) (old new : Watch) → slice_get watches i ≡ Some old →
    slice_get (slice_set watches i new) i ≡ Some new
there_by_set [] i old new here = cc
there_by_set (watch ∷ watches) zero old new here = refl
there_by_set (watch ∷ watches) (suc i) old new here = there_by_set watches i old new here

-- the answer to a question is wanted longer
pub topic_by_set : (watches : List Watch) (i : ℕ) (old new : Watch) → slice_get watches i ≡ Some old → IsSameTopic old new →
    (process : ℕ) (question : Question) (before lines : ℕ) → lines ≤ new.last → IsTopicAt watches i process question before →
    IsTopicAt (slice_set watches i new) i process question lines
topic_by_set watches i old new here same process question before lines wanted topic =
    let now = kept_by_set watches i old new here same i process question before topic in
    let is : new ≡ now.watch = found new now.watch (sym (there_by_set watches i old new here) ∙ now.stands) in
    record {
      watch = now.watch;
      stands = now.stands;
      about = now.about;
      asks = now.asks;
      wanted = omega (arith, wanted, ap (λ watch. watch.last) is);
    }
  where
    found : (x y : Watch) → Some x ≡ Some y → x ≡ y
    found x y e = cc

-- a question that is added, if there is room for it
pub kept_by_try : (b : Bool) (watches : List Watch) (more : Watch) (after : List Watch) →
    after ≡ (if b then watches ++ more ∷ [] else watches) → IsKeptThrough watches after
kept_by_try b watches more after is = subst (IsKeptThrough watches) (sym is) (by b)
  where
    by : (b : Bool) → IsKeptThrough watches (if b then watches ++ more ∷ [] else watches)
    by true = kept_by_push watches more
    by false = kept_all watches
