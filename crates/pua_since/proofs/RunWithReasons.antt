-- The lines of a run with reasons, one request after another.
use Rattle.pua_since.proofs.Common.{◌≡◌, ◌+◌, ℕ, suc, List, [], ◌∷◌, ◌++◌, length, flat_map, refl, sym, ap, subst, ◌∙◌, append_assoc}
use Rattle.pua_since.proofs.Common.{append-nil, Option, inl, inr, ◌⊎◌, CallTable, with_end, Asked, World, answers_to, apply, world_after}
use Rattle.pua_since.proofs.Common.{WorldState, apply_to, state_after_all, world_of, Answer, Okay, Failed, Killed, Gone, reason, date_of, reason_since}
use Rattle.pua_since.proofs.Common.{reason_tail, answer_words, ArePlacesOf, AreWatched, IsKeptThrough, Watch, Watches, one_request_more}
use Rattle.std.proofs.Common.{add-one}
use Rattle.std.specs.Prelude.{decimal}
use Rattle.std.proofs.lemmas.List.{length_push}
use Rattle.pua_why.specs.Texts.{answer_why, line_said, why_lines}
use Rattle.std.proofs.lemmas.Grind.{flat_map-append}
use Rattle.pua_since.specs.Dates.{question_line, places_left}
use Rattle.pua_since.proofs.Answered.{okay_is_granted}
use Rattle.pua_since.proofs.Keeping.{kept_all, kept_twice}
use Rattle.pua_since.proofs.Placing.{places_kept}
use Rattle.pua_since.proofs.Replays.{state_more}
use Rattle.pua_since.proofs.Veiled.{request_at}

-- since when the next request has its reason
next_date : (table : CallTable) (w : World) (past left : List Asked) (s : Watches) → AreWatched table w past left s →
    (ask : Asked) (more : List Asked) (answer : Answer) (told : List Answer) (places : List ℕ) →
    answer ≡ (apply table (world_after table w past) ask).0
    → ArePlacesOf s.watches.items (length past) (ask ∷ more) (answer ∷ told) places
    → date_of (reason table (world_after table w past) ask) (question_line s.watches.items answer places) ≡ reason_since table w past ask
    (reason table (world_after table w past) ask)
next_date table w past left s are ask more Okay told places answered at =
    let granted = okay_is_granted table (world_after table w past) ask answered in
    rw granted refl
next_date table w past left s are ask more (Failed errno) told [] answered at = absurd at
next_date table w past left s are ask more Killed told [] answered at = absurd at
next_date table w past left s are ask more Gone told [] answered at = absurd at
next_date table w past left s are ask more (Failed errno) told (place ∷ places) answered at =
    request_at table w past left s are place ask at.0
next_date table w past left s are ask more Killed told (place ∷ places) answered at = request_at table w past left s are place ask at.0
next_date table w past left s are ask more Gone told (place ∷ places) answered at = request_at table w past left s are place ask at.0

-- the places of those behind it
next_places : (watches : List Watch) (n : ℕ) (ask : Asked) (more : List Asked) (answer : Answer) (told : List Answer) (places : List ℕ) →
    ArePlacesOf watches n (ask ∷ more) (answer ∷ told) places → ArePlacesOf watches (suc n) more told (places_left answer places)
next_places watches n ask more Okay told places at = at
next_places watches n ask more (Failed errno) told [] at = absurd at
next_places watches n ask more Killed told [] at = absurd at
next_places watches n ask more Gone told [] at = absurd at
next_places watches n ask more (Failed errno) told (place ∷ places) at = at.1
next_places watches n ask more Killed told (place ∷ places) at = at.1
next_places watches n ask more Gone told (place ∷ places) at = at.1

-- some requests were served and told of, and others are still to be
pub record IsTold (before : WorldState) (kept_before : Watches) (requests : List Asked) (told : List Answer) (places : List ℕ)
    (now : WorldState) (kept_now : Watches) (left : List Asked) (told_left : List Answer) (left_places : List ℕ) (n : ℕ) (text : List ℕ) :
    Type 0 where
  pub past : List Asked
  pub split : requests ≡ past ++ left
  pub count : n ≡ length past
  pub kept : IsKeptThrough kept_before.watches.items kept_now.watches.items
  pub world : now ≡ state_after_all before past
  pub answers : told ≡ answers_to before.table (world_of before) requests →
      told_left ≡ answers_to before.table (world_after before.table (world_of before) past) left
  pub watched : told ≡ answers_to before.table (world_of before) requests →
      AreWatched before.table (world_of before) [] requests kept_before → AreWatched before.table (world_of before) past left kept_now
  pub lines : told ≡ answers_to before.table (world_of before) requests →
      AreWatched before.table (world_of before) [] requests kept_before → ArePlacesOf kept_before.watches.items 0 requests told places
      → (flat_map with_end (why_lines before.table (world_of before) [] 1 requests) ≡ text
      ++ flat_map with_end (why_lines before.table (world_of before) past (suc n) left)) × ArePlacesOf kept_now.watches.items n left
      told_left left_places

-- none yet
pub none_told : (before : WorldState) (kept_before : Watches) (requests : List Asked) (told : List Answer) (places : List ℕ)
    (left : List Asked) (told_left : List Answer) (left_places : List ℕ) (n : ℕ) (text : List ℕ)
    → left ≡ requests → told_left ≡ told → left_places ≡ places → n ≡ 0 → text ≡ [] →
    IsTold before kept_before requests told places before kept_before left told_left left_places n text
none_told before kept_before requests told places left told_left left_places n text same same_told same_places count empty = record {
  past = [];
  split = sym same;
  count = count;
  kept = kept_all kept_before.watches.items;
  world = refl;
  answers = λ answered. same_told ∙ answered ∙ ap (answers_to before.table (world_of before)) (sym same);
  watched = λ answered are. subst (λ asks. AreWatched before.table (world_of before) [] asks kept_before) (sym same) are;
  lines = λ answered are at. (
    sym (λ i. empty i ++ flat_map with_end (why_lines before.table (world_of before) [] (suc (count i)) (same i))),
    subst (λ (X : Type 0). X) (λ i. ArePlacesOf kept_before.watches.items (sym count i) (sym same i) (sym same_told i) (sym same_places i))
        at,
  );
}

-- the line of a request, behind a text
abbrev Tells : WorldState → Asked → Answer → Option ℕ → ℕ → List ℕ → List ℕ → Type 0
Tells s ask answer line number text more = answer ≡ (apply_to s ask).0 →
    more ≡ text ++ flat_map with_end (line_said ask (decimal number ++ 32 ∷ (answer_words s.table (world_of s) ask
    ++ reason_tail s.table (world_of s) ask (date_of (reason s.table (world_of s) ask) line))))

-- what is told and done of one more
pub record IsTurn (now : WorldState) (kept_now : Watches) (next : WorldState) (kept_next : Watches) (ask : Asked) (answer : Answer)
    (line : Option ℕ) (number : ℕ) (text more : List ℕ) : Type 0 where
  pub kept : IsKeptThrough kept_now.watches.items kept_next.watches.items
  pub world : next ≡ (apply_to now ask).1
  pub watched : (s : WorldState) (done left : List Asked) → now ≡ state_after_all s done → answer ≡ (apply_to (state_after_all s done) ask).0 →
      number ≡ length done + 1 → AreWatched s.table (world_of s) done (ask ∷ left) kept_now →
      AreWatched s.table (world_of s) (done ++ ask ∷ []) left kept_next
  pub told : Tells now ask answer line number text more

module _ (before : WorldState) (kept_before : Watches) (requests : List Asked) (told : List Answer) (places : List ℕ) (now : WorldState)
    (kept_now : Watches) (n : ℕ) (text : List ℕ)
    (ask : Asked) (more : List Asked) (answer : Answer) (told_more : List Answer) (left_places : List ℕ)
    (so : IsTold before kept_before requests told places now kept_now (ask ∷ more) (answer ∷ told_more) left_places n text)
    (next : WorldState) (kept_next : Watches) (more_text : List ℕ) (turn : IsTurn now kept_now next kept_next ask answer
    (question_line kept_now.watches.items answer left_places) (n + 1) text more_text) where
  abbrev behind : List Asked
  behind = so.past ++ ask ∷ []

  abbrev w : World
  w = world_of before

  abbrev reached : World
  reached = world_after before.table (world_of before) so.past

  module _ (answered : told ≡ answers_to before.table w requests) where
    first_answer : answer ≡ (apply before.table reached ask).0
    first_answer = let both = so.answers answered in cc

    later_answers : told_more ≡ answers_to before.table (world_after before.table w behind) more
    later_answers =
        let both : told_more ≡ answers_to before.table (apply before.table reached ask).1 more = let all = so.answers answered in cc in
        both ∙ ap (λ v. answers_to before.table v more) (sym (one_request_more before.table w so.past ask))

    turn_lines : AreWatched before.table w [] requests kept_before → ArePlacesOf kept_before.watches.items 0 requests told places
        → (flat_map with_end (why_lines before.table w [] 1 requests) ≡ more_text
        ++ flat_map with_end (why_lines before.table w behind (suc (n + 1)) more)) ×
        ArePlacesOf kept_next.watches.items (n + 1) more told_more (places_left answer left_places)
    turn_lines are at =
        let lines = so.lines answered are at in
        let line : Option ℕ = question_line kept_now.watches.items answer left_places in
        let dated = next_date before.table w so.past (ask ∷ more) kept_now (so.watched answered are) ask more answer told_more
        left_places first_answer
        (subst (λ k. ArePlacesOf kept_now.watches.items k (ask ∷ more) (answer ∷ told_more) left_places) so.count lines.1) in
        let says : Tells (state_after_all before so.past) ask answer line (n + 1) text more_text =
        subst (λ s. Tells s ask answer line (n + 1) text more_text) so.world turn.told in
        let said : ℕ → List ℕ = λ number. flat_map with_end (line_said ask (decimal number ++ 32 ∷ answer_why before.table w so.past ask)) in
        let pushed : more_text ≡ text ++ said (n + 1) =
        says first_answer
        ∙ ap (λ date. text ++ flat_map with_end (line_said ask (decimal (n + 1) ++ 32 ∷ (answer_words before.table reached ask
        ++ reason_tail before.table reached ask date)))) dated in
        let rest : List ℕ = flat_map with_end (why_lines before.table w behind (suc (suc n)) more) in (
          lines.0
              ∙ ap (λ told. text ++ told) (flat_map-append with_end (line_said ask (decimal (suc n) ++ 32 ∷ answer_why before.table w so.past ask))
              (why_lines before.table w behind (suc (suc n)) more))
              ∙ sym (append_assoc text (said (suc n)) rest)
              ∙ sym ((λ i. pushed i ++ flat_map with_end (why_lines before.table w behind (suc (n + 1)) more))
              ∙ (λ i. (text ++ said (add-one n i))
              ++ flat_map with_end (why_lines before.table w behind (suc (add-one n i)) more))),
          subst (λ k. ArePlacesOf kept_next.watches.items k more told_more (places_left answer left_places)) (sym (add-one n))
              (places_kept kept_now.watches.items kept_next.watches.items turn.kept (suc n) more told_more (places_left answer left_places)
              (next_places kept_now.watches.items n ask more answer told_more left_places lines.1)),
        )

  one_more : IsTold before kept_before requests told places next kept_next more told_more (places_left answer left_places) (n + 1) more_text
  one_more = record {
    past = behind;
    split = so.split ∙ sym (append_assoc so.past (ask ∷ []) more);
    count = ap (λ k. k + 1) so.count ∙ sym (length_push so.past ask);
    kept = kept_twice kept_before.watches.items kept_now.watches.items kept_next.watches.items so.kept turn.kept;
    world = turn.world ∙ ap (λ v. (apply_to v ask).1) so.world ∙ state_more before so.past ask;
    answers = later_answers;
    watched = λ answered are. turn.watched before so.past more so.world (first_answer answered) (ap (λ k. k + 1) so.count)
        (so.watched answered are);
    lines = turn_lines;
  }

-- one more, by what its iteration finds
pub turned : (before : WorldState) (kept_before : Watches) (requests : List Asked) (told : List Answer) (places : List ℕ) (now : WorldState)
    (kept_now : Watches) (left : List Asked) (told_left : List Answer) (left_places : List ℕ) (n : ℕ) (text : List ℕ)
    (ask : Asked) (more : List Asked) (answer : Answer) (told_more : List Answer) (more_places : List ℕ) (m : ℕ) (line : Option ℕ)
    (next : WorldState) (kept_next : Watches) (more_text : List ℕ)
    → IsTold before kept_before requests told places now kept_now left told_left left_places n text → left ≡ ask ∷ more →
    told_left ≡ answer ∷ told_more → m ≡ n + 1 → line ≡ question_line kept_now.watches.items answer left_places →
    more_places ≡ places_left answer left_places
    → IsTurn now kept_now next kept_next ask answer line (n + 1) text more_text →
    IsTold before kept_before requests told places next kept_next more told_more more_places m more_text
turned before kept_before requests told places now kept_now left told_left left_places n text ask more answer told_more more_places m line
    next kept_next more_text so asked answered count by_line by_places turn =
    subst (λ (X : Type 0). X) (λ i. IsTold before kept_before requests told places next kept_next more told_more (sym by_places i)
    (sym count i) more_text)
    (one_more before kept_before requests told places now kept_now n text ask more answer told_more left_places
    (subst (λ (X : Type 0). X) (λ i. IsTold before kept_before requests told places now kept_now (asked i) (answered i) left_places n text)
    so) next kept_next more_text
    (subst (λ l. IsTurn now kept_now next kept_next ask answer l (n + 1) text more_text) by_line turn))

-- all were told of
pub all_told : (before : WorldState) (kept_before : Watches) (requests : List Asked) (told : List Answer) (places : List ℕ)
    (now : WorldState) (kept_now : Watches) (left : List Asked) (told_left : List Answer) (left_places : List ℕ) (n : ℕ) (text : List ℕ)
    → IsTold before kept_before requests told places now kept_now left told_left left_places n text → (left ≡ []) ⊎ (told_left ≡ []) →
    told ≡ answers_to before.table (world_of before) requests → left ≡ []
all_told before kept_before requests told places now kept_now [] told_left left_places n text so empty answered = refl
all_told before kept_before requests told places now kept_now (ask ∷ more) told_left left_places n text so (inl empty) answered =
    cc
all_told before kept_before requests told places now kept_now (ask ∷ more) told_left left_places n text so (inr empty) answered =
    let all = so.answers answered in cc

pub past_all : (before : WorldState) (kept_before : Watches) (requests : List Asked) (told : List Answer) (places : List ℕ)
    (now : WorldState) (kept_now : Watches) (left : List Asked) (told_left : List Answer) (left_places : List ℕ) (n : ℕ) (text : List ℕ)
    → (so : IsTold before kept_before requests told places now kept_now left told_left left_places n text) → left ≡ [] → so.past ≡ requests
past_all before kept_before requests told places now kept_now left told_left left_places n text so none =
    sym (so.split ∙ ap (λ more. so.past ++ more) none ∙ append-nil so.past)
