-- Processes that are asked for together, one after another.
use Rattle.pua_tool.proofs.Common.{◌≡◌, ℕ, List, [], ◌∷◌, ◌++◌, ◌∙◌, refl, sym, ap, Option, Some, None, Result, Ok, Err, ◌>>=◌}
use Rattle.pua_tool.proofs.Common.{CallTable, ProcessState, World, kept_at, ToolFault}
use Rattle.std.proofs.Common.{◌+◌, ◌<◌, ◌≤◌, Bool, true, false, cond, not, drop, get_or, length, append_assoc, append-nil}
use Rattle.std.proofs.Math.ListN.{drop_of_length-le}
use Rattle.std.proofs.lemmas.List.{drop_more, map-append}
use Rattle.std.specs.Prelude.{ok_or}
use Rattle.pua_policy.specs.States.{is_ended}
use Rattle.pua_ever.specs.Refusals.{refusal}
use Rattle.pua_ever.specs.declared.refusal.EverRefusal.{EverRefusal}
use Rattle.pua_texts.specs.Members.{named_by}
use Rattle.pua_texts.specs.TogetherLines.{living}
use Rattle.pua_texts.specs.declared.members.Member.{Member}
use Rattle.pua_tool.specs.EverTexts.{ever_fault}
use Rattle.pua_tool.specs.TogetherTexts.{all_made, first_other, first_refused, refused_or, same_veils}
use Rattle.pua_tool.specs.declared.fault.ToolFault.TheVariants.{NoProcess}

-- the processes so far, and those of the numbers that are still to come
abbrev pub made_behind : World → List Member → List ℕ → Result (List (ℕ × ProcessState)) ToolFault
made_behind w members left = all_made w left >>= λ rest. Ok (named_by members ++ rest)

pub made_begin : (w : World) (numbers : List ℕ) → made_behind w [] numbers ≡ all_made w numbers
made_begin w numbers = by (all_made w numbers)
  where
    by : (r : Result (List (ℕ × ProcessState)) ToolFault) → (r >>= λ rest. Ok rest) ≡ r
    by (Ok rest) = refl
    by (Err fault) = refl

module _ (w : World) (numbers : List ℕ) (i d : ℕ) (within : i < length numbers) (members : List Member) where
  abbrev number : ℕ
  number = get_or numbers i d

  abbrev left : List ℕ
  left = drop (i + 1) numbers

  -- what comes of the next one
  abbrev by_next : Option ProcessState → Result (List (ℕ × ProcessState)) ToolFault
  by_next made = ok_or made NoProcess >>= λ h. all_made w left >>= λ rest. Ok ((number, h) ∷ rest)

  at_next : (made : Option ProcessState) → made ≡ kept_at w number →
      (by_next made >>= λ rest. Ok (named_by members ++ rest)) ≡ made_behind w members (drop i numbers)
  at_next made is =
      ap (λ made. by_next made >>= λ rest. Ok (named_by members ++ rest)) is
      ∙ ap (made_behind w members) (sym (drop_more numbers i d within))

  pub made_next : (member : Member) (new : List Member) → new ≡ members ++ member ∷ [] → Some member.process.now ≡ kept_at w number →
      member.number ≡ number → made_behind w new left ≡ made_behind w members (drop i numbers)
  made_next member new added is numbered =
      ap (λ members. made_behind w members left) added
      ∙ one_more (all_made w left)
      ∙ ap (λ n. all_made w left >>= λ rest. Ok (named_by members ++ (n, member.process.now) ∷ rest)) numbered
      ∙ sym (again (all_made w left))
      ∙ at_next (Some member.process.now) is
    where
      one_more : (r : Result (List (ℕ × ProcessState)) ToolFault) → (r >>= λ rest. Ok (named_by (members ++ member ∷ []) ++ rest))
          ≡ (r >>= λ rest. Ok (named_by members ++ (member.number, member.process.now) ∷ rest))
      one_more (Ok rest) = ap (λ named. Ok (named ++ rest)) (map-append (λ (m : Member). (m.number, m.process.now)) members (member ∷ [])) ∙
          ap Ok (append_assoc (named_by members) ((member.number, member.process.now) ∷ []) rest)
      one_more (Err fault) = refl

      again : (r : Result (List (ℕ × ProcessState)) ToolFault) →
          ((r >>= λ rest. Ok ((number, member.process.now) ∷ rest)) >>= λ rest. Ok (named_by members ++ rest))
          ≡ (r >>= λ rest. Ok (named_by members ++ (number, member.process.now) ∷ rest))
      again (Ok rest) = refl
      again (Err fault) = refl

  pub made_none : None ≡ kept_at w number → Err NoProcess ≡ made_behind w members (drop i numbers)
  made_none is = at_next None is

pub made_done : (w : World) (numbers : List ℕ) (i : ℕ) (members : List Member) → length numbers ≤ i →
    made_behind w members (drop i numbers) ≡ Ok (named_by members)
made_done w numbers i members past =
    ap (made_behind w members) (drop_of_length-le numbers past) ∙ ap Ok (append-nil (named_by members))

module _ (members : List Member) (member : Member) (i : ℕ) (within : i < length members) (is : member ≡ get_or members i member) where
  abbrev more : List Member
  more = drop (i + 1) members

  next : member ∷ more ≡ drop i members
  next = ap (λ m. m ∷ more) is ∙ sym (drop_more members i member within)

  -- those of which there is a list so far are left out
  module _ (table : CallTable) where
    pub refused_next : None ≡ refusal table member.process.now → first_refused table (named_by more) ≡ first_refused table (named_by (drop i members))
    refused_next none = ap (λ why. refused_or member.number why (first_refused table (named_by more))) none
        ∙ ap (λ ms. first_refused table (named_by ms)) next

    pub refused_here : (reason : EverRefusal) → Some reason ≡ refusal table member.process.now →
        Some (ever_fault member.number reason) ≡ first_refused table (named_by (drop i members))
    refused_here reason some = ap (λ why. refused_or member.number why (first_refused table (named_by more))) some
        ∙ ap (λ ms. first_refused table (named_by ms)) next

  -- those that live so far, and those still to come
  live_next : (b : Bool) → b ≡ is_ended member.process.now →
      cond (not b) ((member.number, member.process.now) ∷ living (named_by more)) (living (named_by more)) ≡ living (named_by (drop i members))
  live_next b ended = ap (λ b. cond (not b) ((member.number, member.process.now) ∷ living (named_by more)) (living (named_by more))) ended
      ∙ ap (λ ms. living (named_by ms)) next

  pub ended_next : true ≡ is_ended member.process.now → living (named_by more) ≡ living (named_by (drop i members))
  ended_next = live_next true

  pub living_next : (found new : List Member) → new ≡ found ++ member ∷ [] → false ≡ is_ended member.process.now →
      named_by new ++ living (named_by more) ≡ named_by found ++ living (named_by (drop i members))
  living_next found new added lives =
      ap (λ found. named_by found ++ living (named_by more)) added
      ∙ ap (λ named. named ++ living (named_by more)) (map-append (λ (m : Member). (m.number, m.process.now)) found (member ∷ []))
      ∙ append_assoc (named_by found) ((member.number, member.process.now) ∷ []) (living (named_by more))
      ∙ ap (λ named. named_by found ++ named) (live_next false lives)

  -- those with the same veils so far are left out
  module _ (g : ProcessState) where
    other_next : (b : Bool) → b ≡ same_veils g member.process.now →
        cond b (first_other g (named_by more)) (Some member.number) ≡ first_other g (named_by (drop i members))
    other_next b alike = ap (λ b. cond b (first_other g (named_by more)) (Some member.number)) alike
        ∙ ap (λ ms. first_other g (named_by ms)) next

    pub alike_next : true ≡ same_veils g member.process.now → first_other g (named_by more) ≡ first_other g (named_by (drop i members))
    alike_next = other_next true

    pub other_here : false ≡ same_veils g member.process.now → Some member.number ≡ first_other g (named_by (drop i members))
    other_here = other_next false
