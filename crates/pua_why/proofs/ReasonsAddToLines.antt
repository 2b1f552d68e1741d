-- With reasons each line is the line without them, and more.
use Rattle.pua_why.proofs.Common.{◌≡◌, ℕ, suc, List, [], ◌∷◌, ◌++◌, Some, None, refl, sym, ap, ◌∙◌, append_assoc, append-nil, Option, subst, decimal}
use Rattle.pua_why.proofs.Common.{CallTable, World, Tree, Bool, true, false, if◌then◌else◌}
use Rattle.pua_policy.specs.declared.answer.Refusal.{Refusal}
use Rattle.pua_policy.specs.declared.answer.Refusal.TheVariants as refusal
use Rattle.pua_script.specs.AnswerTexts.{answer_text}
use Rattle.pua_script.specs.Requests.{Asked, says_nothing}
use Rattle.pua_script.specs.Replay.{apply, world_after}
use Rattle.pua_why.specs.Openings.{ToldAnswer, if_okay, opener, opener_text, told_answer, told_text, told_to}
use Rattle.pua_why.specs.Reasons.{Reason, NeverMade, Ended, Refused, Granted, reason, answer_of, fault_refusal, refusal_answer}
use Rattle.pua_why.specs.Texts.{answer_why, date_of, reason_text, since_text, spaced_words, why_lines}
use Rattle.pua_why.specs.Since.{since}
use Rattle.pua_why.specs.Texts.{has_key}
use Rattle.pua_why.specs.Keys.{reason_key}
use Rattle.pua_why.specs.Laws.{IsTail, TellMore, WhyLinesTellMore}
use Rattle.pua_why.proofs.Decisions.{reasons_give_answers}
use Rattle.pua_script.proofs.ForCallers.{one_request_more}

-- an answer as it is told without reasons, and what is told behind it
abbrev Tells : ToldAnswer → List ℕ → Type 0
Tells told text = (tail : List ℕ) × (text ≡ told_text told ++ tail) × IsTail tail

tail_behind : (words : List ℕ) (line : Option ℕ) → IsTail (spaced_words words ++ since_text line)
tail_behind [] None = tt
tail_behind [] (Some line) = refl
tail_behind (b ∷ more) line = refl

-- an answer with its words and its date, and what opened it
abbrev Words : Tree → Reason → Option ℕ → List ℕ → List ℕ
Words t r line opened = (answer_text (answer_of r) ++ spaced_words (reason_text t r)) ++ (since_text (date_of r line) ++ opened)

nothing_opened : (a w s : List ℕ) → (a ++ w) ++ (s ++ []) ≡ (a ++ []) ++ (w ++ s)
nothing_opened a w s =
    append_assoc a w (s ++ []) ∙ ap (λ (left : List ℕ). a ++ (w ++ left)) (append-nil s) ∙ ap (λ (left : List ℕ). left ++ (w ++ s)) (sym (append-nil a))

module _ (t : Tree) (line : Option ℕ) (promise : Option (List ℕ)) where
  -- what was not done was not opened
  undone : (r : Reason) → if_okay (answer_of r) promise ≡ None →
      Tells (record { answer = answer_of r; opener = if_okay (answer_of r) promise }) (Words t r line (opener_text (if_okay (answer_of r) promise)))
  undone r none = subst
      (λ (o : Option (List ℕ)). Tells (record { answer = answer_of r; opener = o }) (Words t r line (opener_text o))) (sym none) (
        spaced_words (reason_text t r) ++ since_text (date_of r line),
        nothing_opened (answer_text (answer_of r)) (spaced_words (reason_text t r)) (since_text (date_of r line)),
        tail_behind (reason_text t r) (date_of r line),
      )

  refused : (r : Refusal) → if_okay (refusal_answer r) promise ≡ None
  refused (refusal.Failed errno) = refl
  refused refusal.Killed = refl

  tells : (r : Reason) →
      Tells (record { answer = answer_of r; opener = if_okay (answer_of r) promise }) (Words t r line (opener_text (if_okay (answer_of r) promise)))
  tells NeverMade = undone NeverMade refl
  tells Ended = undone Ended refl
  tells (Refused fault) = undone (Refused fault) (refused (fault_refusal fault))
  tells Granted = ([], sym (append-nil (told_text (record { answer = answer_of Granted; opener = promise }))), tt)

why_tells : (table : CallTable) (w : World) (done : List Asked) (ask : Asked) →
    Tells (told_answer table (world_after table w done) ask) (answer_why table w done ask)
why_tells table w done ask =
    let v : World = world_after table w done in
    let r : Reason = reason table v ask in
    let promise : Option (List ℕ) = opener table v ask in
    let line : Option ℕ = since (has_key table ask (reason_key r)) table w 1 done ask.process in
    subst (λ answer. Tells (record { answer = answer; opener = if_okay answer promise })
    (Words v.tree r line (opener_text (if_okay answer promise)))) (reasons_give_answers table v ask) (tells v.tree line promise r)

line_tells : (n : ℕ) (told : ToldAnswer) (text : List ℕ) → Tells told text →
    (tail : List ℕ) × ((decimal n ++ 32 ∷ text) ≡ (decimal n ++ 32 ∷ told_text told) ++ tail) × IsTail tail
line_tells n told text tells = (
  tells.0,
  ap (λ more. decimal n ++ 32 ∷ more) tells.1 ∙
      sym (append_assoc (decimal n) (32 ∷ told_text told) tells.0),
  tells.2,
)

pub why_lines_tell_more : WhyLinesTellMore
why_lines_tell_more table w done [] n = refl
why_lines_tell_more table w done (ask ∷ asks) n =
    by (subst (λ next. TellMore (why_lines table w (done ++ ask ∷ []) (suc n) asks) (suc n) (told_to table next asks))
    (one_request_more table w done ask) (why_lines_tell_more table w (done ++ ask ∷ []) asks (suc n))) (says_nothing ask.action)
  where
    v : World
    v = world_after table w done

    told_why : List ℕ
    told_why = answer_why table w done ask

    further : List (List ℕ)
    further = why_lines table w (done ++ ask ∷ []) (suc n) asks

    by : TellMore further (suc n) (told_to table (apply table v ask).1 asks) → (silent : Bool) →
        TellMore ((if silent then [] else (decimal n ++ 32 ∷ told_why) ∷ []) ++ further) n
        ((if silent then None else Some (told_answer table v ask)) ∷ told_to table (apply table v ask).1 asks)
    by rest true = rest
    by rest false = (
      decimal n ++ 32 ∷ told_why,
      further,
      refl,
      line_tells n (told_answer table v ask) told_why (why_tells table w done ask),
      rest,
    )
