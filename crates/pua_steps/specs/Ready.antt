-- A walk's fields between two calls, and what they say is still to be done.
use Rattle.std.specs.Prelude.{◌≡◌, ◌≤◌, ◌<◌, ◌^◌, ℕ, zero, suc, ◌+◌, ◌-◌, min, Bool, true, false, ◌&&◌, ◌==◌, List, [], ◌∷◌, ◌++◌, length}
use Rattle.std.specs.Prelude.{map, take, Option, Some, None, is_none, IfSome, MatchOption, MatchBool, vec_capacity}
use Rattle.std.specs.List.{AllByRecursion}
use Rattle.pua_steps.specs.Limits.{call_count}
use Rattle.pua_steps.specs.Calls.{calls_of}
use Rattle.pua_steps.specs.Graph.{Graph, Word}
use Rattle.pua_steps.specs.Trail.{TrailEvent, Live, under, with_calls, deeper, branches, pending, ahead}
use Rattle.pua_steps.specs.Table.{IsTable, IsState}
use Rattle.pua_steps.specs.Live.{live_of, IsSized}
use Rattle.pua_steps.specs.Lists.{AreListsOf, IsOpen, narrow_of, rest_of}
use Rattle.pua_steps.specs.declared.visit.Visit.{Visit}
use Rattle.pua_steps.specs.declared.frame.Frame.{Frame}
use Rattle.pua_steps.specs.declared.steps.Steps.{Steps}
use Rattle.pua_steps.specs.declared.live.Live as table
use Rattle.pua_steps.specs.declared.lists.Lists.{Lists}
use Rattle.pua_steps.specs.declared.walk.Walk.{Walk}

-- so many visits, and then the rest
unfoldable pub looks : ℕ → List TrailEvent → List TrailEvent
looks zero es = es
looks (suc n) es = None ∷ looks n es

-- so many letters more are counted, up to the greatest value of the count
abbrev pub IsCounted : ℕ → ℕ → ℕ → Type 0
IsCounted old n new = (new ≤ old + n) × (min (old + n) 18446744073709551615 ≤ new)

-- a letter on which no call is allowed, and from which no word goes on
abbrev pub is_idle : Visit → Bool
is_idle v = v.calls == 0 && is_none v.behind

-- a letter that is given: its state is live, with so many letters more
pub record IsLetterGiven (t : Steps) (v : table.Live) (left : ℕ) (x : Visit) : Type 0 where
  pub letter : x.letter < t.letters
  pub calls : x.calls < 2 ^ call_count
  pub behind : IfSome x.behind (λ s. IsState t s × (live_of v left s ≡ true))

-- what comes after a letter
abbrev pub after_visit : Graph → Live → ℕ → Visit → List TrailEvent
after_visit g live l v = under v.letter (with_calls (calls_of v.calls) ++ deeper g live l v.behind)

-- after so many visits the next letter is found, or it is known that there is none
pub record IsScanned (t : Steps) (v : table.Live) (ls : Lists) (left : ℕ) (old : Frame) (result : Option Visit) (new : Frame) (n : ℕ) : Type
    0 where
  pub next : MatchOption result (branches (narrow_of t v) (live_of v) left (rest_of t ls old) ≡ looks n [])
      (λ x. (0 < n) × (branches (narrow_of t v) (live_of v) left (rest_of t ls old)
      ≡ looks n (after_visit (narrow_of t v) (live_of v) left x ++ branches (narrow_of t v) (live_of v) left (rest_of t ls new))))

abbrev pub rests_of : Steps → Lists → List Frame → List (List Visit)
rests_of t ls frames = map (rest_of t ls) frames

-- what is still to be done
abbrev pub trail : Walk → List TrailEvent
trail a = ahead (narrow_of a.tables.steps a.tables.live) (live_of a.tables.live) a.limit a.word.items (calls_of a.calls) a.behind
    (rests_of a.tables.steps a.tables.counted.lists a.frames.items)

-- what frames leave
abbrev pub left_over : Walk → List Frame → List TrailEvent
left_over a frames = pending (narrow_of a.tables.steps a.tables.live) (live_of a.tables.live) a.limit 0 a.word.items
    (rests_of a.tables.steps a.tables.counted.lists frames)

pub record HasRoom (a : Walk) : Type 0 where
  pub words : a.limit ≤ vec_capacity a.word
  pub frames : a.limit ≤ vec_capacity a.frames

abbrev pub AreOpen : Steps → Lists → List Frame → Type 0
AreOpen t ls frames = AllByRecursion (λ f. IsOpen t ls f) frames

-- the tables, of which a walk changes nothing
pub record HasSoundTables (a : Walk) : Type 0 where
  pub table : IsTable a.tables.steps
  pub sized : IsSized a.tables.steps a.tables.live a.limit
  pub listed : AreListsOf a.tables.steps a.tables.live a.limit a.tables.counted.lists
  pub room : HasRoom a

-- each letter of the word has its frame
pub record IsReady (a : Walk) : Type 0 where
  pub sound : HasSoundTables a
  pub states : AreOpen a.tables.steps a.tables.counted.lists a.frames.items
  pub calls : a.calls < 2 ^ call_count
  pub behind : IfSome a.behind (λ s. IsState a.tables.steps s × (live_of a.tables.live (a.limit - length a.word.items) s ≡ true))
  pub framed : length a.frames.items ≡ length a.word.items
  pub within : length a.word.items ≤ a.limit
  pub unchanged : a.unchanged ≤ length a.word.items

-- the deepest frame waits for a letter
pub record IsBetween (a : Walk) : Type 0 where
  pub sound : HasSoundTables a
  pub states : AreOpen a.tables.steps a.tables.counted.lists a.frames.items
  pub calls : a.calls ≡ 0
  pub behind : a.behind ≡ None
  pub framed : length a.word.items ≡ length a.frames.items - 1
  pub most : length a.frames.items ≤ a.limit

-- the same tables and limit
pub record IsSameWalk (a b : Walk) : Type 0 where
  pub steps : b.tables.steps ≡ a.tables.steps
  pub live : b.tables.live ≡ a.tables.live
  pub lists : b.tables.counted.lists ≡ a.tables.counted.lists
  pub limit : b.limit ≡ a.limit

-- so many letters stand at the front of both words
pub record IsUnchanged (old : Word) (n : ℕ) (new : Word) : Type 0 where
  pub before : n ≤ length old
  pub after : n ≤ length new
  pub same : take n new ≡ take n old

-- of the letters that were unchanged, so many still are
pub record StaysFront (before : ℕ) (old : Word) (n : ℕ) (new : Word) : Type 0 where
  pub less : n ≤ before
  pub front : IsUnchanged old n new

-- after so many visits there is a next word, or nothing is left
pub record IsTurned (old : List TrailEvent) (result : Bool) (new : Walk) (n : ℕ) : Type 0 where
  pub next : MatchBool result ((0 < n) × (old ≡ looks n (trail new))) (old ≡ looks n [])
  pub over : result ≡ false → trail new ≡ []

-- after so many visits the first pair is given, and leaves what comes after it
pub record IsNextPair (old : Walk) (result : Option ℕ) (new : Walk) (n : ℕ) : Type 0 where
  pub next : MatchOption result ((trail old ≡ looks n []) × (trail new ≡ [])) (λ call. trail old ≡ looks n (Some (
    new.word.items,
    call,
  ) ∷ trail new))
