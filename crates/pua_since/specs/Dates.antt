-- Since which lines of a script what is told is so, as the code keeps it.
use Rattle.std.specs.Prelude.{◌≡◌, ⊤, Ok, All, ℕ, suc, List, [], ◌∷◌, ◌==◌, map, Option, Some, None}
use Rattle.std.specs.Option.{option_eq}
use Rattle.std.specs.Borrow.{Bor}
use Rattle.std.specs.List.{AllZip}
use Rattle.pua_calls.specs.Calls.{CallTable}
use Rattle.pua_calls.specs.declared.rules.Rules.{Rules}
use Rattle.pua_policy.specs.States.{ProcessState}
use Rattle.pua_policy.specs.declared.place.Place.{Place}
use Rattle.pua_policy.specs.declared.reason.Covering.TheVariants.{By}
use Rattle.pua_script.specs.Requests.{Asked}
use Rattle.pua_script.specs.Replay.{World, world_after}
use Rattle.pua_script.specs.Scripts.{request_by}
use Rattle.pua_script.specs.Worlds.{WorldState, process_at}
use Rattle.pua_script.specs.declared.answer.Answer.{Answer}
use Rattle.pua_script.specs.declared.answer.Answer.TheVariants.{Okay}
use Rattle.pua_script.specs.declared.request.Action.{Action}
use Rattle.pua_why.specs.Facts.{Fact, Under}
use Rattle.pua_why.specs.Reasons.{reason}
use Rattle.pua_why.specs.Since.{Test, since}
use Rattle.pua_why.specs.Texts.{date_of, has_veil_on, reason_since, veil_since}
use Rattle.pua_since.specs.Watched.{IsTopicAt, kept_in, line_at}
use Rattle.pua_since.specs.declared.chain.Dates.{Dates}
use Rattle.pua_since.specs.declared.watch.Question.{Question}
use Rattle.pua_since.specs.declared.watch.Question.TheVariants as asks
use Rattle.pua_since.specs.declared.watch.Watch.{Watch}

-- the request that is asked about
abbrev pub action_asked : Question → Option Action
action_asked (asks.Request action) = Some action.now
action_asked (asks.Veil place) = None

-- the question at a place is that of a request, and its answer is wanted behind so many lines
pub record IsRequestAt (watches : List Watch) (place : ℕ) (ask : Asked) (lines : ℕ) : Type 0 where
  pub question : Question
  pub stands : IsTopicAt watches place ask.process question lines
  pub asks : action_asked question ≡ Some ask.action

-- the line of the question at the next of these places, and the places behind it; a request that is answered `ok` has none
abbrev pub question_line : List Watch → Answer → List ℕ → Option ℕ
question_line watches Okay places = None
question_line watches answer [] = None
question_line watches answer (place ∷ places) = line_at watches place

abbrev pub places_left : Answer → List ℕ → List ℕ
places_left Okay places = places
places_left answer [] = []
places_left answer (place ∷ places) = places

-- the next of these places, where the next request is not answered `ok`
abbrev pub PlacesFrom : List Watch → ℕ → Asked → Answer → List ℕ → (List ℕ → Type 0) → Type 0
PlacesFrom watches n ask Okay places Further = Further places
PlacesFrom watches n ask answer [] Further = ⊥
PlacesFrom watches n ask answer (place ∷ places) Further = IsRequestAt watches place ask n × Further places

-- the places of the questions of those requests that are not answered `ok`, of which the first stands behind so many lines
abbrev pub ArePlacesOf : List Watch → ℕ → List Asked → List Answer → List ℕ → Type 0
ArePlacesOf watches n (ask ∷ more) (answer ∷ told) places = PlacesFrom watches n ask answer places (ArePlacesOf watches (suc n) more told)
ArePlacesOf watches n _ _ places = places ≡ []

-- lines that were read by these rules, with the places of the questions of their requests
abbrev pub IsLineKnown : Rules → List Watch → Bor (List ℕ) × ℕ → Type 0
IsLineKnown rules watches line =
    (n : ℕ) × (ask : Asked) × (request_by rules n line.0.now ≡ Ok ask) × IsRequestAt watches line.1 ask 0

abbrev pub AreKnown : Rules → List Watch → List (Bor (List ℕ) × ℕ) → Type 0
AreKnown rules watches lines = All (IsLineKnown rules watches) lines

-- the veil that is asked about
abbrev pub place_asked : Question → Option Place
place_asked (asks.Request action) = None
place_asked (asks.Veil place) = Some place.now

-- the question at a place is that of a veil of a process, and its answer is wanted behind so many lines
pub record IsVeilAt (watches : List Watch) (place process : ℕ) (veil : Place) (lines : ℕ) : Type 0 where
  pub question : Question
  pub stands : IsTopicAt watches place process question lines
  pub asks : place_asked question ≡ Some veil

-- at these places stand the questions of veils, each with the number of its process
abbrev pub AreVeilsAt : List Watch → ℕ → List (ℕ × Place) → List ℕ → Type 0
AreVeilsAt watches lines veils places = AllZip (λ veil place. IsVeilAt watches place veil.0 veil.1 lines) veils places

-- a process keeps no veil at a place
abbrev pub lacks_veil : Place → Test
lacks_veil place w process = option_eq ◌==◌ (kept_in w process place) None

-- since which line a process keeps at a place the letters that it keeps there behind these requests, or none
abbrev pub letters_date : CallTable → World → List Asked → ℕ → Place → Option ℕ → Option ℕ
letters_date table w asks process place None = since (lacks_veil place) table w 1 asks process
letters_date table w asks process place (Some given) = since (has_veil_on place given) table w 1 asks process

abbrev pub veil_date : CallTable → World → List Asked → (ℕ × Place) → Option ℕ
veil_date table w asks veil = letters_date table w asks veil.0 veil.1 (kept_in (world_after table w asks) veil.0 veil.1)

-- the veils of a process, with its number
abbrev pub veils_of : ℕ → Option ProcessState → List (ℕ × Place)
veils_of process None = []
veils_of process (Some state) = map (λ veil. (process, veil.0)) state.veils

abbrev pub veils_at : WorldState → ℕ → List (ℕ × Place)
veils_at s process = veils_of process (process_at s process)

-- a veil that is lent with the number of its process
abbrev pub veil_seen : ℕ × Bor Place → ℕ × Place
veil_seen veil = (veil.0, veil.1.now)

abbrev pub with_number : ℕ → Bor Place → ℕ × Place
with_number number place = (number, place.now)

-- the place of the veil that a fact tells
abbrev pub veil_told : Fact → Option Place
veil_told (Under side (By place given)) = Some place
veil_told fact = None

-- at a place stands the question of the veil of a process that a fact tells; there is none where it tells none
abbrev pub IsFactAt : List Watch → ℕ → ℕ → Option Place → Option ℕ → Type 0
IsFactAt watches process lines (Some veil) (Some place) = IsVeilAt watches place process veil lines
IsFactAt watches process lines None None = ⊤
IsFactAt watches process lines _ _ = ⊥

abbrev pub AreFactsAt : List Watch → ℕ → ℕ → List Fact → List (Option ℕ) → Type 0
AreFactsAt watches process lines facts places = AllZip (λ fact place. IsFactAt watches process lines (veil_told fact) place) facts places

-- since which line the question at a place is told what it is, if there is one
abbrev pub fact_line : List Watch → Option ℕ → Option ℕ
fact_line watches None = None
fact_line watches (Some place) = line_at watches place

-- since which lines what is told of a request behind others is so: its reason, and the veils of its facts
pub record AreDatesOf (table : CallTable) (w : World) (asks : List Asked) (ask : Asked) (facts : List Fact) (dates : Dates) : Type 0 where
  pub answer : date_of (reason table (world_after table w asks) ask) dates.answer ≡ reason_since table w asks ask
      (reason table (world_after table w asks) ask)
  pub veils : dates.facts.items ≡ map (veil_since table w asks ask) facts
