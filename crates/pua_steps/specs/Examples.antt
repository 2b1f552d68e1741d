-- Worked tables of steps, by hand, and what their words give.
use Rattle.std.specs.Prelude.{◌≡◌, ◌+◌, ℕ, true, false, List, [], ◌∷◌, length, map, get_or, Option, Some, None, refl}
use Rattle.std.specs.List.{range_with_len}
use Rattle.pua_steps.specs.Calls.{calls_of}
use Rattle.pua_steps.specs.Graph.{Graph, cons, alone, below, graph_reach}
use Rattle.pua_steps.specs.Order.{comes_after, pairs_after}
use Rattle.pua_steps.specs.Reached.{states_after, live_count}
use Rattle.pua_steps.specs.Table.{visit_of, gap, visits_from}
use Rattle.pua_steps.specs.declared.state.State.{State}
use Rattle.pua_steps.specs.declared.steps.Entry.{Entry}

-- a table by its number of letters, the calls on letters without entries in each directory, and the entries of each
abbrev pub graph_by : ℕ → List ℕ → List (List Entry) → Graph
graph_by letters missing entries l s = visits_from letters (get_or missing s.dir 0) s.used 0 (get_or entries s.dir [])

-- the first letter stands in the first directory, with no link followed
abbrev pub first : Option State
first = Some (record { dir = 0; used = 0 })

-- a letter that leads to a directory and has no calls, and one with calls that leads nowhere
abbrev pub way : ℕ → ℕ → ℕ → Entry
way letter links to = record { letter = letter; all = 0; kept = 0; links = links; to = Some to }

abbrev pub leaf : ℕ → ℕ → Entry
leaf letter calls = record { letter = letter; all = calls; kept = calls; links = 0; to = None }

-- a link to a leaf, whose own final link has no calls
abbrev pub link : ℕ → ℕ → ℕ → Entry
link letter calls links = record { letter = letter; all = calls; kept = 0; links = links; to = None }

-- a root alone, with calls on `..`
abbrev pub root_graph : Graph
root_graph = graph_by 1 (0 ∷ []) ((record { letter = 0; all = 6155; kept = 6155; links = 0; to = Some 0 } ∷ []) ∷ [])

-- the letters `..`, etc, passwd, self, sh, t, tmp and up; the directories root, etc and tmp; t is a link to tmp and up
-- one to etc; stat, lstat and open-r are allowed on passwd
abbrev pub one_file : Graph
one_file = graph_by 8 (0 ∷ 0 ∷ 0 ∷ [])
    ((way 0 0 0 ∷ way 1 0 1 ∷ way 5 1 2 ∷ way 6 0 2 ∷ []) ∷ (way 0 0 0 ∷ leaf 2 11 ∷ []) ∷ (way 0 0 0 ∷ way 7 1 1 ∷ []) ∷ [])

-- the letters `..` and a; mkdir and symlink are allowed on a name that is missing
abbrev pub missing_name : Graph
missing_name = graph_by 2 (1152 ∷ []) ((way 0 0 0 ∷ []) ∷ [])

-- directories without a call anywhere
abbrev pub dead_alphabet : Graph
dead_alphabet = graph_by 3 (0 ∷ 0 ∷ 0 ∷ []) ((way 0 0 0 ∷ way 1 0 1 ∷ way 2 0 2 ∷ []) ∷ (way 0 0 0 ∷ []) ∷ (way 0 0 0 ∷ []) ∷ [])

-- a way by 20 links, and letters that follow 12 and 13 more
abbrev pub link_by_link : Graph
link_by_link = graph_by 3 (0 ∷ 0 ∷ []) ((way 0 20 1 ∷ []) ∷ (link 1 1 12 ∷ link 2 1 13 ∷ []) ∷ [])

-- the same way, and only a letter that follows 13 more
abbrev pub link_too_far : Graph
link_too_far = graph_by 3 (0 ∷ 0 ∷ []) ((way 0 20 1 ∷ []) ∷ (link 2 1 13 ∷ []) ∷ [])

-- a directory to which a name and 20 chains of links lead, and in it a file to which 13 chains of links lead
abbrev pub chains : Graph
chains = graph_by 36 (0 ∷ 0 ∷ [])
    ((way 0 0 0 ∷ map (λ (n : ℕ). way (1 + n) n 1) (range_with_len 0 21))
    ∷ (way 0 0 0 ∷ leaf 22 11 ∷ map (λ (n : ℕ). link (22 + n) 9 n) (range_with_len 1 13)) ∷ [])

pub record LiveRows : Type 0 where
  pub root_alone_0 : live_count root_graph 1 0 first 0 ≡ 0
  pub root_alone_1 : live_count root_graph 1 1 first 1 ≡ 1
  pub nowhere : live_count root_graph 1 3 None 3 ≡ 0
  pub missing_name_2 : live_count missing_name 1 2 first 2 ≡ 2
  pub one_file_2 : live_count one_file 3 2 first 2 ≡ 2
  pub one_file_3 : live_count one_file 3 3 first 3 ≡ 8
  pub dead_3 : live_count dead_alphabet 3 3 first 3 ≡ 0
  pub links_32 : live_count link_by_link 2 2 first 2 ≡ 2
  pub links_33 : live_count link_too_far 2 2 first 2 ≡ 0
  pub chains_2 : live_count chains 2 2 first 2 ≡ 22

pub live_rows : LiveRows
unfolding visits_from gap visit_of calls_of below cons alone states_after
live_rows = record {
  root_alone_0 = refl;
  root_alone_1 = refl;
  nowhere = refl;
  missing_name_2 = refl;
  one_file_2 = refl;
  one_file_3 = refl;
  dead_3 = refl;
  links_32 = refl;
  links_33 = refl;
  chains_2 = refl;
}

pub record StepsRows : Type 0 where
  pub one_file_5 : length (graph_reach one_file 5 0 first) ≡ 81
  pub one_file : graph_reach one_file 2 0 first ≡ (1 ∷ 2 ∷ [], 0) ∷ (1 ∷ 2 ∷ [], 1) ∷ (1 ∷ 2 ∷ [], 3) ∷ []
  pub missing_name : graph_reach missing_name 2 0 first ≡ (0 ∷ 1 ∷ [], 7) ∷ (0 ∷ 1 ∷ [], 10) ∷ (1 ∷ [], 7) ∷ (1 ∷ [], 10) ∷ []
  pub dead : graph_reach dead_alphabet 3 0 first ≡ []
  pub links_32 : graph_reach link_by_link 2 0 first ≡ (0 ∷ 1 ∷ [], 0) ∷ []
  pub chains : length (graph_reach chains 2 0 first) ≡ 607

pub reach_rows : StepsRows
unfolding visits_from gap visit_of calls_of below cons alone
reach_rows = record { one_file_5 = refl; one_file = refl; missing_name = refl; dead = refl; links_32 = refl; chains = refl }

pub record OrderRows : Type 0 where
  pub extension : comes_after (1 ∷ [], 13) (1 ∷ 0 ∷ [], 0) ≡ true
  pub front : comes_after (1 ∷ 0 ∷ [], 0) (1 ∷ [], 13) ≡ false
  pub letter : comes_after (1 ∷ 5 ∷ [], 13) (2 ∷ [], 0) ≡ true
  pub call : comes_after (1 ∷ [], 3) (1 ∷ [], 4) ≡ true
  pub itself : comes_after (1 ∷ [], 3) (1 ∷ [], 3) ≡ false
  pub resumed : pairs_after (0 ∷ 1 ∷ [], 10) (graph_reach missing_name 2 0 first) ≡ (1 ∷ [], 7) ∷ (1 ∷ [], 10) ∷ []
  pub resumed_nowhere : pairs_after (0 ∷ 1 ∷ 0 ∷ [], 0) (graph_reach missing_name 2 0 first) ≡ (1 ∷ [], 7) ∷ (1 ∷ [], 10) ∷ []

pub order_rows : OrderRows
unfolding visits_from gap visit_of calls_of below cons alone
order_rows = record { extension = refl; front = refl; letter = refl; call = refl; itself = refl; resumed = refl; resumed_nowhere = refl }
