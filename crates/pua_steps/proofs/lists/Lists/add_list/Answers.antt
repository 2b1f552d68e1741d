use Rattle.pua_steps.proofs.Common.{ℕ, ◌≡◌, ◌+◌, ◌<◌, ◌≤◌, ◌∷◌, [], None, length, drop, get_or, refl, ap, sym, ◌∙◌, drop_more}
use Rattle.pua_steps.proofs.Common.{drop_of_length-le, list_of, entries_at, Entry, Row, Steps}
use Rattle.pua_steps.proofs.Visits.{row_entries}
use Rattle.pua_steps.proofs.lists.Lists.add_list.Goals as goal

pub loop-entry-init : goal.loop-entry-init
unfolding list_of
loop-entry-init c = record { layers = refl; spans = refl; so_far = refl }

abbrev no_entry : Entry
no_entry = record { letter = 0; all = 0; kept = 0; links = 0; to = None }

module _ (t : Steps) (dir : ℕ) (r : Row) (low : dir < length t.rows.items) (is : r ≡ get_or t.rows.items dir r) where
  here : (i : ℕ) → i < length r.entries.items →
      drop i (entries_at t dir) ≡ get_or r.entries.items i no_entry ∷ drop (i + 1) (entries_at t dir)
  here i h = ap (drop i) (row_entries t dir r low is) ∙ drop_more r.entries.items i no_entry h ∙
      ap (λ xs. get_or r.entries.items i no_entry ∷ drop (i + 1) xs) (sym (row_entries t dir r low is))

  past : (i : ℕ) → length r.entries.items ≤ i → drop i (entries_at t dir) ≡ []
  past i h = ap (drop i) (row_entries t dir r low is) ∙ drop_of_length-le r.entries.items h
