-- The covers on a device are those of the definition.
use Rattle.pua_ever.proofs.Common.{◌≡◌, ◌++◌, ℕ, List, [], ◌∷◌, Bool, true, false, cond, refl, sym, subst, Option, Some, None}
use Rattle.pua_ever.proofs.Common.{Tree, WellFormed, is_dir, is_mount, climb, ProcessState, HaveSame, dir_covers, name_covers, open_covers}
use Rattle.pua_ever.proofs.Common.{None≢Some, same_Some}
use Rattle.pua_tree.specs.Tree.{device, first_mount}
use Rattle.pua_ever.specs.Ever.{goes_along, kept_on}
use Rattle.pua_ever.specs.Destinations.{AreDestinations, StaysPut, covers_on}
use Rattle.pua_ever.specs.declared.destinations.Covers.{Covers}
use Rattle.pua_ever.specs.declared.destinations.Destinations.{Destinations}
use Rattle.pua_ever.proofs.Mounts.{mount_lives}

pub found_so : (t : Tree) (h : ProcessState) (on : Option ℕ) (found : Destinations) (covers : Covers) → AreDestinations t h found → StaysPut t h on →
    covers.dirs.items ≡ covers_on on found.dirs.items → covers.entrances.items ≡ covers_on on found.entrances.items →
    covers.names.items ≡ covers_on on found.names.items →
    HaveSame (covers.dirs.items ++ covers.entrances.items) (dir_covers t h on) × HaveSame covers.names.items (name_covers t h on)
    × HaveSame covers.dirs.items (open_covers t h on)
found_so t h on found covers are put dirs entrances names = (
  subst (λ xs. HaveSame xs (dir_covers t h on)) (sym (λ i. dirs i ++ entrances i)) (are.dirs on put),
  subst (λ xs. HaveSame xs (name_covers t h on)) (sym names) (are.names on),
  subst (λ xs. HaveSame xs (open_covers t h on)) (sym dirs) (are.opens on put),
)

-- where a device doesn't go along, covers are those on it
pub stays_put : (t : Tree) (h : ProcessState) (device : ℕ) → StaysPut t h (kept_on t h device)
stays_put t h device = by (goes_along t h device) refl
  where
    by : (b : Bool) → goes_along t h device ≡ b → StaysPut t h (cond b None (Some device))
    by true goes found e = absurd (None≢Some found e)
    by false stays found e = subst (λ d. goes_along t h d ≡ false) (same_Some device found e) stays

-- a device is a living directory
first_lives : (t : Tree) → WellFormed t → (ds : List ℕ) → is_dir t (first_mount t ds) ≡ true
first_lives t well [] = well.root
first_lives t well (x ∷ xs) = by (is_mount t x) refl (first_lives t well xs)
  where
    by : (b : Bool) → is_mount t x ≡ b → is_dir t (first_mount t xs) ≡ true → is_dir t (cond b x (first_mount t xs)) ≡ true
    by true mount more = mount_lives t well x mount
    by false plain more = more

pub device_lives : (t : Tree) → WellFormed t → (d : ℕ) → is_dir t (device t d) ≡ true
device_lives t well d = by (is_dir t d)
  where
    by : (b : Bool) → is_dir t (cond b (first_mount t (climb t d)) 0) ≡ true
    by true = first_lives t well (climb t d)
    by false = well.root
