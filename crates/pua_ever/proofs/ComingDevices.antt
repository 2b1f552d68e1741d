-- The veils under which things come, on a device or on any.
use Rattle.pua_ever.proofs.Common.{◌≡◌, ◌++◌, ℕ, List, [], ◌∷◌, Bool, true, false, cond, refl, sym, ap, ◌∙◌, ◌||◌, if◌then◌else◌, list_any, filter_map, Option, Some, None}
use Rattle.pua_ever.proofs.Common.{At, CallTable, Cover, Place, ProcessState, Slot, Stands, Tree, can_link, can_move, cover, kind_at, look, same_place}
use Rattle.std.specs.List.{cons_option}
use Rattle.pua_ever.specs.Comings.{IsOn, as_list, device_at, file_places, place_over, places_by, places_kept, places_named, places_on}
use Rattle.pua_ever.specs.Ever.{is_device, stays_on}

-- the devices of those that pass a test, and those on a device that pass it
pub passing : {X : Type 0} (p : X → Bool) (on : Option ℕ) (found : List (ℕ × X)) →
    list_any (is_device on) (filter_map (λ one. if p one.1 then Some one.0 else None) found)
    ≡ list_any p (filter_map (λ one. if is_device on one.0 then Some one.1 else None) found)
passing p on [] = refl
passing {X} p on (one ∷ found) = by (p one.1) refl (is_device on one.0) refl (passing p on found)
  where
    devices : List ℕ
    devices = filter_map (λ one. if p one.1 then Some one.0 else None) found

    others : List X
    others = filter_map (λ one. if is_device on one.0 then Some one.1 else None) found

    by : (passes : Bool) → p one.1 ≡ passes → (here : Bool) → is_device on one.0 ≡ here →
        list_any (is_device on) devices ≡ list_any p others →
        list_any (is_device on) (cons_option (cond passes (Some one.0) None) devices) ≡ list_any p (cons_option (cond here (Some one.1) None) others)
    by true is true e more = λ i. (e ∙ sym is) i || more i
    by true is false e more = ap (λ b. b || list_any (is_device on) devices) e ∙ more
    by false is true e more = more ∙ ap (λ b. b || list_any p others) (sym is)
    by false is false e more = more

-- the devices of a place among those that the veils give
pub place_is_on : (h : ProcessState) (gives : Place → Option (ℕ × Place)) (at : Place) (found : List (ℕ × Place)) (devices : List ℕ) →
    devices ≡ filter_map (device_at at) found → found ≡ filter_map gives (places_kept h) → IsOn at (places_by h gives) devices
place_is_on h gives at found devices is given = λ on.
    ap (list_any (is_device on)) (is ∙ ap (filter_map (device_at at)) given) ∙ passing (same_place at) on (filter_map gives (places_kept h))

-- where what stands at a name comes, by whether it can be moved and linked
pub named_so : (t : Tree) (table : CallTable) (h : ProcessState) (dir : ℕ) (name : List ℕ) (node : ℕ) (now : Cover) (over : Option Place)
    (moves links : Bool) → look t dir name ≡ Some node → now ≡ cover t h (Slot dir name (look t dir name)) →
    over ≡ place_over t h (Slot dir name (Some node)) → can_move table h now ≡ moves → can_link table h (kind_at t node) now ≡ links →
    (if moves then file_places t table h (stays_on t h dir)
    else as_list over ++ (if links then file_places t table h (stays_on t h dir) else []))
    ≡ places_on t table h (Stands (At (Slot dir name (look t dir name))))
named_so t table h dir name node now over moves links at covers covered moved linked =
    let there = file_places t table h (stays_on t h dir) in
    (λ i. if sym moved i then there else as_list over ++ (if sym linked i then there else []))
    ∙ (λ i. places_named t table h (stays_on t h dir) (kind_at t node) ((covers ∙ ap (λ n. cover t h (Slot dir name n)) at) i) (covered i))
    ∙ ap (λ n. places_on t table h (Stands (At (Slot dir name n)))) (sym at)
