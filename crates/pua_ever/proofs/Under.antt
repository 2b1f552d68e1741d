-- What some cover of a list passes, some cover of another one with the same elements does.
use Rattle.pua_ever.proofs.Common.{◌≡◌, List, [], ◌++◌, Bool, true, false, refl, sym, ◌∙◌, ◌||◌, if◌then◌else◌, ap, list_any}
use Rattle.pua_ever.proofs.Common.{false≢true, list_any-append, contained, among_contained, Tree, empty_tree, CallTable, ProcessState, Object}
use Rattle.pua_ever.proofs.Common.{covered_verdict, is_allowed, Cover, Call, is_allowed_under, dir_covers, name_covers, file_covers}
use Rattle.pua_ever.proofs.Common.{some_dir_moves, can_move, open_covers, HaveSame, Option, ℕ}
use Rattle.std.specs.List.{Contains}
use Rattle.pua_ever.proofs.Ways.{any_among, any_found}

pub any_same : {X : Type 0} (p : X → Bool) (xs ys : List X) → HaveSame xs ys → list_any p xs ≡ list_any p ys
any_same {X} p xs ys same = by (list_any p xs) (list_any p ys) refl refl
  where
    moved : (ys zs : List X) → ((x : X) → Contains ys x → Contains zs x) → list_any p ys ≡ true → list_any p zs ≡ true
    moved ys zs within e =
        let found = any_found p ys e in
        any_among p zs found.0 (among_contained zs found.0 (within found.0 (contained ys found.0 found.1))) found.2

    by : (a b : Bool) → list_any p xs ≡ a → list_any p ys ≡ b → a ≡ b
    by true b e f = sym (moved xs ys same.within e) ∙ f
    by false false e f = refl
    by false true e f = absurd (false≢true (sym e ∙ moved ys xs same.all f))

module _ (t : Tree) (table : CallTable) (h : ProcessState) (on : Option ℕ) (dirs entrances names : List Cover)
    (dirs_same : HaveSame (dirs ++ entrances) (dir_covers t h on)) (judged : Object) (call : Call) where
  abbrev passes : Cover → Bool
  passes left = is_allowed (covered_verdict empty_tree table h call left judged)

  pub under_dirs : is_allowed_under table h (dirs ++ entrances) judged call ≡ is_allowed_under table h (dir_covers t h on) judged call
  under_dirs = any_same passes (dirs ++ entrances) (dir_covers t h on) dirs_same

  module _ (names_same : HaveSame names (name_covers t h on)) where
    pub under_made : is_allowed_under table h (names ++ (dirs ++ entrances)) judged call ≡ is_allowed_under table h
        (name_covers t h on ++ dir_covers t h on) judged call
    under_made =
        list_any-append passes names (dirs ++ entrances)
        ∙ (λ i. any_same passes names (name_covers t h on) names_same i || under_dirs i)
        ∙ sym (list_any-append passes (name_covers t h on) (dir_covers t h on))

    -- some directory moves where one of the covers says so
    pub some_moves : HaveSame dirs (open_covers t h on) → list_any (can_move table h) dirs ≡ some_dir_moves t table h on
    some_moves open_same = any_same (can_move table h) dirs (open_covers t h on) open_same

    pub under_files : HaveSame dirs (open_covers t h on) → (moves : Bool) → moves ≡ some_dir_moves t table h on
        → is_allowed_under table h (names ++ (dirs ++ (if moves then entrances else []))) judged call
        ≡ is_allowed_under table h (file_covers t table h on) judged call
    under_files open_same moves some =
        list_any-append passes names (dirs ++ (if moves then entrances else []))
        ∙ (λ i. any_same passes names (name_covers t h on) names_same i || by moves i)
        ∙ ap (λ b. list_any passes (name_covers t h on) || list_any passes (open_covers t h on ++ (if b then dir_covers t h on else []))) some
        ∙ sym (list_any-append passes (name_covers t h on) (open_covers t h on ++ (if some_dir_moves t table h on then dir_covers t h on else [])))
      where
        twice : (a b : Bool) → (a || b) ≡ (a || (a || b))
        twice true b = refl
        twice false b = refl

        by : (b : Bool) → list_any passes (dirs ++ (if b then entrances else [])) ≡ list_any passes
            (open_covers t h on ++ (if b then dir_covers t h on else []))
        by false =
            list_any-append passes dirs []
            ∙ ap (λ a. a || false) (any_same passes dirs (open_covers t h on) open_same)
            ∙ sym (list_any-append passes (open_covers t h on) [])
        by true =
            list_any-append passes dirs entrances
            ∙ twice (list_any passes dirs) (list_any passes entrances)
            ∙ ap (λ b. list_any passes dirs || b) (sym (list_any-append passes dirs entrances))
            ∙ (λ i. any_same passes dirs (open_covers t h on) open_same i || under_dirs i)
            ∙ sym (list_any-append passes (open_covers t h on) (dir_covers t h on))
