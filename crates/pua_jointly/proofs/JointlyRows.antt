-- The worked rows of processes with veils of their own.
use Rattle.pua_jointly.proofs.Common.{◌≡◌, ◌⊎◌, ◌∷◌, ◌==◌, [], ap, Bool, CallTable, contained, false, false≢true, inl, inr, lasting_dir, List, look, None≢Some, Only, ProcessState, refl, Some}
use Rattle.pua_jointly.proofs.Common.{At, Cover, covered_verdict, empty_tree, is_allowed, is_dir, None, Object, Option, removable_dir, same_Some, Stands, sym}
use Rattle.pua_jointly.proofs.Common.{Tree, true, Way, Whole, ◌∙◌, ℕ}
use Rattle.std.specs.Prelude.{⊤, ◌+◌, codes}
use Rattle.pua_path.specs.declared.errno.Errno.{Errno}
use Rattle.pua_path.specs.declared.found.Way.TheVariants.{Named}
use Rattle.pua_tree.specs.Tree.{device, is_mount}
use Rattle.std.specs.List.{Contains}
use Rattle.pua_policy.specs.Verdict.{IsFile, IsMissing, allowed_unless, cover_fault, object_fault, or_fault}
use Rattle.pua_calls.specs.Calls.{openbsd_table, rule_of, standard_table}
use Rattle.pua_calls.specs.Promises.{fattr, sendfd, reading, writing, executing, creating}
use Rattle.pua_calls.specs.declared.call.Call.TheVariants as call
use Rattle.pua_ever.specs.Ever.{NewLink, turning_calls}
use Rattle.pua_tree.specs.declared.node.Kind.TheVariants as kind
use Rattle.pua_jointly.specs.Jointly.{Can, Fact, Free, IsJointlyAllowed, Shows, Seat, Old, Made, Maker, Row, StandsIn, StandsAt, seat_device, source_device, stays_in, moved_in, born_in, not_above_root, not_above_up}
use Rattle.pua_jointly.specs.Jointly.{not_above_made, dir_own, dir_root, dir_within, name_own, name_within, free_none, free_made, free_dir, free_other, way_in_by_c, way_in_by_name}
use Rattle.pua_jointly.specs.Jointly.{way_in_by_turn, writes_at, makes_at}
use Rattle.pua_jointly.specs.Jointly.{stays_at, moved_at, born_at, shows_dir, shows_emptied, shows_row, shows_name, IsJointlyStarted, turning_by}
use Rattle.pua_jointly.specs.JointlyExamples.{mover, reader, writer, opener, remover, binder, placer, crew, three, opened, JointlyRows}
use Rattle.pua_jointly.specs.JointlyExamples.{executer, file_in, mounted_in_tree, mounted_tree, opening, sender, sending}
use Rattle.pua_ever.specs.ThroughExamples.{started_tree}

-- the mover brings s from /in to /out
moved : (all : List ProcessState) → Contains all mover → Can started_tree standard_table all (StandsAt (Row (1, codes "s")) (Old 2) (codes "s"))
moved all among =
    moved_at mover (Old 1) (codes "s") (Only creating) among (stays_at 3 refl refl) (name_within refl (dir_own refl refl)) refl
    (writes_at (Only creating) (name_within refl (dir_own refl refl)) refl (free_none refl)) refl

-- the placer brings it to the name k there
placed_at : Can started_tree standard_table (placer ∷ reader ∷ []) (StandsAt (Row (1, codes "s")) (Old 2) (codes "k"))
placed_at =
    moved_at placer (Old 1) (codes "s") (Only creating) (contained (placer ∷ reader ∷ []) placer (inl refl)) (stays_at 3 refl refl)
    (name_within refl (dir_own refl refl)) refl (writes_at (Only creating) (name_own refl refl) refl (free_none refl)) refl

-- and the mover moves /in into /out
abbrev is_in : Seat → Bool
is_in (Old dir) = dir == 1
is_in (Made maker) = false

dir_moved : Can started_tree standard_table crew (StandsIn (Old 1) (Old 2))
dir_moved =
    moved_in mover (Only creating) (contained crew mover (inl refl)) (dir_own refl refl) refl (way_in_by_c (Only creating) (dir_own refl refl) refl)
    (not_above_up (Old 0) (λ e. false≢true (ap is_in e)) (stays_in (codes "out") refl refl)
    (not_above_root (λ e. false≢true (sym (ap (λ n. n == 1) e))))) refl

-- who executes in /in starts s there, were it a program
executed : (all : List ProcessState) → IsJointlyStarted started_tree openbsd_table all executer file_in
executed all = record {
  cover = Only executing;
  is = kind.File;
  starts = refl;
  shows = shows_row (Old 1) (codes "s") refl (stays_at 3 refl refl) (name_within refl (dir_own refl refl));
  allowed = refl;
}

-- what is no directory is at names of its device alone, and a directory stays in those of its device, or where it stood
abbrev OnDevice : Tree → Fact → Type 0
OnDevice t (StandsAt r d name) = source_device t r ≡ seat_device t d
OnDevice t (StandsIn (Old d) (Old p)) = ((name : List ℕ) × (look t p name ≡ Some d)) ⊎ (device t d ≡ device t p)
OnDevice t _ = ⊤

module _ (t : Tree) (table : CallTable) (all : List ProcessState) where
  on_device : {fact : Fact} → Can t table all fact → OnDevice t fact
  on_device (stays_in name at is) = inl (name, at)
  on_device (moved_in {d = Old d} {p = Old p} a k among over can way apart near) = inr near
  on_device (moved_in {d = Old d} {p = Made m} a k among over can way apart near) = tt
  on_device (moved_in {d = Made m} a k among over can way apart near) = tt
  on_device (born_in among makes way near) = tt
  on_device (not_above_root other) = tt
  on_device (not_above_up p other stands apart) = tt
  on_device (not_above_made) = tt
  on_device (dir_own is own) = tt
  on_device (dir_root none) = tt
  on_device (dir_within p none stands over) = tt
  on_device (name_own is own) = tt
  on_device (name_within none over) = tt
  on_device (free_none none) = tt
  on_device (free_made) = tt
  on_device (free_dir a d k among may at is none over c) = tt
  on_device (free_other a x k among may at is over c) = tt
  on_device (way_in_by_c k over c) = tt
  on_device (way_in_by_name name perms is own c free) = tt
  on_device (way_in_by_turn y perms other k stands own c free over can apart clear near same) = tt
  on_device (writes_at k over c free) = tt
  on_device (makes_at d name k over free makes near) = tt
  on_device (stays_at x at other) = refl
  on_device (moved_at a d name k among stands over can writes near) = near
  on_device (born_at among makes writes near) = sym near

-- the mover makes a link on /out where another file system is mounted
made_there : Can mounted_tree standard_table crew (StandsAt (Maker NewLink (mover, 2)) (Old 2) (codes "n"))
made_there =
    born_at (contained crew mover (inl refl))
    (makes_at (Old 2) (codes "n") (Only creating) (name_within refl (dir_own refl refl)) (free_none refl) refl refl)
    (writes_at (Only creating) (name_within refl (dir_own refl refl)) refl (free_none refl)) refl

-- the name of a mount point never comes to be free
mount_stays : (t : Tree) (all : List ProcessState) (dir : ℕ) (name : List ℕ) (y : ℕ) → look t dir name ≡ Some y → is_dir t y ≡ true →
    is_mount t y ≡ true → Can t standard_table all (Free (Old dir) name) → ⊥
mount_stays t all dir name y there is mount (free_none none) = None≢Some y (sym none ∙ there)
mount_stays t all dir name y there is mount (free_dir a d k among may at lives none over c) =
    false≢true (sym none ∙ ap (is_mount t) (same_Some d y (sym at ∙ there)) ∙ mount)
mount_stays t all dir name y there is mount (free_other a x k among may at other over c) =
    false≢true (sym other ∙ ap (is_dir t) (same_Some x y (sym at ∙ there)) ∙ is)

-- what stays is not removed
never_removed : (t : Tree) (d : ℕ) (way : Way) (all : List ProcessState) →
    (is_mount t d ≡ false → ((name : List ℕ) (x : ℕ) → look t d name ≡ Some x → Can t standard_table all (Free (Old d) name)) → ⊥) →
    IsJointlyAllowed t standard_table all mover (Stands (At (Whole d way))) call.Rmdir → ⊥
never_removed t d way all never can = by can.shows can.allowed
  where
    allowed : Cover → Object → Bool
    allowed k object = is_allowed (covered_verdict empty_tree standard_table mover call.Rmdir k object)

    lasts : (fault : Option Errno) →
        is_allowed (allowed_unless (or_fault fault (object_fault standard_table.whose empty_tree call.Rmdir lasting_dir))) ≡ true → ⊥
    lasts None e = false≢true e
    lasts (Some errno) e = false≢true e

    by : {k : Cover} {o : Object} → Shows t standard_table all mover (Stands (At (Whole d way))) k o → allowed k o ≡ true → ⊥
    by {k = k} (shows_dir cover) e = lasts (cover_fault k (rule_of standard_table call.Rmdir).perms) e
    by (shows_emptied other none cover free) e = never none free

pub jointly_rows : JointlyRows
jointly_rows = record {
  brought = record {
    cover = Only reading;
    object = IsFile;
    shows = shows_row (Old 2) (codes "s") refl (moved crew (contained crew mover (inl refl))) (name_within refl (dir_own refl refl));
    named = refl;
    allowed = refl;
  };
  unread = λ can. false≢true can.allowed;
  turned = inr (
    refl,
    record {
      cover = Only executing;
      is = kind.File;
      starts = refl;
      shows = shows_row (Old 2) (codes "s") refl (moved three (contained three mover (inl refl))) (name_within refl (dir_own refl refl));
      allowed = refl;
    },
    record {
      agent = writer;
      among = contained three writer (inr (inl refl));
      row = (1, codes "s");
      at = refl;
      file = refl;
      by = inl (record {
        call = call.OpenWrite;
        turns = contained turning_calls call.OpenWrite (inl refl);
        allowed = record {
          cover = Only writing;
          object = IsFile;
          shows = shows_row (Old 2) (codes "s") refl (moved three (contained three mover (inl refl))) (name_within refl (dir_own refl refl));
          named = refl;
          allowed = refl;
        };
      });
    },
  );
  held = inr (
    refl,
    record {
      cover = Only executing;
      is = kind.File;
      starts = refl;
      shows = shows_row (Old 2) (codes "s") refl (moved opened (contained opened mover (inl refl))) (name_within refl (dir_own refl refl));
      allowed = refl;
    },
    record {
      agent = opener fattr;
      among = contained opened (opener fattr) (inr (inl refl));
      row = (1, codes "s");
      at = refl;
      file = refl;
      by = inr refl;
    },
  );
  held_by_fattr = refl;
  held_by_another = refl;
  sent = inr (
    refl,
    executed sending,
    record {
      agent = opener sendfd;
      among = contained sending (opener sendfd) (inl refl);
      row = (1, codes "s");
      at = refl;
      file = refl;
      by = inr refl;
    },
  );
  opened_and_sent = inr (
    refl,
    executed opening,
    record {
      agent = sender;
      among = contained opening sender (inl refl);
      row = (1, codes "s");
      at = refl;
      file = refl;
      by = inl (record {
        call = call.OpenRead;
        turns = contained (turning_by true) call.OpenRead (inl refl);
        allowed = record {
          cover = Only reading;
          object = IsFile;
          shows = shows_row (Old 1) (codes "s") refl (stays_at 3 refl refl) (name_within refl (dir_own refl refl));
          named = refl;
          allowed = refl;
        };
      });
    },
  );
  unsent = refl;
  unreceived = refl;
  unset = refl;
  unknown = refl;
  freed = record {
    cover = Only (writing + creating);
    object = IsMissing;
    shows = shows_name refl refl
        (free_other remover 4 (Only creating) (contained (remover ∷ binder ∷ []) remover (inl refl)) refl refl refl (name_own refl refl) refl);
    named = refl;
    allowed = refl;
  };
  placed = record {
    cover = Only reading;
    object = IsFile;
    shows = shows_row (Old 2) (codes "k") refl placed_at (name_within refl (dir_own refl refl));
    named = refl;
    allowed = refl;
  };
  followed = record {
    cover = Only reading;
    object = lasting_dir;
    shows = shows_dir (dir_within (Old 2) refl dir_moved (dir_own refl refl));
    named = refl;
    allowed = refl;
  };
  second = refl;
  started = refl;
  unbounded = refl;
  counts = refl;
  silent = refl;
  all_open = refl;
  stays = λ all d name stands. sym (on_device mounted_tree standard_table all stands);
  apart = λ all name stands. false≢true (ap (λ n. n == 2) (on_device mounted_tree standard_table all stands));
  made = made_there;
  made_moved = moved_at mover (Old 2) (codes "n") (Only creating) (contained crew mover (inl refl)) made_there
      (name_within refl (dir_own refl refl)) refl (writes_at (Only creating) (name_within refl (dir_own refl refl)) refl (free_none refl)) refl;
  made_apart = λ all name stands. false≢true (ap (λ n. n == 0) (on_device mounted_tree standard_table all stands));
  out_of_it = λ all stands. elim (on_device mounted_tree standard_table all stands) [
    | inl at ↦ None≢Some 1 at.1
    | inr near ↦ false≢true (ap (λ n. n == 2) near)
  ];
  kept = λ all free. mount_stays mounted_tree all 0 (codes "out") 2 refl refl refl free;
  mounted = λ all can. never_removed mounted_tree 2 (Named 0 (codes "out")) all (λ none free. false≢true (sym none)) can;
  above_it = λ all can.
      never_removed mounted_in_tree 1 (Named 0 (codes "in")) all
      (λ none free. mount_stays mounted_in_tree all 1 (codes "s") 3 refl refl refl (free (codes "s") 3 refl)) can;
  removed = record {
    cover = Only creating;
    object = removable_dir;
    shows = shows_emptied (λ root. false≢true (sym (ap (λ n. n == 2) root))) refl (dir_own refl refl) (λ name x at. absurd (None≢Some x at));
    named = refl;
    allowed = refl;
  };
}
