-- What a successful exec keeps of a history.
use Rattle.pua_policy.proofs.Common.{◌≡◌, ℕ, [], ◌∷◌, false, refl, ap, Some, Pledged, Unveiled, Locked, Moved, Ended, Filed, meet}
use Rattle.pua_policy.proofs.Common.{with_veil}
use Rattle.std.specs.Prelude.{not, filter, filter_map}
use Rattle.pua_policy.specs.States.{left_for_exec, set_file, start_after}
use Rattle.pua_policy.specs.History.{History, promises_in, execpromises_in, common, veils, files, is_ended, is_filed}
use Rattle.pua_policy.specs.History.{is_pledge, held_for_exec, is_locked, start}
use Rattle.pua_calls.specs.declared.rules.ExecPromises.{ExecPromises}
use Rattle.pua_calls.specs.declared.rules.ExecPromises.TheVariants.{Unset, Stay}

-- the events that are no pledges
abbrev pub others : History → History
others = filter (λ event. not (is_pledge event))

pub no_promises : (h : History) → filter_map promises_in (others h) ≡ []
no_promises [] = refl
no_promises (Pledged p e ∷ h) = no_promises h
no_promises (Unveiled place perms ∷ h) = no_promises h
no_promises (Locked ∷ h) = no_promises h
no_promises (Moved d ∷ h) = no_promises h
no_promises (Ended ∷ h) = no_promises h
no_promises (Filed n f ∷ h) = no_promises h

pub no_execpromises : (h : History) → filter_map execpromises_in (others h) ≡ []
no_execpromises [] = refl
no_execpromises (Pledged p e ∷ h) = no_execpromises h
no_execpromises (Unveiled place perms ∷ h) = no_execpromises h
no_execpromises (Locked ∷ h) = no_execpromises h
no_execpromises (Moved d ∷ h) = no_execpromises h
no_execpromises (Ended ∷ h) = no_execpromises h
no_execpromises (Filed n f ∷ h) = no_execpromises h

pub same_veils : (h : History) → veils (others h) ≡ veils h
same_veils [] = refl
same_veils (Pledged p e ∷ h) = same_veils h
same_veils (Unveiled place perms ∷ h) = ap (with_veil place perms) (same_veils h)
same_veils (Locked ∷ h) = same_veils h
same_veils (Moved d ∷ h) = same_veils h
same_veils (Ended ∷ h) = same_veils h
same_veils (Filed n f ∷ h) = same_veils h

pub same_lock : (h : History) → is_locked (others h) ≡ is_locked h
same_lock [] = refl
same_lock (Pledged p e ∷ h) = same_lock h
same_lock (Unveiled place perms ∷ h) = same_lock h
same_lock (Locked ∷ h) = refl
same_lock (Moved d ∷ h) = same_lock h
same_lock (Ended ∷ h) = same_lock h
same_lock (Filed n f ∷ h) = same_lock h

pub same_starts : (h : History) → start (others h) ≡ start h
same_starts [] = refl
same_starts (Pledged p e ∷ h) = same_starts h
same_starts (Unveiled place perms ∷ h) = same_starts h
same_starts (Locked ∷ h) = same_starts h
same_starts (Moved d ∷ h) = ap (start_after d) (same_starts h)
same_starts (Ended ∷ h) = same_starts h
same_starts (Filed n f ∷ h) = same_starts h

pub same_end : (h : History) → is_ended (others h) ≡ is_ended h
same_end [] = refl
same_end (Pledged p e ∷ h) = same_end h
same_end (Unveiled place perms ∷ h) = same_end h
same_end (Locked ∷ h) = same_end h
same_end (Moved d ∷ h) = same_end h
same_end (Ended ∷ h) = refl
same_end (Filed n f ∷ h) = same_end h

pub same_files : (h : History) → files (others h) ≡ files h
same_files [] = refl
same_files (Pledged p e ∷ h) = same_files h
same_files (Unveiled place perms ∷ h) = same_files h
same_files (Locked ∷ h) = same_files h
same_files (Moved d ∷ h) = same_files h
same_files (Ended ∷ h) = same_files h
same_files (Filed n f ∷ h) = ap (set_file n f) (same_files h)

-- the events on descriptors, which each exec leaves
abbrev on_files : History → History
on_files = filter is_filed

pub files_alone : (h : History) → files (on_files h) ≡ files h
files_alone [] = refl
files_alone (Pledged p e ∷ h) = files_alone h
files_alone (Unveiled place perms ∷ h) = files_alone h
files_alone (Locked ∷ h) = files_alone h
files_alone (Moved d ∷ h) = files_alone h
files_alone (Ended ∷ h) = files_alone h
files_alone (Filed n f ∷ h) = ap (set_file n f) (files_alone h)

pub files_give_none : (h : History) → filter_map promises_in (on_files h) ≡ []
files_give_none [] = refl
files_give_none (Pledged p e ∷ h) = files_give_none h
files_give_none (Unveiled place perms ∷ h) = files_give_none h
files_give_none (Locked ∷ h) = files_give_none h
files_give_none (Moved d ∷ h) = files_give_none h
files_give_none (Ended ∷ h) = files_give_none h
files_give_none (Filed n f ∷ h) = files_give_none h

pub files_hand_none : (h : History) → filter_map execpromises_in (on_files h) ≡ []
files_hand_none [] = refl
files_hand_none (Pledged p e ∷ h) = files_hand_none h
files_hand_none (Unveiled place perms ∷ h) = files_hand_none h
files_hand_none (Locked ∷ h) = files_hand_none h
files_hand_none (Moved d ∷ h) = files_hand_none h
files_hand_none (Ended ∷ h) = files_hand_none h
files_hand_none (Filed n f ∷ h) = files_hand_none h

pub files_veil_none : (h : History) → veils (on_files h) ≡ []
files_veil_none [] = refl
files_veil_none (Pledged p e ∷ h) = files_veil_none h
files_veil_none (Unveiled place perms ∷ h) = files_veil_none h
files_veil_none (Locked ∷ h) = files_veil_none h
files_veil_none (Moved d ∷ h) = files_veil_none h
files_veil_none (Ended ∷ h) = files_veil_none h
files_veil_none (Filed n f ∷ h) = files_veil_none h

pub files_lock_none : (h : History) → is_locked (on_files h) ≡ false
files_lock_none [] = refl
files_lock_none (Pledged p e ∷ h) = files_lock_none h
files_lock_none (Unveiled place perms ∷ h) = files_lock_none h
files_lock_none (Locked ∷ h) = files_lock_none h
files_lock_none (Moved d ∷ h) = files_lock_none h
files_lock_none (Ended ∷ h) = files_lock_none h
files_lock_none (Filed n f ∷ h) = files_lock_none h

pub files_end_none : (h : History) → is_ended (on_files h) ≡ false
files_end_none [] = refl
files_end_none (Pledged p e ∷ h) = files_end_none h
files_end_none (Unveiled place perms ∷ h) = files_end_none h
files_end_none (Locked ∷ h) = files_end_none h
files_end_none (Moved d ∷ h) = files_end_none h
files_end_none (Ended ∷ h) = files_end_none h
files_end_none (Filed n f ∷ h) = files_end_none h

-- what an exec leaves of execpromises is all that the new program has of them
pub left_alone : (left : ExecPromises) (set : ℕ) (h : History) →
    held_for_exec (Pledged (Some set) (left_for_exec left set) ∷ others h) ≡ left_for_exec left set
left_alone Unset set h = ap common (no_execpromises h)
left_alone Stay set h = ap (λ sets. Some (meet set (common sets))) (no_execpromises h)
