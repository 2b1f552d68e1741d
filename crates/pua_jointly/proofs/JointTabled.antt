-- The least table of kept facts has all facts, and no others.
use Rattle.pua_jointly.proofs.Common.{◌≡◌, ◌∙◌, ℕ, Bool, List, length, sym, subst, Some, same_Some, Spot, Tree, WellFormed, CallTable, ProcessState}
use Rattle.std.specs.Prelude.{◌*◌}
use Rattle.pua_jointly.specs.Closing.{IsClosed, Reached, reached, AreReached}
use Rattle.pua_jointly.specs.JointFacts.{Kept, Means, IsOfCrew, WatchesEnough, Follows, watches}
use Rattle.pua_jointly.specs.JointTable.{Layout, IsTold, FollowsAt, HasBit, HasFacts, TableFits, TableLaw, table_says, entities, columns, hands_of}
use Rattle.pua_jointly.proofs.JointFound.{sound, complete}
use Rattle.pua_jointly.proofs.JointPlaced.{follows_bit}
use Rattle.pua_jointly.proofs.JointWatched.{watches_enough}

module _ (t : Tree) (well : WellFormed t) (table : CallTable) (crew : List ProcessState) (watched : ℕ → Bool)
    (enough : WatchesEnough t table crew watched) (kept_at : Layout) where
  pub means_reached : (count : ℕ) {at bit : ℕ} → Reached (FollowsAt t table crew watched kept_at) count at bit → (x : Kept) →
      kept_at at bit ≡ Some x → Means t table crew x
  means_reached count (reached told full all within new) x says =
      subst (Means t table crew) (same_Some _ _ (sym new.says ∙ says))
      (sound t well table crew watched enough (IsTold kept_at told)
      (λ y is. means_reached count (all is.at is.bit is.known) y is.says) new.fact new.follows)

  -- what is in the table is so
  pub table_sound : (told : List ℕ) → AreReached (FollowsAt t table crew watched kept_at) told → (x : Kept) → IsTold kept_at told x →
      Means t table crew x
  table_sound told all x is = means_reached (length told) (all is.at is.bit is.known) x is.says

  -- and what follows from it is in it, if it has a bit
  pub table_closed : (told : List ℕ) → IsClosed (FollowsAt t table crew watched kept_at) told →
      ((x : Kept) → IsOfCrew crew x → Follows t table crew watched (IsTold kept_at told) x → HasBit kept_at (length told) x) →
      (x : Kept) → IsOfCrew crew x → Follows t table crew watched (IsTold kept_at told) x → IsTold kept_at told x
  table_closed told closed bits x of_crew new =
      let b = bits x of_crew new in
      record {
        at = b.at;
        bit = b.bit;
        says = b.says;
        known = closed b.at b.within b.bit (record { fact = x; says = b.says; follows = new });
      }

-- so the least table that has room for all has all facts
module _ (t : Tree) (well : WellFormed t) (table : CallTable) (crew : List ProcessState) (devices : List ℕ) (watched : ℕ → Bool)
    (enough : WatchesEnough t table crew watched) (dirs : ℕ) (spots : List Spot) (guarded : List ℕ)
    (fits : TableFits t crew devices watched dirs spots guarded) where
  abbrev says : Layout
  says = table_says (entities (hands_of crew devices) dirs spots) (columns crew guarded)

  pub has_facts : (told : List ℕ) → length told ≡ length (columns crew guarded) * length (entities (hands_of crew devices) dirs spots) →
      IsClosed (FollowsAt t table crew watched says) told → AreReached (FollowsAt t table crew watched says) told →
      HasFacts t table crew watched says told
  has_facts told full closed all = record {
    all = complete t well table crew watched enough (IsTold says told) (table_closed t well table crew watched enough says told closed
        (λ x of_crew new. subst (λ n. HasBit says n x) (sym full)
        (follows_bit t table crew devices watched dirs spots guarded fits told x of_crew new)));
    only = table_sound t well table crew watched enough says told all;
  }

pub table_law : TableLaw
table_law t well table crew devices dirs spots guarded fits told full closed all =
    has_facts t well table crew devices (watches t crew) (watches_enough t well table crew) dirs spots guarded fits told full closed all
