-- The calls of a line, by whether it is about a link.
use Rattle.pua_objects.proofs.Common.{◌≡◌, ◌≢◌, ℕ, Bool, true, false, refl, sym, ap, subst, ◌∙◌, Option, Some, None, is_none, not, ◌&&◌}
use Rattle.pua_objects.proofs.Common.{◌||◌, if◌then◌else◌, Tree, Kind, Found, Whole, Slot, CallTable, ProcessState, object_of, is_link}
use Rattle.pua_objects.proofs.Common.{is_link_kind, verdict, is_allowed, Call, Subject, At, Others, cover_in, IsItemOn}
use Rattle.std.specs.Prelude.{codes}
use Rattle.pua_tree.specs.Tree.{kind_at}
use Rattle.pua_tree.specs.declared.node.Kind.TheVariants as kinds
use Rattle.pua_calls.specs.CallSets.{has, keeps_link}
use Rattle.pua_calls.specs.declared.rules.Rules.TheVariants.{Standard}
use Rattle.pua_policy.specs.Objects.{object_seen}
use Rattle.pua_policy.specs.Verdict.{cover, object_of_kind, rmdir_fault}
use Rattle.pua_policy.specs.declared.object.Object as seen
use Rattle.pua_policy.specs.declared.object.Object.TheVariants as see
use Rattle.pua_objects.specs.Objects.{object_word}
use Rattle.pua_objects.specs.Items.{subject_given, cover_on, object_on}
use Rattle.pua_objects.specs.Lines.{IsLineOn, kind_seen, kind_word}
use Rattle.pua_objects.specs.declared.item.Item as given
use Rattle.pua_objects.specs.declared.item.Subject as told
use Rattle.pua_objects.specs.declared.item.Subject.TheVariants as about
use Rattle.pua_objects.specs.declared.line.ObjectLine.{ObjectLine}

abbrev pub is_link_seen : seen.Object → Bool
is_link_seen (see.Node kind) = is_link_kind (Some kind)
is_link_seen _ = false

abbrev seen_of : Tree → Found → seen.Object
seen_of t found = object_seen t (object_of t found)

pub no_link : (o : seen.Object) → o ≢ see.Node kinds.Link → is_link_seen o ≡ false
no_link (see.Node kinds.Link) other = absurd (other refl)
no_link (see.Node kinds.Dir) other = refl
no_link (see.Node _) other = refl
no_link _ other = refl

link_kind : (t : Tree) (k : Option Kind) → is_link_seen (object_seen t (object_of_kind k)) ≡ is_link_kind k
link_kind t None = refl
link_kind t (Some kind) = refl

word_kind : (t : Tree) (k : Option Kind) → kind_word (kind_seen (object_seen t (object_of_kind k))) ≡ object_word (object_of_kind k)
word_kind t None = refl
word_kind t (Some kind) = refl

abbrev dir_seen : Bool → seen.Object
dir_seen b = if b then see.Removable else see.Node kinds.Dir

link_dir : (b : Bool) → is_link_seen (dir_seen b) ≡ false
link_dir true = refl
link_dir false = refl

word_dir : (b : Bool) → kind_word (kind_seen (dir_seen b)) ≡ codes "dir"
word_dir true = refl
word_dir false = refl

link_seen : (t : Tree) (found : Found) → is_link_seen (seen_of t found) ≡ is_link t found
link_seen t (Whole dir way) = link_dir (is_none (rmdir_fault Standard t dir way))
link_seen t (Slot dir name None) = refl
link_seen t (Slot dir name (Some x)) = link_kind t (kind_at t x)

pub word_seen : (t : Tree) (found : Found) → kind_word (kind_seen (seen_of t found)) ≡ object_word (object_of t found)
word_seen t (Whole dir way) = word_dir (is_none (rmdir_fault Standard t dir way))
word_seen t (Slot dir name None) = refl
word_seen t (Slot dir name (Some x)) = word_kind t (kind_at t x)

pub kept_alone : (k a : Bool) → (a && k) ≡ ((k || false) && a)
kept_alone true true = refl
kept_alone true false = refl
kept_alone false true = refl
kept_alone false false = refl

pub kept_or_not : (k a : Bool) → a ≡ ((k || true) && a)
kept_or_not true a = refl
kept_or_not false a = refl

-- a line by what is seen of the object
pub lined : (t : Tree) (table : CallTable) (h : ProcessState) (found : Found) (object : seen.Object) (line : ObjectLine) →
    object ≡ seen_of t found → line.kind ≡ kind_seen object
    → ((call : Call) → has line.calls call ≡ ((keeps_link call || not (is_link_seen object)) && is_allowed (verdict t table h call found)))
    → IsLineOn t table h (At found) line
lined t table h found object line is kind calls = record {
  kind = ap kind_word (kind ∙ ap kind_seen is) ∙ word_seen t found;
  calls = λ call. calls call ∙ ap (λ b. (keeps_link call || not b) && is_allowed (verdict t table h call found)) (ap is_link_seen is ∙
      link_seen t found);
}

-- the line of an item, by whether it is about further names
module _ (t : Tree) (table : CallTable) (h : ProcessState) (subject : Subject) (item : given.Item) (on : IsItemOn t h subject item)
    (line : ObjectLine) where
  pub others_lined : (dir : ℕ) → item.subject ≡ about.Others dir → (item.cover ≡ cover_in t h dir → item.object ≡ see.Missing →
      IsLineOn t table h (Others dir) line) → IsLineOn t table h subject line
  others_lined dir is lines =
      let same : Others dir ≡ subject = ap (subject_given t) (sym is) ∙ on.subject in
      subst (λ (s : Subject). IsLineOn t table h s line) same (lines (on.cover ∙ ap (cover_on t h) (sym same)) (on.object ∙
      ap (object_on t) (sym same)))

  no_others : (s : told.Subject) (dir : ℕ) → ((d : ℕ) → s ≢ about.Others d) → subject_given t s ≡ Others dir → ⊥
  no_others about.Root dir other is = cc
  no_others (about.Dir id over name) dir other is = cc
  no_others (about.Others d) dir other is = other d refl
  no_others (about.Name over name) dir other is = cc

  pub found_lined : ((dir : ℕ) → item.subject ≢ about.Others dir) →
      ((found : Found) → item.cover ≡ cover t h found → item.object ≡ seen_of t found → IsLineOn t table h (At found) line) →
      IsLineOn t table h subject line
  found_lined other lines = by subject on
    where
      by : (s : Subject) → IsItemOn t h s item → IsLineOn t table h s line
      by (At found) on = lines found on.cover on.object
      by (Others dir) on = absurd (no_others item.subject dir other on.subject)
