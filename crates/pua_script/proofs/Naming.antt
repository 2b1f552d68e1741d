-- What a path of bytes names has a name.
use Rattle.pua_script.proofs.Common.{◌≡◌, ℕ, zero, suc, List, [], ◌∷◌, ◌++◌, map, Bool, true, false, not, ◌&&◌, cond, refl, sym, ap, subst}
use Rattle.pua_script.proofs.Common.{◌∙◌, arith, Option, Some, None, option_map, Result, Ok, Err, nat_lt, nat_le, ◌==◌, list_all}
use Rattle.pua_script.proofs.Common.{false≢true, true≢false, and_parts, and_from, lt-ltb, not-true, is_target, has_byte, ◌>>=◌}
use Rattle.pua_script.proofs.Common.{Tree, Node, is_dir, look, node_at, above, target_fits, Kind, sound_from, parts_of, is_absolute}
use Rattle.pua_script.proofs.Common.{path_fault, text_errno, resolve_parts, resolution_of_text, most_links, Errno, ENOENT, LongText}
use Rattle.pua_script.proofs.Common.{LongComponent, NulInText, Ending, Last, Found, Whole, Slot, is_bytes}
use Rattle.std.specs.Prelude.{length, unwrap_or}
use Rattle.std.specs.List.{filter, slice_split, onto_first}
use Rattle.std.proofs.lemmas.List.Folds.{list_all-append}
use Rattle.std.proofs.lemmas.Bool.{or_parts}
use Rattle.pua_tree.specs.Names.{is_name, is_name_byte, same_bytes, components, has_short_components}
use Rattle.pua_tree.specs.Limits.{most_name}
use Rattle.pua_tree.specs.declared.node.Kind.TheVariants as kind
use Rattle.pua_path.specs.Limits.{most_path}
use Rattle.pua_path.specs.Paths.{part_of, ending_parts, ends_in_slash}
use Rattle.pua_path.specs.Resolution.{Resolved, Directory, Linked, Plain, Nothing, standing_at, standing_of, is_followed, slot_or, walk}
use Rattle.pua_path.specs.Resolution.{start_of}
use Rattle.pua_path.specs.declared.errno.Errno.TheVariants.{ENOTDIR, ELOOP}
use Rattle.pua_path.specs.declared.text.Ending.TheVariants as ending
use Rattle.pua_path.specs.declared.found.Part.{Part}
use Rattle.pua_path.specs.declared.found.Part.TheVariants as parts
use Rattle.pua_path.specs.declared.found.Way.{Way}
use Rattle.pua_path.specs.declared.found.Way.TheVariants as way
use Rattle.pua_script.specs.Bytes.{IsByteTree}
use Rattle.pua_path.specs.declared.found.Start.{Start}
use Rattle.pua_path.specs.Resolution.{above_in, rooted, seen_from, starts}

abbrev slash : ℕ → Bool
slash b = b == 47

-- bytes of names, between slashes
abbrev plain : List ℕ → Bool
plain piece = list_all is_name_byte piece

above_zero : (n : ℕ) → (n == 0) ≡ false → nat_lt 0 n ≡ true
above_zero zero e = absurd (true≢false e)
above_zero (suc n) e = lt-ltb 0 (suc n) (omega arith)

byte_named : (b : ℕ) → (b == 0) ≡ false → nat_lt b 256 ≡ true → slash b ≡ false → is_name_byte b ≡ true
byte_named b some small other = and_from (nat_lt 0 b) _ (above_zero b some) (and_from (nat_lt b 256) _ small (ap not other))

-- the pieces of a text of bytes without NUL
first_plain : (b : ℕ) (pieces : List (List ℕ)) → is_name_byte b ≡ true → list_all plain pieces ≡ true →
    list_all plain (onto_first b pieces) ≡ true
first_plain b [] is all = and_from (plain (b ∷ [])) true (and_from (is_name_byte b) true is refl) refl
first_plain b (piece ∷ pieces) is all =
    let two = and_parts (plain piece) (list_all plain pieces) all in
    and_from (plain (b ∷ piece)) _ (and_from (is_name_byte b) _ is two.0) two.1

pieces_plain : (text : List ℕ) → has_byte 0 text ≡ false → is_bytes text ≡ true → list_all plain (slice_split slash text) ≡ true
pieces_plain [] none small = refl
pieces_plain (b ∷ more) none small =
    let here = or_parts (b == 0) (has_byte 0 more) none in
    let low = and_parts (nat_lt b 256) (is_bytes more) small in
    by (slash b) refl here.0 low.0 (pieces_plain more here.1 low.1)
  where
    by : (v : Bool) → slash b ≡ v → (b == 0) ≡ false → nat_lt b 256 ≡ true → list_all plain (slice_split slash more) ≡ true →
        list_all plain (cond v ([] ∷ slice_split slash more) (onto_first b (slice_split slash more))) ≡ true
    by true e some low rest = rest
    by false e some low rest = first_plain b (slice_split slash more) (byte_named b some low e) rest

-- a part that is a name where it is one
abbrev pub is_named : Part → Bool
is_named parts.Dot = true
is_named parts.DotDot = true
is_named (parts.Name name) = is_name name

abbrev is_some_piece : List ℕ → Bool
is_some_piece piece = nat_lt 0 (length piece)

abbrev is_short : List ℕ → Bool
is_short piece = nat_le (length piece) most_name

part_named : (piece : List ℕ) → is_some_piece piece ≡ true → is_short piece ≡ true → plain piece ≡ true → is_named (part_of piece) ≡ true
part_named piece some short bytes = by (same_bytes piece (46 ∷ [])) (same_bytes piece (46 ∷ 46 ∷ [])) refl refl
  where
    by : (one two : Bool) → same_bytes piece (46 ∷ []) ≡ one → same_bytes piece (46 ∷ 46 ∷ []) ≡ two →
        is_named (cond one parts.Dot (cond two parts.DotDot (parts.Name piece))) ≡ true
    by true two e f = refl
    by false true e f = refl
    by false false e f =
        and_from (is_some_piece piece) _ some (and_from (is_short piece) _ short (and_from (plain piece) _ bytes
        (and_from (not (same_bytes piece (46 ∷ []))) _ (ap not e) (ap not f))))

parts_named : (pieces : List (List ℕ)) → list_all plain pieces ≡ true → list_all is_short (filter is_some_piece pieces) ≡ true →
    list_all is_named (map part_of (filter is_some_piece pieces)) ≡ true
parts_named [] bytes short = refl
parts_named (piece ∷ pieces) bytes short =
    let two = and_parts (plain piece) (list_all plain pieces) bytes in
    by (is_some_piece piece) refl two.0 (parts_named pieces two.1) short
  where
    by : (v : Bool) → is_some_piece piece ≡ v → plain piece ≡ true → (list_all is_short (filter is_some_piece pieces) ≡ true →
        list_all is_named (map part_of (filter is_some_piece pieces)) ≡ true) →
        list_all is_short (cond v (piece ∷ filter is_some_piece pieces) (filter is_some_piece pieces)) ≡ true →
        list_all is_named (map part_of (cond v (piece ∷ filter is_some_piece pieces) (filter is_some_piece pieces))) ≡ true
    by false e bytes rest short = rest short
    by true e bytes rest short =
        let both = and_parts (is_short piece) _ short in
        and_from (is_named (part_of piece)) _ (part_named piece e both.0 bytes) (rest both.1)

ending_named : (end : Ending) (pieces : List (List ℕ)) (slashed : Bool) → list_all is_named (ending_parts end pieces slashed) ≡ true
ending_named ending.Dropped pieces slashed = refl
ending_named ending.Dot [] slashed = refl
ending_named ending.Dot (piece ∷ pieces) true = refl
ending_named ending.Dot (piece ∷ pieces) false = refl

text_parts : (end : Ending) (text : List ℕ) → has_byte 0 text ≡ false → has_short_components text ≡ true → is_bytes text ≡ true →
    list_all is_named (parts_of end text) ≡ true
text_parts end text none short small =
    list_all-append is_named (map part_of (components text)) (ending_parts end (components text) (ends_in_slash text))
    ∙ and_from (list_all is_named (map part_of (components text))) _ (parts_named (slice_split slash text) (pieces_plain text none small)
    short)
    (ending_named end (components text) (ends_in_slash text))

-- the name by which something was found
abbrev pub has_name : Found → Bool
has_name (Whole dir (way.Named parent name)) = is_name name
has_name (Whole dir _) = true
has_name (Slot dir name _) = is_name name

abbrev IsNamed : Resolved → Type 0
IsNamed (Ok found) = has_name found.0 ≡ true
IsNamed (Err errno) = Unit {0}

slot_named : (rest : List Part) (found : Found) (errno : Errno) (links : ℕ) → has_name found ≡ true →
    IsNamed (slot_or rest found errno links)
slot_named [] found errno links is = is
slot_named (part ∷ rest) found errno links is = tt

module _ (t : Tree) (is_tree : IsByteTree t) where
  -- the target of a link that stands somewhere
  abbrev IsLead : List ℕ → Type 0
  IsLead target = (is_target target ≡ true) × (is_bytes target ≡ true)

  lead_of : (y : ℕ) (o : Option (List ℕ)) → target_fits kind.Link o ≡ true →
      ((target : List ℕ) → o ≡ Some target → is_bytes target ≡ true) → IsLead (unwrap_or o [])
  lead_of y None fits small = absurd (false≢true fits)
  lead_of y (Some target) fits small = (fits, small target refl)

  linked_lead : (dir : ℕ) (name : List ℕ) (x : ℕ) (target : List ℕ) → standing_at t dir name ≡ Linked x target → IsLead target
  linked_lead dir name x target = at (look t dir name) refl
    where
      kinds : (y : ℕ) (n : Node) → node_at t y ≡ Some n → (k : Kind) → n.kind ≡ k →
          standing_of y (Some (record { kind = k; target = n.target; mount = n.mount })) ≡ Linked x target → IsLead target
      kinds y n here kind.Dir e is = cc
      kinds y n here kind.File e is = cc
      kinds y n here kind.Prog e is = cc
      kinds y n here (kind.Known type) e is = cc
      kinds y n here kind.Link e is =
          let same : unwrap_or n.target [] ≡ target = cc in
          subst IsLead same (lead_of y n.target (ap (λ k. target_fits k n.target) (sym e) ∙ ((sound_from t is_tree.tree).node y n here).1)
          (λ lead there. is_tree.targets y lead (ap (λ o. Rattle.std.specs.Prelude.option_and_then (λ m. m.target) o) here ∙ there)))

      node : (y : ℕ) (o : Option Node) → node_at t y ≡ o → standing_of y o ≡ Linked x target → IsLead target
      node y None here is = cc
      node y (Some n) here is = kinds y n here n.kind refl is

      at : (o : Option ℕ) → look t dir name ≡ o → standing_at t dir name ≡ Linked x target → IsLead target
      at None e = rw e (λ is. cc)
      at (Some y) e = rw e (λ is. node y (node_at t y) refl is)

  module _ (root : ℕ) (mode : Last) (links : ℕ) (follow : ℕ → List ℕ → List Part → Resolved)
      (follows : (from : ℕ) (target : List ℕ) (rest : List Part) → IsLead target → list_all is_named rest ≡ true →
      IsNamed (follow from target rest)) where
    linked_named : (b : Bool) (from : ℕ) (target : List ℕ) (rest : List Part) (found : Found) → IsLead target →
        list_all is_named rest ≡ true → has_name found ≡ true → IsNamed (cond b (follow from target rest) (Ok (found, links)))
    linked_named true from target rest found lead all is = follows from target rest lead all
    linked_named false from target rest found lead all is = is

    walk_named : (ps : List Part) (dir : ℕ) (by : Way) → list_all is_named ps ≡ true → has_name (Whole dir by) ≡ true →
        IsNamed (walk (rooted t root) mode links follow dir by ps)
    walk_named [] dir by all is = is
    walk_named (parts.Dot ∷ ps) dir by all is = walk_named ps dir way.Dot all refl
    walk_named (parts.DotDot ∷ ps) dir by all is = walk_named ps (above_in (rooted t root) dir) way.DotDot all refl
    walk_named (parts.Name name ∷ ps) dir by all is =
        let two = and_parts (is_name name) (list_all is_named ps) all in
        (elim (standing_at t dir name) as (λ s. standing_at t dir name ≡ s → IsNamed (elim s [
          | Directory x ↦ walk (rooted t root) mode links follow x (way.Named dir name) ps
          | Linked x target ↦ cond (is_followed mode ps) (follow dir target ps) (Ok (Slot dir name (Some x), links))
          | Plain x ↦ slot_or ps (Slot dir name (Some x)) ENOTDIR links
          | Nothing ↦ slot_or ps (Slot dir name None) ENOENT links
        ])) [
          | Directory x ↦ λ e. walk_named ps x (way.Named dir name) two.1 two.0
          | Linked x target ↦ λ e. linked_named (is_followed mode ps) dir target ps (Slot dir name (Some x))
              (linked_lead dir name x target e) two.1 two.0
          | Plain x ↦ λ e. slot_named ps (Slot dir name (Some x)) ENOTDIR links two.0
          | Nothing ↦ λ e. slot_named ps (Slot dir name None) ENOENT links two.0
        ]) refl

  target_parts : (target : List ℕ) → IsLead target → list_all is_named (parts_of ending.Dot target) ≡ true
  target_parts target lead =
      let a = and_parts (nat_lt 0 (length target)) _ lead.0 in
      let b = and_parts (nat_le (length target) Rattle.pua_tree.specs.Limits.most_target) _ a.1 in
      let c = and_parts (not (has_byte 0 target)) (has_short_components target) b.1 in
      text_parts ending.Dot target (not-true (has_byte 0 target) c.0) c.1 lead.1

  resolve_named : (root : ℕ) (mode : Last) (links : ℕ) (dir : ℕ) (by : Way) (ps : List Part) → list_all is_named ps ≡ true →
      has_name (Whole dir by) ≡ true → IsNamed (resolve_parts links (rooted t root) mode dir by ps)
  resolve_named root mode zero dir by ps all is =
      walk_named root mode 0 (λ from target rest. Err ELOOP) (λ from target rest lead all. tt) ps dir by all is
  resolve_named root mode (suc links) dir by ps all is =
      walk_named root mode (suc links) _ (λ from target rest lead rest_all. resolve_named root mode links (start_of root target from) way.Top
      (parts_of ending.Dot target ++ rest)
      (list_all-append is_named (parts_of ending.Dot target) rest ∙
      and_from (list_all is_named (parts_of ending.Dot target)) _ (target_parts target lead) rest_all) refl) ps dir by all is

  -- what a text of bytes names
  abbrev pub FoundNamed : Result Found Errno → Type 0
  FoundNamed (Ok object) = has_name object ≡ true
  FoundNamed (Err errno) = Unit {0}

  named_from : (r : Resolved) → IsNamed r → FoundNamed (r >>= λ found. Ok found.0)
  named_from (Ok found) is = is
  named_from (Err errno) is = tt

  named_if : (b : Bool) (r : Result Found Errno) → FoundNamed r → FoundNamed (cond b (Err ENOENT) r)
  named_if true r is = tt
  named_if false r is = is

  fault_free : (long short nul : Bool) →
      option_map text_errno (cond long (Some LongText) (cond (not short) (Some LongComponent) (cond nul (Some NulInText) None))) ≡ None →
      (nul ≡ false) × (short ≡ true)
  fault_free true short nul e = cc
  fault_free false false nul e = cc
  fault_free false true true e = cc
  fault_free false true false e = (refl, refl)

  pub text_named : (from : Start) (end : Ending) (text : List ℕ) (mode : Last) → is_bytes text ≡ true →
      FoundNamed (resolution_of_text t from end text mode)
  text_named from end text mode small = by (path_fault text) refl
    where
      fits : (text : List ℕ) → path_fault text ≡ None → (has_byte 0 text ≡ false) × (has_short_components text ≡ true)
      fits [] e = cc
      fits (b ∷ more) e = fault_free (nat_lt most_path (length (b ∷ more))) (has_short_components (b ∷ more)) (has_byte 0 (b ∷ more)) e

      by : (o : Option Errno) → path_fault text ≡ o → FoundNamed (resolution_of_text t from end text mode)
      by None e = let two = fits text e in rw e
          (named_if (not (starts t from text)) _
          (named_from _ (resolve_named (seen_from t from).root mode most_links (start_of from.root text from.dir) way.Top (parts_of end text)
          (text_parts end text two.0 two.1 small) refl)))
      by (Some errno) e = rw e tt
