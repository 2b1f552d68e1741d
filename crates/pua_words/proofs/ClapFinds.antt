-- What `clap` finds on words of the forms of `specs/Plain`.
use Rattle.std.proofs.Common.{◌≡◌, ◌∙◌, ◌==◌, Bool, true, false, not, List, [], ◌∷◌, ◌++◌, ◌&&◌, Option, Some, None, ap, append_assoc, codes, refl, sym}
use Rattle.std.specs.Prelude.{⊤, fold, if◌then◌else◌, unwrap_or}
use Rattle.std.specs.List.{list_all}
use Rattle.std.proofs.lemmas.List.{append-nil}
use Rattle.clap.specs.Lexer.{short_of, without_minus}
use Rattle.clap.specs.Simple.{App, built, entered, filled_from, help_rule, is_simple, names_of, subcommand_of}
use Rattle.clap.specs.Walk.{Names, Row, Rule, Text, Waiting, Walk, after_step, all_of, finished, first_of, idle, nothing_held, one_of, option, plain_word, positional, settled, subcommand_met, walk_from, walked}
use Rattle.clap.proofs.OnLiterals.{clap_on_literals}
use Rattle.pua_words.specs.Grammar.{Parsers, audit_app, how_app, objects_app, pua_app, run_app, tight_app, tree_app, why_app}
use Rattle.pua_words.specs.Plain.{is_operand, is_value, option_if, value_if}

pub pua_is_simple : (p : Parsers) → is_simple (pua_app p) ≡ true
pua_is_simple p = refl

-- the rules of a command when it is built
abbrev built_rules : App → List Rule
built_rules app = filled_from 1 (app.top.rules ++ help_rule ∷ [])

-- ---- operands

-- the walk after an operand
abbrev passed : List Rule → Text → Walk → Walk
passed c word w = after_step c word w (plain_word c w.waiting word w.held).0 (plain_word c w.waiting word w.held).1

none_met : (waiting : Waiting) (word : Text) → subcommand_met [] waiting word ≡ None
none_met idle word = refl
none_met (option id) word = refl
none_met positional word = refl

no_hyphen : (t : Bool) → not t ≡ true → t ≡ false
no_hyphen true is = sym is
no_hyphen false is = refl

operand_walked : (c : List Rule) (w : Walk) (word : Text) → is_operand word ≡ true → w.stopped ≡ None → w.is_trailing ≡ false
    → walked c [] w word ≡ passed c word w
unfolding walked
operand_walked c w [] is stopped trailing = rw (stopped, trailing, none_met w.waiting []) refl
operand_walked c w (b ∷ more) is stopped trailing =
    let plain : (b == 45) ≡ false = no_hyphen (b == 45) is in
    let no_flags : short_of (b ∷ more) ≡ None = rw plain refl in
    rw (stopped, trailing, none_met w.waiting (b ∷ more), plain, no_flags) refl

-- the walk goes on to a next operand
abbrev GoesOn : Walk → Type 0
GoesOn w = (w.stopped ≡ None) × (w.is_trailing ≡ false)

two_walked : (c : List Rule) (w : Walk) (a b : Text) → is_operand a ≡ true → is_operand b ≡ true → GoesOn w → GoesOn (passed c a w)
    → fold (walked c []) w (a ∷ b ∷ []) ≡ passed c b (passed c a w)
two_walked c w a b is_a is_b on_a on_b =
    ap (λ (v : Walk). walked c [] v b) (operand_walked c w a is_a on_a.0 on_a.1) ∙ operand_walked c (passed c a w) b is_b on_b.0 on_b.1

-- the command that is met, with what was found behind its name
abbrev met : List Rule → Text → Walk → Option (Text × List Row)
met c name w = Some (name, finished c w.held)

-- the walk goes over a value, and on
valued : (c : List Rule) (name : Text) (w : Walk) (value : Text) (more : List Text) → is_operand value ≡ true → GoesOn w
    → met c name (fold (walked c []) w (value ∷ more)) ≡ met c name (fold (walked c []) (passed c value w) more)
valued c name w value more is on =
    ap (λ (v : Walk). met c name (fold (walked c []) v more)) (operand_walked c w value is on.0 on.1)

-- ---- what is met

-- the rows of a command that ends in its two inputs
abbrev rows_with : List Rule → Walk → Text → Text → List Row
rows_with c w tree script = finished c (passed c script (passed c tree w)).held

-- the words name a command with these inputs, and what else its rows have
pub record Meets (p : Parsers) (words : List Text) (name : Text) (at : Option Text) (tree script : Text) (Has : List Row → Type 0) : Type 0 where
  pub rows : List Row
  pub is_met : subcommand_of (pua_app p) words ≡ Some (name, rows)
  pub tree_is : first_of (codes "tree") rows ≡ Some tree
  pub script_is : first_of (codes "script") rows ≡ Some script
  pub at_is : first_of (codes "at") rows ≡ at
  pub rules_is : first_of (codes "rules") rows ≡ Some (codes "profile")
  pub table_is : first_of (codes "table") rows ≡ None
  pub has : Has rows

meets : (p : Parsers) (words : List Text) (name : Text) (at : Option Text) (tree script : Text) (Has : List Row → Type 0)
    (c : List Rule) (w : Walk) → is_operand tree ≡ true → is_operand script ≡ true → GoesOn w → GoesOn (passed c tree w)
    → subcommand_of (pua_app p) words ≡ Some (name, finished c (fold (walked c []) w (tree ∷ script ∷ [])).held)
    → first_of (codes "tree") (rows_with c w tree script) ≡ Some tree
    → first_of (codes "script") (rows_with c w tree script) ≡ Some script
    → first_of (codes "at") (rows_with c w tree script) ≡ at
    → first_of (codes "rules") (rows_with c w tree script) ≡ Some (codes "profile")
    → first_of (codes "table") (rows_with c w tree script) ≡ None → Has (rows_with c w tree script)
    → Meets p words name at tree script Has
meets p words name at tree script Has c w is_tree is_script on_tree on_script met tree_is script_is at_is rules_is table_is has = record {
  rows = rows_with c w tree script;
  is_met = met ∙ ap (λ (v : Walk). Some (name, finished c v.held)) (two_walked c w tree script is_tree is_script on_tree on_script);
  tree_is = tree_is;
  script_is = script_is;
  at_is = at_is;
  rules_is = rules_is;
  table_is = table_is;
  has = has;
}

-- a flag as it is read
abbrev pub says : Bool → Option Text
says given = Some (if given then codes "true" else codes "false")

abbrev pub HasWhy : Bool → List Row → Type 0
HasWhy why rows = one_of (codes "why") rows ≡ says why

abbrev begun : List Rule → List Text → Walk
begun c words = fold (walked c []) (walk_from nothing_held) words

pub run_meets : (p : Parsers) (why : Bool) (at : Option Text) (tree script : Text) → is_value at ≡ true → is_operand tree ≡ true
    → is_operand script ≡ true
    → Meets p (codes "run" ∷ option_if why (codes "--why") (value_if at (codes "--at") (tree ∷ script ∷ []))) (codes "run") at tree script
    (HasWhy why)
unfolding clap_on_literals
run_meets p false None tree script is_at is_tree is_script =
    let c = built_rules (run_app p.run) in
    meets p _ _ None tree script _ c (begun c ([])) is_tree is_script (refl, refl) (refl, refl) refl refl refl refl refl refl refl
run_meets p false (Some at) tree script is_at is_tree is_script =
    let c = built_rules (run_app p.run) in
    let w = begun c (codes "--at" ∷ []) in
    meets p _ _ (Some at) tree script _ c (passed c at w) is_tree is_script (refl, refl) (refl, refl)
    (valued c _ w at (tree ∷ script ∷ []) is_at (refl, refl)) refl refl refl refl refl refl
run_meets p true None tree script is_at is_tree is_script =
    let c = built_rules (run_app p.run) in
    meets p _ _ None tree script _ c (begun c (codes "--why" ∷ [])) is_tree is_script (refl, refl) (refl, refl) refl refl refl refl refl refl refl
run_meets p true (Some at) tree script is_at is_tree is_script =
    let c = built_rules (run_app p.run) in
    let w = begun c (codes "--why" ∷ codes "--at" ∷ []) in
    meets p _ _ (Some at) tree script _ c (passed c at w) is_tree is_script (refl, refl) (refl, refl)
    (valued c _ w at (tree ∷ script ∷ []) is_at (refl, refl)) refl refl refl refl refl refl

pub tree_meets : (p : Parsers) (at : Option Text) (tree script : Text) → is_value at ≡ true → is_operand tree ≡ true
    → is_operand script ≡ true
    → Meets p (codes "tree" ∷ value_if at (codes "--at") (tree ∷ script ∷ [])) (codes "tree") at tree script (λ rows. ⊤)
unfolding clap_on_literals
tree_meets p None tree script is_at is_tree is_script =
    let c = built_rules (tree_app p.tree) in
    meets p _ _ None tree script _ c (begun c []) is_tree is_script (refl, refl) (refl, refl) refl refl refl refl refl refl tt
tree_meets p (Some at) tree script is_at is_tree is_script =
    let c = built_rules (tree_app p.tree) in
    let w = begun c (codes "--at" ∷ []) in
    meets p _ _ (Some at) tree script _ c (passed c at w) is_tree is_script (refl, refl) (refl, refl)
    (valued c _ w at (tree ∷ script ∷ []) is_at (refl, refl)) refl refl refl refl refl tt

pub tight_meets : (p : Parsers) (why : Bool) (tree script : Text) → is_operand tree ≡ true → is_operand script ≡ true
    → Meets p (codes "tight" ∷ option_if why (codes "--why") (tree ∷ script ∷ [])) (codes "tight") None tree script (HasWhy why)
unfolding clap_on_literals
tight_meets p false tree script is_tree is_script =
    let c = built_rules (tight_app p.tight) in
    meets p _ _ None tree script _ c (begun c ([])) is_tree is_script (refl, refl) (refl, refl) refl refl refl refl refl refl refl
tight_meets p true tree script is_tree is_script =
    let c = built_rules (tight_app p.tight) in
    meets p _ _ None tree script _ c (begun c (codes "--why" ∷ [])) is_tree is_script (refl, refl) (refl, refl) refl refl refl refl refl refl refl

abbrev pub HasFlags : Bool → Bool → Bool → Bool → Option Text → Option Text → Text → List Row → Type 0
HasFlags ever how why images below help process rows =
    (one_of (codes "ever") rows ≡ says ever) × (one_of (codes "how") rows ≡ says how) × (one_of (codes "why") rows ≡ says why)
    × (one_of (codes "images") rows ≡ says images) × (first_of (codes "below") rows ≡ below) × (first_of (codes "beside") rows ≡ help)
    × (first_of (codes "process") rows ≡ Some process)

pub objects_meets : (p : Parsers) (ever how why : Bool) (at : Option Text) (tree script : Text) → is_value at ≡ true
    → is_operand tree ≡ true → is_operand script ≡ true
    → Meets p
    (codes "objects"
    ∷ option_if ever (codes "--ever")
    (option_if how (codes "--how") (option_if why (codes "--why") (value_if at (codes "--at") (tree ∷ script ∷ [])))))
    (codes "objects") at tree script (HasFlags ever how why false None None (codes "1"))
unfolding clap_on_literals
objects_meets p false false false None tree script is_at is_tree is_script =
    let c = built_rules (objects_app p.objects) in
    meets p _ _ None tree script _ c (begun c ([])) is_tree is_script (refl, refl) (refl, refl) refl refl refl refl refl refl (refl, refl, refl, refl, refl, refl, refl)
objects_meets p false false false (Some at) tree script is_at is_tree is_script =
    let c = built_rules (objects_app p.objects) in
    let w = begun c (codes "--at" ∷ []) in
    meets p _ _ (Some at) tree script _ c (passed c at w) is_tree is_script (refl, refl) (refl, refl)
    (valued c _ w at (tree ∷ script ∷ []) is_at (refl, refl)) refl refl refl refl refl (refl, refl, refl, refl, refl, refl, refl)
objects_meets p false false true None tree script is_at is_tree is_script =
    let c = built_rules (objects_app p.objects) in
    meets p _ _ None tree script _ c (begun c (codes "--why" ∷ [])) is_tree is_script (refl, refl) (refl, refl) refl refl refl refl refl refl (refl, refl, refl, refl, refl, refl, refl)
objects_meets p false false true (Some at) tree script is_at is_tree is_script =
    let c = built_rules (objects_app p.objects) in
    let w = begun c (codes "--why" ∷ codes "--at" ∷ []) in
    meets p _ _ (Some at) tree script _ c (passed c at w) is_tree is_script (refl, refl) (refl, refl)
    (valued c _ w at (tree ∷ script ∷ []) is_at (refl, refl)) refl refl refl refl refl (refl, refl, refl, refl, refl, refl, refl)
objects_meets p false true false None tree script is_at is_tree is_script =
    let c = built_rules (objects_app p.objects) in
    meets p _ _ None tree script _ c (begun c (codes "--how" ∷ [])) is_tree is_script (refl, refl) (refl, refl) refl refl refl refl refl refl (refl, refl, refl, refl, refl, refl, refl)
objects_meets p false true false (Some at) tree script is_at is_tree is_script =
    let c = built_rules (objects_app p.objects) in
    let w = begun c (codes "--how" ∷ codes "--at" ∷ []) in
    meets p _ _ (Some at) tree script _ c (passed c at w) is_tree is_script (refl, refl) (refl, refl)
    (valued c _ w at (tree ∷ script ∷ []) is_at (refl, refl)) refl refl refl refl refl (refl, refl, refl, refl, refl, refl, refl)
objects_meets p false true true None tree script is_at is_tree is_script =
    let c = built_rules (objects_app p.objects) in
    meets p _ _ None tree script _ c (begun c (codes "--how" ∷ codes "--why" ∷ [])) is_tree is_script (refl, refl) (refl, refl) refl refl refl refl refl refl (refl, refl, refl, refl, refl, refl, refl)
objects_meets p false true true (Some at) tree script is_at is_tree is_script =
    let c = built_rules (objects_app p.objects) in
    let w = begun c (codes "--how" ∷ codes "--why" ∷ codes "--at" ∷ []) in
    meets p _ _ (Some at) tree script _ c (passed c at w) is_tree is_script (refl, refl) (refl, refl)
    (valued c _ w at (tree ∷ script ∷ []) is_at (refl, refl)) refl refl refl refl refl (refl, refl, refl, refl, refl, refl, refl)
objects_meets p true false false None tree script is_at is_tree is_script =
    let c = built_rules (objects_app p.objects) in
    meets p _ _ None tree script _ c (begun c (codes "--ever" ∷ [])) is_tree is_script (refl, refl) (refl, refl) refl refl refl refl refl refl (refl, refl, refl, refl, refl, refl, refl)
objects_meets p true false false (Some at) tree script is_at is_tree is_script =
    let c = built_rules (objects_app p.objects) in
    let w = begun c (codes "--ever" ∷ codes "--at" ∷ []) in
    meets p _ _ (Some at) tree script _ c (passed c at w) is_tree is_script (refl, refl) (refl, refl)
    (valued c _ w at (tree ∷ script ∷ []) is_at (refl, refl)) refl refl refl refl refl (refl, refl, refl, refl, refl, refl, refl)
objects_meets p true false true None tree script is_at is_tree is_script =
    let c = built_rules (objects_app p.objects) in
    meets p _ _ None tree script _ c (begun c (codes "--ever" ∷ codes "--why" ∷ [])) is_tree is_script (refl, refl) (refl, refl) refl refl refl refl refl refl (refl, refl, refl, refl, refl, refl, refl)
objects_meets p true false true (Some at) tree script is_at is_tree is_script =
    let c = built_rules (objects_app p.objects) in
    let w = begun c (codes "--ever" ∷ codes "--why" ∷ codes "--at" ∷ []) in
    meets p _ _ (Some at) tree script _ c (passed c at w) is_tree is_script (refl, refl) (refl, refl)
    (valued c _ w at (tree ∷ script ∷ []) is_at (refl, refl)) refl refl refl refl refl (refl, refl, refl, refl, refl, refl, refl)
objects_meets p true true false None tree script is_at is_tree is_script =
    let c = built_rules (objects_app p.objects) in
    meets p _ _ None tree script _ c (begun c (codes "--ever" ∷ codes "--how" ∷ [])) is_tree is_script (refl, refl) (refl, refl) refl refl refl refl refl refl (refl, refl, refl, refl, refl, refl, refl)
objects_meets p true true false (Some at) tree script is_at is_tree is_script =
    let c = built_rules (objects_app p.objects) in
    let w = begun c (codes "--ever" ∷ codes "--how" ∷ codes "--at" ∷ []) in
    meets p _ _ (Some at) tree script _ c (passed c at w) is_tree is_script (refl, refl) (refl, refl)
    (valued c _ w at (tree ∷ script ∷ []) is_at (refl, refl)) refl refl refl refl refl (refl, refl, refl, refl, refl, refl, refl)
objects_meets p true true true None tree script is_at is_tree is_script =
    let c = built_rules (objects_app p.objects) in
    meets p _ _ None tree script _ c (begun c (codes "--ever" ∷ codes "--how" ∷ codes "--why" ∷ [])) is_tree is_script (refl, refl) (refl, refl) refl refl refl refl refl refl (refl, refl, refl, refl, refl, refl, refl)
objects_meets p true true true (Some at) tree script is_at is_tree is_script =
    let c = built_rules (objects_app p.objects) in
    let w = begun c (codes "--ever" ∷ codes "--how" ∷ codes "--why" ∷ codes "--at" ∷ []) in
    meets p _ _ (Some at) tree script _ c (passed c at w) is_tree is_script (refl, refl) (refl, refl)
    (valued c _ w at (tree ∷ script ∷ []) is_at (refl, refl)) refl refl refl refl refl (refl, refl, refl, refl, refl, refl, refl)

pub process_meets : (p : Parsers) (ever how why : Bool) (process : Text) (at : Option Text) (tree script : Text)
    → is_operand process ≡ true → is_value at ≡ true → is_operand tree ≡ true → is_operand script ≡ true
    → Meets p
    (codes "objects"
    ∷ option_if ever (codes "--ever")
    (option_if how (codes "--how")
    (option_if why (codes "--why") (codes "--process" ∷ process ∷ value_if at (codes "--at") (tree ∷ script ∷ [])))))
    (codes "objects") at tree script (HasFlags ever how why false None None process)
unfolding clap_on_literals
process_meets p false false false process None tree script is_process is_at is_tree is_script =
    let c = built_rules (objects_app p.objects) in
    let w = begun c (codes "--process" ∷ []) in
    meets p _ _ None tree script _ c (passed c process w) is_tree is_script (refl, refl) (refl, refl)
    (valued c _ w process (tree ∷ script ∷ []) is_process (refl, refl)) refl refl refl refl refl (refl, refl, refl, refl, refl, refl, refl)
process_meets p false false false process (Some at) tree script is_process is_at is_tree is_script =
    let c = built_rules (objects_app p.objects) in
    let w = begun c (codes "--process" ∷ []) in
    let v = walked c [] (passed c process w) (codes "--at") in
    meets p _ _ (Some at) tree script _ c (passed c at v) is_tree is_script (refl, refl) (refl, refl)
    (valued c _ w process (codes "--at" ∷ at ∷ tree ∷ script ∷ []) is_process (refl, refl)
    ∙ valued c _ v at (tree ∷ script ∷ []) is_at (refl, refl)) refl refl refl refl refl (refl, refl, refl, refl, refl, refl, refl)
process_meets p false false true process None tree script is_process is_at is_tree is_script =
    let c = built_rules (objects_app p.objects) in
    let w = begun c (codes "--why" ∷ codes "--process" ∷ []) in
    meets p _ _ None tree script _ c (passed c process w) is_tree is_script (refl, refl) (refl, refl)
    (valued c _ w process (tree ∷ script ∷ []) is_process (refl, refl)) refl refl refl refl refl (refl, refl, refl, refl, refl, refl, refl)
process_meets p false false true process (Some at) tree script is_process is_at is_tree is_script =
    let c = built_rules (objects_app p.objects) in
    let w = begun c (codes "--why" ∷ codes "--process" ∷ []) in
    let v = walked c [] (passed c process w) (codes "--at") in
    meets p _ _ (Some at) tree script _ c (passed c at v) is_tree is_script (refl, refl) (refl, refl)
    (valued c _ w process (codes "--at" ∷ at ∷ tree ∷ script ∷ []) is_process (refl, refl)
    ∙ valued c _ v at (tree ∷ script ∷ []) is_at (refl, refl)) refl refl refl refl refl (refl, refl, refl, refl, refl, refl, refl)
process_meets p false true false process None tree script is_process is_at is_tree is_script =
    let c = built_rules (objects_app p.objects) in
    let w = begun c (codes "--how" ∷ codes "--process" ∷ []) in
    meets p _ _ None tree script _ c (passed c process w) is_tree is_script (refl, refl) (refl, refl)
    (valued c _ w process (tree ∷ script ∷ []) is_process (refl, refl)) refl refl refl refl refl (refl, refl, refl, refl, refl, refl, refl)
process_meets p false true false process (Some at) tree script is_process is_at is_tree is_script =
    let c = built_rules (objects_app p.objects) in
    let w = begun c (codes "--how" ∷ codes "--process" ∷ []) in
    let v = walked c [] (passed c process w) (codes "--at") in
    meets p _ _ (Some at) tree script _ c (passed c at v) is_tree is_script (refl, refl) (refl, refl)
    (valued c _ w process (codes "--at" ∷ at ∷ tree ∷ script ∷ []) is_process (refl, refl)
    ∙ valued c _ v at (tree ∷ script ∷ []) is_at (refl, refl)) refl refl refl refl refl (refl, refl, refl, refl, refl, refl, refl)
process_meets p false true true process None tree script is_process is_at is_tree is_script =
    let c = built_rules (objects_app p.objects) in
    let w = begun c (codes "--how" ∷ codes "--why" ∷ codes "--process" ∷ []) in
    meets p _ _ None tree script _ c (passed c process w) is_tree is_script (refl, refl) (refl, refl)
    (valued c _ w process (tree ∷ script ∷ []) is_process (refl, refl)) refl refl refl refl refl (refl, refl, refl, refl, refl, refl, refl)
process_meets p false true true process (Some at) tree script is_process is_at is_tree is_script =
    let c = built_rules (objects_app p.objects) in
    let w = begun c (codes "--how" ∷ codes "--why" ∷ codes "--process" ∷ []) in
    let v = walked c [] (passed c process w) (codes "--at") in
    meets p _ _ (Some at) tree script _ c (passed c at v) is_tree is_script (refl, refl) (refl, refl)
    (valued c _ w process (codes "--at" ∷ at ∷ tree ∷ script ∷ []) is_process (refl, refl)
    ∙ valued c _ v at (tree ∷ script ∷ []) is_at (refl, refl)) refl refl refl refl refl (refl, refl, refl, refl, refl, refl, refl)
process_meets p true false false process None tree script is_process is_at is_tree is_script =
    let c = built_rules (objects_app p.objects) in
    let w = begun c (codes "--ever" ∷ codes "--process" ∷ []) in
    meets p _ _ None tree script _ c (passed c process w) is_tree is_script (refl, refl) (refl, refl)
    (valued c _ w process (tree ∷ script ∷ []) is_process (refl, refl)) refl refl refl refl refl (refl, refl, refl, refl, refl, refl, refl)
process_meets p true false false process (Some at) tree script is_process is_at is_tree is_script =
    let c = built_rules (objects_app p.objects) in
    let w = begun c (codes "--ever" ∷ codes "--process" ∷ []) in
    let v = walked c [] (passed c process w) (codes "--at") in
    meets p _ _ (Some at) tree script _ c (passed c at v) is_tree is_script (refl, refl) (refl, refl)
    (valued c _ w process (codes "--at" ∷ at ∷ tree ∷ script ∷ []) is_process (refl, refl)
    ∙ valued c _ v at (tree ∷ script ∷ []) is_at (refl, refl)) refl refl refl refl refl (refl, refl, refl, refl, refl, refl, refl)
process_meets p true false true process None tree script is_process is_at is_tree is_script =
    let c = built_rules (objects_app p.objects) in
    let w = begun c (codes "--ever" ∷ codes "--why" ∷ codes "--process" ∷ []) in
    meets p _ _ None tree script _ c (passed c process w) is_tree is_script (refl, refl) (refl, refl)
    (valued c _ w process (tree ∷ script ∷ []) is_process (refl, refl)) refl refl refl refl refl (refl, refl, refl, refl, refl, refl, refl)
process_meets p true false true process (Some at) tree script is_process is_at is_tree is_script =
    let c = built_rules (objects_app p.objects) in
    let w = begun c (codes "--ever" ∷ codes "--why" ∷ codes "--process" ∷ []) in
    let v = walked c [] (passed c process w) (codes "--at") in
    meets p _ _ (Some at) tree script _ c (passed c at v) is_tree is_script (refl, refl) (refl, refl)
    (valued c _ w process (codes "--at" ∷ at ∷ tree ∷ script ∷ []) is_process (refl, refl)
    ∙ valued c _ v at (tree ∷ script ∷ []) is_at (refl, refl)) refl refl refl refl refl (refl, refl, refl, refl, refl, refl, refl)
process_meets p true true false process None tree script is_process is_at is_tree is_script =
    let c = built_rules (objects_app p.objects) in
    let w = begun c (codes "--ever" ∷ codes "--how" ∷ codes "--process" ∷ []) in
    meets p _ _ None tree script _ c (passed c process w) is_tree is_script (refl, refl) (refl, refl)
    (valued c _ w process (tree ∷ script ∷ []) is_process (refl, refl)) refl refl refl refl refl (refl, refl, refl, refl, refl, refl, refl)
process_meets p true true false process (Some at) tree script is_process is_at is_tree is_script =
    let c = built_rules (objects_app p.objects) in
    let w = begun c (codes "--ever" ∷ codes "--how" ∷ codes "--process" ∷ []) in
    let v = walked c [] (passed c process w) (codes "--at") in
    meets p _ _ (Some at) tree script _ c (passed c at v) is_tree is_script (refl, refl) (refl, refl)
    (valued c _ w process (codes "--at" ∷ at ∷ tree ∷ script ∷ []) is_process (refl, refl)
    ∙ valued c _ v at (tree ∷ script ∷ []) is_at (refl, refl)) refl refl refl refl refl (refl, refl, refl, refl, refl, refl, refl)
process_meets p true true true process None tree script is_process is_at is_tree is_script =
    let c = built_rules (objects_app p.objects) in
    let w = begun c (codes "--ever" ∷ codes "--how" ∷ codes "--why" ∷ codes "--process" ∷ []) in
    meets p _ _ None tree script _ c (passed c process w) is_tree is_script (refl, refl) (refl, refl)
    (valued c _ w process (tree ∷ script ∷ []) is_process (refl, refl)) refl refl refl refl refl (refl, refl, refl, refl, refl, refl, refl)
process_meets p true true true process (Some at) tree script is_process is_at is_tree is_script =
    let c = built_rules (objects_app p.objects) in
    let w = begun c (codes "--ever" ∷ codes "--how" ∷ codes "--why" ∷ codes "--process" ∷ []) in
    let v = walked c [] (passed c process w) (codes "--at") in
    meets p _ _ (Some at) tree script _ c (passed c at v) is_tree is_script (refl, refl) (refl, refl)
    (valued c _ w process (codes "--at" ∷ at ∷ tree ∷ script ∷ []) is_process (refl, refl)
    ∙ valued c _ v at (tree ∷ script ∷ []) is_at (refl, refl)) refl refl refl refl refl (refl, refl, refl, refl, refl, refl, refl)

pub images_meet : (p : Parsers) (process : Text) (at : Option Text) (tree script : Text)
    → is_operand process ≡ true → is_value at ≡ true → is_operand tree ≡ true → is_operand script ≡ true
    → Meets p (codes "objects" ∷ codes "--images" ∷ codes "--process" ∷ process ∷ value_if at (codes "--at") (tree ∷ script ∷ []))
    (codes "objects") at tree script (HasFlags false false false true None None process)
unfolding clap_on_literals
images_meet p process None tree script is_process is_at is_tree is_script =
    let c = built_rules (objects_app p.objects) in
    let w = begun c (codes "--images" ∷ codes "--process" ∷ []) in
    meets p _ _ None tree script _ c (passed c process w) is_tree is_script (refl, refl) (refl, refl)
    (valued c _ w process (tree ∷ script ∷ []) is_process (refl, refl)) refl refl refl refl refl (refl, refl, refl, refl, refl, refl, refl)
images_meet p process (Some at) tree script is_process is_at is_tree is_script =
    let c = built_rules (objects_app p.objects) in
    let w = begun c (codes "--images" ∷ codes "--process" ∷ []) in
    let v = walked c [] (passed c process w) (codes "--at") in
    meets p _ _ (Some at) tree script _ c (passed c at v) is_tree is_script (refl, refl) (refl, refl)
    (valued c _ w process (codes "--at" ∷ at ∷ tree ∷ script ∷ []) is_process (refl, refl)
    ∙ valued c _ v at (tree ∷ script ∷ []) is_at (refl, refl)) refl refl refl refl refl (refl, refl, refl, refl, refl, refl, refl)

pub beside_meet : (p : Parsers) (process help : Text) (at : Option Text) (tree script : Text) → is_operand process ≡ true
    → is_operand help ≡ true → is_value at ≡ true → is_operand tree ≡ true → is_operand script ≡ true
    → Meets p
    (codes "objects"
    ∷ codes "--ever" ∷ codes "--process" ∷ process ∷ codes "--beside" ∷ help ∷ value_if at (codes "--at") (tree ∷ script ∷ []))
    (codes "objects") at tree script (HasFlags true false false false None (Some help) process)
unfolding clap_on_literals
beside_meet p process help None tree script is_process is_help is_at is_tree is_script =
    let c = built_rules (objects_app p.objects) in
    let w = begun c (codes "--ever" ∷ codes "--process" ∷ []) in
    let v = walked c [] (passed c process w) (codes "--beside") in
    meets p _ _ None tree script _ c (passed c help v) is_tree is_script (refl, refl) (refl, refl)
    (valued c _ w process (codes "--beside" ∷ help ∷ tree ∷ script ∷ []) is_process (refl, refl)
    ∙ valued c _ v help (tree ∷ script ∷ []) is_help (refl, refl)) refl refl refl refl refl (refl, refl, refl, refl, refl, refl, refl)
beside_meet p process help (Some at) tree script is_process is_help is_at is_tree is_script =
    let c = built_rules (objects_app p.objects) in
    let w = begun c (codes "--ever" ∷ codes "--process" ∷ []) in
    let v = walked c [] (passed c process w) (codes "--beside") in
    let u = walked c [] (passed c help v) (codes "--at") in
    meets p _ _ (Some at) tree script _ c (passed c at u) is_tree is_script (refl, refl) (refl, refl)
    (valued c _ w process (codes "--beside" ∷ help ∷ codes "--at" ∷ at ∷ tree ∷ script ∷ []) is_process (refl, refl)
    ∙ valued c _ v help (codes "--at" ∷ at ∷ tree ∷ script ∷ []) is_help (refl, refl)
    ∙ valued c _ u at (tree ∷ script ∷ []) is_at (refl, refl)) refl refl refl refl refl (refl, refl, refl, refl, refl, refl, refl)

pub below_meets : (p : Parsers) (process path : Text) (at : Option Text) (tree script : Text) → is_operand process ≡ true
    → is_operand path ≡ true → is_value at ≡ true → is_operand tree ≡ true → is_operand script ≡ true
    → Meets p
    (codes "objects"
    ∷ codes "--ever" ∷ codes "--how" ∷ codes "--process" ∷ process ∷ codes "--below" ∷ path ∷ value_if at (codes "--at") (tree ∷ script ∷ []))
    (codes "objects") at tree script (HasFlags true true false false (Some path) None process)
unfolding clap_on_literals
below_meets p process path None tree script is_process is_path is_at is_tree is_script =
    let c = built_rules (objects_app p.objects) in
    let w = begun c (codes "--ever" ∷ codes "--how" ∷ codes "--process" ∷ []) in
    let v = walked c [] (passed c process w) (codes "--below") in
    meets p _ _ None tree script _ c (passed c path v) is_tree is_script (refl, refl) (refl, refl)
    (valued c _ w process (codes "--below" ∷ path ∷ tree ∷ script ∷ []) is_process (refl, refl)
    ∙ valued c _ v path (tree ∷ script ∷ []) is_path (refl, refl)) refl refl refl refl refl (refl, refl, refl, refl, refl, refl, refl)
below_meets p process path (Some at) tree script is_process is_path is_at is_tree is_script =
    let c = built_rules (objects_app p.objects) in
    let w = begun c (codes "--ever" ∷ codes "--how" ∷ codes "--process" ∷ []) in
    let v = walked c [] (passed c process w) (codes "--below") in
    let u = walked c [] (passed c path v) (codes "--at") in
    meets p _ _ (Some at) tree script _ c (passed c at u) is_tree is_script (refl, refl) (refl, refl)
    (valued c _ w process (codes "--below" ∷ path ∷ codes "--at" ∷ at ∷ tree ∷ script ∷ []) is_process (refl, refl)
    ∙ valued c _ v path (codes "--at" ∷ at ∷ tree ∷ script ∷ []) is_path (refl, refl)
    ∙ valued c _ u at (tree ∷ script ∷ []) is_at (refl, refl)) refl refl refl refl refl (refl, refl, refl, refl, refl, refl, refl)

abbrev how_rules : Parsers → List Rule
how_rules p = built_rules (how_app p.how_process p.how p.how_kind)

four_walked : (c : List Rule) (w : Walk) (x y z t : Text) → is_operand x ≡ true → is_operand y ≡ true → is_operand z ≡ true
    → is_operand t ≡ true → GoesOn w → GoesOn (passed c x w) → GoesOn (passed c y (passed c x w))
    → GoesOn (passed c z (passed c y (passed c x w)))
    → fold (walked c []) w (x ∷ y ∷ z ∷ t ∷ []) ≡ passed c t (passed c z (passed c y (passed c x w)))
four_walked c w x y z t is_x is_y is_z is_t on_x on_y on_z on_t =
    ap (λ (v : Walk). fold (walked c []) v (z ∷ t ∷ [])) (two_walked c w x y is_x is_y on_x on_y)
    ∙ two_walked c (passed c y (passed c x w)) z t is_z is_t on_z on_t

abbrev pub HasPlace : Text → Text → List Row → Type 0
HasPlace call path rows =
    (first_of (codes "process") rows ≡ Some (codes "1")) × (first_of (codes "call") rows ≡ Some call)
    × (first_of (codes "path") rows ≡ Some path) × (first_of (codes "kind") rows ≡ None)

pub how_meets : (p : Parsers) (at : Option Text) (tree script call path : Text) → is_value at ≡ true → is_operand tree ≡ true
    → is_operand script ≡ true → is_operand call ≡ true → is_operand path ≡ true
    → Meets p (codes "how" ∷ value_if at (codes "--at") (tree ∷ script ∷ call ∷ path ∷ [])) (codes "how") at tree script
    (HasPlace call path)
unfolding clap_on_literals
how_meets p None tree script call path is_at is_tree is_script is_call is_path =
    let c = how_rules p in
    let w = begun c [] in
    let inputs = passed c script (passed c tree w) in
    record {
      rows = finished c (passed c path (passed c call inputs)).held;
      is_met = ap (λ (v : Walk). Some (codes "how", finished c v.held))
          (four_walked c w tree script call path is_tree is_script is_call is_path (refl, refl) (refl, refl) (refl, refl) (refl, refl));
      tree_is = refl;
      script_is = refl;
      at_is = refl;
      rules_is = refl;
      table_is = refl;
      has = (refl, refl, refl, refl);
    }
how_meets p (Some at) tree script call path is_at is_tree is_script is_call is_path =
    let c = how_rules p in
    let v = begun c (codes "--at" ∷ []) in
    let w = passed c at v in
    let inputs = passed c script (passed c tree w) in
    record {
      rows = finished c (passed c path (passed c call inputs)).held;
      is_met = valued c (codes "how") v at (tree ∷ script ∷ call ∷ path ∷ []) is_at (refl, refl)
          ∙ ap (λ (v : Walk). Some (codes "how", finished c v.held))
          (four_walked c w tree script call path is_tree is_script is_call is_path (refl, refl) (refl, refl) (refl, refl) (refl, refl));
      tree_is = refl;
      script_is = refl;
      at_is = refl;
      rules_is = refl;
      table_is = refl;
      has = (refl, refl, refl, refl);
    }

-- ---- a request, and an audit

-- the walk stands among the arguments of a request, of which it has these
abbrev among : List Row → List Text → Walk
among rows so = record {
  held = record { rows = rows; pending = Some (codes "arguments", so); skip = 0 };
  waiting = positional;
  position = 4;
  is_trailing = false;
  stopped = None;
}

abbrev why_rules : Parsers → List Rule
why_rules p = built_rules (why_app p.why_process p.why)

both : (s t : Bool) → (s && t) ≡ true → (s ≡ true) × (t ≡ true)
both true t is = (refl, is)
both false t is = (is, absurd (cc))

-- behind the name of a command each word goes to it
stopped_walked : (c : List Rule) (names : Names) (w : Walk) (name : Text) (so more : List Text)
    → fold (walked c names) (record w { stopped = Some (name, so) }) more ≡ record w { stopped = Some (name, so ++ more) }
unfolding walked
stopped_walked c names w name so [] = ap (λ (all : List Text). record w { stopped = Some (name, all) }) (sym (append-nil so))
stopped_walked c names w name so (word ∷ more) =
    stopped_walked c names w name (so ++ word ∷ []) more
    ∙ ap (λ (all : List Text). record w { stopped = Some (name, all) }) (append_assoc so (word ∷ []) more)

arguments_walked : (p : Parsers) (rows : List Row) (so more : List Text) → list_all is_operand more ≡ true
    → fold (walked (why_rules p) []) (among rows so) more ≡ among rows (so ++ more)
unfolding clap_on_literals
arguments_walked p rows so [] is = ap (among rows) (sym (append-nil so))
arguments_walked p rows so (word ∷ more) is =
    let each = both (is_operand word) (list_all is_operand more) is in
    ap (λ (v : Walk). fold (walked (why_rules p) []) v more) (operand_walked (why_rules p) (among rows so) word each.0 refl refl)
    ∙ arguments_walked p rows (so ++ word ∷ []) more each.1 ∙ ap (among rows) (append_assoc so (word ∷ []) more)

abbrev pub HasRequest : Text → List Text → List Row → Type 0
HasRequest call arguments rows =
    (first_of (codes "process") rows ≡ Some (codes "1")) × (first_of (codes "call") rows ≡ Some call)
    × (unwrap_or (all_of (codes "arguments") rows) [] ≡ arguments)

pub why_meets : (p : Parsers) (at : Option Text) (tree script call : Text) (arguments : List Text) → is_value at ≡ true
    → is_operand tree ≡ true → is_operand script ≡ true → is_operand call ≡ true → list_all is_operand arguments ≡ true
    → Meets p (codes "why" ∷ value_if at (codes "--at") (tree ∷ script ∷ call ∷ arguments)) (codes "why") at tree script
    (HasRequest call arguments)
unfolding clap_on_literals
why_meets p None tree script call [] is_at is_tree is_script is_call is_more =
    let c = why_rules p in
    let w = begun c [] in
    let inputs = passed c script (passed c tree w) in
    let met : fold (walked c []) w (tree ∷ script ∷ call ∷ []) ≡ passed c call inputs =
    ap (λ (v : Walk). walked c [] v call) (two_walked c w tree script is_tree is_script (refl, refl) (refl, refl))
    ∙ operand_walked c inputs call is_call refl refl in
    record {
      rows = finished c (passed c call inputs).held;
      is_met = ap (λ (v : Walk). Some (codes "why", finished c v.held)) met;
      tree_is = refl;
      script_is = refl;
      at_is = refl;
      rules_is = refl;
      table_is = refl;
      has = (refl, refl, refl);
    }
why_meets p None tree script call (word ∷ more) is_at is_tree is_script is_call is_more =
    let c = why_rules p in
    let w = begun c [] in
    let each = both (is_operand word) (list_all is_operand more) is_more in
    let inputs = passed c script (passed c tree w) in
    let rows = (settled c (passed c call inputs).held).rows in
    let end = among rows (word ∷ more) in
    let met : fold (walked c []) w (tree ∷ script ∷ call ∷ word ∷ more) ≡ end =
    ap (λ (v : Walk). fold (walked c []) v (call ∷ word ∷ more))
    (two_walked c w tree script is_tree is_script (refl, refl) (refl, refl))
    ∙ ap (λ (v : Walk). fold (walked c []) v more) (two_walked c inputs call word is_call each.0 (refl, refl) (refl, refl))
    ∙ arguments_walked p rows (word ∷ []) more each.1 in
    record {
      rows = finished c end.held;
      is_met = ap (λ (v : Walk). entered (built (pua_app p)) v.stopped)
          (stopped_walked (built (pua_app p)).top.rules (names_of (built (pua_app p))) (walk_from nothing_held) (codes "why")
          (tree ∷ script ∷ call ∷ word ∷ []) more)
          ∙ ap (λ (v : Walk). Some (codes "why", finished c v.held)) met;
      tree_is = refl;
      script_is = refl;
      at_is = refl;
      rules_is = refl;
      table_is = refl;
      has = (refl, refl, refl);
    }
why_meets p (Some at) tree script call [] is_at is_tree is_script is_call is_more =
    let c = why_rules p in
    let v = begun c (codes "--at" ∷ []) in
    let w = passed c at v in
    let inputs = passed c script (passed c tree w) in
    let met : fold (walked c []) w (tree ∷ script ∷ call ∷ []) ≡ passed c call inputs =
    ap (λ (v : Walk). walked c [] v call) (two_walked c w tree script is_tree is_script (refl, refl) (refl, refl))
    ∙ operand_walked c inputs call is_call refl refl in
    record {
      rows = finished c (passed c call inputs).held;
      is_met = valued c (codes "why") v at (tree ∷ script ∷ call ∷ []) is_at (refl, refl)
          ∙ ap (λ (v : Walk). Some (codes "why", finished c v.held)) met;
      tree_is = refl;
      script_is = refl;
      at_is = refl;
      rules_is = refl;
      table_is = refl;
      has = (refl, refl, refl);
    }
why_meets p (Some at) tree script call (word ∷ more) is_at is_tree is_script is_call is_more =
    let c = why_rules p in
    let v = begun c (codes "--at" ∷ []) in
    let w = passed c at v in
    let each = both (is_operand word) (list_all is_operand more) is_more in
    let inputs = passed c script (passed c tree w) in
    let rows = (settled c (passed c call inputs).held).rows in
    let end = among rows (word ∷ more) in
    let met : fold (walked c []) w (tree ∷ script ∷ call ∷ word ∷ more) ≡ end =
    ap (λ (v : Walk). fold (walked c []) v (call ∷ word ∷ more))
    (two_walked c w tree script is_tree is_script (refl, refl) (refl, refl))
    ∙ ap (λ (v : Walk). fold (walked c []) v more) (two_walked c inputs call word is_call each.0 (refl, refl) (refl, refl))
    ∙ arguments_walked p rows (word ∷ []) more each.1 in
    record {
      rows = finished c end.held;
      is_met = ap (λ (v : Walk). entered (built (pua_app p)) v.stopped)
          (stopped_walked (built (pua_app p)).top.rules (names_of (built (pua_app p))) (walk_from nothing_held) (codes "why")
          (codes "--at" ∷ at ∷ tree ∷ script ∷ call ∷ word ∷ []) more)
          ∙ valued c (codes "why") v at (tree ∷ script ∷ call ∷ word ∷ more) is_at (refl, refl)
          ∙ ap (λ (v : Walk). Some (codes "why", finished c v.held)) met;
      tree_is = refl;
      script_is = refl;
      at_is = refl;
      rules_is = refl;
      table_is = refl;
      has = (refl, refl, refl);
    }

abbrev audit_rules : Parsers → List Rule
audit_rules p = built_rules (audit_app p.audit_process p.audit_base p.audit)

-- the walk stands among the names of an audit, of which it has these
abbrev naming : List Row → List Text → Walk
naming rows so = record {
  held = record { rows = rows; pending = Some (codes "names", so); skip = 0 };
  waiting = positional;
  position = 3;
  is_trailing = false;
  stopped = None;
}

names_walked : (p : Parsers) (rows : List Row) (so more : List Text) → list_all is_operand more ≡ true
    → fold (walked (audit_rules p) []) (naming rows so) more ≡ naming rows (so ++ more)
unfolding clap_on_literals
names_walked p rows so [] is = ap (naming rows) (sym (append-nil so))
names_walked p rows so (word ∷ more) is =
    let each = both (is_operand word) (list_all is_operand more) is in
    ap (λ (v : Walk). fold (walked (audit_rules p) []) v more) (operand_walked (audit_rules p) (naming rows so) word each.0 refl refl)
    ∙ names_walked p rows (so ++ word ∷ []) more each.1 ∙ ap (naming rows) (append_assoc so (word ∷ []) more)

without_hyphen : (word : Text) → is_operand word ≡ true → without_minus word ≡ word
without_hyphen [] is = refl
without_hyphen (b ∷ more) is = let plain : (b == 45) ≡ false = no_hyphen (b == 45) is in rw plain refl

abbrev pub HasWalk : Text → List Text → List Row → Type 0
HasWalk limit names rows =
    (first_of (codes "process") rows ≡ Some (codes "1")) × (one_of (codes "limit") rows ≡ Some limit)
    × (first_of (codes "base") rows ≡ Some (codes "root")) × (first_of (codes "after") rows ≡ None)
    × (unwrap_or (all_of (codes "names") rows) [] ≡ names)

pub audit_meets : (p : Parsers) (limit : Text) (at : Option Text) (tree script : Text) (names : List Text) → is_operand limit ≡ true
    → is_value at ≡ true → is_operand tree ≡ true → is_operand script ≡ true → list_all is_operand names ≡ true
    → Meets p (codes "audit" ∷ codes "--limit" ∷ limit ∷ value_if at (codes "--at") (tree ∷ script ∷ names)) (codes "audit") at tree script
    (HasWalk limit names)
unfolding clap_on_literals
audit_meets p limit None tree script [] is_limit is_at is_tree is_script is_more =
    let c = audit_rules p in
    let u = begun c (codes "--limit" ∷ []) in
    let w = passed c limit u in
    record {
      rows = finished c (passed c script (passed c tree w)).held;
      is_met = valued c (codes "audit") u limit (tree ∷ script ∷ []) is_limit (refl, refl)
          ∙ ap (λ (v : Walk). Some (codes "audit", finished c v.held))
          (two_walked c w tree script is_tree is_script (refl, refl) (refl, refl));
      tree_is = refl;
      script_is = refl;
      at_is = refl;
      rules_is = refl;
      table_is = refl;
      has = (refl, ap (λ (t : Text). Some t) (without_hyphen limit is_limit), refl, refl, refl);
    }
audit_meets p limit None tree script (word ∷ more) is_limit is_at is_tree is_script is_more =
    let c = audit_rules p in
    let u = begun c (codes "--limit" ∷ []) in
    let w = passed c limit u in
    let each = both (is_operand word) (list_all is_operand more) is_more in
    let inputs = passed c tree w in
    let rows = (settled c (passed c script inputs).held).rows in
    let end = naming rows (word ∷ more) in
    let met : fold (walked c []) w (tree ∷ script ∷ word ∷ more) ≡ end =
    ap (λ (v : Walk). fold (walked c []) v (script ∷ word ∷ more)) (operand_walked c w tree is_tree refl refl)
    ∙ ap (λ (v : Walk). fold (walked c []) v more) (two_walked c inputs script word is_script each.0 (refl, refl) (refl, refl))
    ∙ names_walked p rows (word ∷ []) more each.1 in
    record {
      rows = finished c end.held;
      is_met = ap (λ (v : Walk). entered (built (pua_app p)) v.stopped)
          (stopped_walked (built (pua_app p)).top.rules (names_of (built (pua_app p))) (walk_from nothing_held) (codes "audit")
          (codes "--limit" ∷ limit ∷ tree ∷ script ∷ word ∷ []) more)
          ∙ valued c (codes "audit") u limit (tree ∷ script ∷ word ∷ more) is_limit (refl, refl)
          ∙ ap (λ (v : Walk). Some (codes "audit", finished c v.held)) met;
      tree_is = refl;
      script_is = refl;
      at_is = refl;
      rules_is = refl;
      table_is = refl;
      has = (refl, ap (λ (t : Text). Some t) (without_hyphen limit is_limit), refl, refl, refl);
    }
audit_meets p limit (Some at) tree script [] is_limit is_at is_tree is_script is_more =
    let c = audit_rules p in
    let u = begun c (codes "--limit" ∷ []) in
    let v = walked c [] (passed c limit u) (codes "--at") in
    let w = passed c at v in
    record {
      rows = finished c (passed c script (passed c tree w)).held;
      is_met = valued c (codes "audit") u limit (codes "--at" ∷ at ∷ tree ∷ script ∷ []) is_limit (refl, refl)
          ∙ valued c (codes "audit") v at (tree ∷ script ∷ []) is_at (refl, refl)
          ∙ ap (λ (v : Walk). Some (codes "audit", finished c v.held))
          (two_walked c w tree script is_tree is_script (refl, refl) (refl, refl));
      tree_is = refl;
      script_is = refl;
      at_is = refl;
      rules_is = refl;
      table_is = refl;
      has = (refl, ap (λ (t : Text). Some t) (without_hyphen limit is_limit), refl, refl, refl);
    }
audit_meets p limit (Some at) tree script (word ∷ more) is_limit is_at is_tree is_script is_more =
    let c = audit_rules p in
    let u = begun c (codes "--limit" ∷ []) in
    let v = walked c [] (passed c limit u) (codes "--at") in
    let w = passed c at v in
    let each = both (is_operand word) (list_all is_operand more) is_more in
    let inputs = passed c tree w in
    let rows = (settled c (passed c script inputs).held).rows in
    let end = naming rows (word ∷ more) in
    let met : fold (walked c []) w (tree ∷ script ∷ word ∷ more) ≡ end =
    ap (λ (v : Walk). fold (walked c []) v (script ∷ word ∷ more)) (operand_walked c w tree is_tree refl refl)
    ∙ ap (λ (v : Walk). fold (walked c []) v more) (two_walked c inputs script word is_script each.0 (refl, refl) (refl, refl))
    ∙ names_walked p rows (word ∷ []) more each.1 in
    record {
      rows = finished c end.held;
      is_met = ap (λ (v : Walk). entered (built (pua_app p)) v.stopped)
          (stopped_walked (built (pua_app p)).top.rules (names_of (built (pua_app p))) (walk_from nothing_held) (codes "audit")
          (codes "--limit" ∷ limit ∷ codes "--at" ∷ at ∷ tree ∷ script ∷ word ∷ []) more)
          ∙ valued c (codes "audit") u limit (codes "--at" ∷ at ∷ tree ∷ script ∷ word ∷ more) is_limit (refl, refl)
          ∙ valued c (codes "audit") v at (tree ∷ script ∷ word ∷ more) is_at (refl, refl)
          ∙ ap (λ (v : Walk). Some (codes "audit", finished c v.held)) met;
      tree_is = refl;
      script_is = refl;
      at_is = refl;
      rules_is = refl;
      table_is = refl;
      has = (refl, ap (λ (t : Text). Some t) (without_hyphen limit is_limit), refl, refl, refl);
    }
