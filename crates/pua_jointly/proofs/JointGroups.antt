-- The calls of a process and of what it starts, taken together; and a test that tells them.
use Rattle.pua_jointly.proofs.Common.{◌≡◌, ◌∙◌, ◌||◌, ◌∷◌, [], ℕ, true, List, refl, sym, subst, inl, inr}
use Rattle.pua_jointly.proofs.Common.{Option, Some, None, None≢Some, Some≢None, same_Some, map, option_map, or_left, or_right}
use Rattle.pua_jointly.proofs.Common.{Among, among_contained, contained, CallTable, Call, has, ProcessState, Spot, Tree, At, Slot, Stands, Subject}
use Rattle.std.specs.Borrow.{Bor}
use Rattle.std.specs.List.{Contains}
use Rattle.pua_objects.specs.Items.{IsItemOn}
use Rattle.pua_objects.specs.declared.item.Item.{Item}
use Rattle.pua_ever.specs.Ever.{Thing}
use Rattle.pua_jointly.specs.JointCalls.{AreCallsOf, AreCallsOfOne, AreOwnCalls, AreOwnCallsOfOne, HasAgents, IsGroupIn, IsOf}
use Rattle.pua_jointly.specs.JointFound.{AreFacts}
use Rattle.pua_jointly.specs.Jointly.{IsJointlyListed, agents_of, as_started}
use Rattle.pua_jointly.specs.declared.agent.Agent.{Agent}
use Rattle.pua_jointly.specs.declared.crew.Group.{Group}
use Rattle.pua_jointly.specs.declared.facts.Facts.{Facts}
use Rattle.pua_jointly.proofs.JointTold.{agent_is}
use Rattle.pua_jointly.proofs.JointWords.{either_true}

-- a process, or what it starts
pub one_or_other : (a : ProcessState) (given : Option ℕ) (P : ProcessState → Type 0) → P a → ((g : ℕ) → P (as_started a g)) → (h : ProcessState) →
    Contains (agents_of (a, given)) h → P h
one_or_other a None P own started h has = by (among_contained (a ∷ []) h has)
  where
    by : Among (a ∷ []) h → P h
    by (inl e) = subst P e own
    by (inr none) = absurd none
one_or_other a (Some g) P own started h has = by (among_contained (a ∷ as_started a g ∷ []) h has)
  where
    by : Among (a ∷ as_started a g ∷ []) h → P h
    by (inl e) = subst P e own
    by (inr (inl e)) = subst P e (started g)
    by (inr (inr none)) = absurd none

-- has the process's veils
pub veils_of_one : (a : ProcessState) (given : Option ℕ) (h : ProcessState) → Contains (agents_of (a, given)) h → h.veils ≡ a.veils
veils_of_one a given h has = one_or_other a given (λ p. p.veils ≡ a.veils) refl (λ g. refl) h has

-- what an item tells of a process it tells of what it starts
pub item_too : (t : Tree) (a : ProcessState) (given : ℕ) (about : Subject) (item : Item) → IsItemOn t a about item →
    IsItemOn t (as_started a given) about item
item_too t a given about item on = record { subject = on.subject; object = on.object; cover = on.cover }

module _ (t : Tree) (table : CallTable) (crew : List ProcessState) (a : ProcessState) where
  -- of a process alone
  pub one_alone : (thing : Thing) (calls : ℕ) → AreCallsOf t table crew a thing calls → AreCallsOfOne t table crew (agents_of (a, None)) thing calls
  one_alone thing calls are = record {
    all = λ call is. are.all call (by is.agent (among_contained (a ∷ []) is.agent is.among) call is.listed);
    only = λ call e. record { agent = a; among = contained (a ∷ []) a (inl refl); listed = are.only call e };
  }
    where
      by : (h : ProcessState) → Among (a ∷ []) h → (call : Call) → IsJointlyListed t table crew h thing call → IsJointlyListed t table crew a thing call
      by h (inl e) call listed = subst (λ p. IsJointlyListed t table crew p thing call) (sym e) listed
      by h (inr none) call listed = absurd none

  -- and of both
  pub two_joined : (given : ℕ) (thing : Thing) (first second calls : ℕ) → AreCallsOf t table crew a thing first →
      AreCallsOf t table crew (as_started a given) thing second → ((call : Call) → has calls call ≡ (has first call || has second call)) →
      AreCallsOfOne t table crew (agents_of (a, Some given)) thing calls
  two_joined given thing first second calls one two both = record {
    all = λ call is. both call ∙ by is.agent (among_contained (a ∷ as_started a given ∷ []) is.agent is.among) call is.listed;
    only = λ call e. elim (either_true (has first call) (has second call) (sym (both call) ∙ e)) [
      | inl own ↦
          record {
            agent = a;
            among = contained (a ∷ as_started a given ∷ []) a (inl refl);
            listed = one.only call own;
          }
      | inr started ↦
          record {
            agent = as_started a given;
            among = contained (a ∷ as_started a given ∷ []) (as_started a given) (inr (inl refl));
            listed = two.only call started;
          }
    ];
  }
    where
      by : (h : ProcessState) → Among (a ∷ as_started a given ∷ []) h → (call : Call) → IsJointlyListed t table crew h thing call →
          (has first call || has second call) ≡ true
      by h (inl e) call listed =
          or_left (has first call) (has second call) (one.all call (subst (λ p. IsJointlyListed t table crew p thing call) (sym e) listed))
      by h (inr (inl e)) call listed =
          or_right (has first call) (has second call) (two.all call (subst (λ p. IsJointlyListed t table crew p thing call) (sym e) listed))
      by h (inr (inr none)) call listed = absurd none

  module _ (facts : Facts) (group : Group) where
    pub own_of : (given : Option ℕ) → HasAgents t table crew facts a given group → IsOf t table crew facts a group.own.now
    own_of None is = is.0
    own_of (Some g) is = is.0

    -- where it starts nothing that counts, and where it does
    pub group_alone : (given : Option ℕ) → HasAgents t table crew facts a given group → group.program ≡ None → (thing : Thing) (calls : ℕ) →
        AreCallsOf t table crew a thing calls → AreCallsOfOne t table crew (agents_of (a, given)) thing calls
    group_alone None is none thing calls are = one_alone thing calls are
    group_alone (Some g) is none thing calls are = absurd (Some≢None is.1 (sym is.2 ∙ none))

    pub group_both : (given : Option ℕ) → HasAgents t table crew facts a given group → (p : Bor Agent) → group.program ≡ Some p → (thing : Thing)
        (first second calls : ℕ) → AreCallsOf t table crew a thing first →
        ((g : ℕ) → IsOf t table crew facts (as_started a g) p.now → AreCallsOf t table crew (as_started a g) thing second) →
        ((call : Call) → has calls call ≡ (has first call || has second call)) → AreCallsOfOne t table crew (agents_of (a, given)) thing calls
    group_both None is p some thing first second calls one two both = absurd (None≢Some p (sym is.1 ∙ some))
    group_both (Some g) is p some thing first second calls one two both =
        let same = same_Some is.1 p (sym is.2 ∙ some) in
        two_joined g thing first second calls one
        (two g (subst (λ (q : Bor Agent). IsOf t table crew facts (as_started a g) q.now) same is.3)) both

    -- the same of the name at which an item stands
    pub own_alone : (given : Option ℕ) → HasAgents t table crew facts a given group → group.program ≡ None → (o : Option Spot) (calls : ℕ) →
        AreOwnCalls t table crew a o calls → AreOwnCallsOfOne t table crew (agents_of (a, given)) o calls
    own_alone given is none None calls are = are
    own_alone given is none (Some spot) calls are = group_alone given is none (Stands (At (Slot spot.0 spot.1 None))) calls are

    pub own_both : (given : Option ℕ) → HasAgents t table crew facts a given group → (p : Bor Agent) → group.program ≡ Some p → (o : Option Spot)
        (first second calls : ℕ) → AreOwnCalls t table crew a o first →
        ((g : ℕ) → IsOf t table crew facts (as_started a g) p.now → AreOwnCalls t table crew (as_started a g) o second) →
        ((call : Call) → has calls call ≡ (has first call || has second call)) → AreOwnCallsOfOne t table crew (agents_of (a, given)) o calls
    own_both None is p some None first second calls one two both = absurd (None≢Some p (sym is.1 ∙ some))
    own_both (Some g) is p some None first second calls one two both = λ call.
        both call ∙ (λ z. one call z || two g (subst (λ (q : Bor Agent). IsOf t table crew facts (as_started a g) q.now)
        (same_Some is.1 p (sym is.2 ∙ some)) is.3) call z)
    own_both given is p some (Some spot) first second calls one two both =
        group_both given is p some (Stands (At (Slot spot.0 spot.1 None))) first second calls one two both

-- what was found of a process and of what it starts
pub group_is : (t : Tree) (table : CallTable) (crew : List ProcessState) (facts : Facts) (a : ProcessState) (given : Option ℕ) (group : Group) →
    AreFacts t table crew facts → IsGroupIn facts.crew.agents.items a (option_map (as_started a) given) (Some group) →
    HasAgents t table crew facts a given group
group_is t table crew facts a None group are is =
    (agent_is t table crew facts a group.own.now are is.0.0 is.0.1, is.1)
group_is t table crew facts a (Some g) group are is =
    let program = is.1 in (
      agent_is t table crew facts a group.own.now are is.0.0 is.0.1,
      program.0,
      program.1,
      agent_is t table crew facts (as_started a g) program.0.now are program.2.0 program.2.1,
    )

-- they are found where they are among these
pub none_missing : (agents : List Agent) (a : ProcessState) (given : Option ℕ) → IsGroupIn agents a (option_map (as_started a) given) None →
    ((h : ProcessState) → Contains (agents_of (a, given)) h → Contains (map (λ agent. agent.process.now) agents) h) → ⊥
none_missing agents a None is all = is (all a (contained (a ∷ []) a (inl refl))) (λ h e. absurd (None≢Some h e))
none_missing agents a (Some g) is all =
    is (all a (contained (a ∷ as_started a g ∷ []) a (inl refl)))
    (λ h e. subst (Contains (map (λ (agent : Agent). agent.process.now) agents)) (same_Some (as_started a g) h e)
    (all (as_started a g) (contained (a ∷ as_started a g ∷ []) (as_started a g) (inr (inl refl)))))
