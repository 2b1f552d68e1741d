use Rattle.pua_jointly.proofs.Common.{◌≡◌, ◌∙◌, ap, arith, flat_map, refl, length, map, Place, ProcessState, subst, sym, veils, ℕ, List}
use Rattle.std.specs.Prelude.{◌+◌, ◌*◌}
use Rattle.std.specs.Borrow.{Bor}
use Rattle.std.specs.List.{Contains}
use Rattle.std.proofs.lemmas.Grind.{common_steps}
use Rattle.std.proofs.lemmas.List.{length-map}
use Rattle.pua_tree.specs.LentRows.{lent_entry}
use Rattle.pua_tree.specs.declared.tree.LentRow.{LentRow}
use Rattle.pua_jointly.specs.JointMembers.{AreSmall, Each, states, veil_now}
use Rattle.pua_jointly.specs.JointPlace.{Once}
use Rattle.pua_jointly.specs.JointSetting.{AreDevices, AreMarksOf, AreWatched, IsShape, IsSize}
use Rattle.pua_jointly.specs.JointSetup.{crew_told, devices_told}
use Rattle.pua_jointly.specs.JointSides.{IsPart}
use Rattle.pua_jointly.specs.JointWords.{IsAgent}
use Rattle.pua_jointly.specs.declared.agent.Agent.{Agent}
use Rattle.pua_jointly.specs.declared.crew.Crew.{Crew}
use Rattle.pua_jointly.specs.declared.crew.Side.{Side}
use Rattle.pua_jointly.specs.declared.parts.Parts.{Parts}
use Rattle.pua_jointly.specs.declared.shape.Shape.{Shape}
use Rattle.pua_jointly.specs.declared.size.Size.{Size}
use Rattle.pua_jointly.proofs.JointGathered.{last_of, rows_below, veils_below}
use Rattle.pua_jointly.proofs.JointWorked.{each_row_once, worked_out}
use Rattle.pua_jointly.proofs.setup.work_out.Goals as goal

pub invariant_of-parts : goal.invariant_of-parts
invariant_of-parts g c =
    let members : List (Bor ProcessState) = c.in_ok-members.members.items in
    let agents : List Agent = c.in_ok-agents.agents.items in
    let many : c.len.result ≡ length members = grind (arith, common_steps) in
    let many_kinds : c.len-2.result ≡ length c.in_ok-kinds.kinds.items = grind (arith, common_steps) in
    let one : c.len.result ≡ length c.deref-11.result.now =
    many ∙ sym (ap length c.deref-8.ensures.value) ∙ sym (length-map c.deref-8.result.now (λ (p : Bor ProcessState). p.now))
    ∙ sym (ap length c.in_ok-agents.ensures.crew) ∙ length-map agents (λ (a : Agent). a.process.now) ∙ sym (ap length c.deref-11.ensures.value) in
    let two : c.len-2.result ≡ length c.deref-12.result.now = many_kinds ∙ sym (ap length c.deref-12.ensures.value) in
    record {
      hands = ap (λ (s : Shape). s.hands) c.in-Some-size_of.ensures.same ∙ c.in-Some.ensures.hands_are ∙ (λ z. one z * two z);
    }

-- what each device has its part of
abbrev shared : {parts : Parts} (sides : List Side) → Each (IsPart parts) sides → Parts
shared {parts = parts} sides each = parts

pub returns-clause-worked : goal.returns-clause-worked
returns-clause-worked g c =
    let t = g.T.FileTree.content c.args.tree.now in
    let members : List (Bor ProcessState) = c.in_ok-members.members.items in
    let lent : List (Bor Place × Bor ℕ) = c.in_ok-veils.veils.items in
    let rows : List LentRow = c.in_ok-rows.rows.items in
    let shape : Shape = c.in-Some.shape in
    let size : Size = c.in-Some-size_of.size in
    let many_members : c.len.result ≡ length members = grind (arith, common_steps) in
    let many_kinds : c.len-2.result ≡ length c.in_ok-kinds.kinds.items = grind (arith, common_steps) in
    let crew : Crew = record {
      shape = shape;
      columns = size.columns;
      agents = c.in_ok-agents.agents;
      sides = c.in_ok-sides.sides;
      devices = c.in_ok-devices.devices;
      entries = c.in_ok-entries.entries.all;
      watches = c.in_ok-watches.watches;
      watch_columns = c.in_ok-watches.watch_columns;
    } in
    let parts : Parts = shared c.in_ok-sides.sides.items c.in_ok-sides.ensures.each in
    let same : crew_told crew ≡ states members = c.in_ok-agents.ensures.crew ∙ ap states c.deref-8.ensures.value in
    let all_are : map veil_now lent ≡ flat_map veils (crew_told crew) = c.in_ok-veils.ensures
    ∙ ap (λ (ps : List (Bor ProcessState)). flat_map veils (states ps)) c.deref.ensures.value ∙ ap (flat_map veils) (sym same) in
    let in_tree : map lent_entry rows ≡ t.rows = c.in_ok-rows.ensures in
    let last_is : shape.last ≡ c.last_number-last.result = c.in-Some.ensures.last_is in
    let last = last_is ∙ c.last_number-last.ensures ∙ (λ z. last_of (c.deref-3.ensures.value z) (c.deref-4.ensures.value z)) in
    let many_rows : c.len-3.result ≡ length rows = grind (arith, common_steps) in
    let many_watches : c.len-4.result ≡ length c.in_ok-watches.watches.items = grind (arith, common_steps) in
    let many_told : c.len.result ≡ length (crew_told crew) =
    many_members ∙ sym (length-map members (λ (p : Bor ProcessState). p.now)) ∙ ap length (sym same) in
    let many : shape.agents ≡ length (crew_told crew) = c.in-Some.ensures.agents_are ∙ many_told in
    let kinds_are : devices_told crew ≡ c.in_ok-kinds.kinds.items = c.in_ok-sides.ensures.devices ∙ c.deref-12.ensures.value in
    let many_devices : c.len-2.result ≡ length (devices_told crew) = many_kinds ∙ ap length (sym kinds_are) in
    let shaped : IsShape (length (crew_told crew)) (length (devices_told crew)) shape.last shape = record {
      agents_are = many;
      hands_are = c.in-Some.ensures.hands_are ∙ (λ z. many_told z * many_devices z);
      last_is = refl;
    } in
    worked_out t c.known.ensures c.args.table.now crew (map veil_now lent) size parts c.in_ok-marks.marks.items
    (subst Once (sym same) c.in_ok-members.ensures.once) all_are
    (subst (λ (vs : List (Bor Place × Bor ℕ)). AreSmall (map veil_now vs)) c.deref-2.ensures.value c.know_perms.ensures)
    (rows_below t rows lent shape.last last in_tree) (veils_below rows lent shape.last last) many shaped
    (subst (λ n. IsSize shape n (length c.in_ok-watches.watches.items) size)
    (many_rows ∙ sym (length-map rows lent_entry) ∙ ap length in_tree)
    (subst (λ n. IsSize shape c.len-3.result n size) many_watches c.in-Some-size_of.ensures)) refl
    (subst (λ (ps : List ProcessState). Each (λ i agent. IsAgent c.args.table.now ps i agent.process.now agent)
    c.in_ok-agents.agents.items) (ap states c.deref-8.ensures.value ∙ sym same) c.in_ok-agents.ensures.each)
    c.in_ok-entries.ensures.rows
    (subst Once (sym c.in_ok-entries.ensures.rows) (each_row_once t.rows c.known.ensures.rows_in_order)) c.in_ok-entries.ensures.each
    (subst (λ (vs : List (Bor Place × Bor ℕ)). AreMarksOf t c.in_ok-entries.entries.all.items (map veil_now vs) c.in_ok-marks.marks.items)
    c.deref-10.ensures.value c.in_ok-marks.ensures)
    (subst (λ n. AreWatched t shape.agents (n + 1) (map veil_now lent) c.in_ok-watches.watches.items) (sym last_is)
    (subst (λ (vs : List (Bor Place × Bor ℕ)). AreWatched t shape.agents (c.last_number-last.result + 1) (map veil_now vs)
    c.in_ok-watches.watches.items) c.deref-7.ensures.value
    (subst (λ n. AreWatched t n (c.last_number-last.result + 1) (map veil_now c.deref-7.result.now) c.in_ok-watches.watches.items)
    (ap length c.deref-6.ensures.value ∙ sym many_members ∙ sym c.in-Some.ensures.agents_are) c.in_ok-watches.ensures.watches)))
    c.in_ok-watches.ensures.columns
    (subst (λ n. AreDevices t (n + 1) c.in_ok-devices.devices.items) (sym last_is) c.in_ok-devices.ensures)
    (subst Once (sym kinds_are) c.in_ok-kinds.ensures.once)
    (λ on has. subst (λ xs. Contains xs on) (sym kinds_are)
    (c.in_ok-kinds.ensures.all on (subst (λ xs. Contains xs on) (sym c.deref-5.ensures.value) has))) refl
    c.deref-11.ensures.value c.deref-13.ensures.value (c.deref-14.ensures.value ∙ c.in_ok-seats.ensures) c.deref-15.ensures.value
    c.deref-16.ensures.value c.in_ok-sides.ensures.each
    c.in_ok-entries.entries.in_order
