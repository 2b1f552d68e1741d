use Rattle.pua_jointly.proofs.Common.{◌≡◌, ◌∙◌, ◌&&◌, ◌||◌, ap, Bool, Kind, list_any, New, NewDir, NewFifo, NewFile, NewLink, NewOthers}
use Rattle.pua_jointly.proofs.Common.{CallTable, NewSock, ProcessState, can_move, refl, Some, subst, sym}
use Rattle.pua_tree.specs.declared.node.Kind.TheVariants.{Dir, File, Prog, Link, Known}
use Rattle.pua_calls.specs.Promises.{fattr, holds}
use Rattle.pua_policy.specs.States.{held_set}
use Rattle.pua_ever.specs.Ever.{can_link, is_turned_by}
use Rattle.pua_ever.specs.declared.made.Made.TheVariants as made
use Rattle.pua_jointly.specs.JointCovers.{does}
use Rattle.pua_jointly.specs.JointFacts.{makes_under, turns_under}
use Rattle.pua_jointly.specs.Jointly.{can_send, sends_to_set}
use Rattle.pua_jointly.specs.JointWords.{AreCovers, carrying, making}
use Rattle.pua_jointly.specs.declared.agent.Agent.{Agent}
use Rattle.pua_jointly.specs.declared.doing.Doing.TheVariants.{Carrying, Making}
use Rattle.pua_jointly.proofs.setup.ask_agent.Goals as goal
use Rattle.pua_jointly.proofs.setup.ask_agent.Goals.{else-can_send, else-contains, then-can_send, then-contains}

module _ (table : CallTable) (h : ProcessState) (agent : Agent) where
  carries_of : AreCovers agent.carrying (does table h (Carrying File)) → AreCovers agent.carrying_links (does table h (Carrying Link)) →
      (kind : Kind) → AreCovers (carrying agent kind) (λ k. can_move table h k || can_link table h (Some kind) k)
  carries_of plain links Dir = plain
  carries_of plain links File = plain
  carries_of plain links Prog = plain
  carries_of plain links Link = links
  carries_of plain links (Known type) = plain

  makes_of : AreCovers agent.making_dirs (does table h (Making made.Dir)) → AreCovers agent.making_files (does table h (Making made.File)) →
      AreCovers agent.making_links (does table h (Making made.Link)) → AreCovers agent.making_sockets (does table h (Making made.Sock)) →
      AreCovers agent.making_fifos (does table h (Making made.Fifo)) → (new : New) → AreCovers (making agent new) (makes_under table h new)
  makes_of dirs files links sockets fifos NewDir = dirs
  makes_of dirs files links sockets fifos NewOthers = dirs
  makes_of dirs files links sockets fifos NewFile = files
  makes_of dirs files links sockets fifos NewLink = links
  makes_of dirs files links sockets fifos NewSock = sockets
  makes_of dirs files links sockets fifos NewFifo = fifos

pub returns-clause-is : goal.returns-clause-is
returns-clause-is c = λ crew same.
    let table = c.args.table.now in
    let h : ProcessState = c.args.process.now in
    let received : Bool = c.args.received in
    let agent : Agent = record {
      process = c.args.process;
      veiled = c.in_ok-veiled.veiled;
      unveiled = c.in_ok-veiled.ensures;
      place = c.args.place;
      named = c.in_ok-named.named;
      may_take = c.may_take.result;
      moving = c.covers_for.result;
      carrying = c.covers_for-2.result;
      carrying_links = c.covers_for-3.result;
      making_dirs = c.covers_for-4.result;
      making_files = c.covers_for-5.result;
      making_links = c.covers_for-6.result;
      making_sockets = c.covers_for-7.result;
      making_fifos = c.covers_for-8.result;
      turning = c.covers_for-9.result;
      turned = c.in_ok-turned.turned;
      calls = c.in_ok-calls.calls;
    } in
    let sends : c.if-can_send.sends ≡ sends_to_set table crew h =
    elim c.if-can_send.branch [
      | then-can_send w ↦ w.sends-is ∙ sym (ap (λ b. b && received) (sym c.can_send.ensures ∙ w.if-can_send.true))
      | else-can_send w ↦ w.sends-is ∙ w.if-can_send.false ∙ sym (ap (λ b. b && received) (sym c.can_send.ensures ∙ w.if-can_send.false))
    ] ∙ ap (λ b. can_send table h && b) (sym same) in
    let sets : c.contains.result ≡ holds (held_set h) fattr = c.contains.ensures ∙ ap (λ held. holds held fattr) c.held.ensures.state in
    let modes : c.if-contains.sets_modes ≡ (holds (held_set h) fattr || sends_to_set table crew h) =
    elim c.if-contains.branch [
      | then-contains w ↦ w.sets_modes-is ∙ w.if-contains.true ∙ sym (ap (λ b. b || sends_to_set table crew h) (sym sets ∙ w.if-contains.true))
      | else-contains w ↦ w.sets_modes-is ∙ sends ∙ sym (ap (λ b. b || sends_to_set table crew h) (sym sets ∙ w.if-contains.false))
    ] in
    record {
      process = refl;
      place = refl;
      moving = c.covers_for.ensures;
      carries = carries_of table h agent c.covers_for-2.ensures c.covers_for-3.ensures;
      makes = makes_of table h agent c.covers_for-4.ensures c.covers_for-5.ensures c.covers_for-6.ensures c.covers_for-7.ensures
          c.covers_for-8.ensures;
      takes = c.may_take.ensures;
      named = c.in_ok-named.ensures;
      turning = subst (λ b. AreCovers c.covers_for-9.result (turns_under table h b)) sends c.covers_for-9.ensures;
      turned = λ node. c.in_ok-turned.ensures node ∙ ap (λ b. list_any (is_turned_by b node) h.files) modes;
      calls = c.in_ok-calls.ensures;
    }
