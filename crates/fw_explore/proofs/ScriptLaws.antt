-- A script that was carried out to its end: the commands before its `end` lead to the same state.
use Rattle.fw_explore.proofs.Common.{ℕ, ◌≡◌, List, [], ◌∷◌, ◌++◌, Option, Some, None, Ok, IsFalse, refl, sym, ap, subst, ◌∙◌, Timed, Command, DeskRelations, State, StandsFor}
use Rattle.fw_script_command.specs.declared.command.Command.TheVariants.{End}
use Rattle.fw_order.specs.declared.order.Order.{Order}
use Rattle.fw_order.specs.declared.order.Order.TheVariants as Orders
use Rattle.fw_model_run.specs.Actions.{Action, Finish}
use Rattle.fw_model_run.specs.Deeds.{Transitions}
use Rattle.fw_model_run.specs.Given.{AreGiven}
use Rattle.fw_model_run.specs.Logs.{HasNoEnd}
use Rattle.fw_model_run.proofs.Given.{given_append}
use Rattle.fw_model_run.proofs.OneLog.{last_of}
use Rattle.fw_model_run.proofs.Decided.{CarriedBy, carried}
use Rattle.fw_bus.specs.Buses.{BusView}
use Rattle.fw_script.specs.Reading.{Reading}
use Rattle.fw_script.specs.Script.{Refusal, Says, ends, refuses, goes_on, start_of}
use Rattle.fw_script.specs.declared.ScriptFault.{ScriptFault}
use Rattle.fw_script_words.specs.Dubs.{HasRecorded}
use Rattle.fw_explore.specs.Outcome.{HasCarried}

-- the last command ends the script, and none before it does
record EndsSo (cs : List Command) : Type 0 where
  pub earlier : List Command
  pub last : cs ≡ earlier ++ End ∷ []
  pub no_end : HasNoEnd earlier

says_end : {p : Reading} {cs : List Command} {r : Option Refusal} → Says p cs r → r ≡ None → EndsSo cs
says_end (ends g) e = record { earlier = []; last = refl; no_end = tt }
says_end (refuses g n) e = absurd (cc e)
says_end (goes_on {c = c} g n s) e = let o = says_end s e in record { earlier = c ∷ o.earlier; last = ap (λ z. c ∷ z) o.last; no_end = (n, o.no_end) }

-- `end` changes nothing
same_state : (s t : State) (o : Order) (xs : List Action) (out : List Timed) → o ≡ Orders.End → CarriedBy s o xs out t → t ≡ s
same_state s t o xs out is f =
    let g : Transitions s (Finish ∷ []) out t = (subst (λ z. CarriedBy s z xs out t) is f).1 in
    g.5.1 ∙ g.3.state_is

-- what the bus stands for then
pub record StandsCarried (D : DeskRelations) (left left' : Option (List ℕ)) (bus : BusView) : Type 0 where
  pub carried : HasCarried D left left'
  pub stands : StandsFor bus.machine carried.state
  pub fresh : IsFalse bus.spent

pub stands_carried : (D : DeskRelations) (left left' : Option (List ℕ)) (bus : BusView) → HasRecorded D left left' bus → StandsCarried D left left' bus
stands_carried D left left' bus h =
    let r = h.was.ran in
    let o = says_end r.says refl in
    let l = last_of r.commands o.earlier End r.logged.actions r.logged.log r.logged.state r.logged.run o.last in
    let same = same_state l.state r.logged.state l.order l.more l.out l.decided.0 (carried l.state l.order l.more l.out r.logged.state l.carries) in
    record {
      carried = record {
        commands = o.earlier;
        read = record { script = r.script; taken = r.taken; end = r.end; says = subst (λ cs. Says (start_of r.script) cs None) o.last r.says; no_end = o.no_end };
        log = l.prefix;
        state = l.state;
        runs = record { actions = l.early; run = l.run; given = (given_append D l.early l.more (subst (AreGiven D) l.actions_are r.logged.given)).0 };
      };
      stands = subst (StandsFor bus.machine) same h.stands;
      fresh = h.fresh;
    }
