-- Each accepted command orders one thing, so a script has one log.
use Rattle.fw_model_run.proofs.Common.{◌≡◌, ℕ, List, [], ◌∷◌, ◌++◌, Option, Some, None, refl, ap, sym}
use Rattle.fw_model_run.proofs.Common.{subst, ◌∙◌, Ok, same_Some, Timed, Command, Order, Wanted, PlugToPlug, BroadcastOut, BroadcastIn, State}
use Rattle.fw_model_run.proofs.Common.{first_state, device_in, Action, Carries, start_of, Run, begun, and_then, DeskRelations, IsFunction, AreGiven, IsGood}
use Rattle.fw_tree.specs.declared.facts.End.{End}
use Rattle.fw_script_command.specs.declared.command.Command.TheVariants as Commands
use Rattle.fw_order.specs.declared.order.Order.TheVariants as order
use Rattle.fw_order.specs.declared.order.Access.{Access}
use Rattle.fw_model_run.specs.Rules.{Connects, IsOrder, system_with, Transacts, Decides}
use Rattle.fw_model_run.specs.Named.{IsNamed, IsEnd, IsShown, IsWanted, plug_of}
use Rattle.fw_model_run.proofs.Given.{given_append}
use Rattle.fw_model_run.proofs.OneStep.{Same}
use Rattle.fw_model_run.proofs.Decided.{CarriedBy, carried}
use Rattle.fw_model_run.proofs.OneResult.{one_carried}
use Rattle.fw_model_run.proofs.Runs.{run_steps}
use Rattle.fw_model_run.proofs.Steps.{steps_good}
use Rattle.fw_model_run.proofs.Times.{first_good}

-- ---- what a command orders

one_name : (s : State) (name : List ℕ) (d e : ℕ) → IsNamed s name d → IsNamed s name e → d ≡ e
one_name s name d e f g = same_Some d e (sym f ∙ g)

one_end : (s : State) (a : List ℕ × ℕ) (x y : End) → IsEnd s a x → IsEnd s a y → x ≡ y
one_end s a x y f g =
    let device = one_name s a.0 x.device y.device f.0 g.0 in
    let port = f.1 ∙ sym g.1 in
    λ i. record { device = device i; port = port i }

one_shown : (s : State) (name : Option (List ℕ)) (d e : ℕ) → IsShown s name d → IsShown s name e → d ≡ e
one_shown s None d e f g =
    let same = same_Some f.0 g.0 (sym f.1 ∙ g.1) in
    same_Some d e (sym f.2 ∙ (ap (device_in s.account.latest) same ∙ g.2))
one_shown s (Some name) d e f g = one_name s name d e f g

one_transaction : (s : State) (name other : List ℕ) (a : Access) (o p : Order) → Transacts s name other a o → Transacts s name other a p → o ≡ p
one_transaction s name other a o p f g =
    let from = one_name s name f.0 g.0 f.2 g.2 in
    let to = one_name s other f.1 g.1 f.3 g.3 in
    f.4 ∙ ((λ i. order.Transact (record { from = from i; to = to i; access = a })) ∙ sym g.4)

-- the controller that a command asks, and what it wants of it
pub one_wanted : (s : State) (c : Command) (d e : ℕ) (w v : Wanted) → IsWanted s c d w → IsWanted s c e v → (d ≡ e) × (w ≡ v)
one_wanted s (Commands.Connect name out into channel overhead) d e w v f g =
    let x = one_name s out.0 f.1.0 g.1.0 f.1.2 g.1.2 in
    let y = one_name s into.0 f.1.1 g.1.1 f.1.3 g.1.3 in
    (one_name s name d e f.0 g.0, f.1.4 ∙ ((λ i. PlugToPlug (plug_of (x i) out) (plug_of (y i) into) channel overhead) ∙ sym g.1.4))
one_wanted s (Commands.Broadcast name out overhead) d e w v f g =
    let x = one_name s out.0 f.1.0 g.1.0 f.1.1 g.1.1 in
    (one_name s name d e f.0 g.0, f.1.2 ∙ ((λ i. BroadcastOut (plug_of (x i) out) overhead) ∙ sym g.1.2))
one_wanted s (Commands.Listen name into) d e w v f g =
    let x = one_name s into.0 f.1.0 g.1.0 f.1.1 g.1.1 in
    (one_name s name d e f.0 g.0, f.1.2 ∙ ((λ i. BroadcastIn (plug_of (x i) into)) ∙ sym g.1.2))
one_wanted s c d e w v f g = absurd f

one_connection : (s : State) (c : Command) (o p : Order) → Connects s c o → Connects s c p → o ≡ p
one_connection s c o p f g =
    let one = one_wanted s c f.0 g.0 f.1 g.1 f.2 g.2 in
    let same : Ok f.3 ≡ Ok g.3 = sym f.4 ∙ ((λ i. start_of (one.0 i) (one.1 i) (s.controllers (one.0 i))) ∙ g.4) in
    let slot : f.3 ≡ g.3 = cc in
    f.5 ∙ ((λ i. order.Connect (one.0 i) (one.1 i) (slot i)) ∙ sym g.5)

pub one_order : (s : State) (c : Command) (o p : Order) → IsOrder s c o → IsOrder s c p → o ≡ p
one_order s Commands.Withhold o p f g = f ∙ sym g
one_order s (Commands.Device name kind ports speed) o p f g = f ∙ sym g
one_order s (Commands.Cable a b) o p f g =
    let x = one_end s a f.0 g.0 f.2 g.2 in
    let y = one_end s b f.1 g.1 f.3 g.3 in
    f.4 ∙ ((λ i. order.Cable (x i) (y i)) ∙ sym g.4)
one_order s (Commands.Reset name) o p f g = f.2 ∙ (ap order.Reset (one_name s name f.0 g.0 f.1 g.1) ∙ sym g.2)
one_order s (Commands.Connect name out into channel overhead) o p f g = one_connection s (Commands.Connect name out into channel overhead) o p f g
one_order s (Commands.Broadcast name out overhead) o p f g = one_connection s (Commands.Broadcast name out overhead) o p f g
one_order s (Commands.Listen name into) o p f g = one_connection s (Commands.Listen name into) o p f g
one_order s (Commands.Break name slot) o p f g = f.2 ∙ (ap (λ d. order.Break d slot) (one_name s name f.0 g.0 f.1 g.1) ∙ sym g.2)
one_order s (Commands.Step name count) o p f g = f.2 ∙ (ap (λ d. order.Step d count) (one_name s name f.0 g.0 f.1 g.1) ∙ sym g.2)
one_order s (Commands.Settle rounds) o p f g = f ∙ sym g
one_order s (Commands.Wait cycles) o p f g = f ∙ sym g
one_order s (Commands.Cycles count) o p f g = f ∙ sym g
one_order s (Commands.Die name late) o p f g = f.2 ∙ (ap (λ d. order.Die d late) (one_name s name f.0 g.0 f.1 g.1) ∙ sym g.2)
one_order s (Commands.Lose name) o p f g = f.2 ∙ (ap order.Lose (one_name s name f.0 g.0 f.1 g.1) ∙ sym g.2)
one_order s (Commands.Start name) o p f g = f.2 ∙ (ap order.Start (one_name s name f.0 g.0 f.1 g.1) ∙ sym g.2)
one_order s (Commands.Command name other frame) o p f g =
    let from = one_name s name f.0 g.0 f.2 g.2 in
    let to = one_name s other f.1 g.1 f.3 g.3 in
    f.4 ∙ ((λ i. order.Command (from i) (to i) frame) ∙ sym g.4)
one_order s (Commands.Read name other offset) o p f g = one_transaction s name other _ o p f g
one_order s (Commands.Swap name other offset argument new) o p f g = one_transaction s name other _ o p f g
one_order s (Commands.Insert name tape system) o p f g = f.2 ∙ (ap (λ d. order.Insert d tape (system_with system)) (one_name s name f.0 g.0 f.1 g.1) ∙ sym g.2)
one_order s (Commands.Eject name) o p f g = f.2 ∙ (ap order.Eject (one_name s name f.0 g.0 f.1 g.1) ∙ sym g.2)
one_order s (Commands.Show name offset) o p f g = f.2 ∙ (ap (λ d. order.Show d offset) (one_shown s name f.0 g.0 f.1 g.1) ∙ sym g.2)
one_order s (Commands.Candidate name) o p f g = f.2 ∙ (ap order.Candidate (one_name s name f.0 g.0 f.1 g.1) ∙ sym g.2)
one_order s (Commands.Contend name count) o p f g = f.2 ∙ (ap (λ d. order.Contend d count) (one_name s name f.0 g.0 f.1 g.1) ∙ sym g.2)
one_order s (Commands.Dub name) o p f g = f.2 ∙ (ap order.Dub (one_name s name f.0 g.0 f.1 g.1) ∙ sym g.2)
one_order s Commands.End o p f g = f ∙ sym g

-- ---- the last command of a run

no_snoc : {T : Type 0} (xs : List T) (x : T) → [] ≡ xs ++ x ∷ [] → ⊥
no_snoc [] x e = cc e
no_snoc (y ∷ xs) x e = cc e

pub snoc_same : {T : Type 0} (xs ys : List T) (x y : T) → xs ++ x ∷ [] ≡ ys ++ y ∷ [] → (xs ≡ ys) × (x ≡ y)
snoc_same [] [] x y e = (refl, cc e)
snoc_same [] (z ∷ ys) x y e = let rest : [] ≡ ys ++ y ∷ [] = cc e in absurd (no_snoc ys y rest)
snoc_same (w ∷ xs) [] x y e = let rest : xs ++ x ∷ [] ≡ [] = cc e in absurd (no_snoc xs x (sym rest))
snoc_same (w ∷ xs) (z ∷ ys) x y e =
    let first : w ≡ z = cc e in
    let rest : xs ++ x ∷ [] ≡ ys ++ y ∷ [] = cc e in
    let more = snoc_same xs ys x y rest in
    (ap (λ v. v ∷ xs) first ∙ ap (λ vs. z ∷ vs) more.0, more.1)

pub record Last (commands : List Command) (c : Command) (actions : List Action) (log : List Timed) (t : State) : Type 0 where
  pub early : List Action
  pub prefix : List Timed
  pub state : State
  pub run : Run commands early prefix state
  pub order : Order
  pub decided : Decides state c (Ok order)
  pub more : List Action
  pub out : List Timed
  pub carries : Carries state order more out t
  pub actions_are : actions ≡ early ++ more
  pub log_is : log ≡ prefix ++ out

pub last_of : (all commands : List Command) (c : Command) (actions : List Action) (log : List Timed) (t : State) → Run all actions log t → all ≡ commands ++ c ∷ [] → Last commands c actions log t
last_of all commands c actions log t begun e = absurd (no_snoc commands c e)
last_of all commands c actions log t (and_then {commands = cs} {actions = xs} {log = prefix} {s = mid} r d o more out u decided f) e =
    let same = snoc_same cs commands d c e in
    record {
      early = xs;
      prefix = prefix;
      state = mid;
      run = subst (λ z. Run z xs prefix mid) same.0 r;
      order = o;
      decided = subst (λ z. Decides mid z (Ok o)) same.1 decided;
      more = more;
      out = out;
      carries = f;
      actions_are = refl;
      log_is = refl;
    }

-- ---- runs

nothing_done : (all : List Command) (actions : List Action) (log : List Timed) (t : State) → Run all actions log t → [] ≡ all → Same [] first_state log t
nothing_done all actions log t begun e = (refl, refl)
nothing_done all actions log t (and_then {commands = cs} r c o more out u decided f) e = absurd (no_snoc cs c e)

run_good : (commands : List Command) (actions : List Action) (log : List Timed) (s : State) → Run commands actions log s → IsGood s
run_good commands actions log s r = steps_good first_state s actions log first_good (run_steps commands actions log s r)

-- they need not be the same actions: if nobody has anything to do, rounds may be taken one after another, or at once
pub one_run : (D : DeskRelations) (only : IsFunction D) (commands : List Command) (actions others : List Action) (log other : List Timed) (s t : State) → Run commands actions log s
    → Run commands others other t
    → AreGiven D actions → AreGiven D others → Same log s other t
one_run D only commands actions others log other s t begun g v w = nothing_done commands others other t g refl
one_run D only commands actions others log other s t (and_then {commands = cs} {actions = xs} {log = prefix} {s = mid} r c o more out u decided f) g v w =
    go (last_of commands cs c others other t g refl) (λ others other t g w. one_run D only cs xs others prefix other mid t r g (given_append D xs more v).0 w)
  where
    go : Last cs c others other t → ((others : List Action) (other : List Timed) (t : State) → Run cs others other t → AreGiven D others → Same prefix mid other t) → Same (prefix ++ out) u other t
    go l same_before =
        let given = given_append D l.early l.more (subst (AreGiven D) l.actions_are w) in
        let before = same_before l.early l.prefix l.state l.run given.0 in
        let order : o ≡ l.order = one_order mid c o l.order decided.0 (subst (λ z. IsOrder z c l.order) (sym before.1) l.decided.0) in
        let here : CarriedBy mid l.order l.more l.out t = subst (λ z. CarriedBy z l.order l.more l.out t) (sym before.1) (carried l.state l.order l.more l.out t l.carries) in
        let result = one_carried D only mid o more l.more out l.out u t (run_good cs xs prefix mid r) (given_append D xs more v).1 given.1 (carried mid o more out u f)
        (subst (λ z. CarriedBy mid z l.more l.out t) (sym order) here) in
        (ap (λ z. z ++ out) before.0 ∙ (ap (λ z. l.prefix ++ z) result.0 ∙ sym l.log_is), result.1)

-- ---- what decides

pub one_carries : (D : DeskRelations) (only : IsFunction D) (s : State) (o : Order) (actions others : List Action) (out other : List Timed) (t u : State) → IsGood s → Carries s o actions out t
    → Carries s o others other u
    → AreGiven D actions → AreGiven D others → (out ≡ other) × (t ≡ u)
one_carries D only s o actions others out other t u g f h v w = one_carried D only s o actions others out other t u g v w (carried s o actions out t f) (carried s o others other u h)
