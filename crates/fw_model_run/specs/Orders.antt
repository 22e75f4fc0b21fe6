-- The actions of an order, if the state decides them.
use Rattle.std.specs.Prelude.{ℕ, ◌+◌, ◌-◌, ◌&&◌, nat_le, Bool, List, [], ◌∷◌, Option, Some, None, if◌then◌else◌}
use Rattle.fw_order.specs.declared.order.Order.{Order}
use Rattle.fw_order.specs.declared.order.Order.TheVariants as Orders
use Rattle.fw_model_run.specs.Actions.{Action, Withhold, AddDevice, AddCable, ResetBus, StartConnection, StartBreak, HalfStep, Pass, EndSecond, Die, CarryOut, Lose}
use Rattle.fw_model_run.specs.Actions.{TellLoss, Start, Ask, Answer, ShowWord, BecomeCandidate, Contend, TieReel, Finish}
use Rattle.fw_model_run.specs.Bidding.{is_candidate}
use Rattle.fw_model_run.specs.Carrying.{times}
use Rattle.fw_model_run.specs.HalfSteps.{has_request}
use Rattle.fw_model_run.specs.State.{State}

-- the action, unless this is so already
abbrev pub unless : Bool → Action → List Action
unless so a = if so then [] else a ∷ []

-- the second of the latest bus reset is over within so many cycles
abbrev pub is_over_within : State → ℕ → Bool
is_over_within s cycles = s.account.reclaiming && nat_le s.clock.over_at (s.clock.cycle + cycles)

-- how many cycles come before the one in which it is over
abbrev pub cycles_before : State → ℕ
cycles_before s = s.clock.over_at - (s.clock.cycle + 1)

-- Cycles that go by. If the second is over on the way, its end comes at its own cycle.
abbrev pub waiting : State → ℕ → List Action
waiting s cycles =
    if is_over_within s cycles then Pass (cycles_before s) ∷ EndSecond ∷ Pass (cycles - (cycles_before s + 1)) ∷ []
    else Pass cycles ∷ []

-- a death; one that comes late has the request carried out before, if one is on its way
abbrev pub death : State → ℕ → Bool → List Action
death s d late = if late && has_request (s.controllers d).current then CarryOut d ∷ Die d ∷ [] else Die d ∷ []

-- What an order does, as far as the state decides it. What `settle` and `cycles` do hangs on the states on the way, what a command, a tape
-- that is inserted and one that is ejected do, on what the deck then sends and a desk gives.
abbrev pub actions_of : State → Order → Option (List Action)
actions_of s Orders.Withhold = Some (unless s.account.withheld Withhold)
actions_of s (Orders.Declare name kind ports speed) = Some (AddDevice name kind ports speed ∷ [])
actions_of s (Orders.Cable a b) = Some (AddCable a b ∷ [])
actions_of s (Orders.Reset d) = Some (ResetBus d ∷ [])
actions_of s (Orders.Connect d wanted slot) = Some (StartConnection d wanted ∷ [])
actions_of s (Orders.Break d slot) = Some (StartBreak d slot ∷ [])
actions_of s (Orders.Step d count) = Some (times count (HalfStep d))
actions_of s (Orders.Wait cycles) = Some (waiting s cycles)
actions_of s (Orders.Die d late) = Some (death s d late)
actions_of s (Orders.Lose d) = Some (Lose d ∷ TellLoss d ∷ [])
actions_of s (Orders.Start d) = Some (if s.dead d then Start d ∷ [] else [])
actions_of s (Orders.Transact x) = Some (Ask x ∷ Answer ∷ [])
actions_of s (Orders.Show d offset) = Some (ShowWord d offset ∷ [])
actions_of s (Orders.Candidate d) = Some (unless (is_candidate s d) (BecomeCandidate d))
actions_of s (Orders.Contend d count) = Some (times count (Contend d))
actions_of s (Orders.Dub d) = Some (TieReel d ∷ [])
actions_of s Orders.End = Some (Finish ∷ [])
actions_of s (Orders.Settle rounds) = None
actions_of s (Orders.Cycles count) = None
actions_of s (Orders.Command from to bytes) = None
actions_of s (Orders.Insert d tape system) = None
actions_of s (Orders.Eject d) = None
