-- A desk gives something in the course of commands and of written cycles alone.
use Rattle.fw_model_run.proofs.Common.{ℕ, List, [], ◌∷◌, ◌++◌, Some, Timed, Order, Action, Receive, SendPacket, SendsAll, Carries, DeskRelations, IsGiven}
use Rattle.fw_model_run.proofs.Common.{AreGiven, State}
use Rattle.fw_order.specs.declared.order.Order.TheVariants as order
use Rattle.fw_model_run.specs.Given.{AsksNoDesk}
use Rattle.fw_model_run.proofs.Each.{Each, IsCommand, IsCycles, IsPartOf, each_carried, each_frame}

pub given_then : (D : DeskRelations) (xs ys : List Action) → AreGiven D xs → AreGiven D ys → AreGiven D (xs ++ ys)
given_then D [] ys f g = g
given_then D (x ∷ xs) ys f g = (f.0, given_then D xs ys f.1 g)

pub given_append : (D : DeskRelations) (xs ys : List Action) → AreGiven D (xs ++ ys) → AreGiven D xs × AreGiven D ys
given_append D [] ys f = (tt, f)
given_append D (x ∷ xs) ys f = let more = given_append D xs ys f.1 in ((f.0, more.0), more.1)

-- it holds of each of them
given_each : (D : DeskRelations) (xs : List Action) → Each (IsGiven D) xs → AreGiven D xs
given_each D [] f = tt
given_each D (x ∷ xs) f = (f.0, given_each D xs f.1)

-- no response of a vendor is among the frames that a device sends after it
pub all_given : (D : DeskRelations) (d : ℕ) (s : State) (xs : List Action) (out : List Timed) (t : State) → SendsAll d s xs out t → AreGiven D xs
all_given D d s xs out t f = given_each D xs (each_frame (IsGiven D) d s xs out t tt tt f)

commands_ask : (o : Order) → IsCommand o → AsksNoDesk o → ⊥
commands_ask (order.Command a b bytes) is on = on
commands_ask _ is on = is

cycles_ask : (o : Order) → IsCycles o → AsksNoDesk o → ⊥
cycles_ask (order.Cycles n) is on = on
cycles_ask _ is on = is

pub carries_given : (D : DeskRelations) (s : State) (o : Order) (xs : List Action) (out : List Timed) (t : State) → AsksNoDesk o → Carries s o xs out t → AreGiven D xs
carries_given D s o xs out t on f = given_each D xs (each_carried (IsGiven D) s o xs out t gives f)
  where
    gives : (a : Action) → IsPartOf o a → IsGiven D a
    gives (Receive (Some x)) is = absurd (commands_ask o is on)
    gives (SendPacket p (Some block)) is = absurd (cycles_ask o is on)
    gives _ is = tt
