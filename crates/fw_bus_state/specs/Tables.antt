-- The controllers of the declared devices, by number.
use Rattle.std.specs.Prelude.{ℕ, ◌≡◌, ◌≤◌, List, Bool, false, length, slice_index_or, IsTrue, IsFalse}
use Rattle.fw_cmp.specs.Causes.{IsAtRest}
use Rattle.fw_cmp.specs.Controllers.{IsHeard}
use Rattle.fw_cmp.specs.Losses.{Listening, first_listening}

-- The lists are by device, in order of declaration.
pub record ControllerTable : Type 0 where
  pub list : List Listening
  pub flags : List Bool  -- the controller died, and was not started again

-- how many devices are declared
abbrev pub count_of : ControllerTable → ℕ
count_of t = length t.list

-- the controller of a device; that of one that is not declared is as one that has just started
abbrev pub states_of : ControllerTable → ℕ → Listening
states_of t d = slice_index_or t.list d first_listening

-- the controller of a device died
abbrev pub dead_of : ControllerTable → ℕ → Bool
dead_of t d = slice_index_or t.flags d false

-- it has lost no response, and no request of it is outstanding
abbrev pub Listens : Listening → Type 0
Listens x = IsFalse x.lost × IsHeard x.state.current

-- the table has these controllers, of so many devices, and these of them died
pub record IsTable (t : ControllerTable) (count : ℕ) (states : ℕ → Listening) (dead : ℕ → Bool) : Type 0 where
  pub count_is : count_of t ≡ count
  pub states_are : states_of t ≡ states
  pub dead_are : dead_of t ≡ dead

-- what marks say is so of each controller that is marked
pub record AreMarked (says : Listening → Type 0) (marks : List Bool) (list : List Listening) : Type 0 where
  pub size : length marks ≡ 256
  pub each : (d : ℕ) → IsTrue (slice_index_or marks d false) → says (slice_index_or list d first_listening)

-- the controllers that are marked have nothing to do
abbrev pub AreCalm : List Bool → List Listening → Type 0
AreCalm marks list = AreMarked (λ c. IsAtRest c.state) marks list

-- the controllers that are marked are as new ones
abbrev pub AreFresh : List Bool → List Listening → Type 0
AreFresh marks list = AreMarked (λ c. c ≡ first_listening) marks list

-- if no response was lost since the latest bus reset, each controller hears
abbrev pub AreHearing : Bool → List Listening → Type 0
AreHearing deaf list = IsFalse deaf → (d : ℕ) → IsFalse (slice_index_or list d first_listening).lost

-- what is kept is of 63 devices at most
pub record IsRoomy (t : ControllerTable) (capacity : ℕ) : Type 0 where
  pub few : count_of t ≤ 63
  pub enough : 63 ≤ capacity
  pub size : length t.flags ≡ 63
