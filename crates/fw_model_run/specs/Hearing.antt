-- Which input plugs hear, in any state of a run, and which go on hearing without a connection through its actions.
use Rattle.std.specs.Prelude.{ℕ, ◌≡◌, ◌==◌, ◌&&◌, ◌<◌, List, [], ◌∷◌, Bool, false, Option, is_some, IsTrue, IsFalse}
use Rattle.fw_terms.specs.Devices.{input_plugs_of}
use Rattle.fw_terms.specs.Tables.{at_plug}
use Rattle.fw_terms.specs.declared.plug.PlugAt.{PlugAt}
use Rattle.fw_model_account.specs.Words.{InputPlug, word_of}
use Rattle.fw_devices.specs.Network.{kind_at}
use Rattle.fw_log_entry.specs.declared.entry.Entry.{Entry}
use Rattle.fw_log_entry.specs.declared.entry.Entry.TheVariants.{Reset}
use Rattle.fw_log_entry.specs.declared.entry.Timed.{Timed}
use Rattle.fw_log_entry.specs.declared.entry.ResetEntry.{ResetEntry}
use Rattle.fw_plug.specs.Plugs.{is_active}
use Rattle.fw_model_run.specs.Actions.{Action, AddDevice, AddCable, ResetBus, HalfStep, EndSecond, CarryOut, Lose}
use Rattle.fw_model_run.specs.State.{State, number_in, is_on}

-- no input plug of a device that is off goes on hearing
pub record AreQuiet (lingers : PlugAt → Bool) (latest : Option ResetEntry) : Type 0 where
  pub quiet : (d k : ℕ) → is_some (number_in latest d) ≡ false → lingers (at_plug d k) ≡ false

-- those of a state do not
abbrev pub HasHearing : State → Type 0
HasHearing s = AreQuiet s.dub.lingers s.account.latest

-- no input plug goes on hearing without a connection
abbrev pub NoneHears : State → Type 0
NoneHears t = (q : PlugAt) → IsFalse (t.dub.lingers q)

-- the same input plugs go on hearing without a connection
abbrev pub SameHear : State → State → Type 0
SameHear s t = (q : PlugAt) → t.dub.lingers q ≡ s.dub.lingers q

-- a plug goes on hearing exactly if it did and its word has stayed: a change of its word ends it
abbrev pub HearUnchanged : State → State → Type 0
HearUnchanged s t = (q : PlugAt) → t.dub.lingers q ≡ ((word_of t.account (InputPlug q) == word_of s.account (InputPlug q)) && s.dub.lingers q)

-- After a bus reset a plug that was on the bus goes on hearing exactly if it was connected, by its word, or went on; one that was off it
-- does not.
pub record HearActive (s t : State) : Type 0 where
  pub stays : (d k : ℕ) → IsTrue (is_on s d) → k < input_plugs_of (kind_at s.declared.kinds d)
      → t.dub.lingers (at_plug d k) ≡ is_active (word_of s.account (InputPlug (at_plug d k))) (s.dub.lingers (at_plug d k))
  pub joins : (d k : ℕ) → IsFalse (is_on s d) → IsFalse (t.dub.lingers (at_plug d k))

-- by what an action writes that may begin a bus reset: nothing, or the entry of that reset alone
abbrev pub HearBy : List Timed → State → State → Type 0
HearBy [] s t = SameHear s t
HearBy (e ∷ es) s t = HearActive s t

-- by the one entry that a half step writes: a bus reset that it forces, or another
abbrev pub HearEntry : Entry → State → State → Type 0
HearEntry (Reset r) s t = HearActive s t
HearEntry _ s t = HearUnchanged s t

-- a half step, by what it writes
abbrev pub HearHalf : List Timed → State → State → Type 0
HearHalf [] s t = HearUnchanged s t
HearHalf (e ∷ es) s t = HearEntry e.what s t

-- What an action writes tells whether it began a bus reset. A half step ends the hearing of the plugs whose words it changes and that
-- only went on, and so does a request that is carried out late or whose response is lost; after the second no plug goes on. No other action
-- touches what goes on.
abbrev pub HearThrough : Action → List Timed → State → State → Type 0
HearThrough (AddDevice name kind ports speed) out s t = HearBy out s t
HearThrough (AddCable a b) out s t = HearBy out s t
HearThrough (ResetBus d) out s t = HearBy out s t
HearThrough (HalfStep d) out s t = HearHalf out s t
HearThrough (CarryOut d) out s t = HearUnchanged s t
HearThrough (Lose d) out s t = HearUnchanged s t
HearThrough EndSecond out s t = NoneHears t
HearThrough _ out s t = SameHear s t
