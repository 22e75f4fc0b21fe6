-- What a run keeps of a recording: the deck whose recording it is, the input plugs that hear without a connection, and the reel.
use Rattle.std.specs.Prelude.{ℕ, ◌==◌, ◌&&◌, ◌||◌, Bool, false, List, [], Option, None}
use Rattle.fw_terms.specs.declared.plug.PlugAt.{PlugAt}
use Rattle.fw_model_account.specs.Account.{Account, has_connection}
use Rattle.fw_model_account.specs.Words.{InputPlug, word_of}

-- what a run keeps of a recording
pub record Dub : Type 0 where
  pub tied : Option ℕ  -- the device whose recording goes onto the reel; none before the first `dub`
  pub lingers : PlugAt → Bool  -- input plugs that go on hearing since a bus reset, with no connection
  pub reel : List (List ℕ)  -- the blocks that were kept since the latest `dub`

-- no device is tied, no plug goes on hearing, and the reel is empty
abbrev pub no_dub : Dub
no_dub = record { tied = None; lingers = λ q. false; reel = [] }

-- an input plug hears if it is connected, and if it goes on since a bus reset
abbrev pub hears_in : Account → Dub → PlugAt → Bool
hears_in l k q = has_connection (l.inputs q) || k.lingers q

-- a bus reset: those that hear go on
abbrev pub dub_after_reset : Account → Dub → Dub
dub_after_reset l k = record k { lingers = hears_in l k }

-- between two accounts of one second: a plug whose word a swap has changed goes on no more
abbrev pub dub_between : Account → Account → Dub → Dub
dub_between l m k = record k { lingers = λ q. k.lingers q && (word_of m (InputPlug q) == word_of l (InputPlug q)) }

-- the second is over: no plug goes on
abbrev pub dub_after_second : Dub → Dub
dub_after_second k = record k { lingers = λ q. false }
