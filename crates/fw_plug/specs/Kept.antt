-- What a row keeps beside its plugs.
use Rattle.std.specs.Prelude.{◌≡◌, List, map}
use Rattle.fw_plug.specs.declared.plug.Plug.{Plug}
use Rattle.fw_plug.specs.Plugs.{plug_after_reset}

-- a bus reset changes none of these plugs
abbrev pub AreReset : List Plug → Type 0
AreReset plugs = map plug_after_reset plugs ≡ plugs
