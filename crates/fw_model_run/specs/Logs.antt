-- Commands that come before the end of a script.
use Rattle.std.specs.Prelude.{◌≢◌, List, [], ◌∷◌, ⊤}
use Rattle.fw_script_command.specs.declared.command.Command.{Command}
use Rattle.fw_script_command.specs.declared.command.Command.TheVariants.{End}

-- none of the commands ends the script
abbrev pub HasNoEnd : List Command → Type 0
HasNoEnd [] = ⊤
HasNoEnd (c ∷ commands) = (c ≢ End) × HasNoEnd commands
