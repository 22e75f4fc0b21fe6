-- How a word that runs a script ends, as an ending of a call.
use Rattle.fw_script_words.specs.declared.ending.RunEnding.{RunEnding}
use Rattle.fw_script_words.specs.declared.ending.RunEnding.TheVariants as RunEndings
use Rattle.fw_tool.specs.declared.ending.Ending.{Ending}
use Rattle.fw_tool.specs.declared.ending.Ending.TheVariants.{Done, Refused, Stopped}

-- the ending of a word that runs a script
abbrev pub by_run : RunEnding → Ending
by_run RunEndings.Done = Done
by_run (RunEndings.Refused refused) = Refused refused
by_run (RunEndings.Stopped stop) = Stopped stop
