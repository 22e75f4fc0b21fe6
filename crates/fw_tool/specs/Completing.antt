-- If nothing is refused and nothing fails.
use Rattle.std.specs.Prelude.{◌≡◌, ◌⊎◌}
use Rattle.fw_tool.specs.declared.ending.Ending.{Ending}
use Rattle.fw_tool.specs.Notes.{status_of}

-- the status is that of an ending that is done, or of want of memory
abbrev pub IsDoneOrUnmet : Ending → Type 0
IsDoneOrUnmet e = (status_of e ≡ 0) ⊎ (status_of e ≡ 8)
