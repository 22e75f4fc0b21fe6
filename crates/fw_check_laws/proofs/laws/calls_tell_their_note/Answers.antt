use Rattle.fw_check_laws.proofs.Notes.{call}
use Rattle.fw_check_laws.proofs.laws.calls_tell_their_note.Goals as goal

pub returns : goal.returns
returns g c source sink notes words = call _ source sink notes words c.refusals_are_told.ensures.notes c.refusals_are_told.ensures.names
