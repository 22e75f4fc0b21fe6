use Rattle.fw_bus_state.proofs.Common.{sym}
use Rattle.fw_bus_state.proofs.Listening.{recording_codes}
use Rattle.fw_bus_state.proofs.recording.is_recording.Goals as goal

pub returns-in_default : goal.returns-in_default
returns-in_default c = sym (recording_codes c.args.transport c.in_default.not-Record)
