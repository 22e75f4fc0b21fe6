-- Each clause is a lemma.
use Rattle.fw_model_reclaim.proofs.Wholes.{room_for_all, on_one_channel}
use Rattle.fw_model_reclaim.proofs.laws.plugs_have_room.Goals as goal

pub returns-clause-room : goal.returns-clause-room
returns-clause-room c = room_for_all

pub returns-clause-channel : goal.returns-clause-channel
returns-clause-channel c = on_one_channel
