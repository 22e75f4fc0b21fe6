-- The lemma for a directory.
use Rattle.fw_model_controllers.proofs.Directories.{directory}
use Rattle.fw_model_controllers.proofs.directories_show_the_bus.Goals as goal

pub returns : goal.returns
returns c = directory
