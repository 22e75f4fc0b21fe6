use Rattle.fw_log.proofs.Common.{◌∙◌}
use Rattle.fw_log.proofs.VersionLaws.{version_known}
use Rattle.fw_log.proofs.read.LogReader.version.Goals as goal

pub returns-clause-read : goal.returns-clause-read
returns-clause-read c entries bytes h = c.known.ensures ∙ version_known entries bytes c.args.self.now h
