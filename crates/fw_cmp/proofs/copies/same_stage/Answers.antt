use Rattle.fw_cmp.proofs.Common.{◌≡◌, IsTrue, Ending, Stage, Begin, ReadOutput, ReadChannels, SwapChannels, ReadBandwidth, SwapBandwidth, ConnectOutput, OverlayOutput, ReadInput, ConnectInput}
use Rattle.fw_cmp.proofs.Common.{ReadInputToLeave, LeaveInput, ReadOutputToLeave, LeaveOutput, ReadBandwidthToRelease, RaiseBandwidth, ReadChannelsToRelease, RestoreChannel, Made, Ended}
use Rattle.std.proofs.Common.{rules}
use Rattle.fw_cmp_jobs.specs.declared.job.Then.{Then}
use Rattle.fw_cmp_jobs.specs.declared.job.Then.TheVariants.{EndsAs, Again}
use Rattle.fw_cmp_jobs.specs.contracts.job.EndingPartialEq.TheImpl as Endings
use Rattle.fw_cmp_jobs.specs.contracts.job.ThenPartialEq.TheImpl as Thens
use Rattle.fw_cmp_jobs.specs.contracts.stage.StagePartialEq.TheImpl as Stages
use Rattle.fw_cmp.proofs.copies.same_stage.Goals as goal

same_endings : (ending other : Ending) → IsTrue (Endings.eq-value.it ending other) → ending ≡ other
same_endings ending other = search rules

same_thens : (follows other : Then) → IsTrue (Thens.eq-value.it follows other) → follows ≡ other
same_thens (EndsAs a) (EndsAs b) same = search (rules, same_endings)
same_thens (EndsAs a) Again same = search rules
same_thens Again other same = search rules

same_stages : (stage other : Stage) → IsTrue (Stages.eq-value.it stage other) → stage ≡ other
same_stages Begin other same = search rules
same_stages ReadOutput other same = search rules
same_stages (ReadChannels a b) other same = search rules
same_stages (SwapChannels a b c) other same = search rules
same_stages (ReadBandwidth a b) other same = search rules
same_stages (SwapBandwidth a b c d) other same = search rules
same_stages (ConnectOutput a b c) other same = search rules
same_stages (OverlayOutput a) other same = search rules
same_stages (ReadInput a) other same = search rules
same_stages (ConnectInput a b) other same = search rules
same_stages (ReadInputToLeave a b) other same = search rules
same_stages (LeaveInput a b c) other same = search rules
same_stages (ReadOutputToLeave a b c) (ReadOutputToLeave a' b' c') same = search (rules, same_endings, same_thens)
same_stages (ReadOutputToLeave a b c) _ same = search rules
same_stages (LeaveOutput a b c d) (LeaveOutput a' b' c' d') same = search (rules, same_endings, same_thens)
same_stages (LeaveOutput a b c d) _ same = search rules
same_stages (ReadBandwidthToRelease a b c) (ReadBandwidthToRelease a' b' c') same = search (rules, same_endings, same_thens)
same_stages (ReadBandwidthToRelease a b c) _ same = search rules
same_stages (RaiseBandwidth a b c d) (RaiseBandwidth a' b' c' d') same = search (rules, same_endings, same_thens)
same_stages (RaiseBandwidth a b c d) _ same = search rules
same_stages (ReadChannelsToRelease a b) (ReadChannelsToRelease a' b') same = search (rules, same_endings, same_thens)
same_stages (ReadChannelsToRelease a b) _ same = search rules
same_stages (RestoreChannel a b c) (RestoreChannel a' b' c') same = search (rules, same_endings, same_thens)
same_stages (RestoreChannel a b c) _ same = search rules
same_stages (Made a) other same = search rules
same_stages (Ended a) (Ended a') same = search (rules, same_endings)
same_stages (Ended a) _ same = search rules

pub returns : goal.returns
returns c = λ same. same_stages c.args.stage.now c.args.other.now (rw c.eq.ensures at same)
