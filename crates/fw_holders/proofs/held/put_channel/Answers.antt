use Rattle.fw_holders.proofs.ListedLaws.{put_listed}
use Rattle.fw_holders.proofs.held.put_channel.Goals as goal

pub returns-in-Some-clause-text : goal.returns-in-Some-clause-text
returns-in-Some-clause-text c = λ before told e.
    put_listed c.put_channel.result c.args.texts.now c.args.channel c.in-Some.held c.args.held before told c.args.text.now.items c.put_channel.new.text.items c.in-Some.is e
    c.put_channel.ensures.text
