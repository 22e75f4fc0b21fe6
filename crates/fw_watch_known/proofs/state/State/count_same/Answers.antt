use Rattle.std.proofs.Common.{◌∙◌, sym, ap}
use Rattle.fw_watch_known.specs.Channels.{unused}
use Rattle.fw_watch_known.proofs.SameWordLaws.{managed_same, plug_same}
use Rattle.fw_watch_known.proofs.state.State.count_same.Goals as goal

pub returns-then-is_managed : goal.returns-then-is_managed
returns-then-is_managed c = managed_same c.args.self.now c.args.at c.args.known c.counted-self.result
    (sym c.is_managed.ensures ∙ c.if-is_managed.true) c.requires.all c.requires.known c.counted-self.ensures

pub returns : goal.returns
returns c =
    plug_same c.args.self.now c.args.at c.args.known c.counted-self.result c.note_use.new.self (sym c.is_managed.ensures ∙ c.if-is_managed.false) c.requires.all c.requires.known c.counted-self.ensures
    (c.note_use.ensures ∙ ap (λ k. unused k c.args.self.now.channels) c.channel.ensures.value)
