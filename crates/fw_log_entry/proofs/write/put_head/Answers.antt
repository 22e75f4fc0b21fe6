use Rattle.std.proofs.Common.{◌++◌, List, ℕ, ap, sym, ◌∙◌}
use Rattle.fw_log_entry.specs.Log.{entry_head}
use Rattle.fw_log_entry.specs.declared.version.Version.{Version}
use Rattle.fw_log_entry.proofs.write.put_head.Goals as goal

pub returns-in-One : goal.returns-in-One
returns-in-One c =
    c.append.ensures ∙ (ap (λ (t : List ℕ). t ++ c.short_head.result) c.requires
    ∙ (c.short_head.ensures ∙ ap (λ (v : Version). entry_head v c.args.epoch c.args.kind c.args.quadlets c.args.cycle) (sym c.in-One.is)))
