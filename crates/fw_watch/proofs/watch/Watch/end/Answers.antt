use Rattle.std.proofs.Common.{◌∙◌, ap, string_bytes}
use Rattle.fw_watch.specs.Watched.{WatchState}
use Rattle.fw_watch.proofs.PutLaws.{end_is}
use Rattle.fw_watch.proofs.watch.Watch.end.Goals as goal

pub returns : goal.returns
returns c entries w =
    end_is c.args.self.now entries c.deref.result.now c.deref-2.result.now c.findings.result (string_bytes c.new-text.result) (string_bytes c.put_judged.new.text) (string_bytes c.put_last.new.text)
    w c.new-text.ensures.bytes (c.deref.ensures ∙ ap (λ (r : WatchState). r.state) c.self.view_is) (c.deref-2.ensures ∙ ap (λ (r : WatchState). r.state) c.self.view_is)
    (c.findings.ensures ∙ ap (λ (r : WatchState). r.told.findings) c.self.view_is) c.in_ok-put_judged.ensures c.in_ok-put_last.ensures
