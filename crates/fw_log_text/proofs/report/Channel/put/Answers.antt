use Rattle.std.proofs.Common.{ap, ◌∙◌, ◌++◌, string_bytes, append-nil, sym}
use Rattle.std.proofs.lemmas.Result.{on_ok_weaker}
use Rattle.fw_log_text.proofs.TallyLaws.{line_is, no_line}
use Rattle.fw_log_text.proofs.report.Channel.put.Goals as goal

pub returns : goal.returns
returns c packets h = on_ok_weaker c.put_line.result (λ e. e ∙ ap (λ t. string_bytes c.args.text.now ++ t) (line_is packets c.args.number c.args.self.now h c.if-self-eq0.false)) c.put_line.ensures

pub returns-then-self-eq0 : goal.returns-then-self-eq0
returns-then-self-eq0 c packets h = sym (append-nil (string_bytes c.args.text.now)) ∙ ap (λ t. string_bytes c.args.text.now ++ t) (no_line packets c.args.number c.args.self.now h c.if-self-eq0.true)
