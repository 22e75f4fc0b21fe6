use Rattle.fw_async_fields.proofs.Common.{sym, ◌∙◌}
use Rattle.fw_async_fields.proofs.ReadingLaws.{reserved_none}
use Rattle.fw_async_fields.proofs.faults.reserved.Goals as goal

pub returns-then-field-eq0 : goal.returns-then-field-eq0
returns-then-field-eq0 c = sym (reserved_none c.args.before c.args.q.0 c.args.first c.requires.range (sym c.field.ensures ∙ c.if-field-eq0.true))
