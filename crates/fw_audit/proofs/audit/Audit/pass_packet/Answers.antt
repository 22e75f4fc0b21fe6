use Rattle.fw_log_entry.specs.declared.entry.Entry.TheVariants.{Async}
use Rattle.fw_audit.proofs.Audits.{taken_found}
use Rattle.fw_audit.proofs.audit.Audit.pass_packet.Goals as goal

pub returns-in-Some-clause-found : goal.returns-in-Some-clause-found
returns-in-Some-clause-found c = λ yes entries p spells x. let y = c.in-Some.ensures.taken x.account p x.stands spells in taken_found entries (Async p) c.args.self.now _ x y.0 y.1
