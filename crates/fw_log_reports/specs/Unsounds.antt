-- What a log is refused with by an audit, as text.
use Rattle.std.specs.Prelude.{ℕ, List, ◌++◌, codes, decimal}
use Rattle.fw_audit.specs.Unjudged.{unjudged_text}
use Rattle.fw_log_text.specs.Line.{quadlet_text}
use Rattle.fw_model_audit.specs.declared.fault.AuditFault.{AuditFault}
use Rattle.fw_model_audit.specs.declared.fault.AuditFault.TheVariants.{NoNode, Overlap, Orphan, NotAllowed, WrongWord, NoMove, NoEvent}
use Rattle.fw_log_reports.specs.declared.refusal.Unsound.{Unsound}

-- the name of a fault
abbrev pub fault_of : AuditFault → List ℕ
fault_of (NoNode _) = codes ": NoNode"
fault_of (Overlap _) = codes ": Overlap"
fault_of (Orphan _) = codes ": Orphan"
fault_of (NotAllowed _ _) = codes ": NotAllowed"
fault_of (WrongWord _ _) = codes ": WrongWord"
fault_of (NoMove _ _) = codes ": NoMove"
fault_of (NoEvent _) = codes ": NoEvent"

-- its values, each as eight hexadecimal digits
abbrev pub values_of : AuditFault → List ℕ
values_of (NoNode id) = quadlet_text id
values_of (Overlap id) = quadlet_text id
values_of (Orphan id) = quadlet_text id
values_of (NotAllowed id offset) = quadlet_text id ++ quadlet_text offset
values_of (WrongWord found expected) = quadlet_text found ++ quadlet_text expected
values_of (NoMove old value) = quadlet_text old ++ quadlet_text value
values_of (NoEvent code) = quadlet_text code

-- the entry, its fault, and how many locks up to it no audit judges
abbrev pub unsound_text : Unsound → List ℕ
unsound_text u = codes "entry " ++ decimal u.entry ++ fault_of u.fault ++ values_of u.fault ++ unjudged_text u.unjudged
