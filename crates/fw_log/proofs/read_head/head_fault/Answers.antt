use Rattle.fw_log.proofs.Common.{◌≡◌, ℕ, length, drop, false, arith, refl, ap, sym, ◌∙◌, length-drop, Position, position, entry_fault, head_fault, header_fault, version_at, Version}
use Rattle.fw_log.specs.declared.log_position.LogPosition.{LogPosition}
use Rattle.fw_log.proofs.HeadLaws.{after_header, header_refused, following_header}
use Rattle.fw_log.proofs.read_head.head_fault.Goals as goal

pub returns-in-None : goal.returns-in-None
returns-in-None c =
    c.entry_fault.ensures ∙ ap (entry_fault c.version_at.result 0 16 0) c.rest.ensures ∙ after_header c.version_at.result c.args.bytes.now 0 0 c.in-None.ensures
    ∙ ap (λ (v : Version). header_fault c.args.bytes.now (entry_fault v 0 16 0 (drop 16 c.args.bytes.now)))
    (c.version_at.ensures ∙ ap (λ (s : LogPosition). version_at (position s) c.args.bytes.now) c.in-Header.is)
    ∙ ap (λ (s : LogPosition). head_fault (position s) c.args.bytes.now) (sym c.in-Header.is)

pub returns-in-Some : goal.returns-in-Some
returns-in-Some c =
    header_refused c.args.bytes.now _ c.in-Some.fault c.in-Some.ensures ∙ ap (λ (s : LogPosition). head_fault (position s) c.args.bytes.now) (sym c.in-Header.is)

pub returns-in-Entries : goal.returns-in-Entries
returns-in-Entries c =
    let start : ℕ = c.get.result in
    let at : Position = record { start = start; last = c.in-Entries.last; ended = false; version = c.in-Entries.version; epoch = c.in-Entries.epoch } in
    let same : at ≡ position c.args.stand =
    ap (λ (n : ℕ). record at { start = n }) c.get.ensures.value ∙ ap position (sym c.in-Entries.is) in
    c.entry_fault-in-Entries.ensures ∙ following_header at c.args.bytes.now refl (omega (arith, c.get.ensures.nonzero)) ∙ ap (λ (s : Position). head_fault s c.args.bytes.now) same

pub entry_fault-requires-in-Entries : goal.entry_fault-requires-in-Entries
entry_fault-requires-in-Entries c = omega (arith, c.requires, ap (λ (s : LogPosition). (position s).start) c.in-Entries.is, c.get.ensures.value)

pub entry_fault-requires : goal.entry_fault-requires
entry_fault-requires c = omega (arith, c.requires, ap length c.rest.ensures, length-drop 16 c.args.bytes.now)
