use Rattle.fw_account_tables.proofs.Common.{◌-◌, None, ◌∙◌, ap, sym}
use Rattle.std.proofs.Common.{if◌then◌else◌}
use Rattle.fw_log_entry.specs.Network.{first_id}
use Rattle.fw_model_account.specs.Words.{is_node, manager_register, plug_register, first_address}
use Rattle.fw_account_tables.specs.Stands.{row_at}
use Rattle.fw_account_tables.proofs.RegisterNames.{register_is, local_id, second_found, named_there}
use Rattle.fw_account_tables.proofs.tables.Tables.register_at.Goals as goal

pub returns-in-None-clause-there : goal.returns-in-None-clause-there
returns-in-None-clause-there c =
    let t = c.args.self.now in
    let l = c.requires.stands.0 in
    let h = c.requires.stands.1 in
    let id = c.args.id in
    let offset = c.args.address - first_address in
    let local = local_id id c.in_ok-number.number c.in_ok-number.ensures.value in
    let managed = c.managed.ensures ∙ ap (λ n. if is_node n t.manager then manager_register offset else None) (sym local.1) in
    let row = c.row_at.ensures ∙ ap (λ nodes. row_at nodes id) c.as_slice.ensures.value in
    named_there t l id c.args.address c.plug_register.result h
    (second_found c.managed.result c.plug_register.result (if is_node (id - first_id) t.manager then manager_register offset else None)
    (plug_register (row_at t.nodes id) offset) c.in-None.is managed (c.plug_register.ensures ∙ ap (λ r. plug_register r offset) row)
    ∙ register_is t.started t.manager t.nodes l.latest id c.args.address h.latest local.0 c.if-address-lt-REGISTER_SPACE.false)
