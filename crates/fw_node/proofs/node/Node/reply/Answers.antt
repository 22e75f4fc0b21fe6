use Rattle.std.proofs.Common.{inl, inr, ap, ◌∙◌, arith}
use Rattle.fw_csr.specs.Requests.{offset_of}
use Rattle.fw_csr.specs.Replies.{reply}
use Rattle.fw_node.specs.Space.{core_register_at}
use Rattle.fw_node.specs.State.{space_of}
use Rattle.fw_node.specs.contracts.node.Node.{the_view}
use Rattle.fw_node.proofs.Places.{manager_register_of, manager_asked, plug_register_of, plugs_asked, core_register_of, core_asked, OfCore, Outside}
use Rattle.fw_node.proofs.node.Node.reply.Goals as goal
use Rattle.fw_node.proofs.node.Node.reply.Goals.{in_default-via-then-offset-lt281474708277504, in_default-via-else-offset-lt281474708277504+else-offset-lt281474708277757}
use Rattle.fw_node.proofs.node.Node.reply.Goals.{in_default-offset-via-then-offset-lt281474708275740, in_default-offset-via-else-offset-lt281474708275740+else-offset-lt281474708275753}

pub returns-in-281474708275740-to-281474708275752-clause-reply : goal.returns-in-281474708275740-to-281474708275752-clause-reply
returns-in-281474708275740-to-281474708275752-clause-reply g c =
    c.manager_reply.ensures.reply ∙ ap (λ o. reply o (g.R.RegisterRequest.request c.args.r.now))
    (manager_register_of (the_view c.self.inside) c.args.self.now c.args.number c.args.now (offset_of (g.R.RegisterRequest.request c.args.r.now)) c.self.view_is (omega arith) (omega arith))

pub returns-in-281474708275740-to-281474708275752-clause-registers : goal.returns-in-281474708275740-to-281474708275752-clause-registers
returns-in-281474708275740-to-281474708275752-clause-registers g c =
    manager_asked (the_view c.self.inside) c.args.self.now c.manager_reply.new.manager (g.R.RegisterRequest.request c.args.r.now) c.self.view_is (c.self.invariant.1, c.self.invariant.2)
    (omega arith) c.manager_reply.ensures.words

pub returns-in-281474708277504-to-281474708277756-clause-reply : goal.returns-in-281474708277504-to-281474708277756-clause-reply
returns-in-281474708277504-to-281474708277756-clause-reply g c =
    c.answer.ensures.reply ∙ ap (λ o. reply o (g.R.RegisterRequest.request c.args.r.now))
    (plug_register_of (the_view c.self.inside) c.args.self.now c.args.number c.args.now (offset_of (g.R.RegisterRequest.request c.args.r.now)) c.self.view_is
    (c.self.invariant.1, c.self.invariant.2) (omega arith) (omega arith))

pub returns-in-281474708277504-to-281474708277756-clause-registers : goal.returns-in-281474708277504-to-281474708277756-clause-registers
returns-in-281474708277504-to-281474708277756-clause-registers g c =
    plugs_asked (the_view c.self.inside) c.args.self.now c.answer.new.self (g.R.RegisterRequest.request c.args.r.now) c.self.view_is (omega arith) c.answer.ensures.words

no_plug : (g : _) (c : goal.After-core_reply g) → Outside 0xFFFF_F000_0900 0xFFFF_F000_09FC (offset_of (g.R.RegisterRequest.request c.args.r.now))
no_plug g c = elim c.in_default.branch [
  | in_default-via-then-offset-lt281474708277504 w ↦ inl (omega arith)
  | in_default-via-else-offset-lt281474708277504+else-offset-lt281474708277757 w ↦ inr (omega arith)
]

no_manager : (g : _) (c : goal.After-core_reply g) → Outside 0xFFFF_F000_021C 0xFFFF_F000_0228 (offset_of (g.R.RegisterRequest.request c.args.r.now))
no_manager g c = elim c.in_default-offset.branch [
  | in_default-offset-via-then-offset-lt281474708275740 w ↦ inl (omega arith)
  | in_default-offset-via-else-offset-lt281474708275740+else-offset-lt281474708275753 w ↦ inr (omega arith)
]

of_core : (g : _) (c : goal.After-core_reply g) → OfCore (offset_of (g.R.RegisterRequest.request c.args.r.now))
of_core g c = (no_manager g c, no_plug g c)

pub returns-in_default-offset-clause-reply : goal.returns-in_default-offset-clause-reply
returns-in_default-offset-clause-reply g c =
    c.core_reply.ensures.reply ∙ ap (λ n. reply (core_register_at (space_of c.args.number c.args.now c.args.self.now) n) (g.R.RegisterRequest.request c.args.r.now)) c.offset-offset.ensures
    ∙ ap (λ o. reply o (g.R.RegisterRequest.request c.args.r.now)) (core_register_of c.args.self.now c.args.number c.args.now (offset_of (g.R.RegisterRequest.request c.args.r.now)) (of_core g c))

pub returns-in_default-offset-clause-registers : goal.returns-in_default-offset-clause-registers
returns-in_default-offset-clause-registers g c =
    core_asked (the_view c.self.inside) c.args.self.now (g.R.RegisterRequest.request c.args.r.now) c.self.view_is (c.self.invariant.1, c.self.invariant.2) (of_core g c)
