use Rattle.std.proofs.Common.{◌∙◌, ap, Some}
use Rattle.std.specs.Option.{is_some, unwrap_or}
use Rattle.fw_cip.proofs.StreamLaws.{expected_block, expected_empty}
use Rattle.fw_cip.proofs.listener.Listener.take.Goals as goal
use Rattle.fw_cip.proofs.listener.Listener.take.Goals.{in-Some, in-None}

pub returns-then-found-expected-clause-expects : goal.returns-then-found-expected-clause-expects
returns-then-found-expected-clause-expects c packets h = elim c.match-p.branch [
  | in-Some w ↦ rw w.self-is (expected_block packets c.args.p.now (ap is_some w.in-Some.is))
  | in-None w ↦ ap Some (w.self-is ∙ c.unwrap_or-expected.ensures ∙ ap (λ o. unwrap_or o c.args.p.now.cip.dbc) (c.self.view_is ∙ h)) ∙ expected_empty packets c.args.p.now (ap is_some w.in-None.is)
]

pub returns-clause-expects : goal.returns-clause-expects
returns-clause-expects c packets h = elim c.match-p.branch [
  | in-Some w ↦ rw w.self-is (expected_block packets c.args.p.now (ap is_some w.in-Some.is))
  | in-None w ↦ ap Some (w.self-is ∙ c.unwrap_or-expected.ensures ∙ ap (λ o. unwrap_or o c.args.p.now.cip.dbc) (c.self.view_is ∙ h)) ∙ expected_empty packets c.args.p.now (ap is_some w.in-None.is)
]
