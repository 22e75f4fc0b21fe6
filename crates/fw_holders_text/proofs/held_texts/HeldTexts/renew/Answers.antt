use Rattle.std.proofs.Common.{rules, ◌≡◌, ◌∙◌, ap, sym, Decides, List, length, slice_get, ◌++◌, drop, take}
use Rattle.std.proofs.lemmas.Slice.Eq.{slice_eq-Decides}
use Rattle.fw_log_entry.specs.declared.nodes.NodeRow.{NodeRow}
use Rattle.fw_log_entry.specs.contracts.nodes.NodeRowPartialEq.TheImpl.{eq-value}
use Rattle.fw_holders_text.specs.declared.kept_channel.KeptChannel.{KeptChannel}
use Rattle.fw_holders_text.specs.declared.kept_done.KeptDone.{KeptDone}
use Rattle.fw_holders_text.proofs.RowLaws.{refilled}
use Rattle.fw_holders_text.proofs.held_texts.HeldTexts.renew.Goals as goal

eq_row : (a b : NodeRow) → Decides (eq-value.it a b) (a ≡ b)
eq_row a b = search rules

pub returns-then-eq : goal.returns-then-eq
returns-then-eq c =
    sym c.self.view_is ∙ sym c.as_slice.ensures ∙ (slice_eq-Decides {E = eq-value.it} eq_row c.as_slice.result.now c.args.nodes.now c.eq.result c.eq.ensures).0 c.if-eq.true

pub invariant_of-self : goal.invariant_of-self
invariant_of-self c =
    let channels = c.self.inside.channels in
    let new = c.forget_channels.new.rows in
    let size = c.forget_channels.ensures.size ∙ ap (λ (xs : List KeptChannel). length xs) c.deref_mut.ensures.value in
    let whole : take channels.len (new ++ drop (length new) channels.items) ≡ new = refilled channels.len new (drop (length new) channels.items) (size ∙ sym channels.ok.0) in
    let done = c.self.inside.done in
    let new2 = c.forget_done.new.rows in
    let size2 = c.forget_done.ensures.size ∙ ap (λ (xs : List KeptDone). length xs) c.deref_mut-2.ensures.value in
    let whole2 : take done.len (new2 ++ drop (length new2) done.items) ≡ new2 = refilled done.len new2 (drop (length new2) done.items) (size2 ∙ sym done.ok.0) in (
      λ n kept is. rw (c.forget_channels.ensures.none n kept (ap (λ (xs : List KeptChannel). slice_get xs n) (sym whole) ∙ is)) tt,
      λ n kept is. rw (c.forget_done.ensures.none n kept (ap (λ (xs : List KeptDone). slice_get xs n) (sym whole2) ∙ is)) tt,
      c.self.invariant.2,
      c.self.invariant.3,
    )
