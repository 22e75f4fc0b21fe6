use Rattle.fw_holders_text.proofs.held_texts.HeldTexts.new.Goals as goal

pub invariant_of-result : goal.invariant_of-result
invariant_of-result c = (
  λ n kept is. rw (c.in_ok-channel_rows.ensures n kept is) tt,
  λ n kept is. rw (c.in_ok-done_rows.ensures n kept is) tt,
  rw c.new.ensures tt,
  λ n kept is. rw (c.in_ok-number_rows.ensures n kept is) tt,
)
