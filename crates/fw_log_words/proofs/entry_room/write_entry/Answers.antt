use Rattle.std.proofs.Common.{ℕ, List, ◌++◌, take, ap, ◌∙◌, append_assoc}
use Rattle.fw_log_words.proofs.entry_room.write_entry.Goals as goal

pub returns-clause-text : goal.returns-clause-text
returns-clause-text g c =
    c.write_piece.ensures.text ∙ ap (λ (t : List ℕ). t ++ c.args.body.now) c.write_piece-start.ensures.text
    ∙ append_assoc (take c.args.at c.args.out.now) c.args.head c.args.body.now
