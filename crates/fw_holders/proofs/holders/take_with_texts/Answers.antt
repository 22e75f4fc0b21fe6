use Rattle.fw_holders.proofs.Common.{◌≡◌, ◌∙◌, ap, sym, subst, Reset, ResetEntry}
use Rattle.std.proofs.Common.{not}
use Rattle.std.proofs.lemmas.Bool.{false≢true}
use Rattle.fw_account_tables.specs.Stands.{Stands}
use Rattle.fw_holders.proofs.LatestLaws.{taken_nodes}
use Rattle.fw_holders.proofs.holders.take_with_texts.Goals as goal
use Rattle.fw_holders.proofs.holders.take_with_texts.Goals.{then-tables, in-Reset, in_default, else-tables}

pub returns-in-Ok-clause-nodes : goal.returns-in-Ok-clause-nodes
returns-in-Ok-clause-nodes c =
    let stays = c.if-stays.true in
    let other : (r : ResetEntry) → c.args.e.now ≡ Reset r → ⊥ = elim c.if-tables.branch [
      | then-tables w ↦ elim w.match-matches.branch [
        | in-Reset w' ↦ λ r e. false≢true (sym (w.stays-is ∙ ap not w'.matches-is) ∙ stays)
        | in_default w' ↦ w'.in_default.not-Reset
      ]
      | else-tables w ↦ λ r e. false≢true (sym (w.stays-is ∙ w.if-tables.false) ∙ stays)
    ] in
    c.requires.nodes ∙ taken_nodes c.args.ledger.now c.take_entry.new.ledger c.args.e.now c.in-Ok.answer other (subst Stands c.tables.ensures.same c.tables.ensures.stands) c.in-Ok.ensures
