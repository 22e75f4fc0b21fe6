use Rattle.fw_holders.proofs.Common.{◌++◌, ◌∷◌, [], Option, Some, None, Ok, ap, sym, subst, ◌∙◌, Async, Answer, Holds, HolderState, holders}
use Rattle.fw_account_tables.specs.Stands.{Stands}
use Rattle.fw_audit.specs.Found.{Judges}
use Rattle.fw_holders.proofs.LatestLaws.{passed_nodes}
use Rattle.fw_holders.proofs.PassLaws.{answer_more, other_more, passes}
use Rattle.fw_holders.proofs.holders.Holders.pass_packet.Goals as goal

pub returns-in_ok-put_answer-in-Some-Some-clause-passed : goal.returns-in_ok-put_answer-in-Some-Some-clause-passed
returns-in_ok-put_answer-in-Some-Some-clause-passed c = λ entries t p at what spells few held yes.
    let old : HolderState = record { text = c.self.inside.text.items; tables = c.self.inside.ledger; judged = c.self.inside.judged } in
    let new : HolderState = record { text = c.put_answer.new.text.items; tables = c.take_packet.new.ledger; judged = c.take_answer.new.self } in
    let h : Holds entries old = subst (Holds entries) (sym c.self.view_is) held in
    let P : Option Answer → Type 0 = λ a. Judges c.take_packet.new.ledger h.account (Async p) (Ok a) in
    let taken = subst P c.in-Some-Some.field-0-is (c.in-Some-Some.ensures.taken h.account p h.stands spells) in
    let more = answer_more h.account c.args.cycle p c.in-Some-Some.answer old new h.stands.sound taken c.take_answer.ensures
    (λ k r stands reply answered is. c.in_ok-put_answer-in-Some-Some.ensures.text h.account k r h.stands.sound stands reply answered is) in
    let x = passes entries old new c.args.cycle p t at what few h more in
    (x.0, x.1 ∙ ap (λ (r : HolderState). r.text ++ holders entries (t ∷ [])) c.self.view_is)

pub returns-in-Some-None-clause-passed : goal.returns-in-Some-None-clause-passed
returns-in-Some-None-clause-passed c = λ entries t p at what spells few held yes.
    let old : HolderState = record { text = c.self.inside.text.items; tables = c.self.inside.ledger; judged = c.self.inside.judged } in
    let h : Holds entries old = subst (Holds entries) (sym c.self.view_is) held in
    let P : Option Answer → Type 0 = λ a. Judges c.take_packet.new.ledger h.account (Async p) (Ok a) in
    let taken = subst P c.in-Some-None.field-0-is (c.in-Some-None.ensures.taken h.account p h.stands spells) in
    let x = passes entries old (record old { tables = c.take_packet.new.ledger }) c.args.cycle p t at what few h (other_more h.account c.args.cycle p old c.take_packet.new.ledger taken) in
    (x.0, x.1 ∙ ap (λ (r : HolderState). r.text ++ holders entries (t ∷ [])) c.self.view_is)

pub put_answer-requires : goal.put_answer-requires
put_answer-requires c = record {
  nodes = c.self.invariant
      ∙ passed_nodes c.self.inside.ledger c.take_packet.new.ledger c.requires.packet.packet (Some c.in-Some-Some.answer) (subst Stands c.tables.ensures.same c.tables.ensures.stands)
      (λ l h. let P : Option Answer
      → Type 0 = λ a. Judges c.take_packet.new.ledger l (Async c.requires.packet.packet) (Ok a) in subst P c.in-Some-Some.field-0-is
      (c.in-Some-Some.ensures.taken l c.requires.packet.packet h c.requires.packet.spells));
}

pub invariant_of-self : goal.invariant_of-self
invariant_of-self c = c.put_answer.ensures.same ∙ c.self.invariant
    ∙ passed_nodes c.self.inside.ledger c.take_packet.new.ledger c.requires.packet.packet (Some c.in-Some-Some.answer) (subst Stands c.tables.ensures.same c.tables.ensures.stands)
    (λ l h. let P : Option Answer
    → Type 0 = λ a. Judges c.take_packet.new.ledger l (Async c.requires.packet.packet) (Ok a) in subst P c.in-Some-Some.field-0-is
    (c.in-Some-Some.ensures.taken l c.requires.packet.packet h c.requires.packet.spells))

pub invariant_of-self-in-Some-Some : goal.invariant_of-self-in-Some-Some
invariant_of-self-in-Some-Some c = c.put_answer.ensures.same ∙ c.self.invariant
    ∙ passed_nodes c.self.inside.ledger c.take_packet.new.ledger c.requires.packet.packet (Some c.in-Some-Some.answer) (subst Stands c.tables.ensures.same c.tables.ensures.stands)
    (λ l h. let P : Option Answer
    → Type 0 = λ a. Judges c.take_packet.new.ledger l (Async c.requires.packet.packet) (Ok a) in subst P c.in-Some-Some.field-0-is
    (c.in-Some-Some.ensures.taken l c.requires.packet.packet h c.requires.packet.spells))

pub invariant_of-self-in-Some-None : goal.invariant_of-self-in-Some-None
invariant_of-self-in-Some-None c = c.self.invariant
    ∙ passed_nodes c.self.inside.ledger c.take_packet.new.ledger c.requires.packet.packet None (subst Stands c.tables.ensures.same c.tables.ensures.stands)
    (λ l h. let P : Option Answer
    → Type 0 = λ a. Judges c.take_packet.new.ledger l (Async c.requires.packet.packet) (Ok a) in subst P c.in-Some-None.field-0-is
    (c.in-Some-None.ensures.taken l c.requires.packet.packet h c.requires.packet.spells))
