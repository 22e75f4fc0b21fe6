use Rattle.fw_holders.proofs.Common.{refl, ◌++◌, ◌∷◌, [], ap, sym, subst, ◌∙◌, Account, Reset, StandsFor, Tables, Holds, HolderState, holders}
use Rattle.std.proofs.lemmas.Bool.{false≢true}
use Rattle.fw_model_account.specs.Events.{after_reset}
use Rattle.fw_ledger.specs.Resets.{HasNoNewOutput}
use Rattle.fw_holders.proofs.PassLaws.{passes_entry}
use Rattle.fw_holders.proofs.ResetLaws.{reset_more}
use Rattle.fw_holders.proofs.holders.Holders.pass_reset.Goals as goal

pub take_bus-requires : goal.take_bus-requires
take_bus-requires c = let r = c.requires.bus in record { fits = (r.0, r.1, r.2.manager, r.2.nodes ∙ sym c.as_slice.ensures.value) }

pub returns-clause-passed : goal.returns-clause-passed
returns-clause-passed c = λ entries t r at what fits is few held yes.
    let old : HolderState = record { text = c.self.inside.text.items; tables = c.self.inside.ledger; judged = c.self.inside.judged } in
    let new : HolderState = record { text = c.put_reset.new.text.items; tables = c.take_bus.new.self; judged = c.take_reset.new.self } in
    let h : Holds entries old = subst (Holds entries) (sym c.self.view_is) held in
    let k : Account = after_reset r h.account in
    let stands : StandsFor new.tables k = c.take_bus.ensures.taken c.if-not-take_bus.false h.account r h.stands fits is.manager (is.nodes ∙ sym c.as_slice.ensures.value) in
    let shown = subst (λ (t : Tables). StandsFor t k) (sym c.tables-tables.ensures.same) stands in
    let more = reset_more h.account c.args.cycle r c.args.bus.now old new is stands c.take_reset.ensures (c.in_ok-put_reset.ensures.text k shown) in
    let x = passes_entry entries old new c.args.cycle (Reset r) t at what few h more in
    (x.0, x.1 ∙ ap (λ (r : HolderState). r.text ++ holders entries (t ∷ [])) c.self.view_is)

pub returns-then-not-take_bus-clause-exactly : goal.returns-then-not-take_bus-clause-exactly
returns-then-not-take_bus-clause-exactly c = λ l h.
    let stood = subst (λ (r : HolderState). StandsFor r.tables l) (sym c.self.view_is) h in
    let x = c.take_bus.ensures.exactly l stood in (
      λ yes. absurd (false≢true yes),
      λ none. absurd (false≢true (sym c.if-not-take_bus.true ∙ x.1 (subst (HasNoNewOutput l.latest) (sym c.as_slice.ensures.value) none))),
    )

pub returns-clause-exactly : goal.returns-clause-exactly
returns-clause-exactly c = λ l h.
    let stood = subst (λ (r : HolderState). StandsFor r.tables l) (sym c.self.view_is) h in
    let x = c.take_bus.ensures.exactly l stood in
    (λ yes. subst (HasNoNewOutput l.latest) c.as_slice.ensures.value (x.0 c.if-not-take_bus.false), λ none. refl)
