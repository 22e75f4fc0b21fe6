use Rattle.std.proofs.Common.{◌≡◌, ◌∷◌, [], List, ℕ, Option, Some, None, refl, ap, sym, subst, ◌∙◌}
use Rattle.fw_holders.specs.Told.{holders}
use Rattle.fw_log_loop.specs.Readings.{TakesEntry}
use Rattle.fw_log_reports.specs.Holdings.{Takes}
use Rattle.fw_log_reports.specs.Verdicts.{RejectsUnsound}
use Rattle.fw_log_reports.specs.declared.refusal.LogRefusal.{LogRefusal}
use Rattle.fw_log_reports.specs.declared.refusal.LogRefusal.TheVariants.{Audit, Map}
use Rattle.fw_log_words.proofs.HeldLaws.{stop_put, line_put}
use Rattle.fw_log_words.proofs.held.Held.put_taken.Goals as goal

pub returns-in-Audit : goal.returns-in-Audit
returns-in-Audit c = λ before entries t on none h empty taken.
    let T : Option LogRefusal → Type 0 = λ o. TakesEntry holders RejectsUnsound (Takes c.args.self.now.holding) before.holders.text c.args.self.now.holding.holders.text entries t o in
    let e = c.in-Some.is ∙ ap (λ (r : LogRefusal). Some r) c.in-Audit.is in
    stop_put c.put_stop.result before c.args.self.now _ c.in-Audit.unsound c.args.text.now.items c.put_stop.new.text.items entries t none h empty (subst T e taken) refl refl c.put_stop.ensures

pub returns-in-Map : goal.returns-in-Map
returns-in-Map c = λ before entries t on none h empty taken.
    let T : Option LogRefusal → Type 0 = λ o. TakesEntry holders RejectsUnsound (Takes c.args.self.now.holding) before.holders.text c.args.self.now.holding.holders.text entries t o in
    let e = c.in-Some.is ∙ ap (λ (r : LogRefusal). Some r) c.in-Map.is in
    absurd ((subst T e taken).0)

pub returns-in-None : goal.returns-in-None
returns-in-None c = λ before entries t on none h empty taken.
    let T : Option LogRefusal → Type 0 = λ o. TakesEntry holders RejectsUnsound (Takes c.args.self.now.holding) before.holders.text c.args.self.now.holding.holders.text entries t o in
    line_put c.put_lines.result before c.args.self.now _ c.args.text.now.items c.put_lines.new.text.items entries t none h empty (subst T c.in-None.is taken) on c.put_lines.ensures.text
    c.put_lines.ensures.empty c.put_lines.ensures.took
