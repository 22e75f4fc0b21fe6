use Rattle.std.proofs.Common.{◌≡◌, ◌∷◌, [], ◌++◌, List, ℕ, refl, ap, sym, subst, ◌∙◌}
use Rattle.fw_log_entry.specs.declared.entry.Timed.{Timed}
use Rattle.fw_log_requests.specs.Requests.{standing, standing_after}
use Rattle.fw_log_explain.proofs.StandingLaws.{standing_more}
use Rattle.fw_log_explain.specs.Lines.{line}
use Rattle.fw_watch.specs.Watched.{Watches, watched}
use Rattle.fw_log_json.specs.Objects.{object}
use Rattle.fw_log_reports.proofs.WholePassings.{made_is}
use Rattle.fw_log_words.proofs.PageLaws.{entry_put, one_line, all_ok}
use Rattle.fw_log_words.proofs.paging.Paging.put_body.Goals as goal

pub returns : goal.returns
returns c = λ entries t at h b.
    let old = c.args.self.now in
    let made = made_is c.args.cycle t.what t (sym at) refl in
    let json = c.in_ok-put_body.ensures t.what h ∙ ap (λ (x : Timed). old.objects.room ++ object x) made in
    let said = c.in_ok-put_body-2.ensures.line t.what h ∙ ap (λ (x : Timed). old.explanation.explainer.text ++ line old.explanation.explainer.requests x) made in
    let words = one_line old.explanation.explainer.text c.put_body-2.new.self.explainer.text old.explanation.explainer.requests entries t b.requests said in
    let requests = c.in_ok-put_body-2.ensures.requests t.what h ∙ ap (standing_after t.what) b.requests ∙ sym (standing_more entries t) in
    let held = c.in_ok-put_passed.ensures entries t b.passed in
    let watch = c.in_ok-put.ensures.lines t.what h entries b.watches ∙ ap (λ (x : Timed). old.watching.watch.told.text ++ watched entries (x ∷ [])) made in
    let W : Timed → Type 0 = λ x. Watches c.put.new.self.watch (entries ++ x ∷ []) in
    let watches = subst W made (c.in_ok-put.ensures.following t.what h entries b.watches) in
    all_ok c.put_lines-2.result
    (λ text empty took. (
      entry_put old.text.items c.put_gathered.new.text.items c.put_lines.new.text.items c.put_passed.new.text.items c.put_lines-2.new.text.items old.objects.room c.put_body.new.self.room
          old.explanation.explainer.text c.put_body-2.new.self.explainer.text old.watching.watch.told.text c.put.new.self.watch.told.text entries t b.objects b.explained b.watched json words watch
          c.in_ok-put_gathered.ensures.text c.in_ok-put_lines.ensures.text held.0 text,
      record {
        objects = c.in_ok-put_gathered.ensures.empty;
        explained = c.in_ok-put_lines.ensures.empty;
        requests = c.in_ok-put_lines.ensures.took (entries ++ t ∷ []) requests;
        follows = held.1;
        watched = empty;
        watches = took;
      },
    )) c.put_lines-2.ensures.text c.put_lines-2.ensures.empty (c.put_lines-2.ensures.took (entries ++ t ∷ []) watches)
