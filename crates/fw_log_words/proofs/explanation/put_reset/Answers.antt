use Rattle.std.proofs.Common.{◌++◌, ◌∙◌, List, ℕ, drop, arith, ap, sym, subst}
use Rattle.std.proofs.lemmas.Result.{on_ok_weaker}
use Rattle.fw_log_entry.specs.Log.{ResetFits, body}
use Rattle.fw_log_entry.specs.declared.entry.Entry.TheVariants.{Reset}
use Rattle.fw_log_entry.specs.declared.entry.ResetEntry.{ResetEntry}
use Rattle.fw_log_text.proofs.ResetLaws.{long}
use Rattle.fw_log_explain.specs.Explained.{ExplainerState}
use Rattle.fw_log_explain.specs.Lines.{line}
use Rattle.fw_log_latest.proofs.LatestLaws.{again_is, later_is}
use Rattle.fw_log_words.proofs.explanation.put_reset.Goals as goal

pub slice_bounds-later-count : goal.slice_bounds-later-count
slice_bounds-later-count c = omega (arith, long c.requires.reset c.args.bytes.now c.requires.same)

pub slice_bounds-later-start : goal.slice_bounds-later-start
slice_bounds-later-start c = omega (arith, long c.requires.reset c.args.bytes.now c.requires.same)

pub put_reset_from-requires-clause-fits : goal.put_reset_from-requires-clause-fits
put_reset_from-requires-clause-fits c = subst ResetFits (sym (c.make_reset.ensures c.requires.reset c.requires.fits c.requires.same)) c.requires.fits

pub put_reset_from-requires-clause-later : goal.put_reset_from-requires-clause-later
put_reset_from-requires-clause-later c =
    ap (λ (r : ResetEntry). drop 4 (body (Reset r))) (c.make_reset.ensures c.requires.reset c.requires.fits c.requires.same) ∙ ap (drop 4) c.requires.same ∙ sym (later_is c.args.bytes.now)

pub returns-then-is_told-clause-line : goal.returns-then-is_told-clause-line
returns-then-is_told-clause-line c r f s =
    let again = c.in_ok-is_told.ensures.line c.if-is_told.true in
    let is = again_is again.0 r c.args.bytes.now _ _ again.1 f s again.2 (later_is c.args.bytes.now) c.quadlet_at-epoch.ensures.value in
    let old : ExplainerState = c.args.explainer.now in
    again.3 ∙ ap (λ (e : ResetEntry). old.text ++ line old.requests (record { cycle = c.args.cycle; what = Reset e })) is

pub returns-clause-line : goal.returns-clause-line
returns-clause-line c r f s =
    let same = c.in_ok-is_told.ensures.other c.if-is_told.false in
    let t : ResetEntry → ExplainerState → List ℕ = λ n (o : ExplainerState). o.text ++ line o.requests (record { cycle = c.args.cycle; what = Reset n }) in
    on_ok_weaker c.put_reset_from.result
    (λ e. e ∙ ap (t c.make_reset.result.now) same ∙ ap (λ (n : ResetEntry). t n c.args.explainer.now) (c.make_reset.ensures r f s))
    c.put_reset_from.ensures.line
