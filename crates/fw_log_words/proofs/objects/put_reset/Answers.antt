use Rattle.std.proofs.Common.{◌++◌, ◌∙◌, List, ℕ, drop, arith, ap, sym, subst}
use Rattle.std.proofs.lemmas.Result.{on_ok_weaker}
use Rattle.fw_log_entry.specs.Log.{ResetFits, body}
use Rattle.fw_log_entry.specs.declared.entry.Entry.TheVariants.{Reset}
use Rattle.fw_log_entry.specs.declared.entry.ResetEntry.{ResetEntry}
use Rattle.fw_log_text.proofs.ResetLaws.{long}
use Rattle.fw_log_json.specs.Objects.{object}
use Rattle.fw_log_latest.proofs.LatestLaws.{again_is, later_is}
use Rattle.fw_log_words.proofs.objects.put_reset.Goals as goal

pub slice_bounds-later-count : goal.slice_bounds-later-count
slice_bounds-later-count c = omega (arith, long c.requires.reset c.args.bytes.now c.requires.same)

pub slice_bounds-later-start : goal.slice_bounds-later-start
slice_bounds-later-start c = omega (arith, long c.requires.reset c.args.bytes.now c.requires.same)

pub put_reset_from-requires-clause-fits : goal.put_reset_from-requires-clause-fits
put_reset_from-requires-clause-fits c = subst ResetFits (sym (c.make_reset.ensures c.requires.reset c.requires.fits c.requires.same)) c.requires.fits

pub put_reset_from-requires-clause-later : goal.put_reset_from-requires-clause-later
put_reset_from-requires-clause-later c =
    ap (λ (r : ResetEntry). drop 4 (body (Reset r))) (c.make_reset.ensures c.requires.reset c.requires.fits c.requires.same) ∙ ap (drop 4) c.requires.same ∙ sym (later_is c.args.bytes.now)

pub returns-then-is_told : goal.returns-then-is_told
returns-then-is_told c r f s =
    let again = c.in_ok-is_told.ensures.object c.if-is_told.true in
    let is = again_is again.0 r c.args.bytes.now _ _ again.1 f s again.2 (later_is c.args.bytes.now) c.quadlet_at-epoch.ensures.value in
    again.3 ∙ ap (λ (e : ResetEntry). c.args.room.now ++ object (record { cycle = c.args.cycle; what = Reset e })) is

pub returns : goal.returns
returns c r f s =
    let same = c.in_ok-is_told.ensures.other c.if-is_told.false in
    on_ok_weaker c.put_reset_from.result
    (λ e. e ∙ ap (λ (t : List ℕ). t ++ object (record { cycle = c.args.cycle; what = Reset c.make_reset.result.now })) same
    ∙ ap (λ (n : ResetEntry). c.args.room.now ++ object (record { cycle = c.args.cycle; what = Reset n })) (c.make_reset.ensures r f s))
    c.put_reset_from.ensures.object
