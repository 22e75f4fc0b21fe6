use Rattle.std.proofs.Common.{◌∙◌, ap, Some}
use Rattle.fw_script_command.specs.Words.{both, name_in, number_in}
use Rattle.fw_script_command.proofs.PlaceLaws.{both_none, place_cut, place_whole}
use Rattle.fw_script_command.proofs.words.place.Goals as goal

pub returns-in_err-prefix : goal.returns-in_err-prefix
returns-in_err-prefix c = c.from_residual.ensures ∙ place_whole c.args.high c.args.word.now c.in_err-prefix.ensures.none

pub returns-in_err-name : goal.returns-in_err-name
returns-in_err-name c =
    let u = c.in_ok-prefix.prefix.now in
    let v = c.in_ok-prefix.digits.now in
    let found = c.in_ok-prefix.ensures.found in
    c.from_residual-in_err-name.ensures
    ∙ (ap (λ n. both n (number_in 0 c.args.high v)) c.in_err-name.ensures ∙ place_cut c.args.high c.args.word.now u v found.0 found.1)

pub returns-in_err-small : goal.returns-in_err-small
returns-in_err-small c =
    let u = c.in_ok-prefix.prefix.now in
    let v = c.in_ok-prefix.digits.now in
    let found = c.in_ok-prefix.ensures.found in
    c.from_residual-in_err-small.ensures
    ∙ (both_none (name_in u) ∙ (ap (both (name_in u)) c.in_err-small.ensures ∙ place_cut c.args.high c.args.word.now u v found.0 found.1))

pub returns : goal.returns
returns c =
    let u = c.in_ok-prefix.prefix.now in
    let v = c.in_ok-prefix.digits.now in
    let found = c.in_ok-prefix.ensures.found in
    ap (λ n. both n (Some c.in_ok-small.field-0)) c.in_ok-name.ensures
    ∙ (ap (both (name_in u)) c.in_ok-small.ensures ∙ place_cut c.args.high c.args.word.now u v found.0 found.1)
