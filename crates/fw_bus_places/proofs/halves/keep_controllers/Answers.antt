use Rattle.std.proofs.Common.{◌≡◌, ◌∙◌, ◌<◌, ◌+◌, ◌-◌, ◌++◌, List, ℕ, length, set, get_or, ap, sym, refl, arith}
use Rattle.std.proofs.lemmas.List.{get_or_read, set-append_right}
use Rattle.fw_cmp.specs.Losses.{Listening, first_listening}
use Rattle.fw_bus_places.proofs.HalfLaws.{one_kept}
use Rattle.fw_bus_places.proofs.halves.keep_controllers.Goals as goal

-- the number of one is put in its place
put_at : (out now after : List ℕ) (place number at : ℕ) → at ≡ length out + place → after ≡ set (out ++ now) at number → after ≡ out ++ set now place number
put_at out now after place number at e put =
    let here : at - length out ≡ place = omega (arith, e) in
    put ∙ set-append_right out now (length out) at number refl (omega (arith, e)) ∙ ap (λ k. out ++ set now k number) here

pub returns : goal.returns
returns c =
    let list = c.args.controllers.now.list in
    let place = c.from-place.result in
    let low : place < length c.args.now.now = omega (arith, c.if-place-now.false) in
    let listed = c.list-2.ensures.list in
    let within : place < length c.list-2.result.now = let long = ap length listed in omega (arith, long, low, c.requires.size) in
    one_kept first_listening c.args.kept.now list c.args.now.now c.requires.within c.keep_guessed.new.kept c.args.out.now.items _ place c.in_ok-number.number low
    c.requires.size
    (λ d other. c.requires.others d (λ e. other (e ∙ sym c.from-place.ensures)))
    c.index-list-place.result
    (get_or_read c.list-2.result.now place c.index-list-place.result within c.index-list-place.is first_listening ∙ ap (λ (l : List Listening). get_or l place first_listening) listed)
    c.in_ok-number.ensures
    (put_at c.args.out.now.items c.args.now.now _ place c.in_ok-number.number (c.len.result + place) (omega (arith, c.args.out.now.ok.0, c.len.ensures))
    (ap (λ (l : List ℕ). set l (c.len.result + place) c.in_ok-number.number) c.in_ok-extend_from_slice.ensures.items))
