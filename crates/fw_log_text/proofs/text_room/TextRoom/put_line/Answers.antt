use Rattle.std.proofs.Common.{◌≡◌, ◌<◌, ◌+◌, ◌∙◌, ℕ, List, [], ◌∷◌, ◌++◌, length, take, refl, ap, arith}
use Rattle.std.proofs.Math.ListN.{set}
use Rattle.std.proofs.lemmas.Grind.{take-set_at}
use Rattle.std.proofs.lemmas.List.{with_items_is}
use Rattle.std.specs.Vec.{with_items}
use Rattle.fw_log_text.specs.Line.{quadlets_text}
use Rattle.fw_log_text.proofs.JoinLaws.{line_after}
use Rattle.fw_log_text.proofs.text_room.TextRoom.put_line.Goals as goal

pub returns : goal.returns
returns c =
    let first : ℕ = c.write_row-at.result in
    let second : ℕ = c.write_row-at-2.result in
    let third : ℕ = c.write_quadlets-at.result in
    let room = c.make_room.new.bytes in
    let out : List ℕ = c.write_quadlets-at.new.out in
    let text : List ℕ = c.args.self.now in
    let long : length c.write_row-at.new.out ≡ room.len = omega (arith, ap length c.deref_mut.ensures.value, c.write_row-at.ensures.size) in
    let same : c.deref_mut-2.result.now ≡ c.write_row-at.new.out = c.deref_mut-2.ensures.value ∙ with_items_is room c.write_row-at.new.out long in
    let long-2 : length c.write_row-at-2.new.out ≡ room.len = omega (arith, ap length same, c.write_row-at-2.ensures.size) in
    let same-2 : c.deref_mut-3.result.now ≡ c.write_row-at-2.new.out = c.deref_mut-3.ensures.value ∙ with_items_is (with_items room c.write_row-at.new.out) c.write_row-at-2.new.out long-2 in
    let long-3 : length out ≡ room.len = omega (arith, ap length same-2, c.write_quadlets-at.ensures.size) in
    let same-3 = with_items_is (with_items (with_items room c.write_row-at.new.out) c.write_row-at-2.new.out) out long-3 in
    let before : take c.self.inside.filled c.deref_mut.result.now ≡ text =
    ap (take c.self.inside.filled) c.deref_mut.ensures.value ∙ c.in_ok-make_room.ensures.same ∙ c.self.view_is in
    let prefix : take first c.deref_mut-2.result.now ≡ text ++ c.args.prefix =
    ap (take first) same ∙ c.write_row-at.ensures.text ∙ ap (λ (t : List ℕ). t ++ c.args.prefix) before in
    let word : take second c.deref_mut-3.result.now ≡ (text ++ c.args.prefix) ++ c.args.word =
    ap (take second) same-2 ∙ c.write_row-at-2.ensures.text ∙ ap (λ (t : List ℕ). t ++ c.args.word) prefix in
    let all : take third out ≡ ((text ++ c.args.prefix) ++ c.args.word) ++ quadlets_text c.args.bytes.now =
    c.write_quadlets-at.ensures.text ∙ ap (λ (t : List ℕ). t ++ quadlets_text c.args.bytes.now) word in
    let there : third < length out = omega (arith, ap length c.deref_mut.ensures.value, c.in_ok-make_room.ensures.room) in
    ap (λ (xs : List ℕ). take (third + 1) (set xs third 10)) same-3 ∙ take-set_at out third (third + 1) 10 refl there
    ∙ ap (λ (t : List ℕ). t ++ 10 ∷ []) all ∙ line_after text c.args.prefix c.args.word (quadlets_text c.args.bytes.now)
