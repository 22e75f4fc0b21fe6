use Rattle.std.proofs.Common.{◌≡◌, ◌∙◌, List, ℕ, ◌++◌, codes, ap}
use Rattle.std.proofs.lemmas.Result.{on_ok_weaker}
use Rattle.fw_async.specs.Async as Packets
use Rattle.fw_log_text.specs.Line.{quadlets_text}
use Rattle.fw_log_text.specs.Names.{packet_name}
use Rattle.fw_log_text.proofs.JoinLaws.{then, moved}
use Rattle.fw_log_text.proofs.line.put_packet.Goals as goal

pub returns : goal.returns
returns c =
    let before : List ℕ = c.args.text.now in
    let name : List ℕ = packet_name c.args.p.now in
    let named : c.put_word-2.new.text ≡ before ++ (codes "async " ++ name) =
    then before c.put_word.new.text c.put_word-2.new.text (codes "async ") name c.in_ok-put_word.ensures
    (c.in_ok-put_word-2.ensures ∙ ap (λ (x : List ℕ). c.put_word.new.text ++ x) c.packet_name.ensures) in
    on_ok_weaker c.put_quadlets.result
    (λ piece. then before c.put_word-2.new.text c.put_quadlets.new.text (codes "async " ++ name) (quadlets_text (Packets.spelling c.args.p.now)) named (moved quadlets_text _ _ _ _ c.requires piece))
    c.put_quadlets.ensures
