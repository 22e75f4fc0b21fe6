use Rattle.std.proofs.Common.{◌≡◌, ◌<◌, ◌*◌, ◌++◌, ◌∙◌, List, ℕ, length, flat_map, take, arith, ap, sym, append_assoc}
use Rattle.std.proofs.lemmas.List.{take_all}
use Rattle.fw_words.specs.Quadlet.{quadlet_at}
use Rattle.fw_phy.specs.Phy.{spelling}
use Rattle.fw_phy.specs.declared.packet.PhyPacket.{PhyPacket}
use Rattle.fw_log_text.specs.Line.{id_text, quadlet_text}
use Rattle.fw_log_text.proofs.BodyLaws.{ids_next, length-spellings}
use Rattle.fw_log_text.proofs.rows.write_ids.Goals as goal

pub loop-i-preserved : goal.loop-i-preserved
loop-i-preserved c =
    let inv = c.loop-i.invariant in
    let i : ℕ = c.loop-i.i in
    record {
      size = c.write_word.ensures.size ∙ inv.size;
      end = omega (arith, inv.end);
      text = λ ids is.
          let begin : List ℕ = take c.args.at c.args.out.now in
          let within : i < length ids = omega (arith, c.loop-i-test.true, c.loop-i.auto.i-end, ap length is, length-spellings ids) in
          let first : List ℕ = quadlet_text (quadlet_at (flat_map spelling ids) (8 * i)) in
          let word : c.word_of.result ≡ first = c.word_of.ensures ∙ ap quadlet_text (c.quadlet_at.ensures.value ∙ ap (λ (b : List ℕ). quadlet_at b (8 * i)) is) in
          c.write_word.ensures.text ∙ ap (λ (w : List ℕ). take c.loop-i.end c.loop-i.out ++ w) word ∙ ap (λ (t : List ℕ). t ++ first) (inv.text ids is)
          ∙ append_assoc begin (flat_map id_text (take i ids)) first ∙ ap (λ (x : List ℕ). begin ++ x) (sym (ids_next ids i within));
    }

pub returns-clause-text : goal.returns-clause-text
returns-clause-text c ids is =
    let all : take c.loop-i.i ids ≡ ids = take_all c.loop-i.i ids (omega (arith, c.loop-i-test.false, ap length is, length-spellings ids)) in
    c.loop-i.invariant.text ids is ∙ ap (λ (x : List PhyPacket). take c.args.at c.args.out.now ++ flat_map id_text x) all
