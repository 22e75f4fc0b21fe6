use Rattle.std.proofs.Common.{◌≡◌, ◌∙◌, ◌++◌, ◌+◌, ◌*◌, ap, arith, refl, string_bytes, append-nil, sym}
use Rattle.fw_script_gen.specs.Gen.{state_of}
use Rattle.fw_script_gen.proofs.GenLaws.{connections_first, connections_more, drawn_is}
use Rattle.fw_script_gen.proofs.seed.put_connections.Goals as goal

pub loop-j-init : goal.loop-j-init
loop-j-init c seed at = (sym (append-nil (string_bytes c.args.text.now)) ∙ ap (λ t. string_bytes c.args.text.now ++ t) (connections_first seed), at)

pub loop-j-preserved : goal.loop-j-preserved
loop-j-preserved c seed at =
    let i = c.loop-j.invariant seed at in
    let n = 59 + 3 * c.loop-j._j in
    let a = c.below-x.ensures.next seed n i.1 in
    let b = c.below-y.ensures.next seed (n + 1) a in
    let d = c.below-z.ensures.next seed (n + 1 + 1) b in
    let last : n + 1 + 1 + 1 ≡ 59 + 3 * (c.loop-j._j + 1) = omega arith in (
      connections_more seed c.loop-j._j c.below-x.result c.below-y.result c.below-z.result (string_bytes c.args.text.now) (string_bytes c.loop-j.text)
          (string_bytes c.put_connection.new.text) i.0 c.in_ok-put_connection.ensures
          (drawn_is seed n (n + 1) 60 c.below-x.result _ c.below-x.ensures.number a refl)
          (drawn_is seed (60 + 3 * c.loop-j._j) (n + 1 + 1) 60 c.below-y.result _ c.below-y.ensures.number b (omega arith))
          (drawn_is seed (61 + 3 * c.loop-j._j) (n + 1 + 1 + 1) 60 c.below-z.result _ c.below-z.ensures.number d (omega arith)),
      d ∙ ap (state_of seed) last,
    )
